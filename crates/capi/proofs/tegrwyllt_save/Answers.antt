use mathlib.Core.Path.{◌≡◌}
use mathlib.Core.Bool.{true}
use lib.ListN.{length}
use borrow.Author.Tests.{eq-eqb}
use Rattle.std.specs.Cmp.Derive.{both_true}
use mathlib.Core.Path.{ap, ◌∙◌}
use Rattle.capi.specs.Calls.{is_form, saveable, refusal_word}
use Rattle.capi.proofs.CallLaws.{chosen-some}
use Rattle.capi.proofs.SaveLaws.{saved_number, saved_bytes}
use Rattle.capi.proofs.tegrwyllt_save.Goals as goal

pub returns : goal.returns
returns c =
    let a = c.args in
    let form = chosen-some (is_form a.form) c.in-Some.ensures in
    let t : saveable a.form a.hart.now ≡ true = both_true form.0 (eq-eqb (length a.hart.now) 43 c.if-hart-ne43.false) in
    record {
      value = saved_number a.form a.hart.now a.text.now t form.1 c.load.ensures c.save.ensures.value (c.refusal_word.ensures ∙ ap refusal_word c.refusal.ensures);
      text_after = saved_bytes a.form a.hart.now a.text.now t form.1 c.load.ensures c.save.ensures.buffer_after;
    }
