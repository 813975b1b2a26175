use mathlib.Core.Path.{ap, ◌∙◌}
use Rattle.capi.specs.Calls.{is_form, refusal_word}
use Rattle.capi.proofs.CallLaws.{chosen-some}
use Rattle.capi.proofs.SaveLaws.{converted-number, converted-bytes}
use Rattle.capi.proofs.tegrwyllt_convert.Goals as goal

pub returns : goal.returns
returns c =
    let a = c.args in
    let to = chosen-some (is_form a.to) c.in-Some.ensures in
    record {
      value = converted-number a.to a.text.now a.buffer.now to.0 to.1 c.convert.ensures.value (c.refusal_word.ensures ∙ ap refusal_word c.refusal.ensures);
      buffer_after = converted-bytes a.to a.text.now a.buffer.now to.0 to.1 c.convert.ensures.buffer_after;
    }
