use Prim.Native.Nat.{◌<◌}
use mathlib.Core.Path.{sym, ap, ◌∙◌}
use mathlib.Core.List.{List}
use Prim.Native.Nat.{ℕ}
use lib.ListN.{length}
use Rattle.text.specs.Text.{length_of, written_to}
use Rattle.hart.specs.Steps.{hart_with}
use Rattle.hart.proofs.SavedLaws.{save-short, save_unfit, save-done}
use Rattle.hart.proofs.saved.write_state.Goals as goal

pub returns-then-buffer-text_length : goal.returns-then-buffer-text_length
returns-then-buffer-text_length c =
    let a = c.args in
    let l : length a.buffer.now < length_of a.form = rw c.text_length.ensures.value at c.if-buffer-text_length.true in
    let both = save-short a.form (hart_with a.state) a.buffer.now c.requires.1 l in
    record {
      value = both.0;
      buffer_after = both.1.1;
    }

pub returns-then-not-form_holds : goal.returns-then-not-form_holds
returns-then-not-form_holds c =
    let a = c.args in
    let both = save_unfit a.form (hart_with a.state) a.buffer.now c.requires.1 (rw c.text_length.ensures.value at c.if-buffer-text_length.false)
    (sym c.form_holds.ensures ∙ c.if-not-form_holds.true) in
    record {
      value = both.0;
      buffer_after = both.1.1;
    }

pub returns : goal.returns
returns c =
    let a = c.args in
    let both = save-done a.form (hart_with a.state) a.buffer.now c.requires.1 (rw c.text_length.ensures.value at c.if-buffer-text_length.false)
    (sym c.form_holds.ensures ∙ c.if-not-form_holds.false) (c.write.ensures.buffer_after ∙ ap (λ (x : List ℕ). written_to a.form x a.buffer.now) c.requires.0) in
    record {
      value = both.0;
      buffer_after = both.1.1;
    }
