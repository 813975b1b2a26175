use mathlib.Core.Path.{sym, ◌∙◌}
use Rattle.hart.proofs.SavedLaws.{handed_on, convert_refused, convert_saved}
use Rattle.hart.proofs.saved.convert_state.Goals as goal

pub returns-in_err-state : goal.returns-in_err-state
returns-in_err-state c =
    let a = c.args in
    let both = convert_refused a.to a.text.now a.buffer.now c.other_form.ensures (sym c.in_err-state.was ∙ c.read_state.ensures.value) in
    record {
      value = handed_on c.from_residual.result c.from_residual.ensures.1 ∙ both.0;
      buffer_after = both.1;
    }

pub returns : goal.returns
returns c =
    let a = c.args in
    let both = convert_saved a.to a.text.now a.buffer.now c.other_form.ensures (sym c.in_ok-state.was ∙ c.read_state.ensures.value) c.write_state.ensures.value
    c.write_state.ensures.buffer_after in
    record {
      value = both.0;
      buffer_after = both.1;
    }
