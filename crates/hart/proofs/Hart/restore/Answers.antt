use mathlib.Core.Path.{sym, ap, ◌∙◌}
use Rattle.steps.specs.declared.Answer.TheVariants.{Done, Refused}
use Rattle.map.specs.declared.Map.{Map}
use Rattle.hart.specs.Steps.{hart_with, handed_back}
use Rattle.hart.specs.Saved.{restored_done, restored}
use Rattle.hart.proofs.Numbered.{numbered}
use Rattle.hart.proofs.SavedLaws.{state_made, refusal_made}
use Rattle.hart.proofs.Hart.restore.Goals as goal

pub returns-in-Ok : goal.returns-in-Ok
unfolding restored
returns-in-Ok c =
    let a = c.args in
    let both = numbered (ap (λ (m : Map). handed_back (hart_with c.in-Ok.state) m Done) c.map_for-fresh.ensures
    ∙ state_made a.form a.text.now (λ r. handed_back a.self a.map (Refused r)) restored_done (sym c.in-Ok.is ∙ c.read_state.ensures.value)) in
    record {
      value = both.0;
      answer_value = both.1;
    }

pub returns-in-Err : goal.returns-in-Err
unfolding restored
returns-in-Err c =
    let a = c.args in
    let both = numbered (refusal_made a.form a.text.now (λ r. handed_back a.self a.map (Refused r)) restored_done (sym c.in-Err.is ∙ c.read_state.ensures.value)) in
    record {
      value = both.0;
      answer_value = both.1;
    }
