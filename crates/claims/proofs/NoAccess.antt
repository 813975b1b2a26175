-- A step that is no access grants nothing, and its trap tells no entry. Assumes nothing.
use mathlib.Core.Path.{◌≡◌, refl, sym, ap, subst}
use mathlib.Core.Bool.{false}
use Rattle.steps.specs.declared.Step.{Step}
use Rattle.steps.specs.Decode.{is_access}
use Rattle.state.specs.Hold.{can_hold}
use Rattle.trap.proofs.Answers.{OfNoAccess}
use Rattle.paging.specs.Memory.{Memory}
use Rattle.map.specs.declared.Map.{Map}
use Rattle.engine.specs.Effects.{step_rule}
use Rattle.engine.proofs.Answers.{other-answer}
use Rattle.hart.specs.declared.Hart.{Hart}
use Rattle.hart.specs.declared.Stepped.{Stepped}
use Rattle.hart.specs.Steps.{stepped}
use Rattle.hart.proofs.StepLaws.{step_parts}
use Rattle.claims.specs.Consequences.{NoEntry}

each_answer : OfNoAccess NoEntry
each_answer = record { done = tt; value = λ old. tt; flag = λ yes. tt; refused = λ number. tt; trapped = λ cause level. refl }

pub no_access : (h : Hart) (map : Map) (m : Memory) (step : Step) → is_access step ≡ false → NoEntry (stepped h map m step).answer
unfolding step_rule
no_access h map m step e =
    subst NoEntry (sym (ap (λ (x : Stepped). x.answer) (step_parts h map m step)))
    (other-answer NoEntry each_answer h.state m (can_hold h.state) step e)
