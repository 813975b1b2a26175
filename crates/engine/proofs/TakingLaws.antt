-- What is told of a step: where refusal 3 does not apply, where it does, and of the state that is left. Assumes nothing.
use mathlib.Core.Path.{◌≡◌, refl, sym, ap, ◌∙◌}
use mathlib.Core.Bool.{Bool, true, false, cond, ◌||◌}
use Rattle.bits.proofs.Conjunction.{neither}
use Rattle.pmp.specs.declared.Refusal.{Refusal}
use Rattle.steps.specs.declared.Step.{Step}
use Rattle.steps.specs.declared.Answer.TheVariants.{Refused}
use Rattle.protection.proofs.SameLaws.{same_pmp-refl}
use Rattle.paging.specs.Memory.{Memory}
use Rattle.state.specs.declared.State.{State}
use Rattle.state.specs.Hold.{can_hold}
use Rattle.state.proofs.Held.{reset-holds}
use Rattle.engine.specs.Effects.{refused, effect, is_reset, ruled_by}
use Rattle.engine.specs.Taking.{effect_taken, step_taken}
use Rattle.engine.proofs.EffectLaws.{only-reset}
use Rattle.engine.proofs.Holds.{effect-holds}

module _ (held : Bool) (s : State) (m : Memory) (step : Step) {reset : Bool} (e : reset ≡ is_reset step) where
  pub taken_on : (reset || held) ≡ true → (effect_taken s m step ≡ step_taken held s m step) × ((effect s m step).state ≡ (ruled_by held s m step).state)
  unfolding step_taken
  taken_on t =
      let u : (is_reset step || held) ≡ true = ap (λ (b : Bool). b || held) (sym e) ∙ t in
      (rw u, rw u)

  pub taken_refused : (reset || held) ≡ false
      → (record { answer = Refused Refusal.State; told = record { held = false; remap = false } } ≡ step_taken held s m step) × (s ≡ (ruled_by held s m step).state)
  unfolding step_taken
  taken_refused t =
      let n = neither reset held t in
      let u : is_reset step ≡ false = sym e ∙ n.0 in
      (rw (u, n.1, same_pmp-refl s.pmp), rw (u, n.1))

-- what is told of the state that is left is so
pub still_held : (held : Bool) (s : State) (m : Memory) (step : Step) → held ≡ can_hold s → (is_reset step || held) ≡ can_hold (ruled_by held s m step).state
still_held held s m step q = go (is_reset step) held refl q
  where
    go : (a b : Bool) → is_reset step ≡ a → b ≡ can_hold s → (a || b) ≡ can_hold (cond (a || b) (effect s m step) (refused s Refusal.State)).state
    go true b e f = sym (rw (only-reset step e) (reset-holds s.pmp.grain))
    go false true e f = sym (effect-holds s (sym f) m step)
    go false false e f = f
