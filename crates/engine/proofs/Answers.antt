-- What a step that is no access can answer. Assumes nothing.
use Prim.Native.Nat.{ℕ}
use mathlib.Core.Path.{◌≡◌}
use mathlib.Core.Bool.{Bool, false, true≢false, ◌||◌}
use lib.Dec.{eqb, ltb}
use Rattle.bits.proofs.Conjunction.{by_test}
use Rattle.pmp.specs.declared.Refusal.{Refusal}
use Rattle.steps.specs.declared.Operation.{Operation}
use Rattle.steps.specs.declared.Step.{Step}
use Rattle.steps.specs.declared.Step.TheVariants.{Reset, Csr, Access as AccessStep, Event as EventStep}
use Rattle.steps.specs.declared.Answer.{Answer}
use Rattle.steps.specs.Decode.{is_access}
use Rattle.protection.specs.Read.{is_pmp}
use Rattle.paging.specs.Memory.{Memory}
use Rattle.state.specs.declared.State.{State}
use Rattle.csr.specs.Permit.{illegal}
use Rattle.trap.proofs.Answers.{OfNoAccess, raised-answer, event_answer}
use Rattle.engine.specs.Effects.{Effect, refused, csr_step, effect, is_reset, ruled_by}

module _ (P : Answer → Type 0) (each : OfNoAccess P) (s : State) (m : Memory) where
  abbrev Of : Effect → Type 0
  Of e = P e.answer

  csr_answer : (op : Operation) (number operand : ℕ) → Of (csr_step s op number operand)
  unfolding csr_step
  csr_answer op number operand =
      by_test Of (ltb 4095 number) _ _ (λ t. each.refused Refusal.Argument)
      (λ t.
      by_test Of (illegal s.registers op number) _ _ (λ u. raised-answer P each s.registers 2 0)
      (λ u.
      by_test Of (is_pmp number) _ _ (λ v. each.value _)
      (λ v. by_test Of (eqb number 0x180) _ _ (λ w. each.value _) (λ w. each.value _))))

  effect-answer : (step : Step) → is_access step ≡ false → Of (effect s m step)
  effect-answer Reset e = each.done
  effect-answer (Csr op number operand) e = csr_answer op number operand
  effect-answer (AccessStep access address size) e = absurd (true≢false e)
  effect-answer (EventStep event) e = event_answer P each s.registers event

  pub other-answer : (held : Bool) (step : Step) → is_access step ≡ false → Of (ruled_by held s m step)
  other-answer held step e =
      by_test Of (is_reset step || held) (effect s m step) (refused s Refusal.State) (λ t. effect-answer step e) (λ t. each.refused Refusal.State)
