-- What a step of the registers alone can answer: done, yes or no, a refusal, or a trap for an exception by no entry. Assumes nothing.
use Rattle.std.proofs.Common.{ℕ, Bool, leb, Option, Some, None}
use Rattle.bits.specs.Mask.{within}
use Rattle.bits.proofs.Conjunction.{by_test}
use Rattle.pmp.specs.declared.Refusal.{Refusal}
use Rattle.pmp.specs.Rule.{none}
use Rattle.steps.specs.declared.Level.{Level}
use Rattle.steps.specs.declared.Level.TheVariants.{Supervisor, Machine}
use Rattle.steps.specs.declared.Trap.TheVariants.{Exception}
use Rattle.steps.specs.declared.Event.{Event}
use Rattle.steps.specs.declared.Event.TheVariants.{Raise, Lines, TakeInterrupt, Mret, Sret, Wfi, Ecall, Ebreak, Advance, Elapsed}
use Rattle.steps.specs.declared.Answer.{Answer}
use Rattle.steps.specs.declared.Answer.TheVariants.{Done, DoneValue, DoneFlag, Trapped, Refused}
use Rattle.registers.specs.declared.Registers.{Registers}
use Rattle.registers.specs.Masks.{lines_mask}
use Rattle.registers.specs.Hold.{aligned}
use Rattle.trap.specs.declared.Outcome.{Outcome}
use Rattle.trap.specs.Enter.{raised_by, raised, raise_step}
use Rattle.trap.specs.Interrupt.{lines_step, machine_bound_first, taken_by, interrupt_taken}
use Rattle.trap.specs.Return.{may_return, return_step, may_wait, waited}
use Rattle.trap.specs.Time.{advanced, elapsed}
use Rattle.trap.specs.Events.{event_step}

-- what holds of every answer of a step that is no access
pub record OfNoAccess (P : Answer → Type 0) : Type 0 where
  pub done : P Done
  pub value : (old : ℕ) → P (DoneValue old)
  pub flag : (yes : Bool) → P (DoneFlag yes)
  pub refused : (refusal : Refusal) → P (Refused refusal)
  pub trapped : (cause : ℕ) (level : Level) → P (Trapped (Exception cause) level none)

module _ (P : Answer → Type 0) (each : OfNoAccess P) (r : Registers) where
  abbrev Of : Outcome → Type 0
  Of o = P o.answer

  pub raised-answer : (cause tval : ℕ) → Of (raised r cause tval)
  unfolding raised_by
  raised-answer cause tval = each.trapped cause _

  taken-answer : (choice : Option ℕ) → Of (taken_by r choice)
  taken-answer (Some i) = each.flag _
  taken-answer None = each.flag _

  return_answer : (level : Level) → Of (return_step level r)
  unfolding return_step
  return_answer level = by_test Of (may_return level r) _ _ (λ t. each.done) (λ t. raised-answer 2 0)

  pub event_answer : (event : Event) → Of (event_step r event)
  unfolding raise_step lines_step interrupt_taken waited advanced elapsed
  event_answer (Raise cause tval) = by_test Of (leb cause 7) _ _ (λ t. raised-answer cause tval) (λ t. each.refused _)
  event_answer (Lines lines) = by_test Of (within lines_mask lines) _ _ (λ t. each.done) (λ t. each.refused _)
  event_answer TakeInterrupt = taken-answer (machine_bound_first r)
  event_answer Mret = return_answer Machine
  event_answer Sret = return_answer Supervisor
  event_answer Wfi = by_test Of (may_wait r) _ _ (λ t. each.flag _) (λ t. raised-answer 2 0)
  event_answer Ecall = raised-answer _ 0
  event_answer Ebreak = raised-answer 3 0
  event_answer (Advance target) = by_test Of (aligned target) _ _ (λ t. each.done) (λ t. raised-answer 0 target)
  event_answer (Elapsed cycles retired) = each.done
