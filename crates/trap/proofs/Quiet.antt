-- A step of the registers alone is refused exactly when the table says, and a refusal changes nothing. Assumes nothing.
use Rattle.std.proofs.Common.{◌≡◌, ℕ, Bool, true, false, cond, not, leb, refl, Option, Some, None}
use Rattle.bits.specs.Mask.{within}
use Rattle.bits.proofs.Conjunction.{by_test}
use Rattle.pmp.specs.declared.Refusal.{Refusal}
use Rattle.pmp.specs.Rule.{none}
use Rattle.steps.specs.declared.Level.{Level}
use Rattle.steps.specs.declared.Level.TheVariants.{Supervisor, Machine}
use Rattle.steps.specs.declared.Event.{Event}
use Rattle.steps.specs.declared.Event.TheVariants.{Raise, Lines, TakeInterrupt, Mret, Sret, Wfi, Ecall, Ebreak, Advance, Elapsed}
use Rattle.steps.specs.declared.Answer.{Answer}
use Rattle.steps.specs.declared.Answer.TheVariants.{Done, DoneValue, DoneFlag, Granted, Trapped, Refused}
use Rattle.registers.specs.declared.Registers.{Registers}
use Rattle.registers.specs.Masks.{lines_mask}
use Rattle.registers.specs.Hold.{aligned}
use Rattle.trap.specs.declared.Outcome.{Outcome}
use Rattle.trap.specs.Refusal.{refused_step}
use Rattle.trap.specs.Enter.{raised_by, raise_step}
use Rattle.trap.specs.Interrupt.{lines_step, machine_bound_first, taken_by, interrupt_taken}
use Rattle.trap.specs.Return.{may_return, return_step, may_wait, waited}
use Rattle.trap.specs.Time.{advanced, elapsed}
use Rattle.trap.specs.Events.{event_step}

-- the answer is a refusal
abbrev pub refuses : Answer → Bool
refuses Done = false
refuses (DoneValue old) = false
refuses (DoneFlag flag) = false
refuses (Granted entry) = false
refuses (Trapped trap level entry) = false
refuses (Refused refusal) = true

-- raise cause above 7; lines outside their mask
abbrev refused : Event → Bool
refused (Raise cause tval) = not (leb cause 7)
refused (Lines lines) = not (within lines_mask lines)
refused TakeInterrupt = false
refused Mret = false
refused Sret = false
refused Wfi = false
refused Ecall = false
refused Ebreak = false
refused (Advance target) = false
refused (Elapsed cycles retired) = false

-- where the table refuses, the answer is refusal 2 and the registers are what went in; else it is no refusal
abbrev pub Quiet : Registers → Bool → Outcome → Type 0
Quiet r true o = o ≡ refused_step r Refusal.Argument
Quiet r false o = refuses o.answer ≡ false

module _ (r : Registers) where
  pub raised_quiet : (cause tval entry : ℕ) → Quiet r false (raised_by r cause tval entry)
  unfolding raised_by
  raised_quiet cause tval entry = refl

  -- the table and the step go by one test
  unless_refused : (b : Bool) (o : Outcome) → Quiet r false o → Quiet r (not b) (cond b o (refused_step r Refusal.Argument))
  unless_refused true o q = q
  unless_refused false o q = refl

  taken_quiet : (choice : Option ℕ) → Quiet r false (taken_by r choice)
  taken_quiet (Some i) = refl
  taken_quiet None = refl

  return_quiet : (level : Level) → Quiet r false (return_step level r)
  unfolding return_step
  return_quiet level = by_test (Quiet r false) (may_return level r) _ _ (λ t. refl) (λ t. raised_quiet 2 0 none)

  pub event_quiet : (event : Event) → Quiet r (refused event) (event_step r event)
  unfolding raise_step lines_step interrupt_taken waited advanced elapsed
  event_quiet (Raise cause tval) = unless_refused (leb cause 7) _ (raised_quiet cause tval none)
  event_quiet (Lines lines) = unless_refused (within lines_mask lines) _ refl
  event_quiet TakeInterrupt = taken_quiet (machine_bound_first r)
  event_quiet Mret = return_quiet Machine
  event_quiet Sret = return_quiet Supervisor
  event_quiet Wfi = by_test (Quiet r false) (may_wait r) _ _ (λ t. refl) (λ t. raised_quiet 2 0 none)
  event_quiet Ecall = raised_quiet _ 0 none
  event_quiet Ebreak = raised_quiet 3 0 none
  event_quiet (Advance target) = by_test (Quiet r false) (aligned target) _ _ (λ t. refl) (λ t. raised_quiet 0 target none)
  event_quiet (Elapsed cycles retired) = refl
