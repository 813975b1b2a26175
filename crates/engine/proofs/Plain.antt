-- No step answers with an interrupt: step 7 takes one and answers yes. Assumes nothing.
use Rattle.std.specs.Prelude.{Ok, Err}
use Prim.Native.Nat.{ℕ}
use mathlib.Core.Path.{◌≡◌, refl}
use mathlib.Core.Bool.{Bool}
use Rattle.bits.proofs.Conjunction.{by_test}
use Rattle.pmp.specs.declared.Access.{Access}
use Rattle.pmp.specs.declared.Access.TheVariants.{Fetch, Load, Store}
use Rattle.pmp.specs.declared.Refusal.{Refusal}
use Rattle.steps.specs.declared.Step.{Step}
use Rattle.steps.specs.declared.Step.TheVariants.{Reset, Csr, Access as AccessStep, Event as EventStep}
use Rattle.steps.specs.declared.Answer.{Answer}
use Rattle.steps.specs.Number.{answer_interrupt}
use Rattle.paging.specs.Memory.{Memory}
use Rattle.paging.specs.declared.NotGranted.{NotGranted}
use Rattle.paging.specs.Access.{Reached, reached}
use Rattle.state.specs.declared.State.{State}
use Rattle.trap.specs.Enter.{raised_by}
use Rattle.trap.proofs.Answers.{OfNoAccess}
use Rattle.engine.specs.Effects.{Effect, refused, access_decided, context_of, access_at, access_step, ruled_by}
use Rattle.engine.proofs.Answers.{other-answer}

abbrev NoInterrupt : Answer → Type 0
NoInterrupt a = answer_interrupt a ≡ 0

abbrev pub Plain : Effect → Type 0
Plain e = NoInterrupt e.answer

no_access_plain : OfNoAccess NoInterrupt
no_access_plain = record { done = refl; value = λ old. refl; flag = λ yes. refl; refused = λ number. refl; trapped = λ cause level. refl }

module _ (s : State) (m : Memory) where
  decided-plain : (d : Reached) → Plain (access_decided s d)
  unfolding raised_by
  decided-plain (Ok entry) = refl
  decided-plain (Err (NotGranted.Fault cause tval entry)) = refl
  decided-plain (Err (NotGranted.Refused refusal)) = refl

  at_plain : (access : Access) (address size : ℕ) → Plain (access_at s m access address size)
  unfolding access_at
  at_plain access address size = decided-plain (reached s.pmp m (context_of s access) address size)

  access_plain : (access : Access) (address size : ℕ) → Plain (access_step s m access address size)
  access_plain Fetch address size = at_plain Fetch s.registers.pc 4
  access_plain Load address size = at_plain Load address size
  access_plain Store address size = at_plain Store address size

  pub ruled_plain : (held : Bool) (step : Step) → Plain (ruled_by held s m step)
  ruled_plain held Reset = other-answer NoInterrupt no_access_plain s m held Reset refl
  ruled_plain held (Csr op number operand) = other-answer NoInterrupt no_access_plain s m held (Csr op number operand) refl
  ruled_plain held (EventStep event) = other-answer NoInterrupt no_access_plain s m held (EventStep event) refl
  ruled_plain held (AccessStep access address size) =
      by_test Plain held (access_step s m access address size) (refused s Refusal.State) (λ t. access_plain access address size) (λ t. refl)
