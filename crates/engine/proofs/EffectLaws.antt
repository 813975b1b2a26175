-- The step rule: which step is a reset, what leaves the protection registers alone, and that no other step changes the grain. Assumes nothing.
use Rattle.std.specs.Prelude.{Ok, Err}
use Prim.Native.Nat.{ℕ}
use mathlib.Core.Path.{◌≡◌, refl, sym, ap}
use mathlib.Core.Bool.{true, false, cond, ◌||◌}
use lib.Dec.{eqb, ltb}
use Rattle.pmp.specs.declared.Access.{Access}
use Rattle.pmp.specs.declared.Access.TheVariants.{Fetch, Load, Store}
use Rattle.bits.proofs.Conjunction.{contradiction, by_test}
use Rattle.pmp.specs.declared.Refusal.{Refusal}
use Rattle.steps.specs.declared.Operation.{Operation}
use Rattle.steps.specs.declared.Step.{Step}
use Rattle.steps.specs.declared.Step.TheVariants.{Reset, Csr, Access as AccessStep, Event as EventStep}
use Rattle.protection.specs.declared.Pmp.{Pmp}
use Rattle.protection.specs.Read.{is_pmp, pmp_read}
use Rattle.protection.specs.Write.{pmp_written}
use Rattle.protection.proofs.WriteKept.{grain-written}
use Rattle.paging.specs.Memory.{Memory}
use Rattle.paging.specs.declared.NotGranted.{NotGranted}
use Rattle.paging.specs.Access.{Reached, reached}
use Rattle.state.specs.declared.State.{State}
use Rattle.state.specs.Hold.{can_hold}
use Rattle.csr.specs.Permit.{illegal, attempts_write}
use Rattle.csr.specs.Operate.{operated}
use Rattle.trap.specs.Enter.{illegal_instruction}
use Rattle.engine.specs.Effects.{
  Effect,
  refused,
  on_registers,
  pmp_operated,
  protection_step,
  satp_step,
  register_step,
  csr_step,
  access_decided,
  context_of,
  access_at,
  access_step,
  effect,
  is_reset,
  step_rule,
}

pub only-reset : (step : Step) → is_reset step ≡ true → step ≡ Reset
only-reset Reset p = refl
only-reset (Csr op number operand) p = cc
only-reset (AccessStep access address size) p = cc
only-reset (EventStep event) p = cc

decided-pmp : (s : State) (d : Reached) → s.pmp ≡ (access_decided s d).state.pmp
decided-pmp s (Ok entry) = refl
decided-pmp s (Err (NotGranted.Fault cause tval entry)) = refl
decided-pmp s (Err (NotGranted.Refused refusal)) = refl

at-pmp : (s : State) (m : Memory) (access : Access) (address size : ℕ) → s.pmp ≡ (access_at s m access address size).state.pmp
unfolding access_at
at-pmp s m access address size = decided-pmp s (reached s.pmp m (context_of s access) address size)

-- an access leaves the protection registers alone
pub access_pmp : (s : State) (m : Memory) (access : Access) (address size : ℕ) → s.pmp ≡ (access_step s m access address size).state.pmp
access_pmp s m Fetch address size = at-pmp s m Fetch s.registers.pc 4
access_pmp s m Load address size = at-pmp s m Load address size
access_pmp s m Store address size = at-pmp s m Store address size

-- ---- the grain

-- the effect has the state's grain
abbrev KeepsGrain : State → Effect → Type 0
KeepsGrain s e = e.state.pmp.grain ≡ s.pmp.grain

operated-grain : (p : Pmp) (op : Operation) (number operand old : ℕ) → (pmp_operated p op number operand old).grain ≡ p.grain
operated-grain p op number operand old =
    by_test (λ (q : Pmp). q.grain ≡ p.grain) (attempts_write op) (pmp_written p number (operated op old operand)) p
    (λ t. grain-written p number (operated op old operand)) (λ t. refl)

csr_grain : (s : State) (op : Operation) (number operand : ℕ) → KeepsGrain s (csr_step s op number operand)
unfolding csr_step
csr_grain s op number operand =
    let protect = protection_step s op number operand in
    let translation = satp_step s op operand in
    let other = register_step s op number operand in
    let apart = cond (eqb number 0x180) translation other in
    let trap = on_registers s (illegal_instruction s.registers) in
    by_test (KeepsGrain s) (ltb 4095 number) (refused s Refusal.Argument) (cond (illegal s.registers op number) trap (cond (is_pmp number) protect apart)) (λ t. refl)
    (λ t.
    by_test (KeepsGrain s) (illegal s.registers op number) trap (cond (is_pmp number) protect apart) (λ u. refl)
    (λ u.
    by_test (KeepsGrain s) (is_pmp number) protect apart (λ v. operated-grain s.pmp op number operand (pmp_read s.pmp number))
    (λ v. by_test (KeepsGrain s) (eqb number 0x180) translation other (λ z. refl) (λ z. refl))))

effect-grain : (s : State) (m : Memory) (step : Step) → is_reset step ≡ false → KeepsGrain s (effect s m step)
effect-grain s m Reset e = contradiction refl e
effect-grain s m (Csr op number operand) e = csr_grain s op number operand
effect-grain s m (AccessStep access address size) e = sym (ap (λ (p : Pmp). p.grain) (access_pmp s m access address size))
effect-grain s m (EventStep event) e = refl

-- no step but reset changes the grain
pub rule_grain : (s : State) (m : Memory) (step : Step) → is_reset step ≡ false → KeepsGrain s (step_rule s m step)
unfolding step_rule
rule_grain s m step e =
    by_test (KeepsGrain s) (is_reset step || can_hold s) (effect s m step) (refused s Refusal.State) (λ t. effect-grain s m step e) (λ t. refl)
