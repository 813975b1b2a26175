-- Every step keeps a state that a hart can hold. Assumes nothing.
use Prim.Native.Nat.{ℕ}
use mathlib.Core.Path.{◌≡◌, refl}
use mathlib.Core.Bool.{Bool, true, false, cond, ◌&&◌, ◌||◌}
use mathlib.Core.List.{List}
use native.Mathlib.Omega.{arith}
use lib.Dec.{eqb, ltb}
use Rattle.bits.proofs.Conjunction.{both, by_test, choose}
use Rattle.bits.proofs.FoldLaws.{fold-keeps}
use Rattle.pmp.specs.declared.Access.{Access}
use Rattle.pmp.specs.declared.Access.TheVariants.{Fetch, Load, Store}
use Rattle.pmp.specs.declared.Refusal.{Refusal}
use Rattle.pmp.specs.Number.{fault_cause}
use Rattle.pmp.specs.Rule.{none, is_size}
use Rattle.steps.specs.declared.Operation.{Operation}
use Rattle.steps.specs.declared.Step.{Step}
use Rattle.steps.specs.declared.Step.TheVariants.{Reset, Csr, Access as AccessStep, Event as EventStep}
use Rattle.registers.specs.declared.Registers.{Registers}
use Rattle.registers.specs.Hold.{registers_holdable}
use Rattle.registers.specs.Update.{with_pc}
use Rattle.registers.proofs.Held.{held}
use Rattle.protection.specs.declared.Pmp.{Pmp}
use Rattle.protection.specs.Hold.{pmp_holdable}
use Rattle.protection.specs.Read.{is_pmp, pmp_read}
use Rattle.protection.proofs.WriteKept.{pmp-written_kept}
use Rattle.paging.specs.declared.Context.{Context}
use Rattle.paging.specs.Satp.{satp_holdable}
use Rattle.paging.specs.Memory.{Memory, lawful}
use Rattle.paging.specs.Access.{Reached, page_fault_cause, reached}
use Rattle.paging.proofs.SatpLaws.{satp_kept}
use Rattle.paging.proofs.Answered.{Answered, grants, faults, page_faults, fault-bound, page_fault-bound, reached_unlawful, reached_missized, reached-answered}
use Rattle.state.specs.declared.State.{State}
use Rattle.state.specs.Hold.{can_hold}
use Rattle.state.proofs.Held.{hold, reset-holds}
use Rattle.csr.specs.Permit.{illegal, attempts_write}
use Rattle.csr.specs.Show.{register_read}
use Rattle.csr.specs.Operate.{operated, registers_operated}
use Rattle.csr.proofs.RegistersKept.{registers_operated_kept}
use Rattle.trap.specs.Enter.{illegal_instruction}
use Rattle.trap.specs.Return.{next_pc}
use Rattle.trap.proofs.Holdable.{raised-holdable, illegal_instruction_holdable, event_holdable, pc_holdable, next_aligned}
use Rattle.engine.specs.Effects.{
  Effect,
  refused,
  with_registers,
  on_registers,
  pmp_operated,
  satp_operated,
  protection_step,
  satp_step,
  register_step,
  csr_step,
  access_decided,
  context_of,
  access_at,
  access_step,
  effect,
  is_reset,
  step_rule,
}
use Rattle.engine.specs.Runs.{Lent, state_after, after_all}

-- the state that an effect leaves can be held
abbrev pub Holds : Effect → Type 0
Holds e = can_hold e.state ≡ true

pmp-operated_kept : (p : Pmp) → pmp_holdable p ≡ true → (op : Operation) (number operand old : ℕ) → pmp_holdable (pmp_operated p op number operand old) ≡ true
pmp-operated_kept p h op number operand old =
    choose pmp_holdable (attempts_write op) _ _ (pmp-written_kept p number (operated op old operand) h) h

satp-operated_kept : (satp : ℕ) → satp_holdable satp ≡ true → (op : Operation) (operand : ℕ) → satp_holdable (satp_operated satp op operand) ≡ true
satp-operated_kept satp h op operand = choose satp_holdable (attempts_write op) _ _ (satp_kept satp (operated op satp operand) h) h

module _ (s : State) (p : can_hold s ≡ true) where
  pub registers_held : registers_holdable s.registers ≡ true
  unfolding can_hold
  registers_held = (both (registers_holdable s.registers) (pmp_holdable s.pmp && satp_holdable s.satp) p).0

  others_held : (pmp_holdable s.pmp && satp_holdable s.satp) ≡ true
  unfolding can_hold
  others_held = (both (registers_holdable s.registers) (pmp_holdable s.pmp && satp_holdable s.satp) p).1

  pub pmp-held : pmp_holdable s.pmp ≡ true
  pmp-held = (both (pmp_holdable s.pmp) (satp_holdable s.satp) others_held).0

  pub satp-held : satp_holdable s.satp ≡ true
  satp-held = (both (pmp_holdable s.pmp) (satp_holdable s.satp) others_held).1

  -- a step that leaves the protection registers and satp alone
  on_registers_lem : (r : Registers) → registers_holdable r ≡ true → can_hold (with_registers s r) ≡ true
  on_registers_lem r q = hold (with_registers s r) q pmp-held satp-held

  next_held : (r : Registers) → registers_holdable r ≡ true → registers_holdable (with_pc r (next_pc s.registers)) ≡ true
  next_held r q = pc_holdable r q (next_pc s.registers) (next_aligned s.registers.pc (held s.registers registers_held).pc)

  csr_holds : (op : Operation) (number operand : ℕ) → Holds (csr_step s op number operand)
  unfolding csr_step
  csr_holds op number operand =
      let protect = protection_step s op number operand in
      let translation = satp_step s op operand in
      let other = register_step s op number operand in
      let apart = cond (eqb number 0x180) translation other in
      let trap = on_registers s (illegal_instruction s.registers) in
      by_test Holds (ltb 4095 number) (refused s Refusal.Argument) (cond (illegal s.registers op number) trap (cond (is_pmp number) protect apart)) (λ t. p)
      (λ t.
      by_test Holds (illegal s.registers op number) trap (cond (is_pmp number) protect apart)
      (λ u. on_registers_lem _ (illegal_instruction_holdable s.registers registers_held))
      (λ u.
      by_test Holds (is_pmp number) protect apart
      (λ v.
      hold protect.state (next_held s.registers registers_held)
      (pmp-operated_kept s.pmp pmp-held op number operand (pmp_read s.pmp number)) satp-held)
      (λ v.
      by_test Holds (eqb number 0x180) translation other
      (λ z. hold translation.state (next_held s.registers registers_held) pmp-held (satp-operated_kept s.satp satp-held op operand))
      (λ z.
      on_registers_lem _
      (next_held (registers_operated s.registers op number operand (register_read s.registers number))
      (registers_operated_kept s.registers registers_held op number operand (register_read s.registers number)))))))

  decided-holds : (access : Access) {Start : ℕ → Type 0} (d : Reached) → Answered access Start d → Holds (access_decided s d)
  decided-holds access _ (grants entry h) = p
  decided-holds access _ (faults tval entry a h) =
      on_registers_lem _ (raised-holdable s.registers registers_held (fault_cause access) tval entry (omega (arith, fault-bound access)))
  decided-holds access _ (page_faults tval a) =
      on_registers_lem _ (raised-holdable s.registers registers_held (page_fault_cause access) tval none (omega (arith, page_fault-bound access)))

  module _ (m : Memory) where
    access_holds : (access : Access) (address size : ℕ) → Holds (access_at s m access address size)
    unfolding access_at
    access_holds access address size = by_lawful (lawful m) (is_size size) refl refl
      where
        c : Context
        c = context_of s access

        by_lawful : (a b : Bool) → lawful m ≡ a → is_size size ≡ b → Holds (access_decided s (reached s.pmp m c address size))
        by_lawful true true l k = decided-holds access _ (reached-answered s.pmp m c address size l k)
        by_lawful true false l k = rw (reached_missized s.pmp m c address size l k) p
        by_lawful false b l k = rw (reached_unlawful s.pmp m c address size l) p

    access_step-holds : (access : Access) (address size : ℕ) → Holds (access_step s m access address size)
    access_step-holds Fetch address size = access_holds Fetch s.registers.pc 4
    access_step-holds Load address size = access_holds Load address size
    access_step-holds Store address size = access_holds Store address size

    pub effect-holds : (step : Step) → Holds (effect s m step)
    effect-holds Reset = reset-holds s.pmp.grain
    effect-holds (Csr op number operand) = csr_holds op number operand
    effect-holds (AccessStep access address size) = access_step-holds access address size
    effect-holds (EventStep event) = on_registers_lem _ (event_holdable s.registers registers_held event)

    pub rule_holds : (step : Step) → Holds (step_rule s m step)
    unfolding step_rule
    rule_holds step = by_test Holds (is_reset step || can_hold s) (effect s m step) (refused s Refusal.State) (λ t. effect-holds step) (λ t. p)

-- over any list of steps
pub after_holds : (steps : List Lent) (s : State) → can_hold s ≡ true → can_hold (after_all s steps) ≡ true
after_holds steps s p =
    fold-keeps state_after (λ (t : State). can_hold t ≡ true) (λ t l q. rule_holds t q l.memory l.step) s steps p
