-- What the steps of the registers alone make of registers that a hart can hold, a hart can hold. Assumes nothing.
use Rattle.std.proofs.Common.{◌≡◌, ℕ, ◌+◌, ◌*◌, ◌%◌, ◌^◌, ◌<◌, true, eqb, leb, [], ◌∷◌, refl, ◌∙◌, mod-eq_of_lt, arith, eq-eqb, eqb-true, leb-true, Option, Some, None}
use lib.Bits.{bit_and, bit_or, and_mask, or_shifted}
use Rattle.bits.specs.Mask.{within}
use Rattle.bits.proofs.Conjunction.{choose, by_test}
use Rattle.bits.proofs.BitSolve.{lit, var, and, or, eq, imp, solve}
use Rattle.steps.specs.declared.Level.{Level}
use Rattle.steps.specs.declared.Level.TheVariants.{Supervisor, Machine}
use Rattle.steps.specs.declared.Trap.{Trap}
use Rattle.steps.specs.declared.Trap.TheVariants.{Exception, Interrupt}
use Rattle.steps.specs.declared.Event.{Event}
use Rattle.steps.specs.declared.Event.TheVariants.{Raise, Lines, TakeInterrupt, Mret, Sret, Wfi, Ecall, Ebreak, Advance, Elapsed}
use Rattle.steps.specs.Number.{level_number, cause_number}
use Rattle.registers.specs.declared.Registers.{Registers}
use Rattle.registers.specs.Masks.{lines_mask, cause_mask}
use Rattle.pmp.specs.Number.{is_mode}
use Rattle.pmp.specs.Rule.{none}
use Rattle.registers.specs.Hold.{aligned, registers_holdable}
use Rattle.registers.specs.Update.{level_of, with_pc}
use Rattle.registers.proofs.Held.{held, level_held, level_hold, level_of_held, flow_kept, interrupts_kept, counters_kept, level_kept}
use Rattle.trap.specs.declared.Outcome.{Outcome}
use Rattle.trap.specs.Enter.{destination, base, handler, trap_recorded, entered, raised_by, raise_step, illegal_instruction}
use Rattle.trap.specs.Interrupt.{lines_step, machine_bound_first, taken_by, interrupt_taken}
use Rattle.trap.specs.Return.{returned, may_return, return_step, may_wait, next_pc, waited}
use Rattle.trap.specs.Time.{advanced, elapsed}
use Rattle.trap.specs.Events.{event_step}
use Rattle.trap.proofs.First.{chosen}
use Rattle.trap.proofs.Status.{entered_status_holdable, returned_status_holdable, previous_mode_holdable}

abbrev pub Holdable : Outcome → Type 0
Holdable o = registers_holdable o.registers ≡ true

-- ---- addresses and causes

base-aligned : (tvec : ℕ) → aligned (base tvec) ≡ true
base-aligned tvec = eq-eqb (base tvec % 4) 0 (omega arith)

handler-aligned : (tvec : ℕ) (trap : Trap) → aligned (handler tvec trap) ≡ true
handler-aligned tvec (Exception c) = base-aligned tvec
handler-aligned tvec (Interrupt i) =
    choose aligned (eqb (tvec % 4) 1) _ _ (eq-eqb ((base tvec + 4 * i) % 2 ^ 64 % 4) 0 (omega arith)) (base-aligned tvec)

pub next_aligned : (pc : ℕ) → aligned pc ≡ true → aligned ((pc + 4) % 2 ^ 64) ≡ true
next_aligned pc p = eq-eqb ((pc + 4) % 2 ^ 64 % 4) 0 (omega (arith, eqb-true (pc % 4) 0 p))

-- a number of six bits
six : (n : ℕ) → n < 64 → bit_and n 0x3F ≡ n
six n h = and_mask n 6 ∙ mod-eq_of_lt h

exception_within : (c : ℕ) → c < 64 → within cause_mask (cause_number (Exception c)) ≡ true
exception_within c h =
    eq-eqb (bit_and c cause_mask) c
    (solve (imp (and (var 0) (lit 0x3F)) (var 0) (eq (and (var 0) (lit cause_mask)) (var 0))) (c ∷ []) refl (six c h))

interrupt-within : (i : ℕ) → i < 64 → within cause_mask (cause_number (Interrupt i)) ≡ true
interrupt-within i h =
    let e : bit_or (2 ^ 63) i ≡ 2 ^ 63 + i = or_shifted 1 63 i (omega arith) in
    rw (← e)
    (eq-eqb (bit_and (bit_or (2 ^ 63) i) cause_mask) (bit_or (2 ^ 63) i)
    (solve
    (imp (and (var 0) (lit 0x3F)) (var 0) (eq (and (or (lit (2 ^ 63)) (var 0)) (lit cause_mask)) (or (lit (2 ^ 63)) (var 0))))
    (i ∷ []) refl (six i h)))

-- ---- entry

level_mode : (level : Level) → is_mode (level_number level) ≡ true
level_mode Supervisor = refl
level_mode Machine = refl

entered-holdable : (level : Level) (trap : Trap) (tval : ℕ) (r : Registers) → registers_holdable r ≡ true
    → within cause_mask (cause_number trap) ≡ true → registers_holdable (entered level trap tval r) ≡ true
unfolding entered
entered-holdable level trap tval r p cause =
    let k = held r p in
    let l = level_held (level_of level r) (level_of_held level r p) in
    level_kept _
    (flow_kept r p _ _ _ (level_mode level) (handler-aligned (level_of level r).tvec trap) (entered_status_holdable level r.mode r.mstatus k.mode k.mstatus))
    level _ (level_hold (trap_recorded (level_of level r) r.pc trap tval) (record { tvec = l.tvec; counteren = l.counteren; epc = k.pc; cause = cause }))

-- ---- the steps

module _ (r : Registers) (p : registers_holdable r ≡ true) where
  pub raised-holdable : (cause tval entry : ℕ) → cause < 64 → Holdable (raised_by r cause tval entry)
  unfolding raised_by
  raised-holdable cause tval entry h = entered-holdable (destination r (Exception cause)) (Exception cause) tval r p (exception_within cause h)

  pub illegal_instruction_holdable : Holdable (illegal_instruction r)
  illegal_instruction_holdable = raised-holdable 2 0 none (omega arith)

  -- a step that only moves pc
  pub pc_holdable : (pc : ℕ) → aligned pc ≡ true → registers_holdable (with_pc r pc) ≡ true
  pc_holdable pc a = let k = held r p in flow_kept r p _ _ _ k.mode a k.mstatus

  taken-by-holdable : (choice : Option ℕ) → machine_bound_first r ≡ choice → Holdable (taken_by r choice)
  taken-by-holdable (Some i) e =
      entered-holdable (destination r (Interrupt i)) (Interrupt i) 0 r p (interrupt-within i (chosen r i e))
  taken-by-holdable None e = p

  return_step-holdable : (level : Level) → Holdable (return_step level r)
  unfolding return_step returned
  return_step-holdable level =
      let k = held r p in
      let l = level_held (level_of level r) (level_of_held level r p) in
      by_test Holdable (may_return level r) _ _
      (λ t. flow_kept r p _ _ _ (previous_mode_holdable level r.mstatus k.mstatus) l.epc (returned_status_holdable level r.mstatus k.mstatus))
      (λ t. illegal_instruction_holdable)

  pub event_holdable : (event : Event) → Holdable (event_step r event)
  unfolding raise_step lines_step interrupt_taken waited advanced elapsed
  event_holdable (Raise cause tval) =
      by_test Holdable (leb cause 7) _ _ (λ t. raised-holdable cause tval none (omega (arith, leb-true cause 7 t))) (λ t. p)
  event_holdable (Lines lines) =
      let k = held r p in
      by_test Holdable (within lines_mask lines) _ _ (λ t. interrupts_kept r p _ _ _ _ k.mideleg k.mie k.mip t) (λ t. p)
  event_holdable TakeInterrupt = taken-by-holdable (machine_bound_first r) refl
  event_holdable Mret = return_step-holdable Machine
  event_holdable Sret = return_step-holdable Supervisor
  event_holdable Wfi =
      by_test Holdable (may_wait r) _ _ (λ t. pc_holdable (next_pc r) (next_aligned r.pc (held r p).pc)) (λ t. illegal_instruction_holdable)
  event_holdable Ecall = raised-holdable (8 + r.mode % 4) 0 none (omega arith)
  event_holdable Ebreak = raised-holdable 3 0 none (omega arith)
  event_holdable (Advance target) =
      by_test Holdable (aligned target) _ _ (λ t. pc_holdable target t) (λ t. raised-holdable 0 target none (omega arith))
  event_holdable (Elapsed cycles retired) = counters_kept r p _ _ _ (held r p).mcountinhibit
