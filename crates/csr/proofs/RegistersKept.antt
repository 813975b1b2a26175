-- A write to any number, and so every CSR step, leaves registers that a hart can hold.
use Prim.Native.Nat.{ℕ}
use mathlib.Core.Path.{◌≡◌, refl}
use mathlib.Core.Bool.{Bool, true, cond}
use mathlib.Core.List.{[], ◌∷◌}
use borrow.Author.Tests.{eq-eqb, eqb-true}
use lib.Bits.{bit_and}
use lib.Dec.{eqb}
use Rattle.bits.specs.Mask.{within}
use Rattle.bits.proofs.Conjunction.{choose}
use Rattle.bits.proofs.Within.{within_mask, within_and_left, within-replaced}
use Rattle.bits.proofs.BitSolve.{lit, var, and, eq, imp, solve}
use Rattle.steps.specs.declared.Level.TheVariants.{Supervisor, Machine}
use Rattle.steps.specs.declared.Operation.{Operation}
use Rattle.registers.specs.declared.Registers.{Registers}
use Rattle.registers.specs.Masks.{medeleg_mask, mideleg_mask, mie_mask, mip_mask, counters_mask}
use Rattle.registers.specs.Hold.{status_holdable, registers_holdable}
use Rattle.registers.specs.Update.{with_status}
use Rattle.registers.proofs.Held.{held, flow_kept, medeleg_kept, interrupts_kept, counters_kept}
use Rattle.csr.specs.Permit.{attempts_write}
use Rattle.csr.specs.Replace.{with_mideleg, with_mie, with_mip, with_mcycle, with_minstret}
use Rattle.csr.specs.Store.{sie_written, sip_written, registers_written}
use Rattle.csr.specs.Operate.{registers_operated}
use Rattle.csr.proofs.StatusKept.{status_kept, sstatus_kept}
use Rattle.csr.proofs.TrapKept.{tvec_kept, counteren_kept, scratch_kept, epc_kept, cause_kept, tval_kept}

-- mideleg's bits are among mie's
delegable : (mideleg : ℕ) → within mideleg_mask mideleg ≡ true → within mie_mask mideleg ≡ true
delegable mideleg p =
    eq-eqb (bit_and mideleg mie_mask) mideleg
    (solve (imp (and (var 0) (lit mideleg_mask)) (var 0) (eq (and (var 0) (lit mie_mask)) (var 0))) (mideleg ∷ []) refl
    (eqb-true (bit_and mideleg mideleg_mask) mideleg p))

either : (b : Bool) (x y : Registers) → registers_holdable x ≡ true → registers_holdable y ≡ true → registers_holdable (cond b x y) ≡ true
either = choose registers_holdable

module _ (r : Registers) (p : registers_holdable r ≡ true) where
  with_status_lem : (mstatus : ℕ) → status_holdable mstatus ≡ true → registers_holdable (with_status r mstatus) ≡ true
  with_status_lem mstatus a = let k = held r p in flow_kept r p r.mode r.pc mstatus k.mode k.pc a

  with_mideleg_lem : (mideleg : ℕ) → within mideleg_mask mideleg ≡ true → registers_holdable (with_mideleg r mideleg) ≡ true
  with_mideleg_lem mideleg a =
      let k = held r p in
      let i = r.interrupts in
      interrupts_kept r p mideleg i.mie i.mip i.lines a k.mie k.mip k.lines

  with_mie_lem : (mie : ℕ) → within mie_mask mie ≡ true → registers_holdable (with_mie r mie) ≡ true
  with_mie_lem mie a =
      let k = held r p in
      let i = r.interrupts in
      interrupts_kept r p i.mideleg mie i.mip i.lines k.mideleg a k.mip k.lines

  with_mip_lem : (mip : ℕ) → within mip_mask mip ≡ true → registers_holdable (with_mip r mip) ≡ true
  with_mip_lem mip a =
      let k = held r p in
      let i = r.interrupts in
      interrupts_kept r p i.mideleg i.mie mip i.lines k.mideleg k.mie a k.lines

  -- mcycle and minstret: any 64 bits
  with_mcycle_lem : (mcycle : ℕ) → registers_holdable (with_mcycle r mcycle) ≡ true
  with_mcycle_lem mcycle = counters_kept r p r.counters.mcountinhibit mcycle r.counters.minstret (held r p).mcountinhibit

  with_minstret_lem : (minstret : ℕ) → registers_holdable (with_minstret r minstret) ≡ true
  with_minstret_lem minstret = counters_kept r p r.counters.mcountinhibit r.counters.mcycle minstret (held r p).mcountinhibit

  sie-written : (value : ℕ) → within mie_mask (sie_written r value) ≡ true
  sie-written value =
      let k = held r p in
      let i = r.interrupts in
      within-replaced mie_mask i.mideleg value i.mie (delegable i.mideleg k.mideleg) k.mie

  sip-written : (value : ℕ) → within mip_mask (sip_written r value) ≡ true
  sip-written value =
      let k = held r p in
      let i = r.interrupts in
      within-replaced mip_mask (bit_and i.mideleg 0x2) value i.mip (within_and_left mip_mask i.mideleg 0x2 k.mideleg) k.mip

  pub registers_written_kept : (n value : ℕ) → registers_holdable (registers_written r n value) ≡ true
  unfolding registers_written
  registers_written_kept n value =
      either (eqb n 0x100) _ _ (with_status_lem _ (sstatus_kept r.mstatus value (held r p).mstatus))
      (either (eqb n 0x104) _ _ (with_mie_lem _ (sie-written value))
      (either (eqb n 0x105) _ _ (tvec_kept r p Supervisor value)
      (either (eqb n 0x106) _ _ (counteren_kept r p Supervisor value)
      (either (eqb n 0x140) _ _ (scratch_kept r p Supervisor value)
      (either (eqb n 0x141) _ _ (epc_kept r p Supervisor value)
      (either (eqb n 0x142) _ _ (cause_kept r p Supervisor value)
      (either (eqb n 0x143) _ _ (tval_kept r p Supervisor value)
      (either (eqb n 0x144) _ _ (with_mip_lem _ (sip-written value))
      (either (eqb n 0x300) _ _ (with_status_lem _ (status_kept r.mstatus value (held r p).mstatus))
      (either (eqb n 0x302) _ _ (medeleg_kept r p _ (within_mask medeleg_mask value))
      (either (eqb n 0x303) _ _ (with_mideleg_lem _ (within_mask mideleg_mask value))
      (either (eqb n 0x304) _ _ (with_mie_lem _ (within_mask mie_mask value))
      (either (eqb n 0x305) _ _ (tvec_kept r p Machine value)
      (either (eqb n 0x306) _ _ (counteren_kept r p Machine value)
      (either (eqb n 0x320) _ _ (counters_kept r p _ r.counters.mcycle r.counters.minstret (within_mask counters_mask value))
      (either (eqb n 0x340) _ _ (scratch_kept r p Machine value)
      (either (eqb n 0x341) _ _ (epc_kept r p Machine value)
      (either (eqb n 0x342) _ _ (cause_kept r p Machine value)
      (either (eqb n 0x343) _ _ (tval_kept r p Machine value)
      (either (eqb n 0x344) _ _ (with_mip_lem _ (within_mask mip_mask value))
      (either (eqb n 0xB00) _ _ (with_mcycle_lem value)
      (either (eqb n 0xB02) _ _ (with_minstret_lem value) p))))))))))))))))))))))

  pub registers_operated_kept : (operation : Operation) (n operand old : ℕ) → registers_holdable (registers_operated r operation n operand old) ≡ true
  registers_operated_kept operation n operand old = either (attempts_write operation) _ r (registers_written_kept n _) p
