-- A write to a trap register of either level leaves registers that a hart can hold.
use Prim.Native.Nat.{ℕ, ◌-◌, ◌%◌}
use mathlib.Core.Path.{◌≡◌, sym, ◌∙◌}
use mathlib.Core.Bool.{true}
use native.Mathlib.Omega.{arith}
use borrow.Author.Tests.{eq-eqb}
use lib.Bits.{bit_and}
use lib.Dec.{ltb}
use Rattle.bits.specs.Mask.{within}
use Rattle.bits.proofs.Conjunction.{by_test}
use Rattle.bits.proofs.Within.{within_mask}
use Rattle.steps.specs.declared.Level.{Level}
use Rattle.registers.specs.declared.LevelRegisters.{LevelRegisters}
use Rattle.registers.specs.declared.Registers.{Registers}
use Rattle.registers.specs.Masks.{counters_mask, cause_mask}
use Rattle.registers.specs.Hold.{aligned, level_holdable, registers_holdable}
use Rattle.registers.specs.Update.{level_of}
use Rattle.registers.proofs.Held.{level_held, level_of_held, level_kept}
use Rattle.csr.specs.Replace.{with_tvec, with_counteren, with_scratch, with_epc, with_cause, with_tval}
use Rattle.csr.specs.Store.{tvec_written, epc_written, tvec_at, counteren_at, scratch_at, epc_at, cause_at, tval_at}

-- ---- a trap register replaced by what it can hold

module _ (l : LevelRegisters) (p : level_holdable l ≡ true) where
  with_tvec_lem : (tvec : ℕ) → ltb (tvec % 4) 2 ≡ true → level_holdable (with_tvec l tvec) ≡ true
  with_tvec_lem tvec a = rw (a ∙ sym (level_held l p).tvec) p

  with_counteren_lem : (counteren : ℕ) → within counters_mask counteren ≡ true → level_holdable (with_counteren l counteren) ≡ true
  with_counteren_lem counteren a = rw (a ∙ sym (level_held l p).counteren) p

  with_epc_lem : (epc : ℕ) → aligned epc ≡ true → level_holdable (with_epc l epc) ≡ true
  with_epc_lem epc a = rw (a ∙ sym (level_held l p).epc) p

  with-cause : (cause : ℕ) → within cause_mask cause ≡ true → level_holdable (with_cause l cause) ≡ true
  with-cause cause a = rw (a ∙ sym (level_held l p).cause) p

-- ---- a write

tvec_written_lem : (old value : ℕ) → ltb (old % 4) 2 ≡ true → ltb (tvec_written old value % 4) 2 ≡ true
tvec_written_lem old value p = by_test (λ (tvec : ℕ). ltb (tvec % 4) 2 ≡ true) (ltb (value % 4) 2) value old (λ e. e) (λ e. p)

epc_written_lem : (value : ℕ) → aligned (epc_written value) ≡ true
epc_written_lem value = eq-eqb ((value - value % 4) % 4) 0 (omega arith)

module _ (r : Registers) (p : registers_holdable r ≡ true) (level : Level) (value : ℕ) where
  pub tvec_kept : registers_holdable (tvec_at level r value) ≡ true
  tvec_kept =
      let l = level_of level r in
      let h = level_of_held level r p in
      level_kept r p level _ (with_tvec_lem l h (tvec_written l.tvec value) (tvec_written_lem l.tvec value (level_held l h).tvec))

  pub counteren_kept : registers_holdable (counteren_at level r value) ≡ true
  counteren_kept =
      level_kept r p level _
      (with_counteren_lem (level_of level r) (level_of_held level r p) (bit_and value counters_mask) (within_mask counters_mask value))

  pub scratch_kept : registers_holdable (scratch_at level r value) ≡ true
  scratch_kept = level_kept r p level (with_scratch (level_of level r) value) (level_of_held level r p)

  pub epc_kept : registers_holdable (epc_at level r value) ≡ true
  epc_kept = level_kept r p level _ (with_epc_lem (level_of level r) (level_of_held level r p) (epc_written value) (epc_written_lem value))

  pub cause_kept : registers_holdable (cause_at level r value) ≡ true
  cause_kept =
      level_kept r p level _ (with-cause (level_of level r) (level_of_held level r p) (bit_and value cause_mask) (within_mask cause_mask value))

  pub tval_kept : registers_holdable (tval_at level r value) ≡ true
  tval_kept = level_kept r p level (with_tval (level_of level r) value) (level_of_held level r p)
