-- A write leaves an mstatus that a hart can hold.
use Prim.Native.Nat.{ℕ, ◌-◌, ◌^◌}
use mathlib.Core.Path.{◌≡◌, refl}
use mathlib.Core.Bool.{Bool, true, false, cond}
use mathlib.Core.List.{[], ◌∷◌}
use borrow.Author.Tests.{eq-eqb, eqb-true}
use lib.Bits.{bit_and}
use lib.Dec.{eqb}
use Rattle.bits.specs.Mask.{replaced}
use Rattle.bits.proofs.BitSolve.{E, lit, var, and, or, eq, imp, solve}
use Rattle.steps.specs.declared.Level.TheVariants.{Machine}
use Rattle.registers.specs.Masks.{sstatus_mask}
use Rattle.registers.specs.Status.{pp_mask}
use Rattle.registers.specs.Hold.{kept_status, status_holdable}
use Rattle.registers.proofs.Held.{kept_e, status_held, status_hold}
use Rattle.csr.specs.Store.{status_written, sstatus_written}

-- the word with the bits of the mask taken from the value
abbrev replaced_e : ℕ → E → E → E
replaced_e mask value word = or (and word (lit (2 ^ 64 - 1 - mask))) (and value (lit mask))

-- MPP of a word
abbrev mpp_e : E → E
mpp_e word = and word (lit (pp_mask Machine))

-- what is kept of var 1, with MPP of var 0
abbrev status_e : E
status_e = replaced_e (pp_mask Machine) (var 0) (kept_e (var 1))

status_chosen : (old value : ℕ) (b : Bool) → eqb (bit_and value (pp_mask Machine)) 0x1000 ≡ b → status_holdable old ≡ true
    → status_holdable (cond b (replaced (pp_mask Machine) old (kept_status value)) (kept_status value)) ≡ true
status_chosen old value true e p =
    status_hold (replaced (pp_mask Machine) old (kept_status value))
    (record {
      kept = eq-eqb _ _ (solve (eq (kept_e status_e) status_e) (old ∷ value ∷ []) refl);
      mpp = rw (solve (eq (mpp_e status_e) (mpp_e (var 0))) (old ∷ value ∷ []) refl) (status_held old p).mpp;
    })
status_chosen old value false e p =
    status_hold (kept_status value)
    (record {
      kept = eq-eqb _ _ (solve (eq (kept_e (kept_e (var 0))) (kept_e (var 0))) (value ∷ []) refl);
      mpp = rw (solve (eq (mpp_e (kept_e (var 0))) (mpp_e (var 0))) (value ∷ []) refl, e);
    })

pub status_kept : (old value : ℕ) → status_holdable old ≡ true → status_holdable (status_written old value) ≡ true
unfolding status_written
status_kept old value p = status_chosen old value (eqb (bit_and value (pp_mask Machine)) 0x1000) refl p

-- var 0 with the bits of sstatus of var 1
abbrev sstatus_e : E
sstatus_e = replaced_e sstatus_mask (var 1) (var 0)

pub sstatus_kept : (old value : ℕ) → status_holdable old ≡ true → status_holdable (sstatus_written old value) ≡ true
sstatus_kept old value p =
    let k = status_held old p in
    status_hold (sstatus_written old value)
    (record {
      kept = eq-eqb _ _ (solve (imp (kept_e (var 0)) (var 0) (eq (kept_e sstatus_e) sstatus_e)) (old ∷ value ∷ []) refl (eqb-true _ _ k.kept));
      mpp = rw (solve (eq (mpp_e sstatus_e) (mpp_e (var 0))) (old ∷ value ∷ []) refl) k.mpp;
    })
