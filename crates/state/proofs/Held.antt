-- That a hart can hold a state: put together, at reset, and judged on words. Assumes nothing.
use Prim.Native.Nat.{ℕ}
use mathlib.Core.Path.{◌≡◌, refl, sym, ap}
use mathlib.Core.Bool.{true, ◌&&◌}
use mathlib.Core.List.{List}
use native.Mathlib.Omega.{arith}
use borrow.Author.Tests.{ne_eqb}
use lib.ListN.{length, get_or, take, drop}
use Rattle.bits.specs.Lists.{all}
use Rattle.bits.proofs.Conjunction.{join}
use Rattle.bits.proofs.ListLaws.{elements-take}
use Rattle.registers.specs.Hold.{registers_holdable}
use Rattle.registers.proofs.Held.{reset-held}
use Rattle.pmp.specs.Entry.{grain_holdable}
use Rattle.protection.specs.Configs.{configs_of}
use Rattle.protection.specs.Hold.{config_holdable, address_holdable, pmp_holdable}
use Rattle.protection.proofs.Held.{reset-pmp-held}
use Rattle.paging.specs.Satp.{satp_holdable}
use Rattle.state.specs.declared.State.{State}
use Rattle.state.specs.Hold.{can_hold, reset_state}
use Rattle.state.specs.Words.{registers_of}
use Rattle.state.specs.Slices.{loaded, loaded_registers, loaded_pmp, loaded_satp}
use Rattle.state.proofs.SliceLaws.{all-loaded}

pub hold : (s : State) → registers_holdable s.registers ≡ true → pmp_holdable s.pmp ≡ true → satp_holdable s.satp ≡ true → can_hold s ≡ true
unfolding can_hold
hold s p q v = join (registers_holdable s.registers) (pmp_holdable s.pmp && satp_holdable s.satp) p (join (pmp_holdable s.pmp) (satp_holdable s.satp) q v)

pub reset-holds : (g : ℕ) → can_hold (reset_state g) ≡ true
reset-holds g = hold (reset_state g) reset-held (reset-pmp-held g) refl

-- a slice of another length reads as the reset state
pub other-length-holds : (w : List ℕ) → (length w ≡ 43 → ⊥) → can_hold (loaded w) ≡ true
unfolding loaded_registers loaded_pmp loaded_satp
other-length-holds w h = rw (ne_eqb (length w) 43 h) (reset-holds 0)

-- 43 words hold one where their parts do
pub words_hold : (w : List ℕ) → length w ≡ 43
    → (registers_holdable (registers_of w)
    && ((grain_holdable (get_or w 42 0) && (all (config_holdable (get_or w 42 0)) (configs_of (get_or w 23 0) (get_or w 24 0)) && all address_holdable (take 16 (drop 25 w))))
    && satp_holdable (get_or w 41 0)))
    ≡ can_hold (loaded w)
unfolding can_hold pmp_holdable
words_hold w fit = rw (← elements-take w 16 25 (omega arith)) (ap can_hold (sym (all-loaded w fit)))
