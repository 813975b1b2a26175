-- That a hart can hold its protection registers: taken apart and put together. Assumes nothing.
use Prim.Native.Nat.{ℕ}
use mathlib.Core.Path.{◌≡◌, refl}
use mathlib.Core.Bool.{true, ◌&&◌}
use borrow.Author.Tests.{lt-ltb}
use Rattle.bits.specs.Lists.{all}
use Rattle.bits.proofs.Conjunction.{both, join}
use Rattle.pmp.specs.Entry.{grain_holdable, legal_grain}
use Rattle.pmp.proofs.GrainLaws.{legal_bound}
use Rattle.protection.specs.declared.Pmp.{Pmp}
use Rattle.protection.specs.Hold.{config_holdable, address_holdable, pmp_holdable, reset_pmp}

-- what is known of registers that a hart can hold
pub record PmpHeld (p : Pmp) : Type 0 where
  pub grain : grain_holdable p.grain ≡ true
  pub cfgs : all (config_holdable p.grain) p.cfgs ≡ true
  pub addrs : all address_holdable p.addrs ≡ true

pub pmp-held : (p : Pmp) → pmp_holdable p ≡ true → PmpHeld p
unfolding pmp_holdable
pmp-held p h =
    let w = both (grain_holdable p.grain) (all (config_holdable p.grain) p.cfgs && all address_holdable p.addrs) h in
    let v = both (all (config_holdable p.grain) p.cfgs) (all address_holdable p.addrs) w.1 in
    record { grain = w.0; cfgs = v.0; addrs = v.1 }

pub pmp_hold : (p : Pmp) → PmpHeld p → pmp_holdable p ≡ true
unfolding pmp_holdable
pmp_hold p h = join _ _ h.grain (join _ _ h.cfgs h.addrs)

pub reset-pmp-held : (g : ℕ) → pmp_holdable (reset_pmp g) ≡ true
unfolding all
reset-pmp-held g = pmp_hold (reset_pmp g) (record { grain = lt-ltb (legal_grain g) 11 (legal_bound g); cfgs = refl; addrs = refl })
