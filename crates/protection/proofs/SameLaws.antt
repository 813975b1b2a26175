-- Values of the protection registers that compare as the same, with the same grain, are equal. Assumes nothing.
use mathlib.Core.Path.{◌≡◌}
use mathlib.Core.Bool.{true}
use Rattle.bits.specs.Same.{same_list}
use Rattle.bits.proofs.Conjunction.{both, join}
use Rattle.bits.proofs.SameLaws.{same_eq, same_refl}
use Rattle.protection.specs.declared.Pmp.{Pmp}
use Rattle.protection.specs.Same.{same_pmp}

pub same_pmp_lem : (a b : Pmp) → a.grain ≡ b.grain → same_pmp a b ≡ true → a ≡ b
unfolding same_pmp
same_pmp_lem a b g p =
    let w = both (same_list a.cfgs b.cfgs) (same_list a.addrs b.addrs) p in
    (λ j. record { grain = g j; cfgs = same_eq a.cfgs b.cfgs w.0 j; addrs = same_eq a.addrs b.addrs w.1 j })

pub same_pmp-refl : (a : Pmp) → same_pmp a a ≡ true
unfolding same_pmp
same_pmp-refl a = join (same_list a.cfgs a.cfgs) (same_list a.addrs a.addrs) (same_refl a.cfgs) (same_refl a.addrs)
