-- A write to any number leaves what a hart can hold, and the grain. Assumes nothing.
use Prim.Native.Nat.{ℕ, zero, suc, ◌+◌, ◌-◌, ◌/◌, ◌%◌, ◌^◌, ◌<◌}
use mathlib.Core.Path.{◌≡◌, refl}
use mathlib.Core.Bool.{Bool, true, false, not, ◌&&◌, ◌||◌}
use mathlib.Core.Logic.{⊎_elim}
use mathlib.Core.List.{List}
use native.Mathlib.Omega.{arith}
use borrow.Author.Tests.{lt-ltb}
use lib.Dec.{eqb}
use lib.ListN.{get_or, set}
use Rattle.bits.proofs.Conjunction.{contradiction, choose, one_of, neither, by_test}
use Rattle.bits.proofs.BitSolve.{upto_sound}
use Rattle.protection.specs.declared.Pmp.{Pmp}
use Rattle.bits.specs.Lists.{all}
use Rattle.protection.specs.Hold.{na4_unselectable, config_allowed, config_holdable, address_holdable, pmp_holdable}
use Rattle.bits.proofs.ListLaws.{all_get_d, all_set}
use Rattle.protection.proofs.Held.{pmp-held, pmp_hold}
use Rattle.pmp.specs.Entry.{field_a, locked}
use Rattle.protection.specs.Read.{is_address}
use Rattle.protection.specs.Write.{config_kept, config_written, configs_written, address_frozen, address_written, pmp_written}

-- ---- a configuration byte

-- NA4 is asked for and cannot be selected, or what is kept of the byte can be held
abbrev fit : Bool → ℕ → Bool
fit na4 value = (eqb (field_a value) 2 && not na4) || config_allowed na4 (config_kept value)

-- by trying all bytes
all_fit : (na4 : Bool) (value : ℕ) → value < 256 → fit na4 value ≡ true
all_fit true value h = upto_sound 256 (fit true) refl value h
all_fit false value h = upto_sound 256 (fit false) refl value h

-- a byte that does not ask for it is kept as one that can be held
config_kept_lem : (g value : ℕ) → value < 256 → na4_unselectable g value ≡ false → config_holdable g (config_kept value) ≡ true
config_kept_lem g value h e =
    ⊎_elim (λ b. contradiction b e) (λ k. k) (one_of (na4_unselectable g value) (config_holdable g (config_kept value)) (all_fit (eqb g 0) value h))

pub config_written_kept : (g old value : ℕ) → value < 256 → config_holdable g old ≡ true → config_holdable g (config_written g old value) ≡ true
config_written_kept g old value h p =
    by_test (λ (cfg : ℕ). config_holdable g cfg ≡ true) (locked old || na4_unselectable g value) old (config_kept value) (λ t. p)
    (λ t. config_kept_lem g value h (neither (locked old) (na4_unselectable g value) t).1)

pub configs_written_kept : (g n at value : ℕ) (cfgs : List ℕ) → all (config_holdable g) cfgs ≡ true
    → all (config_holdable g) (configs_written g n at value cfgs) ≡ true
unfolding configs_written
configs_written_kept g zero at value cfgs p = p
configs_written_kept g (suc n) at value cfgs p =
    let old = get_or cfgs at 0 in
    let new = config_written g old (value % 256) in
    configs_written_kept g n (at + 1) (value / 256) (set cfgs at new)
    (all_set (config_holdable g) cfgs at new (config_written_kept g old (value % 256) (omega arith) (all_get_d (config_holdable g) cfgs at refl p)) p)

-- ---- an address register

pub address_written_kept : (cfgs : List ℕ) (i old value : ℕ) → address_holdable old ≡ true → address_holdable (address_written cfgs i old value) ≡ true
address_written_kept cfgs i old value p =
    choose address_holdable (address_frozen cfgs i) old (value % 2 ^ 54) p (lt-ltb (value % 2 ^ 54) (2 ^ 54) (omega arith))

pub pmp-written_kept : (p : Pmp) (n value : ℕ) → pmp_holdable p ≡ true → pmp_holdable (pmp_written p n value) ≡ true
unfolding pmp_written
pmp-written_kept p n value h =
    let k = pmp-held p h in
    let i = n - 0x3B0 in
    let old = get_or p.addrs i 0 in
    let new = address_written p.cfgs i old value in
    choose pmp_holdable (eqb n 0x3A0) _ _
    (pmp_hold _ (record { grain = k.grain; cfgs = configs_written_kept p.grain 8 0 value p.cfgs k.cfgs; addrs = k.addrs }))
    (choose pmp_holdable (eqb n 0x3A2) _ _
    (pmp_hold _ (record { grain = k.grain; cfgs = configs_written_kept p.grain 8 8 value p.cfgs k.cfgs; addrs = k.addrs }))
    (choose pmp_holdable (is_address n) _ _
    (pmp_hold _
    (record {
      grain = k.grain;
      cfgs = k.cfgs;
      addrs = all_set address_holdable p.addrs i new (address_written_kept p.cfgs i old value (all_get_d address_holdable p.addrs i refl k.addrs)) k.addrs;
    }))
    h))

-- ---- the grain

-- no write changes it
pub grain-written : (p : Pmp) (n value : ℕ) → (pmp_written p n value).grain ≡ p.grain
unfolding pmp_written
grain-written p n value =
    let kept : Pmp → Type 0 = λ q. q.grain ≡ p.grain in
    by_test kept (eqb n 0x3A0) _ _ (λ t. refl)
    (λ t. by_test kept (eqb n 0x3A2) _ _ (λ u. refl) (λ u. by_test kept (is_address n) _ _ (λ v. refl) (λ v. refl)))
