-- The byte rule by the owners of an access's bytes: the lowest owner decides, and must be every byte's. So a map of ranges with one owner
-- each answers every access. Assumes nothing.
use mathlib.Core.Path.{◌≡◌, sym, ap, ◌∙◌}
use mathlib.Core.Bool.{Bool, true, false}
use mathlib.Core.List.{List}
use Prim.Native.Nat.{ℕ, ◌+◌, ◌≤◌, ◌<◌}
use native.Mathlib.Omega.{arith}
use native.Mathlib.Decide.{dec_lt}
use lib.Dec.{eqb}
use borrow.Author.Tests.{lt-ltb, le-ltb, eq-eqb, ne_eqb, eqb-true}
use Rattle.bits.proofs.Conjunction.{not-true-false}
use Rattle.pmp.specs.declared.Mode.{Mode}
use Rattle.pmp.specs.declared.Access.{Access}
use Rattle.pmp.specs.declared.Decision.TheVariants.{Fault}
use Rattle.pmp.specs.declared.Span.{Span}
use Rattle.pmp.specs.Number.{fault_cause}
use Rattle.pmp.specs.Search.{any_byte, every_byte}
use Rattle.pmp.specs.Entry.{top, matches}
use Rattle.pmp.specs.Rule.{none, lowest_match, match_decides, byte_rule, owner_of, owner_decides, lowest_owner, least_decides, owners_decide}
use Rattle.pmp.proofs.SearchLaws.{lowest_fails, lowest_passes, lowest-within, lowest_unique, any_none, any_some, every_passes, every_all, every_same, least-bound, least-below, least_has, least_same, least_unique}
use Rattle.pmp.proofs.RuleLaws.{inside_decides}

module _ (spans : ℕ → Span) where
  -- the entries that match a byte
  abbrev at : ℕ → ℕ → Bool
  at b i = matches spans i b

  -- a byte's owner is an entry or none
  pub owner-bound : (b : ℕ) → owner_of spans b < 17
  unfolding owner_of
  owner-bound b = let w = lowest-within (at b) 16 0 in omega arith

  -- an owner that is an entry matches the byte, and no entry below an owner does
  pub owner-matches : (b : ℕ) → owner_of spans b < 16 → matches spans (owner_of spans b) b ≡ true
  unfolding owner_of
  owner-matches b h = lowest_passes (at b) 16 0 h

  pub below-owner : (b i : ℕ) → i < owner_of spans b → matches spans i b ≡ false
  unfolding owner_of
  below-owner b i h = lowest_fails (at b) 16 0 i (omega arith) h

module _ (spans : ℕ → Span) (address size : ℕ) where
  -- the lowest entry that matches any byte is the lowest owner
  pub lowest-least : lowest_match spans address size ≡ lowest_owner (owner_of spans) address size
  unfolding lowest_match
  lowest-least =
      let low = lowest_owner (owner_of spans) address size in
      lowest_unique (λ i. any_byte (matches spans i) size address) 16 0 low (omega arith) (least-bound none (owner_of spans) size address)
      (λ i _ l. any_none (matches spans i) size address
      (λ b g h. below-owner spans b i (omega (arith, least-below none (owner_of spans) size address b g h))))
      (λ l. let t = least_has none (owner_of spans) size address l in
      any_some (matches spans low) size address t.byte t.from t.to
      (ap (at spans t.byte) (sym t.here) ∙ owner-matches spans t.byte (omega (arith, t.here))))

  module _ (o : ℕ) (below : (b : ℕ) → address ≤ b → b < address + size → o ≤ owner_of spans b) where
    -- an entry that no byte's owner is below matches a byte exactly where it owns it
    matches-owns : o < 16 → (b : ℕ) → address ≤ b → b < address + size → matches spans o b ≡ eqb (owner_of spans b) o
    matches-owns h b g l = go (dec_lt o (owner_of spans b))
      where
        go : Dec (o < owner_of spans b) → matches spans o b ≡ eqb (owner_of spans b) o
        go (yes k) = below-owner spans b o k ∙ sym (ne_eqb (owner_of spans b) o (λ e. omega arith))
        go (no k) =
            let e : owner_of spans b ≡ o = omega (arith, below b g l) in
            ap (at spans b) (sym e) ∙ owner-matches spans b (omega arith) ∙ sym (eq-eqb (owner_of spans b) o e)

    module _ (cfgs : List ℕ) (mode : Mode) (access : Access) where
      match_least : Dec (o < 16) → o ≤ 16
          → match_decides spans cfgs mode access address size o ≡ least_decides cfgs mode access (owner_of spans) address size o
      match_least (yes h) k = rw (lt-ltb o 16 h, every_same (matches spans o) (λ b. eqb (owner_of spans b) o) size address (matches-owns h))
      match_least (no h) k =
          rw (
            le-ltb o 16 (omega arith),
            every_all (λ b. eqb (owner_of spans b) o) size address
                (λ b g l. eq-eqb (owner_of spans b) o (omega (arith, below b g l, owner-bound spans b))),
          )

  module _ (cfgs : List ℕ) (mode : Mode) (access : Access) where
    pub rule_owners : address + size ≤ top → byte_rule spans cfgs mode access address size ≡ owners_decide cfgs mode access (owner_of spans) address size
    unfolding owners_decide
    rule_owners inside =
        let low = lowest_owner (owner_of spans) address size in
        inside_decides spans cfgs mode access address size inside
        ∙ ap (match_decides spans cfgs mode access address size) lowest-least
        ∙ match_least low (least-below none (owner_of spans) size address) cfgs mode access (dec_lt low 16)
        (least-bound none (owner_of spans) size address)

-- ---- what owners decide, whichever they are

module _ (cfgs : List ℕ) (mode : Mode) (access : Access) (address size : ℕ) where
  -- owners that agree on the bytes of an access decide the same
  pub owners_same : (f g : ℕ → ℕ) → ((b : ℕ) → address ≤ b → b < address + size → f b ≡ g b)
      → owners_decide cfgs mode access f address size ≡ owners_decide cfgs mode access g address size
  unfolding owners_decide
  owners_same f g h =
      let low = lowest_owner g address size in
      rw (
        least_same none f g size address h,
        every_same (λ b. eqb (f b) low) (λ b. eqb (g b) low) size address (λ b l k. ap (λ (o : ℕ). eqb o low) (h b l k)),
      )

  module _ (owner : ℕ → ℕ) where
    -- bytes of one owner are decided by it
    pub one_decides : (o : ℕ) → 0 < size → o ≤ none → ((b : ℕ) → address ≤ b → b < address + size → owner b ≡ o)
        → owners_decide cfgs mode access owner address size ≡ owner_decides cfgs mode access o
    unfolding owners_decide
    one_decides o p h owned =
        rw (
          least_unique none owner size address o h (λ b g l. omega (arith, owned b g l))
              (λ l. record { byte = address; from = omega arith; to = omega arith; here = owned address (omega arith) (omega arith) }),
          every_all (λ b. eqb (owner b) o) size address (λ b g l. eq-eqb (owner b) o (owned b g l)),
        )

    -- bytes of two owners fault, by the lowest
    pub two_decide : (b d : ℕ) → address ≤ b → b < address + size → address ≤ d → d < address + size → (owner b ≡ owner d → ⊥)
        → owners_decide cfgs mode access owner address size ≡ Fault (fault_cause access) (lowest_owner owner address size)
    unfolding owners_decide
    two_decide b d g h j k differ =
        let low = lowest_owner owner address size in
        let is : every_byte (λ b. eqb (owner b) low) size address ≡ true → (e : ℕ) → address ≤ e → e < address + size → owner e ≡ low =
        λ q e l m. eqb-true (owner e) low (every_passes (λ b. eqb (owner b) low) size address e q l m) in
        rw (not-true-false (every_byte (λ b. eqb (owner b) low) size address) (λ q. differ (is q b g h ∙ sym (is q d j k))))
