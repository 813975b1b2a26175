-- A query reads for each byte the lowest-numbered range that holds it; the lowest owner decides and must be every byte's. Assumes nothing.
use Prim.Native.Nat.{ℕ, ◌+◌, ◌^◌, ◌≤◌, ◌<◌, min}
use mathlib.Core.Path.{◌≡◌, refl, ap, subst, ◌∙◌}
use mathlib.Core.Bool.{Bool, true, false, cond, ◌||◌}
use mathlib.Core.List.{List, [], ◌∷◌}
use mathlib.Core.Logic.{◌⊎◌, inl, inr, ⊎_elim}
use mathlib.Core.Option.{Option, some, none}
use native.Mathlib.Omega.{arith}
use lib.Dec.{eqb, leb}
use lib.ListN.{take}
use borrow.Author.Tests.{eqb-true, le-leb, lt-leb}
use Rattle.bits.proofs.Conjunction.{contradiction, not-true-false, one_of}
use Rattle.pmp.specs.declared.Mode.{Mode}
use Rattle.pmp.specs.declared.Access.{Access}
use Rattle.pmp.specs.declared.Decision.{Decision}
use Rattle.pmp.specs.declared.Span.{Span}
use Rattle.pmp.specs.Number.{fault_cause}
use Rattle.pmp.specs.Search.{every_byte}
use Rattle.pmp.specs.Rule.{is_size, owner_of, owner_decides, lowest_owner, owners_decide}
use Rattle.pmp.proofs.SearchLaws.{every_all, every_passes, least_unique}
use Rattle.pmp.proofs.Owner.{owner-bound, one_decides, two_decide}
use Rattle.state.specs.Hold.{can_hold}
use Rattle.map.specs.declared.Range.{Range}
use Rattle.map.specs.declared.Map.{Map}
use Rattle.map.specs.Lookup.{holds_byte, find_range, ranges_in, owner_in}
use Rattle.map.specs.Ranges.{IsMap}
use Rattle.map.proofs.Lawful.{less}
use Rattle.map.proofs.LookupLaws.{holds_in, holds-behind, holds_bounds}
use Rattle.map.proofs.QueryLaws.{reads-ranges, beyond-query, ranges-known, one_range-suffices}
use Rattle.hart.specs.declared.Hart.{Hart}
use Rattle.hart.specs.Queries.{query_answer}
use Rattle.claims.specs.Consequences.{cause_for, NoneHolds, LowestHolding, LowestOf, Sized}
use Rattle.claims.proofs.Deciding.{cause_for_lem}

-- ---- the ranges read

pub count-read : (m : Map) → ranges_in m ≡ take (cond (leb m.count 33) m.count 33) m.ranges
count-read m = go (less 33 m.count)
  where
    go : (33 < m.count) ⊎ (m.count ≤ 33) → ranges_in m ≡ take (cond (leb m.count 33) m.count 33) m.ranges
    go (inl x) = let e : min m.count 33 ≡ 33 = omega arith in rw (lt-leb m.count 33 x, e)
    go (inr x) = let e : min m.count 33 ≡ m.count = omega arith in rw (le-leb m.count 33 x, e)

-- ---- the range read

unheld : (r : Range) (byte : ℕ) → holds_byte r byte ≡ false → r.first ≤ byte → byte ≤ r.last → ⊥
unheld r byte e x y = contradiction (holds_in r byte x y) e

at_same : (s r : Range) → ◌≡◌ {A = Option Range} (some s) (some r) → s ≡ r
at_same s r e = cc

pub range_missing : (rs : List Range) (byte : ℕ) → find_range rs byte ≡ none → NoneHolds rs byte
range_missing [] byte e = tt
range_missing (s ∷ rs) byte e = go (holds_byte s byte) refl (range_missing rs byte)
  where
    go : (b : Bool) → holds_byte s byte ≡ b → (find_range rs byte ≡ none → NoneHolds rs byte) → NoneHolds (s ∷ rs) byte
    go true t ih = absurd (let q : ◌≡◌ {A = Option Range} (some s) none = rw t at e in let z : ◌≡◌ {A = ℕ} 0 1 = cc in omega arith)
    go false t ih = (unheld s byte t, ih (rw t at e))

pub range_found : (rs : List Range) (byte : ℕ) (r : Range) → find_range rs byte ≡ some r → LowestHolding rs byte r
range_found [] byte r e = absurd (let z : ◌≡◌ {A = ℕ} 0 1 = cc in omega arith)
range_found (s ∷ rs) byte r e = go (holds_byte s byte) refl (range_found rs byte r)
  where
    go : (b : Bool) → holds_byte s byte ≡ b → (find_range rs byte ≡ some r → LowestHolding rs byte r) → LowestHolding (s ∷ rs) byte r
    go true t ih =
        record {
          before = [];
          after = rs;
          place = ap (λ (x : Range). x ∷ rs) (at_same s r (rw t at e));
          none = tt;
          holds = subst (λ (x : Range). (x.first ≤ byte) × (byte ≤ x.last)) (at_same s r (rw t at e)) (holds_bounds s byte t);
        }
    go false t ih =
        let l = ih (rw t at e) in
        record {
          before = s ∷ l.before;
          after = l.after;
          place = ap (λ (x : List Range). s ∷ x) l.place;
          none = (unheld s byte t, l.none);
          holds = l.holds;
        }

-- ---- the lowest of the owners

pub lowest_is : (owner : ℕ → ℕ) (address size low : ℕ) → low ≤ 16 → LowestOf owner address size low → lowest_owner owner address size ≡ low
lowest_is owner address size low h t =
    least_unique 16 owner size address low h t.least (λ _. record { byte = t.byte; from = t.from; to = t.to; here = t.here })

-- where some byte has another owner it faults, by the lowest
pub lowest-faults : (cfgs : List ℕ) (mode : Mode) (access : Access) (address size : ℕ) (owner : ℕ → ℕ) (low byte : ℕ) → owner byte ≤ 16
    → LowestOf owner address size low → address ≤ byte → byte < address + size → (owner byte ≡ low → ⊥)
    → owners_decide cfgs mode access owner address size ≡ Decision.Fault (cause_for access) low
lowest-faults cfgs mode access address size owner low byte bound t l k other =
    two_decide cfgs mode access address size owner byte t.byte l k t.from t.to (λ e. other (e ∙ t.here))
    ∙ ap (λ (o : ℕ). Decision.Fault (fault_cause access) o) (lowest_is owner address size low (omega (arith, t.least byte l k)) t)
    ∙ cause_for_lem access low

-- ---- what they decide

-- a range that holds the first byte holds all exactly where it reaches the last
holds-all : (r : Range) (size address : ℕ) → 0 < size → r.first ≤ address → address ≤ r.last
    → every_byte (holds_byte r) size address ≡ leb (address + size) (r.last + 1)
holds-all r size address p f l = go (less (r.last + 1) (address + size))
  where
    go : (r.last + 1 < address + size) ⊎ (address + size ≤ r.last + 1) → every_byte (holds_byte r) size address ≡ leb (address + size) (r.last + 1)
    go (inl x) =
        rw (lt-leb (address + size) (r.last + 1) x)
        (not-true-false (every_byte (holds_byte r) size address)
        (λ t. contradiction (every_passes (holds_byte r) size address (r.last + 1) t (omega arith) x) (holds-behind r (r.last + 1) (omega arith))))
    go (inr x) =
        rw (le-leb (address + size) (r.last + 1) x) (every_all (holds_byte r) size address (λ b u v. holds_in r b (omega arith) (omega arith)))

sized : (size : ℕ) → Sized size → (is_size size ≡ true) × (0 < size)
sized size (inl e) = rw e (refl, omega arith)
sized size (inr (inl e)) = rw e (refl, omega arith)
sized size (inr (inr (inl e))) = rw e (refl, omega arith)
sized size (inr (inr (inr e))) = rw e (refl, omega arith)

pub sizes : (size : ℕ) → is_size size ≡ true → Sized size
sizes n e =
    ⊎_elim (λ x. inl (eqb-true n 1 x))
    (λ y. ⊎_elim (λ x. inr (inl (eqb-true n 2 x)))
    (λ y. ⊎_elim (λ x. inr (inr (inl (eqb-true n 4 x)))) (λ x. inr (inr (inr (eqb-true n 8 x)))) (one_of (eqb n 4) (eqb n 8) y))
    (one_of (eqb n 2) (eqb n 4 || eqb n 8) y))
    (one_of (eqb n 1) (eqb n 2 || (eqb n 4 || eqb n 8)) e)

module _ (h : Hart) (map : Map) (mode : Mode) (access : Access) (address size : ℕ) (held : can_hold h.state ≡ true) (s : Sized size) where
  abbrev cfgs : List ℕ
  cfgs = h.state.pmp.cfgs

  abbrev owner : ℕ → ℕ
  owner = owner_in (ranges_in map)

  -- owners that are entries or none decide
  known : address + size ≤ 2 ^ 56 → ((b : ℕ) → address ≤ b → b < address + size → owner b ≤ 16)
      → query_answer h map mode access address size ≡ owners_decide cfgs mode access owner address size
  unfolding query_answer
  known below valid =
      rw held (reads-ranges cfgs mode access address size map (sized size s).0 below ∙ ranges-known cfgs mode access address size owner valid)

  pub query_one : (o : ℕ) → address + size ≤ 2 ^ 56 → o ≤ 16 → ((b : ℕ) → address ≤ b → b < address + size → owner b ≡ o)
      → query_answer h map mode access address size ≡ owner_decides cfgs mode access o
  query_one o below valid owned =
      known below (λ b l k. omega (arith, owned b l k)) ∙ one_decides cfgs mode access address size owner o (sized size s).1 valid owned

  pub query_two : (low byte : ℕ) → address + size ≤ 2 ^ 56 → ((b : ℕ) → address ≤ b → b < address + size → owner b ≤ 16)
      → LowestOf owner address size low → address ≤ byte → byte < address + size → (owner byte ≡ low → ⊥)
      → query_answer h map mode access address size ≡ Decision.Fault (cause_for access) low
  query_two low byte below valid t l k other =
      known below valid ∙ lowest-faults cfgs mode access address size owner low byte (valid byte l k) t l k other

  -- on a map as 01 lays it down
  pub one_range : (spans : ℕ → Span) (low : ℕ) (r : Range) → address + size ≤ 2 ^ 56 → IsMap spans (ranges_in map) → find_range (ranges_in map) address ≡ some r
      → LowestOf (owner_of spans) address size low
      → query_answer h map mode access address size
      ≡ cond (leb (address + size) (r.last + 1)) (owner_decides cfgs mode access r.owner) (Decision.Fault (cause_for access) low)
  unfolding query_answer
  one_range spans low r below m found t =
      let e = sized size s in
      let w = (range_found (ranges_in map) address r found).holds in
      let least = lowest_is (owner_of spans) address size low (omega (arith, t.here, owner-bound spans t.byte)) t in
      rw held
      (one_range-suffices spans cfgs mode access address size map r m e.0 below found
      ∙ rw (least, holds-all r size address e.1 w.0 w.1)
      (ap (λ (d : Decision). cond (leb (address + size) (r.last + 1)) (owner_decides cfgs mode access r.owner) d) (cause_for_lem access low)))

  pub query-beyond : 2 ^ 56 < address + size → query_answer h map mode access address size ≡ Decision.Fault (cause_for access) 16
  unfolding query_answer
  query-beyond past = rw held (beyond-query cfgs mode access address size map (sized size s).0 past ∙ cause_for_lem access 16)
