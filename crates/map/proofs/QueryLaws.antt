-- A query on the compiled map answers as the byte rule does, with the same entry, and on a lawful map one range tells a grant from a fault. Assumes nothing.
use Prim.Native.Nat.{ℕ, suc, ◌+◌, ◌-◌, ◌≤◌, ◌<◌}
use mathlib.Core.Path.{◌≡◌, sym, ap, subst, ◌∙◌}
use mathlib.Core.Bool.{true, false, cond}
use mathlib.Core.List.{List}
use mathlib.Core.Logic.{◌⊎◌, inl, inr}
use mathlib.Core.Option.{Option, some}
use native.Mathlib.Omega.{arith}
use lib.Dec.{leb, ltb}
use borrow.Author.Tests.{le-ltb, le-leb, lt-leb}
use Rattle.bits.proofs.Conjunction.{contradiction, not-true-false}
use Rattle.pmp.specs.declared.Mode.{Mode}
use Rattle.pmp.specs.declared.Access.{Access}
use Rattle.pmp.specs.declared.Span.{Span}
use Rattle.pmp.specs.declared.Decision.{Decision}
use Rattle.pmp.specs.declared.Decision.TheVariants.{Fault, Refused}
use Rattle.pmp.specs.declared.Refusal.{Refusal}
use Rattle.pmp.specs.Number.{fault_cause}
use Rattle.pmp.specs.Search.{every_byte}
use Rattle.pmp.specs.Entry.{top, entry_span}
use Rattle.pmp.specs.Rule.{none, owner_of, owner_decides, lowest_owner, owners_decide, is_size, byte_rule}
use Rattle.pmp.proofs.SearchLaws.{any_none, any_same, every_all, every_passes}
use Rattle.pmp.proofs.RuleLaws.{none-beyond, some-beyond, beyond-faults, size_bounds}
use Rattle.pmp.proofs.Owner.{owner-bound, rule_owners, owners_same, one_decides, two_decide}
use Rattle.map.specs.declared.Range.{Range}
use Rattle.map.specs.declared.Map.{Map}
use Rattle.map.specs.Lookup.{holds_byte, find_range, ranges_in, owner_found, owner_in}
use Rattle.map.specs.Ranges.{IsMap}
use Rattle.map.specs.Compiled.{compiled}
use Rattle.map.specs.Query.{ranges_decide, readable, queried}
use Rattle.map.proofs.Lawful.{less, Run, map-lawful}
use Rattle.map.proofs.LookupLaws.{holds_in, holds-behind, hit, owner-read}
use Rattle.map.proofs.MapLaws.{compiled_is_map}

module _ (address size : ℕ) where
  inside_readable : is_size size ≡ true → address + size ≤ top → readable address size ≡ true
  inside_readable e h = rw (e, none-beyond top size address h)

  beyond_unreadable : is_size size ≡ true → top < address + size → readable address size ≡ false
  beyond_unreadable e h = rw (e, some-beyond top size address (size_bounds size e).0 h)

  size_unreadable : is_size size ≡ false → readable address size ≡ false
  size_unreadable e = rw e

  -- what is left of memory from the address on tells
  pub readable_room : is_size size ≡ true → readable address size ≡ leb address (top - size)
  readable_room e = go (less top (address + size))
    where
      go : (top < address + size) ⊎ (address + size ≤ top) → readable address size ≡ leb address (top - size)
      go (inl x) = beyond_unreadable e x ∙ sym (lt-leb address (top - size) (omega (arith, size_bounds size e)))
      go (inr x) = inside_readable e x ∙ sym (le-leb address (top - size) (omega (arith, size_bounds size e)))

module _ (cfgs : List ℕ) (mode : Mode) (access : Access) (address size : ℕ) where
  -- a map's ranges are read once the size is right and all bytes lie in memory
  pub reads-ranges : (map : Map) → is_size size ≡ true → address + size ≤ top
      → queried cfgs map mode access address size ≡ ranges_decide cfgs mode access (owner_in (ranges_in map)) address size
  unfolding queried
  reads-ranges map e h = rw (inside_readable address size e h)

  pub query-refused : (map : Map) → is_size size ≡ false → queried cfgs map mode access address size ≡ Refused Refusal.Size
  unfolding queried
  query-refused map e = rw (size_unreadable address size e, e)

  pub beyond-query : (map : Map) → is_size size ≡ true → top < address + size → queried cfgs map mode access address size ≡ Fault (fault_cause access) none
  unfolding queried
  beyond-query map e h = rw (beyond_unreadable address size e h, e)

  -- owners that agree on the bytes decide the same
  pub ranges_same : (f g : ℕ → ℕ) → ((b : ℕ) → address ≤ b → b < address + size → f b ≡ g b)
      → ranges_decide cfgs mode access f address size ≡ ranges_decide cfgs mode access g address size
  unfolding ranges_decide
  ranges_same f g h =
      rw (
        any_same (λ b. ltb none (f b)) (λ b. ltb none (g b)) size address (λ b l k. ap (ltb none) (h b l k)),
        owners_same cfgs mode access address size f g h,
      )

  -- owners that are entries or none decide without refusal
  pub ranges-known : (f : ℕ → ℕ) → ((b : ℕ) → address ≤ b → b < address + size → f b ≤ none)
      → ranges_decide cfgs mode access f address size ≡ owners_decide cfgs mode access f address size
  unfolding ranges_decide
  ranges-known f h = rw (any_none (λ b. ltb none (f b)) size address (λ b l k. le-ltb none (f b) (h b l k)))

  -- on a map as 01 lays it down the bytes' owners decide
  pub lawful-query : (spans : ℕ → Span) (map : Map) → IsMap spans (ranges_in map) → is_size size ≡ true → address + size ≤ top
      → queried cfgs map mode access address size ≡ owners_decide cfgs mode access (owner_of spans) address size
  lawful-query spans map m e h =
      reads-ranges map e h
      ∙ ranges_same (owner_in (ranges_in map)) (owner_of spans)
      (λ b l k. owner-read (owner_of spans) (ranges_in map) 17 0 b (map-lawful spans (ranges_in map) m) (omega arith) (omega arith))
      ∙ ranges-known (owner_of spans) (λ b l k. omega (arith, owner-bound spans b))

  -- the query on the compiled map is the byte rule
  pub query_rule : (g : ℕ) (addrs : List ℕ) → is_size size ≡ true
      → queried cfgs (compiled g cfgs addrs) mode access address size ≡ byte_rule (entry_span g cfgs addrs) cfgs mode access address size
  query_rule g addrs e = go (less top (address + size))
    where
      go : (top < address + size) ⊎ (address + size ≤ top)
          → queried cfgs (compiled g cfgs addrs) mode access address size ≡ byte_rule (entry_span g cfgs addrs) cfgs mode access address size
      go (inl x) = beyond-query (compiled g cfgs addrs) e x ∙ sym (beyond-faults (entry_span g cfgs addrs) cfgs mode access address size (size_bounds size e).0 x)
      go (inr x) =
          lawful-query (entry_span g cfgs addrs) (compiled g cfgs addrs) (compiled_is_map g cfgs addrs) e x
          ∙ sym (rule_owners (entry_span g cfgs addrs) address size cfgs mode access x)

-- ---- on a lawful map the range of the first byte tells a grant from a fault

module _ (spans : ℕ → Span) (cfgs : List ℕ) (mode : Mode) (access : Access) (address size : ℕ) where
  -- where it holds all bytes its owner decides, and else the access faults by the lowest owner of its bytes
  abbrev pub by_range : Range → Decision
  by_range r =
      cond (every_byte (holds_byte r) size address) (owner_decides cfgs mode access r.owner)
      (Fault (fault_cause access) (lowest_owner (owner_of spans) address size))

  module _ (filled : 0 < size) (r : Range) (run : Run (owner_of spans) r) (from : r.first ≤ address) (to : address ≤ r.last) (inside : address + size ≤ top) where
    own : (b : ℕ) → address ≤ b → b ≤ r.last → owner_of spans b ≡ r.owner
    own b l h = run.owned b (omega arith) h

    range_decides : (suc r.last < address + size) ⊎ (address + size ≤ suc r.last)
        → owners_decide cfgs mode access (owner_of spans) address size ≡ by_range r
    range_decides (inr x) =
        rw (every_all (holds_byte r) size address (λ b l k. holds_in r b (omega arith) (omega arith)))
        (one_decides cfgs mode access address size (owner_of spans) r.owner filled (omega (arith, own address (omega arith) to, owner-bound spans address))
        (λ b l k. own b l (omega arith)))
    range_decides (inl x) =
        let next = suc r.last in
        rw (not-true-false (every_byte (holds_byte r) size address)
        (λ q. contradiction (every_passes (holds_byte r) size address next q (omega arith) x) (holds-behind r next (omega arith))))
        (two_decide cfgs mode access address size (owner_of spans) next address (omega arith) x (omega arith) (omega arith)
        (λ d. run.ends (omega arith) (d ∙ own address (omega arith) to)))

  pub one_range-suffices : (map : Map) (r : Range) → IsMap spans (ranges_in map) → is_size size ≡ true → address + size ≤ top
      → find_range (ranges_in map) address ≡ some r → queried cfgs map mode access address size ≡ by_range r
  one_range-suffices map r m e h f =
      let p = (size_bounds size e).0 in
      let t = hit (owner_of spans) (ranges_in map) 17 0 address (map-lawful spans (ranges_in map) m) (omega arith) (omega arith) in
      let q : ◌≡◌ {A = Option Range} (some t.it) (some r) = sym t.found ∙ f in
      let same : t.it ≡ r = cc in
      lawful-query cfgs mode access address size spans map m e h
      ∙ subst (λ (x : Range). owners_decide cfgs mode access (owner_of spans) address size ≡ by_range x) same
      (range_decides p t.it t.run t.from t.to h (less (suc t.it.last) (address + size)))

-- two maps of which for each byte of the access the lowest-numbered range that holds it is the same, or missing in both, answer the same
pub same_ranges : (cfgs cfgs' : List ℕ) (map map' : Map) (mode : Mode) (access : Access) (address size : ℕ)
    → cfgs ≡ cfgs' → ((b : ℕ) → address ≤ b → b < address + size → find_range (ranges_in map) b ≡ find_range (ranges_in map') b)
    → queried cfgs map mode access address size ≡ queried cfgs' map' mode access address size
unfolding queried
same_ranges cfgs cfgs' map map' mode access address size c e =
    rw (c, ranges_same cfgs' mode access address size (owner_in (ranges_in map)) (owner_in (ranges_in map')) (λ b l h. ap owner_found (e b l h)))
