-- Laws of the byte rule, by cases. Assumes nothing.
use mathlib.Core.Path.{◌≡◌, ap, ◌∙◌}
use mathlib.Core.Bool.{true, false, cond, ◌||◌}
use mathlib.Core.Logic.{⊎_elim}
use mathlib.Core.List.{List}
use Prim.Native.Nat.{ℕ, ◌+◌, ◌-◌, ◌≤◌, ◌<◌}
use native.Mathlib.Omega.{arith}
use Rattle.std.proofs.Common.{Some, None}
use Rattle.std.proofs.lemmas.Option.{cond_some}
use lib.Dec.{leb, ltb, eqb}
use borrow.Author.Tests.{le-leb, lt-leb, eqb-true}
use Rattle.bits.proofs.Conjunction.{one_of}
use Rattle.pmp.specs.declared.Mode.{Mode}
use Rattle.pmp.specs.declared.Access.{Access}
use Rattle.pmp.specs.declared.Span.{Span}
use Rattle.pmp.specs.declared.Found.{Found}
use Rattle.pmp.specs.declared.Decision.TheVariants.{Fault}
use Rattle.pmp.specs.Number.{fault_cause}
use Rattle.pmp.specs.Search.{lowest, any_byte, every_byte}
use Rattle.pmp.specs.Entry.{top, entries, entry_span, contains}
use Rattle.pmp.specs.Rule.{none, entry_decides, none_decides, lowest_match, match_decides, byte_rule, is_size, checked}
use Rattle.pmp.specs.Found.{found}
use Rattle.pmp.proofs.SearchLaws.{any_none, any_some}
use Rattle.pmp.proofs.FoundLaws.{unfound}

-- an access that ends at or below the limit has no byte at or above it, and any other of at least one byte has
pub none-beyond : (limit size address : ℕ) → address + size ≤ limit → any_byte (leb limit) size address ≡ false
none-beyond limit size address h = any_none (leb limit) size address (λ b l g. lt-leb limit b (omega arith))

pub some-beyond : (limit size address : ℕ) → 0 < size → limit < address + size → any_byte (leb limit) size address ≡ true
some-beyond limit size address p h =
    any_some (leb limit) size address (address + size - 1) (omega arith) (omega arith) (le-leb limit (address + size - 1) (omega arith))

module _ (spans : ℕ → Span) (cfgs : List ℕ) (mode : Mode) (access : Access) (address size : ℕ) where
  -- below the end of memory the lowest matching entry decides, and past it the access faults
  pub inside_decides : address + size ≤ top
      → byte_rule spans cfgs mode access address size ≡ match_decides spans cfgs mode access address size (lowest_match spans address size)
  unfolding byte_rule
  inside_decides h = rw (none-beyond top size address h)

  -- it is told with its byte and its bytes
  pub found_decides : (f : Found) → found spans cfgs (lowest_match spans address size) ≡ Some f → address + size ≤ top
      → byte_rule spans cfgs mode access address size
      ≡ cond (every_byte (contains f.span) size address) (entry_decides mode access f.cfg f.entry) (Fault (fault_cause access) f.entry)
  found_decides f e h =
      let w = cond_some (ltb (lowest_match spans address size) entries) _ f e in
      inside_decides h
      ∙ rw w.0 (ap (λ (g : Found). cond (every_byte (contains g.span) size address) (entry_decides mode access g.cfg g.entry) (Fault (fault_cause access) g.entry)) w.1)

  pub unfound_decides : found spans cfgs (lowest_match spans address size) ≡ None → address + size ≤ top
      → byte_rule spans cfgs mode access address size ≡ none_decides mode access
  unfound_decides e h = inside_decides h ∙ rw (unfound spans cfgs (lowest_match spans address size) e)

  pub beyond-faults : 0 < size → top < address + size → byte_rule spans cfgs mode access address size ≡ Fault (fault_cause access) none
  unfolding byte_rule
  beyond-faults p h = rw (some-beyond top size address p h)

  -- no entry matches one of no bytes
  pub empty_decides : size ≡ 0 → byte_rule spans cfgs mode access address size ≡ none_decides mode access
  unfolding byte_rule lowest_match lowest any_byte
  empty_decides e = rw e

-- the cases of the byte rule
pub ruleset rule_cases = (empty_decides, beyond-faults, found_decides, unfound_decides)

-- a size is at least 1 and at most 8
pub size_bounds : (size : ℕ) → is_size size ≡ true → (0 < size) × (size ≤ 8)
size_bounds n e =
    ⊎_elim (λ x. let q : n ≡ 1 = eqb-true n 1 x in omega arith)
    (λ y. ⊎_elim (λ x. let q : n ≡ 2 = eqb-true n 2 x in omega arith)
    (λ y. ⊎_elim (λ x. let q : n ≡ 4 = eqb-true n 4 x in omega arith)
    (λ x. let q : n ≡ 8 = eqb-true n 8 x in omega arith) (one_of (eqb n 4) (eqb n 8) y))
    (one_of (eqb n 2) (eqb n 4 || eqb n 8) y))
    (one_of (eqb n 1) (eqb n 2 || (eqb n 4 || eqb n 8)) e)

-- ---- the decision on an access as a step asks for it

module _ (g : ℕ) (cfgs addrs : List ℕ) (mode : Mode) (access : Access) (address size : ℕ) where
  pub checked_rule : is_size size ≡ true
      → checked g cfgs addrs mode access address size ≡ byte_rule (entry_span g cfgs addrs) cfgs mode access address size
  unfolding checked
  checked_rule e = rw e
