-- 01, "Protection, byte by byte": "The map lists ranges (first byte, last byte, owner), owner being the lowest entry matching each byte or none.
-- In order, no gap, no overlap, from 0 to 2^56-1, neighbours never with one owner."
use Rattle.std.specs.Prelude.{ℕ, suc, ◌≤◌, ◌≡◌, List, [], ◌∷◌}
use Rattle.pmp.specs.declared.Span.{Span}
use Rattle.pmp.specs.Entry.{top}
use Rattle.pmp.specs.Rule.{owner_of}
use Rattle.map.specs.declared.Range.{Range}

abbrev pub range : ℕ → ℕ → ℕ → Range
range first last owner = record { first = first; last = last; owner = owner }

-- what is read past the last range
abbrev pub no_range : Range
no_range = range 0 0 0

-- each byte of a range has its owner
abbrev pub Owned : (ℕ → ℕ) → List Range → Type 0
Owned owner [] = Unit {0}
Owned owner (r ∷ rs) = ((byte : ℕ) → r.first ≤ byte → byte ≤ r.last → owner byte ≡ r.owner) × Owned owner rs

-- in order, no gap, no overlap, from byte `from` to 2^56-1
abbrev pub Covers : ℕ → List Range → Type 0
Covers from [] = from ≡ top
Covers from (r ∷ rs) = (r.first ≡ from) × (r.first ≤ r.last) × Covers (suc r.last) rs

-- neighbours never with one owner
abbrev pub Parted : List Range → Type 0
Parted [] = Unit {0}
Parted (r ∷ []) = Unit {0}
Parted (r ∷ s ∷ rs) = (r.owner ≡ s.owner → ⊥) × Parted (s ∷ rs)

-- the ranges are the map of the entries, of which `spans` gives the bytes; no other list is (`unique`)
pub record IsMap (spans : ℕ → Span) (ranges : List Range) : Type 0 where
  pub owned : Owned (owner_of spans) ranges
  pub covers : Covers 0 ranges
  pub parted : Parted ranges
