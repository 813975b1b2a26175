-- A way to compute the ranges that `IsMap` lays down, and no rule of 01: the entries' bytes are painted from the last entry to the first,
-- each over what is there. `is_map` says that it is right.
use Rattle.std.specs.Prelude.{ℕ, zero, suc, ◌-◌, min, max, cond, List, [], ◌∷◌, ◌++◌, ltb}
use Rattle.pmp.specs.declared.Span.{Span}
use Rattle.pmp.specs.Entry.{top, entries}
use Rattle.pmp.specs.Rule.{none}
use Rattle.map.specs.declared.Range.{Range}
use Rattle.map.specs.Lookup.{holds_byte}
use Rattle.map.specs.Ranges.{range}

-- the range from `first` up to but not including `end`, where there are such bytes
abbrev pub range_up_to : ℕ → ℕ → ℕ → List Range
range_up_to first end owner = cond (ltb first end) (range first (end - 1) owner ∷ []) []

-- an entry's bytes over one range: what it keeps before them, these bytes if they begin in it, what it keeps behind them
abbrev pub overlay_one : Span → ℕ → Range → List Range
overlay_one s i r =
    range_up_to r.first (min s.low (suc r.last)) r.owner
    ++ (cond (holds_byte r s.low) (range_up_to s.low s.high i) [] ++ range_up_to (max s.high r.first) (suc r.last) r.owner)

abbrev pub overlay : Span → ℕ → List Range → List Range
overlay s i [] = []
overlay s i (r ∷ rs) = overlay_one s i r ++ overlay s i rs

-- an entry that matches no byte is left out
abbrev pub paint : Span → ℕ → List Range → List Range
paint s i rs = cond (ltb s.low s.high) (overlay s i rs) rs

-- the last n entries painted over the one range without owner
unfoldable pub painted : (ℕ → Span) → ℕ → List Range
painted spans zero = range 0 (top - 1) none ∷ []
painted spans (suc n) = paint (spans (entries - suc n)) (entries - suc n) (painted spans n)

-- the ranges of the sixteen entries
unfoldable pub ranges_of : (ℕ → Span) → List Range
ranges_of spans = painted spans entries
