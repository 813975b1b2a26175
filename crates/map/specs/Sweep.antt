-- The algorithm of `compile`, and no rule of 01: the ranges are found from the lowest byte up, each to where the owner changes.
use Rattle.std.specs.Prelude.{ℕ, zero, suc, ◌-◌, ◌≤◌, ◌<◌, min, cond, List, ltb, get_or}
use Rattle.pmp.specs.declared.Span.{Span}
use Rattle.pmp.specs.Entry.{top, entries, span}
use Rattle.map.specs.declared.Range.{Range}
use Rattle.map.specs.Ranges.{range}

-- an entry that matches no byte stands as the bytes from 0 up to 0
abbrev pub normalized : Span → Span
normalized s = cond (ltb s.low s.high) s (span 0 0)

-- entries' bytes of which each starts nowhere past 0 but where there are some
pub record Normalized (spans : ℕ → Span) : Type 0 where
  pub some : (i : ℕ) → i < entries → 0 < (spans i).low → (spans i).low < (spans i).high
  pub below : (i : ℕ) → i < entries → (spans i).high ≤ top

-- the entries' bytes, from an array of them
abbrev pub spans_in : List Span → ℕ → Span
spans_in spans i = get_or spans i (record { low = 0; high = 0 })

-- the range from byte `at` on by the n entries from i on, where those below i leave it the bytes up to `end`:
-- the first to match the byte owns it, up to its end or to where an entry before it starts
unfoldable pub range_from : (ℕ → Span) → ℕ → ℕ → ℕ → ℕ → Range
range_from spans at zero i end = range at (end - 1) i
range_from spans at (suc n) i end =
    cond (ltb at (spans i).low)
    (range_from spans at n (suc i) (min end (spans i).low))
    (cond (ltb at (spans i).high) (range at (min end (spans i).high - 1) i) (range_from spans at n (suc i) end))
