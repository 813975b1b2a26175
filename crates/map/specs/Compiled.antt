-- 01, "Steps": a "freshly compiled map". It holds the ranges of the registers, and past its count the same range at every place.
use Rattle.std.specs.Prelude.{ℕ, ◌-◌, List, ◌++◌, length, replicate}
use Rattle.pmp.specs.Entry.{entry_span}
use Rattle.pmp.specs.Rule.{none}
use Rattle.map.specs.declared.Range.{Range}
use Rattle.map.specs.declared.Map.{Map}
use Rattle.map.specs.Ranges.{range}
use Rattle.map.specs.Painting.{ranges_of}

-- what stands past the count
abbrev pub padding : Range
padding = range 0 0 none

-- the map of a list of ranges
abbrev pub map_of : List Range → Map
map_of rs = record { count = length rs; ranges = rs ++ replicate (33 - length rs) padding }

-- the map of the grain, the configuration bytes and the address registers
unfoldable pub compiled : ℕ → List ℕ → List ℕ → Map
compiled g cfgs addrs = map_of (ranges_of (entry_span g cfgs addrs))
