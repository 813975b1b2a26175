-- 01, "Protection, byte by byte" and "What has to be nailed": the range of a map that holds a byte, and the owner that is read there.
use Rattle.std.specs.Prelude.{ℕ, min, Bool, cond, ◌&&◌, List, [], ◌∷◌, leb, take}
use Rattle.std.proofs.Math.Option.{Option, none, some}
use Rattle.map.specs.declared.Range.{Range}
use Rattle.map.specs.declared.Map.{Map}

-- a range holds the bytes from its first to its last, both included
abbrev pub holds_byte : Range → ℕ → Bool
holds_byte r byte = leb r.first byte && leb byte r.last

-- the lowest-numbered range that holds the byte
abbrev pub find_range : List Range → ℕ → Option Range
find_range [] byte = none
find_range (r ∷ rs) byte = cond (holds_byte r byte) (some r) (find_range rs byte)

-- the ranges that a map is read by: a count above 33 is read as 33
abbrev pub ranges_in : Map → List Range
ranges_in m = take (min m.count 33) m.ranges

-- the owner of the range that was found; where there is none a number that is no entry and not "none"
abbrev pub owner_found : Option Range → ℕ
owner_found (some r) = r.owner
owner_found none = 17

-- the owner read for a byte
abbrev pub owner_in : List Range → ℕ → ℕ
owner_in ranges byte = owner_found (find_range ranges byte)
