-- A map as 100 words: its count, then first byte, last byte and owner of each of its 33 ranges, 16 for no owner. Any number of words is read as a map:
-- one or two words short of a range are left out.
use Rattle.std.specs.Prelude.{ℕ, List, [], ◌∷◌}
use Rattle.map.specs.declared.Range.{Range}
use Rattle.map.specs.declared.Map.{Map}
use Rattle.map.specs.Ranges.{range}

-- a range for every three words
abbrev pub ranges_of_words : List ℕ → List Range
ranges_of_words [] = []
ranges_of_words (first ∷ []) = []
ranges_of_words (first ∷ last ∷ []) = []
ranges_of_words (first ∷ last ∷ owner ∷ rest) = range first last owner ∷ ranges_of_words rest

abbrev pub range_words : List Range → List ℕ
range_words [] = []
range_words (r ∷ rs) = r.first ∷ r.last ∷ r.owner ∷ range_words rs

abbrev pub map_of_words : List ℕ → Map
map_of_words [] = record { count = 0; ranges = [] }
map_of_words (count ∷ rest) = record { count = count; ranges = ranges_of_words rest }

abbrev pub map_words : Map → List ℕ
map_words m = m.count ∷ range_words m.ranges
