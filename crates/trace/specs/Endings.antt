-- What replay writes behind the lines of the records: the saved text of the end state, the ranges of the map, and the bytes left over.
use Rattle.std.specs.Prelude.{ℕ, cond, List, [], ◌∷◌, ◌++◌, ◌==◌}
use Rattle.pmp.specs.Rule.{none}
use Rattle.map.specs.declared.Map.{Map}
use Rattle.map.specs.declared.Range.{Range}
use Rattle.map.specs.Lookup.{ranges_in}
use Rattle.hart.specs.declared.Hart.{Hart}
use Rattle.lines.specs.Lines.{bytes_of, hex_digits}
use Rattle.trace.specs.Answers.{decimal, numbered_line}
use Rattle.trace.specs.SavedTexts.{state_text}

unfoldable pub owner_text : ℕ → List ℕ
owner_text owner = cond (owner == none) (bytes_of "none") (decimal owner)

unfoldable pub range_line : Range → List ℕ
range_line r =
    bytes_of "range " ++ (hex_digits 16 r.first ++ (bytes_of " " ++ (hex_digits 16 r.last ++ (bytes_of " " ++ (owner_text r.owner ++ bytes_of "\n")))))

unfoldable pub range_lines : List Range → List ℕ
range_lines [] = []
range_lines (r ∷ rs) = range_line r ++ range_lines rs

unfoldable pub ending : Hart → Map → ℕ → List ℕ
ending h map left = state_text h ++ (range_lines (ranges_in map) ++ numbered_line (bytes_of "left ") left)
