-- The algorithm of reading, and no rule of 01: lines read by a template, which is a text with all the keys, and the places of its digits.
use Rattle.std.specs.Prelude.{ℕ, ◌+◌, ◌-◌, Bool, true, cond, ◌&&◌, List, [], ◌∷◌, leb, take, drop, Option, None}
use Rattle.lines.specs.Fields.{has_key, word_at}

-- line after line, the first from place p on, within a template of length n
unfoldable pub in_order : ℕ → List ℕ → ℕ → Bool
in_order n [] p = true
in_order n (d ∷ ds) p = (leb p d && leb (d + 17) n) && in_order n ds (d + 17)

-- a line for each place of digits; its key stands in the template from the end of the line before up to them
unfoldable pub lines_by : List ℕ → List ℕ → List ℕ → ℕ → List (Option ℕ)
lines_by template [] t p = []
lines_by template (d ∷ ds) t p =
    cond (has_key t p (take (d - p) (drop p template))) (word_at t d) None ∷ lines_by template ds t (d + 17)
