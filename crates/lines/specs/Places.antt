-- The algorithm of writing, and no rule of 01: words written to given places of a text.
use Rattle.std.specs.Prelude.{ℕ, ◌+◌, Bool, cond, List, [], ◌∷◌, leb, length, get_or}
use Rattle.std.proofs.lemmas.List.Edits.{sets}
use Rattle.lines.specs.Lines.{hex_digits}

-- so many bytes from place p on lie within a text of length n
abbrev pub has_room : ℕ → ℕ → ℕ → Bool
has_room n p size = leb (p + size) n

-- the text with the word's digits from place p on; as it was where they have no room
unfoldable pub with_word : ℕ → ℕ → List ℕ → List ℕ
with_word p w t = cond (has_room (length t) p 16) (sets t p (hex_digits 16 w)) t

-- a word at each place, from number i on; a word that is missing is 0
unfoldable pub with_words : List ℕ → ℕ → List ℕ → List ℕ → List ℕ
with_words [] i ws t = t
with_words (p ∷ ps) i ws t = with_words ps (i + 1) ws (with_word p (get_or ws i 0) t)
