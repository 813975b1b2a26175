-- The algorithm of reading, and no rule of 01: lines read one after the other, each in one pass over its bytes.
use Rattle.std.specs.Prelude.{ℕ, zero, suc, ◌+◌, Bool, true, cond, ◌&&◌, List, [], ◌∷◌, eqb, length, get_or, Option, Some, None, is_some, unwrap_or}
use Prim.Native.String.{String}
use Rattle.lines.specs.Lines.{key_of, hex_digit, digit_value, number_at}
use Rattle.lines.specs.Places.{has_room}

-- the bytes from place p on are those of a key
unfoldable pub are_key : List ℕ → ℕ → List ℕ → Bool
are_key t p [] = true
are_key t p (b ∷ key) = eqb (get_or t p 0) b && are_key t (p + 1) key

-- a key stands at place p
unfoldable pub has_key : List ℕ → ℕ → List ℕ → Bool
has_key t p key = has_room (length t) p (length key) && are_key t p key

-- the n bytes from place p on are digits: each is the digit of its value
unfoldable pub are_digits : ℕ → List ℕ → ℕ → Bool
are_digits zero t p = true
are_digits (suc n) t p = eqb (get_or t p 0) (hex_digit (digit_value (get_or t p 0))) && are_digits n t (p + 1)

-- the digits and the line feed stand from place p on, where the text has them
unfoldable pub is_word : List ℕ → ℕ → Bool
is_word t p = has_room (length t) p 17 && (are_digits 16 t p && eqb (get_or t (p + 16) 0) 10)

-- the number that the sixteen bytes give as digits, whether they are digits or not; 0 where a word has no room
unfoldable pub number_given : List ℕ → ℕ → ℕ
number_given t p = cond (has_room (length t) p 17) (number_at 16 0 t p) 0

-- the word of the digits
unfoldable pub word_at : List ℕ → ℕ → Option ℕ
word_at t p = cond (is_word t p) (Some (number_at 16 0 t p)) None

-- the word of the line from place p on: the key, with its `=`, and the word behind it
unfoldable pub line_at : List ℕ → ℕ → List ℕ → Option ℕ
line_at t p key = cond (has_key t p key) (word_at t (p + length key)) None

-- a line for each key, from the place where the one before ended
unfoldable pub lines_at : List String → List ℕ → ℕ → List (Option ℕ)
lines_at [] t p = []
lines_at (k ∷ ks) t p = line_at t p (key_of k) ∷ lines_at ks t (p + length (key_of k) + 17)

-- each line is in the form
unfoldable pub all_ok : List (Option ℕ) → Bool
all_ok [] = true
all_ok (w ∷ ws) = is_some w && all_ok ws

-- the words of the lines, 0 for one that is not in the form
unfoldable pub words_read : List (Option ℕ) → List ℕ
words_read [] = []
words_read (w ∷ ws) = unwrap_or w 0 ∷ words_read ws
