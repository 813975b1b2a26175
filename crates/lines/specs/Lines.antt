-- 01, "Saved text": lines of a key, `=`, 16 lower-case hexadecimal digits and a line feed, for any list of keys. The words come in the keys' order.
use Rattle.std.specs.Prelude.{ℕ, zero, suc, ◌+◌, ◌*◌, ◌/◌, ◌%◌, ◌^◌, Bool, cond, List, [], ◌∷◌, ◌++◌, map, ltb, length, get_or}
use Prim.Native.String.{String, [] as []ˢ, ◌∷◌ as ◌∷ˢ◌}
use Prim.Native.Char.{code}
use Rattle.bits.specs.Same.{same_list}

unfoldable pub bytes_of : String → List ℕ
bytes_of []ˢ = []
bytes_of (c ∷ˢ s) = code c ∷ bytes_of s

-- a key with its `=`
abbrev pub key_of : String → List ℕ
key_of k = bytes_of k ++ 61 ∷ []

-- ---- writing

-- 0 to 9, then a to f
abbrev pub hex_digit : ℕ → ℕ
hex_digit d = cond (ltb d 10) (48 + d) (87 + d)

-- the lowest n digits of a word, the highest first
unfoldable pub hex_digits : ℕ → ℕ → List ℕ
hex_digits zero w = []
hex_digits (suc n) w = hex_digit (w / 2 ^ (4 * n) % 16) ∷ hex_digits n w

unfoldable pub line_of : String → ℕ → List ℕ
line_of k w = key_of k ++ (hex_digits 16 w ++ 10 ∷ [])

-- a line for each key, with the words from number i on
unfoldable pub lines_of : List String → ℕ → List ℕ → List ℕ
lines_of [] i ws = []
lines_of (k ∷ ks) i ws = line_of k (get_or ws i 0) ++ lines_of ks (i + 1) ws

-- the length of these lines
unfoldable pub lines_length : List String → ℕ
lines_length [] = 0
lines_length (k ∷ ks) = length (key_of k) + 17 + lines_length ks

-- ---- reading

-- what a digit stands for; what it says of a byte that is no digit does not matter
abbrev pub digit_value : ℕ → ℕ
digit_value b = cond (ltb b 58) (b % 16) ((b + 9) % 16)

-- the number of the n digits from place p on, after those that gave w
unfoldable pub number_at : ℕ → ℕ → List ℕ → ℕ → ℕ
number_at zero w t p = w
number_at (suc n) w t p = number_at n (w * 16 + digit_value (get_or t p 0)) t (p + 1)

-- where the digits behind each key start, the first key being at place p
unfoldable pub places_of : List String → ℕ → List ℕ
places_of [] p = []
places_of (k ∷ ks) p = (p + length (key_of k)) ∷ places_of ks (p + length (key_of k) + 17)

-- the words behind the keys
unfoldable pub words_in : List String → List ℕ → List ℕ
words_in ks t = map (number_at 16 0 t) (places_of ks 0)

-- a text in the form of the keys: it is the text of the words in it
unfoldable pub is_text : List String → List ℕ → Bool
is_text ks t = same_list t (lines_of ks 0 (words_in ks t))
