-- The program's MEMORY: a line `base=`, then a line `word=` for each word, each with 16 lower-case hexadecimal digits and a line feed.
use Rattle.std.specs.Prelude.{ℕ, ◌-◌, ◌/◌, Bool, cond, ◌&&◌, List, ◌∷◌, ◌++◌, leb, length, get_or, drop, replicate, Option, Some, None}
use Prim.Native.String.{String}
use Rattle.lines.specs.Lines.{lines_of, words_in, is_text}
use Rattle.memory_text.specs.declared.Reading.{Reading}

-- in the text of n words
unfoldable pub keys : ℕ → List String
keys n = "base" ∷ replicate n "word"

-- the text of a memory
unfoldable pub text_of : ℕ → List ℕ → List ℕ
text_of base ws = lines_of (keys (length ws)) 0 (base ∷ ws)

-- a text has so many words: each line is 22 bytes, and the first is that of the base
abbrev pub word_count : List ℕ → ℕ
word_count t = length t / 22 - 1

abbrev pub most_words : ℕ
most_words = 65536

-- a text in the form
unfoldable pub is_memory_text : List ℕ → Bool
is_memory_text t = leb (word_count t) most_words && is_text (keys (word_count t)) t

-- the base and the words in a text
unfoldable pub base_in : List ℕ → ℕ
base_in t = get_or (words_in (keys (word_count t)) t) 0 0

unfoldable pub memory_in : List ℕ → List ℕ
memory_in t = drop 1 (words_in (keys (word_count t)) t)

-- ---- reading to a slice

-- the text is in the form, and a slice of this length has room for its words
unfoldable pub is_taken : List ℕ → ℕ → Bool
is_taken t room = is_memory_text t && leb (word_count t) room

abbrev pub read_as : ℕ → ℕ → Option Reading
read_as base count = Some (record { base = base; count = count })

unfoldable pub read_memory : List ℕ → ℕ → Option Reading
read_memory t room = cond (is_taken t room) (read_as (base_in t) (word_count t)) None

-- the slice afterwards: the words at its front, and the rest as it was; all of it where the text is not taken
unfoldable pub stored_in : List ℕ → List ℕ → List ℕ
stored_in t s = cond (is_taken t (length s)) (memory_in t ++ drop (word_count t) s) s
