-- 02, [4]: the text of a ledger, which is twelve lines of a key, `=`, 16 lower-case hexadecimal digits and a line feed.
use Rattle.std.specs.Prelude.{ℕ, Bool, cond, ◌&&◌, List, [], ◌∷◌, ◌++◌, leb, length, drop, Option, Some, None}
use Prim.Native.String.{String}
use Rattle.lines.specs.Lines.{lines_of, words_in, is_text}
use Rattle.ledger.specs.declared.Ledger.{Ledger}
use Rattle.ledger.specs.Words.{is_ledger, ledger_of, ledger_words}

-- of the ten totals, the current tenant, and 1 where idle time runs, else 0
unfoldable pub keys : List String
keys =
    "tenant0" ∷ "tenant1" ∷ "tenant2" ∷ "tenant3" ∷ "tenant4" ∷ "tenant5" ∷ "tenant6" ∷ "tenant7" ∷ "house" ∷ "idle" ∷ "current" ∷ "resting" ∷ []

-- the text of a ledger
unfoldable pub text_of : Ledger → List ℕ
text_of l = lines_of keys 0 (ledger_words l)

-- its bytes
abbrev pub text_length : ℕ
text_length = 295

-- a text in the form: `current` may be above 7, and `resting` is at most 1
unfoldable pub is_ledger_text : List ℕ → Bool
is_ledger_text t = is_text keys t && is_ledger (words_in keys t)

-- the ledger in a text
unfoldable pub ledger_of_text : List ℕ → Ledger
ledger_of_text t = ledger_of (words_in keys t)

-- ---- reading

unfoldable pub read_ledger : List ℕ → Option Ledger
read_ledger t = cond (is_ledger_text t) (Some (ledger_of_text t)) None

-- ---- writing

abbrev pub has_room_for_text : List ℕ → Bool
has_room_for_text b = leb text_length (length b)

-- a buffer after writing: bytes past the text are unchanged, and so is a shorter buffer
unfoldable pub written_to : Ledger → List ℕ → List ℕ
written_to l b = cond (has_room_for_text b) (text_of l ++ drop text_length b) b

abbrev pub written_length : List ℕ → Option ℕ
written_length b = cond (has_room_for_text b) (Some text_length) None
