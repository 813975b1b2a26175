-- A ledger in twelve words: ten totals, the current tenant, and 1 where idle time runs, else 0; and what ledger a slice lends.
use Rattle.std.specs.Prelude.{ℕ, Bool, false, cond, ◌&&◌, List, [], ◌∷◌, ◌++◌, eqb, leb, length, get_or, take, Option, Some, None}
use Rattle.std.specs.Result.{result_unwrap_or}
use Rattle.ledger.specs.declared.Ledger.{Ledger}
use Rattle.ledger.specs.declared.Posting.{Posting}
use Rattle.ledger.specs.declared.Refusal.{Refusal}
use Rattle.ledger.specs.Rules.{new_ledger, refusal_by, settled}

unfoldable pub is_ledger : List ℕ → Bool
is_ledger words = cond (eqb (length words) 12) (leb (get_or words 11 0) 1) false

abbrev pub ledger_in : List ℕ → Ledger
ledger_in words = record { totals = take 10 words; tenant = get_or words 10 0; idle = eqb (get_or words 11 0) 1 }

-- words of another number are a new ledger
unfoldable pub ledger_of : List ℕ → Ledger
ledger_of words = cond (eqb (length words) 12) (ledger_in words) new_ledger

abbrev pub ledger_words : Ledger → List ℕ
ledger_words l = l.totals ++ (l.tenant ∷ cond l.idle 1 0 ∷ [])

unfoldable pub stored_in : Ledger → List ℕ → List ℕ
stored_in l words = cond (eqb (length words) 12) (ledger_words l) words

-- the ledger that words lend: any that are not a ledger's lend none
unfoldable pub lent_by : List ℕ → Option Ledger
lent_by words = cond (is_ledger words) (Some (ledger_of words)) None

-- the words of the ledger left; where none was lent they stay
abbrev pub words_left : List ℕ → Option Ledger → List ℕ
words_left words None = words
words_left words (Some l) = ledger_words l

-- ---- a step and the ledger that words lend

-- words lend a ledger, and there is such a step with one
abbrev pub lends_for : List ℕ → ℕ → Bool
lends_for words step = is_ledger words && leb step 18

-- its refusal by that ledger
unfoldable pub refusal_in : List ℕ → (step a b mode : ℕ) → Option Refusal
refusal_in words step a b mode = cond (lends_for words step) (refusal_by (ledger_of words) step a b mode) None

-- the words after a posting; a refusal leaves them
unfoldable pub posted_in : List ℕ → Posting → List ℕ
posted_in words p = cond (lends_for words p.step) (ledger_words (result_unwrap_or (settled (ledger_of words) p) (ledger_of words))) words
