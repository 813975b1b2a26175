-- Texts and ledgers turn into each other without loss. Assumes nothing.
use Prim.Native.Nat.{ℕ, zero, suc, ◌<◌, ◌^◌}
use mathlib.Core.Path.{◌≡◌, sym, ap, ◌∙◌}
use mathlib.Core.Bool.{Bool, true, false, cond}
use mathlib.Core.List.{List, [], ◌∷◌}
use native.Mathlib.Omega.{arith}
use lib.ListN.{length, get_or, take}
use lib.Seq.{length-take-le}
use Rattle.bits.specs.Lists.{Words}
use Rattle.bits.proofs.Conjunction.{both}
use Rattle.lines.specs.Lines.{lines_of, words_in, is_text}
use Rattle.lines.proofs.Back.{text-only, words_found, words_back, is_text_lem}
use Rattle.ledger_text.proofs.WordLists.{words_append, two-words}
use Rattle.ledger.specs.declared.Ledger.{Ledger}
use Rattle.ledger.proofs.WordLaws as of-ledger
use Rattle.ledger.specs.Words.{is_ledger, ledger_in, ledger_of, ledger_words}
use Rattle.std.specs.Prelude.{Some}
use Rattle.ledger_text.specs.LedgerText.{keys, text_of, is_ledger_text, ledger_of_text, read_ledger}
use Rattle.ledger_text.specs.RoundTrip.{IsLedger, RoundTrip}
use Rattle.ledger_text.proofs.Form.{text-length}

-- ---- the words of a ledger

flag_below : (b : Bool) → cond b 1 0 < 2 ^ 64
flag_below true = omega arith
flag_below false = omega arith

ledger-words : (l : Ledger) → IsLedger l → Words 12 (ledger_words l)
ledger-words l i =
    words_append 10 2 l.totals (l.tenant ∷ cond l.idle 1 0 ∷ []) i.ten (two-words l.tenant (cond l.idle 1 0) i.below (flag_below l.idle))

take_below : (n : ℕ) (ws : List ℕ) → ((i : ℕ) → get_or ws i 0 < 2 ^ 64) → (i : ℕ) → get_or (take n ws) i 0 < 2 ^ 64
take_below zero ws h i = omega arith
take_below (suc n) [] h i = h i
take_below (suc n) (x ∷ ws) h zero = h 0
take_below (suc n) (x ∷ ws) h (suc i) = take_below n ws (λ k. h (suc k)) i

words-ledger : (ws : List ℕ) → Words 12 ws → IsLedger (ledger_of ws)
words-ledger ws w =
    let ten : Words 10 (take 10 ws) = record { count = length-take-le 10 ws (omega (arith, w.count)); below = take_below 10 ws w.below } in
    let r : IsLedger (ledger_in ws) = record { ten = ten; below = w.below 10 } in
    rw (of-ledger.read_twelve ws w.count) r

-- ---- a ledger and its text

ledger-back : (l : Ledger) → IsLedger l → (is_ledger_text (text_of l) ≡ true) × (ledger_of_text (text_of l) ≡ l)
unfolding keys text_of is_ledger_text ledger_of_text
ledger-back l i =
    let w = ledger-words l i in
    let b = words_back keys (ledger_words l) w in
    (rw (is_text_lem keys (ledger_words l) w, b) (of-ledger.is_ledger_lem l i.ten.count), rw b (of-ledger.ledger-back l i.ten.count))

module _ (t : List ℕ) (e : is_ledger_text t ≡ true) where
  parts : (is_text keys t ≡ true) × (is_ledger (words_in keys t) ≡ true)
  unfolding is_ledger_text
  parts = both (is_text keys t) (is_ledger (words_in keys t)) e

  text_again : t ≡ text_of (ledger_of_text t)
  unfolding text_of ledger_of_text
  text_again = text-only keys t parts.0 ∙ ap (lines_of keys 0) (sym (of-ledger.words_back (words_in keys t) parts.1))

  text-back : IsLedger (ledger_of_text t) × (t ≡ text_of (ledger_of_text t))
  unfolding keys ledger_of_text
  text-back = (words-ledger (words_in keys t) (words_found keys t), text_again)

one_text : (t u : List ℕ) → is_ledger_text t ≡ true → is_ledger_text u ≡ true → ledger_of_text t ≡ ledger_of_text u → t ≡ u
one_text t u p q e = text_again t p ∙ ap text_of e ∙ sym (text_again u q)

sized : (l : Ledger) → length (text_of l) ≡ 295
unfolding text_of
sized l = text-length (ledger_words l)

pub round_trip : RoundTrip
round_trip = record { ledger-back = ledger-back; text-back = text-back; one_text = one_text; sized = sized }

-- what is read of a ledger's text is the ledger
pub read_back_lem : (l : Ledger) → IsLedger l → read_ledger (text_of l) ≡ Some l
unfolding read_ledger
read_back_lem l i = let b = ledger-back l i in rw (b.0, b.1)
