-- The text of a ledger as the program writes and reads it: it computes with the words as variables.
use Prim.Native.Nat.{ℕ, ◌+◌, ◌≤◌, ◌<◌}
use mathlib.Core.Path.{◌≡◌, refl, sym, ap, ◌∙◌}
use mathlib.Core.Bool.{Bool, true, false, ◌&&◌, and-false}
use mathlib.Core.List.{List, [], ◌++◌, map}
use native.Mathlib.Numerals.{add-one}
use borrow.Author.Tests.{le-leb}
use lib.ListN.{length, get_or, drop, set, replicate, drop_of_length-le}
use lib.Seq.{sets}
use Rattle.bits.specs.Same.{same_list}
use Rattle.bits.proofs.Conjunction.{contradiction, not-true-false}
use Rattle.bits.proofs.SameLaws.{same_refl}
use Rattle.lines.specs.Lines.{bytes_of, hex_digits, line_of, lines_of, lines_length, number_at, places_of, words_in, is_text}
use Rattle.lines.specs.Places.{with_word, with_words}
use Rattle.std.specs.Prelude.{Some, None, is_some}
use Rattle.lines.specs.Fields.{word_at}
use Rattle.lines.proofs.Back.{from_place, text-only}
use Rattle.lines.proofs.Reading.{lines-length, not-text, text_judged, word_stands}
use Rattle.ledger.specs.declared.Ledger.{Ledger}
use Rattle.ledger.specs.Words.{is_ledger, ledger_of, stored_in}
use Rattle.ledger.proofs.WordLaws.{stored_twelve}
use Rattle.ledger_text.specs.LedgerText.{keys, text_of, text_length, is_ledger_text, ledger_of_text, read_ledger, written_to, written_length}

abbrev pub places : List ℕ
places = places_of keys 0

pub keys_length : lines_length keys ≡ text_length
unfolding bytes_of keys lines_length
keys_length = refl

pub text-length : (ws : List ℕ) → length (lines_of keys 0 ws) ≡ text_length
text-length ws = lines-length keys 0 ws ∙ keys_length

-- ---- writing

-- the lines of zeros with the words at their places are the lines of the words
pub lines_filled : (ws : List ℕ) → with_words places 0 ws (lines_of keys 0 []) ≡ lines_of keys 0 ws
unfolding bytes_of keys hex_digits line_of lines_of places_of with_word with_words
lines_filled ws = refl

module _ (l : Ledger) (b : List ℕ) where
  -- a text is copied to the front
  pub text-written : (t x : List ℕ) (ws : List ℕ) → text_length ≤ length b → ws ≡ stored_in l (replicate 12 0) → t ≡ lines_of keys 0 ws
      → x ≡ t ++ drop text_length b → (Some text_length ≡ written_length b) × (x ≡ written_to l b)
  unfolding text_of written_to
  text-written t x ws h d e c =
      let r = le-leb text_length (length b) h in
      (rw r, c ∙ rw (r, e, d, stored_twelve l (replicate 12 0) refl))

-- ---- reading

-- a word for each place, of which i are read
module _ (t : List ℕ) where
  pub words-start : words_in keys t ≡ sets (replicate 12 0) 0 (map (number_at 16 0 t) (drop 0 places))
  unfolding bytes_of keys places_of words_in
  words-start = refl

  pub words_more : (ws : List ℕ) (i w : ℕ) → i < 12 → w ≡ number_at 16 0 t (get_or places i 0)
      → sets ws i (map (number_at 16 0 t) (drop i places)) ≡ sets (set ws i w) (i + 1) (map (number_at 16 0 t) (drop (i + 1) places))
  unfolding bytes_of keys places_of
  words_more ws i w h e = rw (from_place places i h, e, add-one i)

  -- a text with a broken word is not in the form
  pub word_broken : (i : ℕ) → i < 12 → length t ≡ text_length → word_at t (get_or places i 0) ≡ None → is_text keys t ≡ false
  unfolding keys
  word_broken i h n e = not-true-false (is_text keys t) (λ f.
      let s = word_stands t keys 0 i (sym (text_judged t keys (n ∙ sym keys_length)) ∙ f) h in
      let z : is_some (word_at t (get_or places i 0)) ≡ false = rw e in
      contradiction s z)

  pub words-all : (ws : List ℕ) (i : ℕ) → 12 ≤ i → sets ws i (map (number_at 16 0 t) (drop i places)) ≡ ws
  unfolding bytes_of keys places_of
  words-all ws i h = rw (drop_of_length-le places h)

  -- ---- the answer

  pub unread : is_ledger_text t ≡ false → None ≡ read_ledger t
  unfolding read_ledger
  unread e = rw e

  -- the text is longer or shorter
  pub length-unread : (length t ≡ text_length → ⊥) → None ≡ read_ledger t
  unfolding is_ledger_text
  length-unread h = unread (rw (not-text t keys (λ e. h (e ∙ keys_length))))

  pub form_unread : is_text keys t ≡ false → None ≡ read_ledger t
  unfolding is_ledger_text
  form_unread e = unread (rw e)

  -- u is the text of the words that are found
  module _ (ws u : List ℕ) (w : ws ≡ words_in keys t) (d : u ≡ lines_of keys 0 ws) where
    again : u ≡ lines_of keys 0 (words_in keys t)
    again = rw (← w) d

    pub other-unread : (t ≡ u → ⊥) → None ≡ read_ledger t
    other-unread h = form_unread (not-true-false (is_text keys t) (λ e. h (text-only keys t e ∙ sym again)))

    pub resting_unread : is_ledger ws ≡ false → None ≡ read_ledger t
    unfolding is_ledger_text
    resting_unread e = unread (ap (λ (b : Bool). is_text keys t && b) (ap is_ledger (sym w) ∙ e) ∙ and-false (is_text keys t))

    pub text-read : t ≡ u → is_ledger ws ≡ true → Some (ledger_of ws) ≡ read_ledger t
    unfolding is_text is_ledger_text ledger_of_text read_ledger
    text-read e i =
        let s : is_text keys t ≡ true = ap (same_list t) (sym (e ∙ again)) ∙ same_refl t in
        rw (s, ← w, i)
