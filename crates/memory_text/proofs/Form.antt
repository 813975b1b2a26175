-- Reading a memory's text line by line is reading its form. Assumes nothing.
use Prim.Native.Nat.{ℕ, zero, suc, ◌+◌, ◌-◌, ◌*◌, ◌≤◌, ◌<◌}
use Prim.Native.String.{String}
use mathlib.Core.Path.{◌≡◌, refl, sym, ap, ◌∙◌}
use mathlib.Core.Bool.{Bool, true, false, ◌&&◌, and-false}
use mathlib.Core.List.{List, map}
use native.Mathlib.Omega.{arith}
use native.Mathlib.Numerals.{add-one}
use borrow.Author.Tests.{le-leb, lt-leb, leb-true}
use lib.Dec.{leb}
use lib.ListN.{length, set, replicate, length-replicate}
use lib.Seq.{sets, sets-eq}
use Rattle.lines.specs.Lines.{bytes_of, key_of, lines_length, number_at, places_of, words_in, is_text}
use Rattle.std.specs.Prelude.{Some, is_some}
use Rattle.lines.specs.Fields.{line_at, word_at, lines_at, all_ok}
use Rattle.bits.proofs.Conjunction.{both}
use Rattle.lines.proofs.Back.{text-only, words_found}
use Rattle.lines.proofs.Reading.{lines-length, text_judged, not-text, line_found}
use Rattle.memory_text.specs.MemoryText.{keys, word_count, most_words, is_memory_text, base_in, memory_in, is_taken, read_as, read_memory, stored_in}

-- ---- the length

words-length : (n : ℕ) → lines_length (replicate n "word") ≡ 22 * n
unfolding bytes_of lines_length
words-length zero = refl
words-length (suc n) = omega (arith, words-length n)

pub keys_length : (n : ℕ) → lines_length (keys n) ≡ 22 * n + 22
unfolding keys bytes_of lines_length
keys_length n = omega (arith, words-length n)

-- a text in the form has a line of 22 bytes for the base and each word
pub text_sized : (t : List ℕ) → is_memory_text t ≡ true → (length t ≡ 22 * word_count t + 22) × (word_count t ≤ most_words)
unfolding is_memory_text
text_sized t e =
    let ks = keys (word_count t) in
    let b = both (leb (word_count t) most_words) (is_text ks t) e in
    (ap length (text-only ks t b.1) ∙ lines-length ks 0 (words_in ks t) ∙ keys_length (word_count t), leb-true (word_count t) most_words b.0)

-- ---- judging line after line

-- the lines of n words, the first from place p on
unfoldable pub are_words : ℕ → List ℕ → ℕ → Bool
are_words n t p = all_ok (lines_at (replicate n "word") t p)

pub length-refused : (t : List ℕ) → (length t ≡ 22 * word_count t + 22 → ⊥) → false ≡ is_memory_text t
unfolding is_memory_text
length-refused t h =
    let n = not-text t (keys (word_count t)) (λ e. h (e ∙ keys_length (word_count t))) in
    rw (n, and-false (leb (word_count t) most_words))

pub more_refused : (t : List ℕ) → most_words < word_count t → false ≡ is_memory_text t
unfolding is_memory_text
more_refused t h = rw (lt-leb (word_count t) most_words h)

module _ (t : List ℕ) where
  pub lines_start : length t ≡ 22 * word_count t + 22 → word_count t ≤ most_words
      → is_memory_text t ≡ (is_some (line_at t 0 (key_of "base")) && are_words (word_count t) t 22)
  unfolding bytes_of keys lines_at all_ok is_memory_text are_words
  lines_start h l = rw (le-leb (word_count t) most_words l, text_judged t (keys (word_count t)) (h ∙ sym (keys_length (word_count t))))

  -- what is known of a text in the form
  pub lines_formed : is_memory_text t ≡ true → (is_some (line_at t 0 (key_of "base")) ≡ true) × (are_words (word_count t) t 22 ≡ true)
  lines_formed e =
      let s = text_sized t e in
      both (is_some (line_at t 0 (key_of "base"))) (are_words (word_count t) t 22) (sym (lines_start s.0 s.1) ∙ e)

  -- the first of the lines that are left
  pub lines_more : (m n p q : ℕ) → m ≡ suc n → q ≡ p + 22 → are_words m t p ≡ (is_some (line_at t p (key_of "word")) && are_words n t q)
  unfolding bytes_of lines_at all_ok are_words
  lines_more m n p q e d = let s : p + 22 ≡ p + 5 + 17 = omega arith in rw (e, d, s)

  pub lines_passed : (m p : ℕ) → m ≡ 0 → are_words m t p ≡ true
  unfolding lines_at all_ok are_words
  lines_passed m p e = rw e

  -- of n words, i are passed
  pub word_left : (n i : ℕ) → i < n → are_words (n - i) t (22 * (i + 1)) ≡ true
      → (word_at t (22 * i + 27) ≡ Some (number_at 16 0 t (22 * i + 27))) × (are_words (n - (i + 1)) t (22 * (i + 1 + 1)) ≡ true)
  unfolding bytes_of
  word_left n i h e =
      let p = 22 * (i + 1) in
      let q : p + 5 ≡ 22 * i + 27 = omega arith in
      let more = lines_more (n - i) (n - (i + 1)) p (22 * (i + 1 + 1)) (omega arith) (omega arith) in
      let b = both (is_some (line_at t p (key_of "word"))) (are_words (n - (i + 1)) t (22 * (i + 1 + 1))) (sym more ∙ e) in
      (rw q at (line_found t (key_of "word") p b.0).1, b.1)

-- ---- storing word after word

-- n words, the line of the first from place p on
unfoldable pub words_from : ℕ → List ℕ → ℕ → List ℕ
words_from n t p = map (number_at 16 0 t) (places_of (replicate n "word") p)

module _ (t : List ℕ) where
  pub base_found : base_in t ≡ number_at 16 0 t 5
  unfolding bytes_of keys places_of words_in base_in
  base_found = refl

  pub words-start : (ws : List ℕ) → sets ws 0 (memory_in t) ≡ sets ws 0 (words_from (word_count t - 0) t 22)
  unfolding bytes_of keys places_of words_in memory_in words_from
  words-start ws = let m : word_count t - 0 ≡ word_count t = omega arith in rw m

  pub memory-length : length (memory_in t) ≡ word_count t
  unfolding bytes_of keys places_of words_in memory_in
  memory-length = omega (arith, (words_found (keys (word_count t)) t).count, length-replicate {A = String} (word_count t) "word")

  -- of n words, i are stored
  module _ (n i : ℕ) (ws : List ℕ) where
    pub words_more : i < n → sets ws i (words_from (n - i) t (22 * i + 22))
        ≡ sets (set ws i (number_at 16 0 t (22 * i + 27))) (i + 1) (words_from (n - (i + 1)) t (22 * (i + 1) + 22))
    unfolding bytes_of places_of words_from
    words_more h =
        let m : n - i ≡ suc (n - (i + 1)) = omega arith in
        let p : 22 * (i + 1) + 22 ≡ 22 * i + 22 + 5 + 17 = omega arith in
        let q : 22 * i + 22 + 5 ≡ 22 * i + 27 = omega arith in
        rw (m, p, q, add-one i)

    pub words-all : n ≤ i → sets ws i (words_from (n - i) t (22 * i + 22)) ≡ ws
    unfolding places_of words_from
    words-all h = let m : n - i ≡ 0 = omega arith in rw m

-- ---- the answer

module _ (t s : List ℕ) where
  pub is_taken_lem : is_memory_text t ≡ true → word_count t ≤ length s → is_taken t (length s) ≡ true
  unfolding is_taken
  is_taken_lem e h = rw (e, le-leb (word_count t) (length s) h)

  pub all-stored : (b : ℕ) (x : List ℕ) → is_taken t (length s) ≡ true → word_count t ≤ length s → b ≡ number_at 16 0 t 5 → sets s 0 (memory_in t) ≡ x
      → (read_as b (word_count t) ≡ read_memory t (length s)) × (x ≡ stored_in t s)
  unfolding read_memory stored_in
  all-stored b x e h d q =
      let l : 0 + length (memory_in t) ≤ length s = omega (arith, memory-length t) in
      let k : 0 + length (memory_in t) ≡ word_count t = omega (arith, memory-length t) in
      (rw (e, d, base_found t), sym q ∙ rw (sets-eq (memory_in t) s 0 l, e, k))
