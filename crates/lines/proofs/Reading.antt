-- Reading line after line, each in one pass, takes exactly the texts in the form and gives their words, for any list of keys.
use Prim.Native.Nat.{ℕ, zero, suc, ◌+◌, ◌*◌, ◌/◌, ◌%◌, ◌^◌, ◌≤◌, ◌<◌}
use Prim.Native.String.{String}
use mathlib.Core.Path.{◌≡◌, refl, sym, ap, ◌∙◌}
use mathlib.Core.Bool.{Bool, true, false, cond, ◌&&◌, and_assoc}
use mathlib.Core.List.{List, [], ◌∷◌, ◌++◌, map}
use native.Mathlib.Omega.{arith}
use native.Mathlib.Nat.{add-zero, div-one}
use borrow.Author.Tests.{le-leb}
use lib.Dec.{eqb}
use lib.ListN.{length, get_or, drop, drop_of_length-le, length-append}
use Rattle.bits.specs.Same.{same_list}
use Rattle.bits.proofs.Conjunction.{both, by_test}
use Rattle.bits.proofs.SameLaws.{same_lengths}
use Rattle.lines.specs.Lines.{key_of, hex_digit, hex_digits, lines_of, lines_length, digit_value, number_at, places_of, words_in, is_text}
use Rattle.std.specs.Prelude.{Option, Some, None, is_some}
use Rattle.lines.specs.Fields.{are_key, has_key, are_digits, is_word, word_at, line_at, lines_at, all_ok, words_read}
use Rattle.lines.proofs.Digits.{value_below}
use Rattle.lines.proofs.Back.{from_place, at_place, upper_part, line_parts}

-- ---- a key

key_same : (key t rest : List ℕ) (p : ℕ) → p + length key ≤ length t
    → same_list (drop p t) (key ++ rest) ≡ (are_key t p key && same_list (drop (p + length key) t) rest)
unfolding are_key same_list
key_same [] t rest p h = rw (add-zero p)
key_same (b ∷ key) t rest p h =
    let s : p + suc (length key) ≡ p + 1 + length key = omega arith in
    rw (from_place t p (omega arith), key_same key t rest (p + 1) (omega arith), s)
    (sym (and_assoc (eqb (get_or t p 0) b) (are_key t (p + 1) key) (same_list (drop (p + 1 + length key) t) rest)))

-- a text that begins with a key is judged by the key and by what follows it
pub head_same : (t key rest : List ℕ) → length key ≤ length t → same_list t (key ++ rest) ≡ (has_key t 0 key && same_list (drop (length key) t) rest)
unfolding has_key
head_same t key rest h =
    let z : 0 + length key ≡ length key = omega arith in
    key_same key t rest 0 (rw z h) ∙ rw (z, le-leb (length key) (length t) h)

-- ---- digits

-- what stands above the n lowest digits of a number is what was given
number_above : (n v : ℕ) (t : List ℕ) (p : ℕ) → number_at n v t p / 2 ^ (4 * n) ≡ v
unfolding number_at
number_above zero v t p = div-one v
number_above (suc n) v t p =
    let d = digit_value (get_or t p 0) in
    let m = number_at n (v * 16 + d) t (p + 1) in
    let y = upper_part m n in
    let z : m / 2 ^ (4 * n) ≡ v * 16 + d = number_above n (v * 16 + d) t (p + 1) in
    omega (arith, value_below (get_or t p 0))

-- bytes are the digits of their number exactly if each is a digit
digits_same : (n v : ℕ) (t rest : List ℕ) (p : ℕ) → p + n ≤ length t
    → same_list (drop p t) (hex_digits n (number_at n v t p) ++ rest) ≡ (are_digits n t p && same_list (drop (p + n) t) rest)
unfolding same_list hex_digits number_at are_digits
digits_same zero v t rest p h = rw (add-zero p)
digits_same (suc n) v t rest p h =
    let d = digit_value (get_or t p 0) in
    let m = number_at n (v * 16 + d) t (p + 1) in
    let b = value_below (get_or t p 0) in
    let e : m / 2 ^ (4 * n) % 16 ≡ d = ap (λ (x : ℕ). x % 16) (number_above n (v * 16 + d) t (p + 1)) ∙ omega arith in
    let s : p + suc n ≡ p + 1 + n = omega arith in
    rw (from_place t p (omega arith), e, digits_same n (v * 16 + d) t rest (p + 1) (omega arith), s)
    (sym (and_assoc (eqb (get_or t p 0) (hex_digit d)) (are_digits n t (p + 1)) (same_list (drop (p + 1 + n) t) rest)))

-- ---- a line

and_four : (a b c d : Bool) → (a && (b && (c && d))) ≡ ((a && (b && c)) && d)
and_four a b c d = simp and_assoc

-- a word that is read is the number of its digits
pub word_read : (t : List ℕ) (p w : ℕ) → word_at t p ≡ Some w → w ≡ number_at 16 0 t p
unfolding word_at
word_read t p w = go (is_word t p)
  where
    go : (b : Bool) → cond b (Some (number_at 16 0 t p)) None ≡ Some w → w ≡ number_at 16 0 t p
    go true e = cc
    go false e = cc

-- a word is read exactly where there is one
word_is : (t : List ℕ) (p : ℕ) → is_some (word_at t p) ≡ is_word t p
unfolding word_at
word_is t p = by_test (λ (o : Option ℕ). is_some o ≡ is_word t p) (is_word t p) (Some (number_at 16 0 t p)) None sym sym

module _ (t key : List ℕ) (p : ℕ) where
  line_is : is_some (line_at t p key) ≡ (has_key t p key && is_word t (p + length key))
  unfolding line_at
  line_is =
      let q = p + length key in
      by_test (λ (o : Option ℕ). is_some o ≡ (has_key t p key && is_word t q)) (has_key t p key) (word_at t q) None (λ e. rw e (word_is t q)) (λ e. rw e)

  -- what is read, with the key and without it, is the number of its digits
  pub line_found : is_some (line_at t p key) ≡ true
      → (line_at t p key ≡ Some (number_at 16 0 t (p + length key))) × (word_at t (p + length key) ≡ Some (number_at 16 0 t (p + length key)))
  unfolding word_at line_at
  line_found e = let h = both (has_key t p key) (is_word t (p + length key)) (sym line_is ∙ e) in (rw (h.0, h.1), rw h.1)

  module _ (room : p + length key + 17 ≤ length t) where
    line_within : is_some (line_at t p key) ≡ (are_key t p key && (are_digits 16 t (p + length key) && eqb (get_or t (p + length key + 16) 0) 10))
    unfolding has_key is_word
    line_within = line_is ∙ rw (le-leb (p + length key) (length t) (omega arith), le-leb (p + length key + 17) (length t) room)

    line_same : (rest : List ℕ)
        → same_list (drop p t) (key ++ (hex_digits 16 (number_at 16 0 t (p + length key)) ++ 10 ∷ rest))
        ≡ (is_some (line_at t p key) && same_list (drop (p + length key + 17) t) rest)
    unfolding same_list
    line_same rest =
        let q = p + length key in
        let digits = hex_digits 16 (number_at 16 0 t q) in
        let s : q + 17 ≡ q + 16 + 1 = omega arith in
        key_same key t (digits ++ 10 ∷ rest) p (omega arith)
        ∙ rw (line_within, digits_same 16 0 t (10 ∷ rest) q (omega arith), from_place t (q + 16) (omega arith), s)
        (and_four (are_key t p key) (are_digits 16 t q) (eqb (get_or t (q + 16) 0) 10) (same_list (drop (q + 16 + 1) t) rest))

-- ---- lines

pub lines-length : (ks : List String) (i : ℕ) (ws : List ℕ) → length (lines_of ks i ws) ≡ lines_length ks
unfolding lines_of lines_length hex_digits
lines-length [] i ws = refl
lines-length (k ∷ ks) i ws =
    ap length (line_parts k (get_or ws i 0) (lines_of ks (i + 1) ws))
    ∙ length-append (key_of k) (hex_digits 16 (get_or ws i 0) ++ 10 ∷ lines_of ks (i + 1) ws)
    ∙ omega (arith, lines-length ks (i + 1) ws)

module _ (t : List ℕ) where
  lines_same : (ks : List String) (ws : List ℕ) (p i : ℕ) → p + lines_length ks ≡ length t → drop i ws ≡ map (number_at 16 0 t) (places_of ks p)
      → same_list (drop p t) (lines_of ks i ws) ≡ all_ok (lines_at ks t p)
  unfolding same_list lines_of lines_length places_of lines_at all_ok
  lines_same [] ws p i h e = let l : length t ≤ p = omega arith in rw (drop_of_length-le t l)
  lines_same (k ∷ ks) ws p i h e =
      let q = p + length (key_of k) in
      let room : q + 17 ≤ length t = omega arith in
      let a = at_place ws (map (number_at 16 0 t) (places_of ks (q + 17))) i (number_at 16 0 t q) e in
      rw (line_parts k (get_or ws i 0) (lines_of ks (i + 1) ws), a.0)
      (line_same t (key_of k) p room (lines_of ks (i + 1) ws) ∙ ap (λ (b : Bool). is_some (line_at t p (key_of k)) && b) (lines_same ks ws (q + 17) (i + 1) (omega arith) a.1))

  words_same : (ks : List String) (p : ℕ) → all_ok (lines_at ks t p) ≡ true → map (number_at 16 0 t) (places_of ks p) ≡ words_read (lines_at ks t p)
  unfolding places_of lines_at all_ok words_read
  words_same [] p h = refl
  words_same (k ∷ ks) p h =
      let q = p + length (key_of k) in
      let b = both (is_some (line_at t p (key_of k))) (all_ok (lines_at ks t (q + 17))) h in
      rw ((line_found t (key_of k) p b.0).0, words_same ks (q + 17) b.1)

  -- where all lines are in the form, so is each word
  pub word_stands : (ks : List String) (p i : ℕ) → all_ok (lines_at ks t p) ≡ true → i < length ks → is_some (word_at t (get_or (places_of ks p) i 0)) ≡ true
  unfolding places_of lines_at all_ok
  word_stands [] p i h l = absurd (omega arith)
  word_stands (k ∷ ks) p zero h l =
      let q = p + length (key_of k) in
      rw (line_found t (key_of k) p (both (is_some (line_at t p (key_of k))) (all_ok (lines_at ks t (q + 17))) h).0).1
  word_stands (k ∷ ks) p (suc i) h l =
      let q = p + length (key_of k) in
      word_stands ks (q + 17) i (both (is_some (line_at t p (key_of k))) (all_ok (lines_at ks t (q + 17))) h).1 (omega arith)

  -- ---- texts

  module _ (ks : List String) where
    pub text_judged : length t ≡ lines_length ks → is_text ks t ≡ all_ok (lines_at ks t 0)
    unfolding is_text words_in
    text_judged h = lines_same ks (words_in ks t) 0 0 (omega arith) refl

    pub words_judged : all_ok (lines_at ks t 0) ≡ true → words_in ks t ≡ words_read (lines_at ks t 0)
    unfolding words_in
    words_judged h = words_same ks 0 h

    -- a text that is longer or shorter is not in the form
    pub not-text : (length t ≡ lines_length ks → ⊥) → is_text ks t ≡ false
    unfolding is_text
    not-text h = sym (same_lengths t (lines_of ks 0 (words_in ks t)) (λ e. h (e ∙ lines-length ks 0 (words_in ks t))))
