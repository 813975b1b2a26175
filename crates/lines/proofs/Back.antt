-- Texts and words turn into each other without loss, for any list of keys.
use Prim.Native.Nat.{ℕ, zero, suc, ◌+◌, ◌-◌, ◌*◌, ◌/◌, ◌%◌, ◌^◌, ◌≤◌, ◌<◌}
use Prim.Native.String.{String}
use mathlib.Core.Path.{◌≡◌, refl, sym, ap, ◌∙◌}
use mathlib.Core.Bool.{Bool, true, false, cond}
use mathlib.Core.List.{List, [], ◌∷◌, ◌++◌, map, append_assoc}
use native.Mathlib.Omega.{arith}
use native.Mathlib.Numerals.{add-one}
use native.Mathlib.Nat.{add-zero, div-div-eq-div-mul, div-eq_of_lt, div-one}
use lib.Dec.{ltb}
use lib.Pow.{pow-add}
use borrow.Author.Tests.{lt-ltb, le-ltb, ltb-true, ltb-false}
use lib.ListN.{length, get_or, drop, drop_of_length-le, length-map}
use lib.Seq.{get_or-drop, drop-drop, drop-cons, drop-append_seam}
use Rattle.lines.specs.Lines.{key_of, hex_digit, hex_digits, line_of, lines_of, digit_value, number_at, places_of, words_in, is_text}
use Rattle.lines.proofs.Digits.{number_fits, value_below}
use Rattle.bits.specs.Lists.{Words}
use Rattle.bits.proofs.SameLaws.{same_refl, same_eq}

-- ---- a place of a list

pub from_place : (t : List ℕ) (p : ℕ) → p < length t → drop p t ≡ get_or t p 0 ∷ drop (p + 1) t
from_place t p h = drop-cons t p 0 h ∙ ap (λ (k : ℕ). get_or t p 0 ∷ drop k t) (sym (add-one p))

pub at_place : (t s : List ℕ) (p x : ℕ) → drop p t ≡ x ∷ s → (get_or t p 0 ≡ x) × (drop (p + 1) t ≡ s)
at_place t s p x e = (
  ap (λ (k : ℕ). get_or t k 0) (sym (add-zero p)) ∙ sym (get_or-drop p t 0 0) ∙ ap (λ (l : List ℕ). get_or l 0 0) e,
  sym (drop-drop 1 p t) ∙ ap (drop 1) e,
)

-- ---- one word

-- a digit read is the digit written
digit_back : (d : ℕ) → d < 16 → digit_value (hex_digit d) ≡ d
digit_back d h = go (ltb d 10) refl
  where
    go : (b : Bool) → ltb d 10 ≡ b → digit_value (cond b (48 + d) (87 + d)) ≡ d
    go true e = let l : 48 + d < 58 = omega (arith, ltb-true d 10 e) in rw (lt-ltb (48 + d) 58 l) (omega (arith, ltb-true d 10 e))
    go false e = let l : 58 ≤ 87 + d = omega (arith, ltb-false d 10 e) in rw (le-ltb (87 + d) 58 l) (omega (arith, ltb-false d 10 e))

-- the upper part of a number, one digit longer
pub upper_part : (w n : ℕ) → w / 2 ^ (4 * suc n) ≡ w / 2 ^ (4 * n) / 16
upper_part w n =
    let k : 4 * suc n ≡ 4 * n + 4 = omega arith in
    ap (λ (m : ℕ). w / 2 ^ m) k ∙ ap (λ (m : ℕ). w / m) (pow-add 2 (4 * n) 4) ∙ sym (div-div-eq-div-mul w (2 ^ (4 * n)) 16)

-- n digits after those that gave the word's upper part give the word
number-back : (n w v : ℕ) (t rest : List ℕ) (p : ℕ) → v ≡ w / 2 ^ (4 * n) → drop p t ≡ hex_digits n w ++ rest → number_at n v t p ≡ w
unfolding number_at hex_digits
number-back zero w v t rest p e d = e ∙ div-one w
number-back (suc n) w v t rest p e d =
    let a = at_place t (hex_digits n w ++ rest) p (hex_digit (w / 2 ^ (4 * n) % 16)) d in
    let x : digit_value (get_or t p 0) ≡ w / 2 ^ (4 * n) % 16 = ap digit_value a.0 ∙ digit_back (w / 2 ^ (4 * n) % 16) (omega arith) in
    let y = upper_part w n in
    number-back n w (v * 16 + digit_value (get_or t p 0)) t rest (p + 1) (omega arith) a.1

number-below : (n v : ℕ) (t : List ℕ) (p : ℕ) → n ≤ 16 → v < 2 ^ (4 * (16 - n)) → number_at n v t p < 2 ^ 64
unfolding number_at
number-below zero v t p h b = b
number-below (suc n) v t p h b =
    let e : 16 - n ≡ 16 - suc n + 1 = omega arith in
    number-below n (v * 16 + digit_value (get_or t p 0)) t (p + 1) (omega arith)
    (rw e (number_fits (16 - suc n) v (digit_value (get_or t p 0)) (omega arith) b (value_below (get_or t p 0))).0)

-- ---- a line and what stands behind it

pub line_parts : (k : String) (w : ℕ) (rest : List ℕ) → line_of k w ++ rest ≡ key_of k ++ (hex_digits 16 w ++ 10 ∷ rest)
unfolding line_of
line_parts k w rest = append_assoc (key_of k) (hex_digits 16 w ++ 10 ∷ []) rest ∙ ap (λ (l : List ℕ). key_of k ++ l) (append_assoc (hex_digits 16 w) (10 ∷ []) rest)

digits_passed : (w : ℕ) (rest : List ℕ) → drop 17 (hex_digits 16 w ++ 10 ∷ rest) ≡ rest
unfolding hex_digits
digits_passed w rest = refl

-- ---- lists of words

-- the words behind the keys of lines, wherever the lines stand
words-behind : (t ws : List ℕ) → ((i : ℕ) → get_or ws i 0 < 2 ^ 64) → (ks : List String) (p i : ℕ) → length ws ≡ i + length ks
    → drop p t ≡ lines_of ks i ws → map (number_at 16 0 t) (places_of ks p) ≡ drop i ws
unfolding lines_of places_of
words-behind t ws b [] p i n e = let l : length ws ≤ i = omega arith in sym (drop_of_length-le ws l)
words-behind t ws b (k ∷ ks) p i n e =
    let q = p + length (key_of k) in
    let w = get_or ws i 0 in
    let rest = lines_of ks (i + 1) ws in
    let d : drop q t ≡ hex_digits 16 w ++ 10 ∷ rest =
    sym (drop-drop (length (key_of k)) p t) ∙ ap (drop (length (key_of k))) (e ∙ line_parts k w rest) ∙ drop-append_seam (key_of k) (hex_digits 16 w ++ 10 ∷ rest) in
    let f : drop (q + 17) t ≡ rest = sym (drop-drop 17 q t) ∙ ap (drop 17) d ∙ digits_passed w rest in
    rw (from_place ws i (omega arith), number-back 16 w 0 t (10 ∷ rest) q (sym (div-eq_of_lt (b i))) d, words-behind t ws b ks (q + 17) (i + 1) (omega arith) f)

map_below : (f : ℕ → ℕ) (l : List ℕ) → ((x : ℕ) → f x < 2 ^ 64) → (i : ℕ) → get_or (map f l) i 0 < 2 ^ 64
map_below f [] h i = omega arith
map_below f (x ∷ l) h zero = h x
map_below f (x ∷ l) h (suc i) = map_below f l h i

places_length : (ks : List String) (p : ℕ) → length (places_of ks p) ≡ length ks
unfolding places_of
places_length [] p = refl
places_length (k ∷ ks) p = ap suc (places_length ks (p + length (key_of k) + 17))

-- ---- texts

module _ (ks : List String) where
  -- a text in the form is that of the words in it
  pub text-only : (t : List ℕ) → is_text ks t ≡ true → t ≡ lines_of ks 0 (words_in ks t)
  unfolding is_text
  text-only t h = same_eq t (lines_of ks 0 (words_in ks t)) h

  -- what is found in any text is words
  pub words_found : (t : List ℕ) → Words (length ks) (words_in ks t)
  unfolding words_in
  words_found t = record {
    count = length-map (places_of ks 0) (number_at 16 0 t) ∙ places_length ks 0;
    below = λ i. map_below (number_at 16 0 t) (places_of ks 0) (λ p. number-below 16 0 t p (omega arith) (omega arith)) i;
  }

  -- the words in the text of words are the words
  pub words_back : (ws : List ℕ) → Words (length ks) ws → words_in ks (lines_of ks 0 ws) ≡ ws
  unfolding words_in
  words_back ws w = words-behind (lines_of ks 0 ws) ws w.below ks 0 0 (omega (arith, w.count)) refl

  -- the text of words is in the form
  pub is_text_lem : (ws : List ℕ) → Words (length ks) ws → is_text ks (lines_of ks 0 ws) ≡ true
  unfolding is_text
  is_text_lem ws w = rw (words_back ws w) (same_refl (lines_of ks 0 ws))
