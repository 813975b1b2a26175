-- Texts written one behind the other, and decimal numbers.
use Rattle.std.proofs.Common.{◌≡◌, ℕ, zero, suc, ◌+◌, ◌-◌, ◌/◌, ◌%◌, ◌^◌, ◌<◌, ◌≤◌, Bool, true, false, cond, ltb, leb, List, [], ◌∷◌, ◌++◌, length, get_or, take, drop, set, sym, refl, ap, ◌∙◌, add-zero, pow-suc, zero-add, add-one, arith, length-append, drop_of_length-le, drop-cons, le-ltb, lt-ltb, le-leb, leb-false, leb-true}
use native.Mathlib.Nat.{pow-le-pow_right}
use lib.Seq.{sets, length-sets, sets-eq}
use Rattle.io.specs.Digits.{last_digits, hex_digit_ascii, IsDigitCount}
use Rattle.lines.specs.Lines.{hex_digits}
use Rattle.lines.specs.Places.{with_word}
use Rattle.trace.specs.Buffers.{Put, written_front, written_length}
use Rattle.trace.specs.Answers.{decimal_in, decimal}
pub use Rattle.trace.specs.Widths.{decimal-length, decimal-entry, hex_length, trap_length, level_length, entry_length, told-length, numbered_length}

-- ---- one text behind the other

pub sets_append : {A : Type 0} (xs l : List A) (i : ℕ) (ys : List A) → sets l i (xs ++ ys) ≡ sets (sets l i xs) (i + length xs) ys
sets_append [] l i ys = rw (add-zero i)
sets_append (x ∷ xs) l i ys =
    let e : i + suc (length xs) ≡ suc i + length xs = omega arith in
    rw e (sets_append xs (set l i x) (suc i) ys)

pub put_both : {A : Type 0} {buffer middle after xs ys : List A} {p q r : ℕ} → Put buffer p xs middle q → Put middle q ys after r → Put buffer p (xs ++ ys) after r
put_both {A} {buffer} {middle} {after} {xs} {ys} {p} {q} {r} first second = record {
  bytes = second.bytes ∙ rw (first.bytes, first.behind) (sym (sets_append xs buffer p ys));
  behind = omega (arith, first.behind, second.behind, length-append xs ys);
}

pub put-none : {A : Type 0} (buffer : List A) (p : ℕ) → Put buffer p [] buffer p
put-none buffer p = record { bytes = refl; behind = sym (add-zero p) }

pub put-length : {A : Type 0} {buffer after xs : List A} {p q : ℕ} → Put buffer p xs after q → length after ≡ length buffer
put-length {A} {buffer} {after} {xs} {p} put = ap length put.bytes ∙ length-sets buffer p xs

pub put-start : (text buffer : List ℕ) (p : ℕ) → sets buffer p text ≡ sets buffer (p + 0) (drop 0 text)
put-start text buffer p = rw (add-zero p)

pub put_more : (text buffer : List ℕ) (p i : ℕ) → i < length text
    → sets buffer (p + i) (drop i text) ≡ sets (set buffer (p + i) (get_or text i 0)) (p + (i + 1)) (drop (i + 1) text)
put_more text buffer p i h =
    let s : p + (i + 1) ≡ suc (p + i) = omega arith in
    rw (drop-cons text i 0 h, s, add-one i)

pub put_all : (text buffer : List ℕ) (p i : ℕ) → length text ≤ i → sets buffer p (drop i text) ≡ buffer
put_all text buffer p i h = rw (drop_of_length-le text h)

pub put_word : (word : ℕ) (buffer after : List ℕ) (p : ℕ) → p + 16 ≤ length buffer → after ≡ with_word p word buffer
    → Put buffer p (hex_digits 16 word) after (p + 16)
unfolding with_word hex_digits
put_word word buffer after p h e = record {
  bytes = e ∙ rw (le-leb (p + 16) (length buffer) h);
  behind = refl;
}

-- ---- decimal numbers

digits-length : (n x : ℕ) → length (last_digits 10 n x) ≡ n
digits-length zero x = refl
digits-length (suc n) x = omega (arith, length-append (last_digits 10 n (x / 10)) (hex_digit_ascii (x % 10) ∷ []), digits-length n (x / 10))

-- the fewest digits that hold a number are its decimal
decimal-digits : (n k x : ℕ) → k ≤ n → IsDigitCount 10 1 x (suc k) → decimal_in (suc n) x ≡ last_digits 10 (suc k) x
unfolding decimal_in
decimal-digits n zero x h f =
    let l : x < 10 = omega (arith, f.1) in
    let m : x % 10 ≡ x = omega arith in
    rw (lt-ltb x 10 l, m, lt-ltb x 10 l)
decimal-digits zero (suc k) x h f = absurd (omega arith)
decimal-digits (suc n) (suc k) x h f =
    let e : suc (suc k) - 1 ≡ suc k = omega arith in
    let d : suc k - 1 ≡ k = omega arith in
    let low : 10 ^ suc k ≤ x = rw e at (f.2 (omega arith)) in
    let high : x < 10 ^ suc (suc k) = f.1 in
    let one : 10 ^ 0 ≤ 10 ^ k = pow-le-pow_right {n = 10} (omega arith) {i = 0} {j = k} (omega arith) in
    let ten : 10 ≤ x = omega (arith, pow-suc 10 k) in
    let digit : x % 10 < 10 = omega arith in
    let front : IsDigitCount 10 1 (x / 10) (suc k) = (omega arith, omega (arith, pow-suc 10 (suc k)), λ _. rw d (omega (arith, pow-suc 10 k))) in
    ap (λ (b : Bool). cond b ((48 + x) ∷ []) (decimal_in (suc n) (x / 10) ++ (48 + x % 10) ∷ [])) (le-ltb x 10 ten)
    ∙ ap (λ (l : List ℕ). l ++ (48 + x % 10) ∷ []) (decimal-digits n k (x / 10) (omega arith) front)
    ∙ ap (λ (b : Bool). last_digits 10 (suc k) (x / 10) ++ cond b (48 + x % 10) (87 + x % 10) ∷ []) (sym (lt-ltb (x % 10) 10 digit))

decimal_is : (k x : ℕ) → k ≤ 20 → IsDigitCount 10 1 x k → decimal x ≡ last_digits 10 k x
decimal_is zero x h f = absurd (omega (arith, f.0))
decimal_is (suc k) x h f = decimal-digits 19 k x (omega arith) f

-- a number of 64 bits has at most 20 digits
fewest_short : (k x : ℕ) → x < 2 ^ 64 → IsDigitCount 10 1 x k → k ≤ 20
fewest_short k x b f = go (leb k 20) refl
  where
    go : (r : Bool) → leb k 20 ≡ r → k ≤ 20
    go true e = leb-true k 20 e
    go false e =
        let h : 20 < k = leb-false k 20 e in
        let low : 10 ^ 20 ≤ 10 ^ (k - 1) = pow-le-pow_right {n = 10} (omega arith) {i = 20} {j = k - 1} (omega arith) in
        absurd (omega (arith, f.2 (omega arith)))

pub put_digit : (x : ℕ) (buffer : List ℕ) (p : ℕ) → x < 10 → Put buffer p (decimal x) (set buffer p (48 + x)) (p + 1)
unfolding decimal_in
put_digit x buffer p h = rw (lt-ltb x 10 h) (record { bytes = refl; behind = refl })

-- the fewest digits of a number, in the front of an array
pub front_decimal : (k x : ℕ) (d : List ℕ) → x < 2 ^ 64 → IsDigitCount 10 1 x k → take k d ≡ last_digits 10 k x → take k d ≡ decimal x
front_decimal k x d h f e = e ∙ sym (decimal_is k x (fewest_short k x h f) f)

-- ---- a whole buffer

pub nothing_written : (room : ℕ) (buffer : List ℕ)
    → (0 ≡ written_length room [] buffer) × ((buffer ≡ written_front room [] buffer) × (0 ≤ length buffer))
nothing_written room buffer = go (ltb (length buffer) room)
  where
    go : (b : Bool) → (◌≡◌ {A = ℕ} 0 (cond b 0 0)) × ((buffer ≡ cond b buffer buffer) × (0 ≤ length buffer))
    go true = (refl, (refl, omega arith))
    go false = (refl, (refl, omega arith))

module _ (room : ℕ) (text buffer : List ℕ) where
  pub not_written : length buffer < room → (0 ≡ written_length room text buffer) × ((buffer ≡ written_front room text buffer) × (0 ≤ length buffer))
  not_written h = (rw (lt-ltb (length buffer) room h), (rw (lt-ltb (length buffer) room h), omega arith))

  pub written : (after : List ℕ) (next : ℕ) → room ≤ length buffer → length text ≤ room → Put buffer 0 text after next
      → (next ≡ written_length room text buffer) × ((after ≡ written_front room text buffer) × (next ≤ length buffer))
  written after next h l put =
      let z : 0 + length text ≡ length text = zero-add (length text) in (
        rw (le-ltb (length buffer) room h) (put.behind ∙ z),
        (
          rw (le-ltb (length buffer) room h) (put.bytes ∙ sets-eq text buffer 0 (omega arith) ∙ ap (λ (n : ℕ). text ++ drop n buffer) z),
          omega (arith, put.behind),
        ),
      )

-- what the answers for texts of several parts need: the parts one behind the other, and how long each is
pub ruleset parts = (put_both, put-none, decimal-length, decimal-entry, hex_length, trap_length, level_length, entry_length, told-length)
