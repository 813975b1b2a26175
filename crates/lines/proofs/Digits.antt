-- The loops over the digits of one word.
use Prim.Native.Nat.{ℕ, suc, ◌+◌, ◌-◌, ◌*◌, ◌/◌, ◌%◌, ◌^◌, ◌≤◌, ◌<◌}
use mathlib.Core.Path.{◌≡◌, refl, sym, ap, ◌∙◌}
use mathlib.Core.Bool.{Bool, true, false, cond, ◌&&◌, and-true, and_assoc}
use mathlib.Core.List.{List}
use native.Mathlib.Omega.{arith}
use native.Mathlib.Nat.{add-zero, pow-le-pow_right}
use lib.Dec.{ltb, eqb}
use borrow.Author.Tests.{eqb-true}
use lib.ListN.{get_or, set}
use lib.Pow.{pow-add}
use lib.Seq.{sets}
use Rattle.bits.proofs.BitSolve.{upto_sound}
use Rattle.lines.specs.Lines.{bytes_of, hex_digit, hex_digits, digit_value, number_at}
use Rattle.lines.specs.Fields.{are_digits}

-- ---- writing

-- the bytes of the sixteen digits in order: each number finds its own
abbrev pub digit_bytes : List ℕ
digit_bytes = bytes_of "0123456789abcdef"

pub digit_found : (d : ℕ) → d < 16 → get_or digit_bytes d 0 ≡ hex_digit d
unfolding bytes_of
digit_found d h = eqb-true _ _ (upto_sound 16 (λ k. eqb (get_or digit_bytes k 0) (hex_digit k)) refl d h)

pub digits_start : (t : List ℕ) (p w : ℕ) → sets t p (hex_digits 16 w) ≡ sets t (p + 0) (hex_digits 16 w)
digits_start t p w = rw (add-zero p)

pub digits_more : (t : List ℕ) (p w j d : ℕ) → j < 16 → d ≡ hex_digit (w / 2 ^ (60 - 4 * j) % 16)
    → sets t (p + j) (hex_digits (16 - j) w) ≡ sets (set t (p + j) d) (p + (j + 1)) (hex_digits (16 - (j + 1)) w)
unfolding hex_digits
digits_more t p w j d h e =
    let n : 16 - j ≡ suc (16 - (j + 1)) = omega arith in
    let s : p + (j + 1) ≡ suc (p + j) = omega arith in
    let k : 60 - 4 * j ≡ 4 * (16 - (j + 1)) = omega arith in
    rw (n, s, e, k)

pub digits_all : (t : List ℕ) (p w j : ℕ) → 16 ≤ j → sets t p (hex_digits (16 - j) w) ≡ t
unfolding hex_digits
digits_all t p w j h = let n : 16 - j ≡ 0 = omega arith in rw n

-- ---- reading

pub value_below : (b : ℕ) → digit_value b < 16
value_below b = go (ltb b 58)
  where
    go : (t : Bool) → cond t (b % 16) ((b + 9) % 16) < 16
    go true = omega arith
    go false = omega arith

-- j digits are a number below 16 to the power of j
pub number_fits : (j w d : ℕ) → j < 16 → w < 2 ^ (4 * j) → d < 16 → (w * 16 + d < 2 ^ (4 * (j + 1))) × (w * 16 + d < 2 ^ 64)
number_fits j w d hj hw hd =
    let e : 4 * (j + 1) ≡ 4 * j + 4 = omega arith in
    let s : 2 ^ (4 * (j + 1)) ≡ 2 ^ (4 * j) * 16 = ap (λ (k : ℕ). 2 ^ k) e ∙ pow-add 2 (4 * j) 4 in
    let b : 2 ^ (4 * j + 4) ≤ 2 ^ 64 = pow-le-pow_right {n = 2} (omega arith) {i = 4 * j + 4} {j = 64} (omega arith) in
    (omega arith, omega (arith, pow-add 2 (4 * j) 4))

-- the number that is read, and whether each byte is a digit, once j of the bytes are passed
module _ (t : List ℕ) (p : ℕ) where
  module _ (w : ℕ) (r : Bool) (j : ℕ) where
    pub read_more : j < 16
        → (number_at (16 - j) w t (p + j) ≡ number_at (16 - (j + 1)) (w * 16 + digit_value (get_or t (p + j) 0)) t (p + (j + 1)))
        × ((r && are_digits (16 - j) t (p + j))
        ≡ ((r && eqb (get_or t (p + j) 0) (hex_digit (digit_value (get_or t (p + j) 0)))) && are_digits (16 - (j + 1)) t (p + (j + 1))))
    unfolding number_at are_digits
    read_more h =
        let e : 16 - j ≡ suc (16 - (j + 1)) = omega arith in
        let s : p + (j + 1) ≡ p + j + 1 = omega arith in
        (rw (e, s), rw (e, s) (sym (and_assoc r _ _)))

    pub read_all : 16 ≤ j → (number_at (16 - j) w t (p + j) ≡ w) × ((r && are_digits (16 - j) t (p + j)) ≡ r)
    unfolding number_at are_digits
    read_all h = let e : 16 - j ≡ 0 = omega arith in (rw e, rw e (and-true r))
