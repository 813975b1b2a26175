-- Tests of a single bit: of what two words share, of a complement, of a word without the bits of a mask and of ones alone. Assumes nothing.
use Prim.Native.Nat.{ℕ, zero, suc, ◌+◌, ◌-◌, ◌/◌, ◌^◌, ◌≤◌, ◌<◌, min}
use mathlib.Core.Path.{◌≡◌, refl, sym, ap, ◌∙◌}
use mathlib.Core.Bool.{true, false, not, ◌&&◌}
use native.Mathlib.Nat.{pow-suc, div-eq_of_lt}
use native.Mathlib.Decide.{dec_lt}
use native.Mathlib.Omega.{arith}
use lib.Bits.{bit_and}
use lib.Dec.{eqb, ltb}
use lib.Pow.{pow_mono, pow_pos}
use borrow.Author.Tests.{lt-ltb, le-ltb}
use Rattle.bits.specs.Mask.{test_bit, cleared}
use Rattle.bits.proofs.BitLaws.{bit, bit_lt, bit_and_lem, half_bit}

least_test : (x y : ℕ) → x < 2 → y < 2 → eqb (min x y) 1 ≡ (eqb x 1 && eqb y 1)
least_test zero zero h k = refl
least_test zero (suc zero) h k = refl
least_test zero (suc (suc y)) h k = absurd (omega arith)
least_test (suc zero) zero h k = refl
least_test (suc zero) (suc zero) h k = refl
least_test (suc zero) (suc (suc y)) h k = absurd (omega arith)
least_test (suc (suc x)) y h k = absurd (omega arith)

pub test_and : (a b i : ℕ) → test_bit (bit_and a b) i ≡ (test_bit a i && test_bit b i)
test_and a b i = ap (λ (n : ℕ). eqb n 1) (bit_and_lem a b i) ∙ least_test (bit a i) (bit b i) (bit_lt a i) (bit_lt b i)

-- a bit of the complement in w bits
complement_bit : (i w a : ℕ) → i < w → a < 2 ^ w → bit (2 ^ w - 1 - a) i ≡ 1 - bit a i
complement_bit i zero a l h = absurd (omega arith)
complement_bit zero (suc w) a l h = omega (arith, pow-suc 2 w)
complement_bit (suc i) (suc w) a l h =
    let half : (2 ^ suc w - 1 - a) / 2 ≡ 2 ^ w - 1 - a / 2 = omega (arith, pow-suc 2 w) in
    let next : 1 + i ≡ suc i = omega arith in
    rw next at
    (sym (half_bit (2 ^ suc w - 1 - a) i) ∙ ap (λ (n : ℕ). bit n i) half ∙ complement_bit i w (a / 2) (omega arith) (omega (arith, pow-suc 2 w))
    ∙ ap (λ (n : ℕ). 1 - n) (half_bit a i))

opposite_test : (x : ℕ) → x < 2 → eqb (1 - x) 1 ≡ not (eqb x 1)
opposite_test zero h = refl
opposite_test (suc zero) h = refl
opposite_test (suc (suc x)) h = absurd (omega arith)

pub test_complement : (a i : ℕ) → a < 2 ^ 64 → i < 64 → test_bit (2 ^ 64 - 1 - a) i ≡ not (test_bit a i)
test_complement a i h l = ap (λ (n : ℕ). eqb n 1) (complement_bit i 64 a l h) ∙ opposite_test (bit a i) (bit_lt a i)

pub test_cleared : (mask word i : ℕ) → mask < 2 ^ 64 → i < 64 → test_bit (cleared mask word) i ≡ (test_bit word i && not (test_bit mask i))
test_cleared mask word i h l = test_and word (2 ^ 64 - 1 - mask) i ∙ ap (λ b. test_bit word i && b) (test_complement mask i h l)

-- a number has no bit from the power of two on that it is below
no_bit_above : (n i : ℕ) → n < 2 ^ i → test_bit n i ≡ false
no_bit_above n i h = rw (div-eq_of_lt h)

pub test_zero : (i : ℕ) → test_bit 0 i ≡ false
test_zero i = no_bit_above 0 i (pow_pos i)

-- w ones at the low end
pub test_ones : (w i : ℕ) → test_bit (2 ^ w - 1) i ≡ ltb i w
test_ones w i = go (dec_lt i w)
  where
    go : Dec (i < w) → test_bit (2 ^ w - 1) i ≡ ltb i w
    go (yes l) =
        let n : 2 ^ w - 1 - 0 ≡ 2 ^ w - 1 = omega arith in
        let b : bit (2 ^ w - 1) i ≡ 1 - bit 0 i = rw n at (complement_bit i w 0 l (pow_pos w)) in
        rw (lt-ltb i w l, b, div-eq_of_lt (pow_pos i))
    go (no l) =
        let p : 2 ^ w ≤ 2 ^ i = pow_mono (omega arith) in
        rw (le-ltb i w (omega arith)) (no_bit_above (2 ^ w - 1) i (omega (arith, pow_pos w)))

-- a place below w at which a word has a bit
pub record Bit (w word : ℕ) : Type 0 where
  pub place : ℕ
  pub below : place < w
  pub one : test_bit word place ≡ true

-- a word of w bits that is not 0 has one
pub some_bit : (w word : ℕ) → word < 2 ^ w → 0 < word → Bit w word
some_bit zero word h p = absurd (omega arith)
some_bit (suc w) word h p = go (dec_lt 0 (word / 2)) (some_bit w (word / 2) (omega (arith, pow-suc 2 w)))
  where
    go : Dec (0 < word / 2) → (0 < word / 2 → Bit w (word / 2)) → Bit (suc w) word
    go (yes l) later =
        let t = later l in
        record {
          place = 1 + t.place;
          below = omega (arith, t.below);
          one = ap (λ (n : ℕ). eqb n 1) (sym (half_bit word t.place)) ∙ t.one;
        }
    go (no l) later = record { place = 0; below = omega arith; one = let e : word ≡ 1 = omega arith in rw e }
