-- What address registers read by the grain, bit by bit: one law for zeros and ones. Assumes nothing.
use mathlib.Core.Path.{◌≡◌, sym, ap, ◌∙◌}
use Prim.Native.Nat.{ℕ, zero, suc, ◌+◌, ◌*◌, ◌/◌, ◌%◌, ◌^◌, ◌≤◌, ◌<◌}
use native.Mathlib.Nat.{pow-suc, div-div-eq-div-mul, mul_assoc, mul_comm}
use native.Mathlib.Omega.{arith}
use lib.Pow.{pow_pos}
use Rattle.bits.proofs.BitLaws.{bit, half_bit}
use Rattle.pmp.specs.Entry.{low_zeros, low_ones}

-- a word without its n + 1 lowest bits is twice its half without the n lowest
zeros_next : (n word : ℕ) → low_zeros (suc n) word ≡ low_zeros n (word / 2) * 2
zeros_next n word =
    let p : 2 ^ suc n ≡ 2 * 2 ^ n = pow-suc 2 n ∙ mul_comm (2 ^ n) 2 in
    let q : word / 2 ^ suc n ≡ word / 2 / 2 ^ n = ap (λ (d : ℕ). word / d) p ∙ sym (div-div-eq-div-mul word 2 (2 ^ n)) in
    (λ j. q j * pow-suc 2 n j) ∙ sym (mul_assoc (word / 2 / 2 ^ n) (2 ^ n) 2)

-- a word with its n lowest bits all d
pub data Filled (n word : ℕ) : ℕ → ℕ → Type 0 where
  zeros : Filled n word 0 (low_zeros n word)
  ones : Filled n word 1 (low_ones n word)

-- its lowest bit is d, and its half is filled with one bit fewer
pub record Next (n word d filled : ℕ) : Type 0 where
  pub first : filled % 2 ≡ d
  pub rest : Filled n (word / 2) d (filled / 2)

pub next : (n word d filled : ℕ) → Filled (suc n) word d filled → Next n word d filled
next n word d filled zeros =
    let e : low_zeros (suc n) word / 2 ≡ low_zeros n (word / 2) = omega (arith, zeros_next n word) in
    record { first = omega (arith, zeros_next n word); rest = rw e zeros }
next n word d filled ones =
    let e : low_ones (suc n) word / 2 ≡ low_ones n (word / 2) = omega (arith, zeros_next n word, pow-suc 2 n, pow_pos n) in
    record { first = omega (arith, zeros_next n word, pow-suc 2 n, pow_pos n); rest = rw e ones }

none_filled : (word d filled : ℕ) → Filled 0 word d filled → filled ≡ word
none_filled word d filled zeros = omega arith
none_filled word d filled ones = omega arith

bit_next : (word i : ℕ) → bit word (suc i) ≡ bit (word / 2) i
bit_next word i =
    let e : 1 + i ≡ suc i = omega arith in
    ap (λ (k : ℕ). bit word k) (sym e) ∙ sym (half_bit word i)

pub filled_below : (n word d filled i : ℕ) → Filled n word d filled → i < n → bit filled i ≡ d
filled_below zero word d filled i f h = absurd (omega arith)
filled_below (suc n) word d filled zero f h = omega (arith, (next n word d filled f).first)
filled_below (suc n) word d filled (suc i) f h =
    bit_next filled i ∙ filled_below n (word / 2) d (filled / 2) i (next n word d filled f).rest (omega arith)

pub filled_above : (n word d filled i : ℕ) → Filled n word d filled → n ≤ i → bit filled i ≡ bit word i
filled_above zero word d filled i f h = ap (λ (w : ℕ). bit w i) (none_filled word d filled f)
filled_above (suc n) word d filled zero f h = absurd (omega arith)
filled_above (suc n) word d filled (suc i) f h =
    bit_next filled i ∙ filled_above n (word / 2) d (filled / 2) i (next n word d filled f).rest (omega arith) ∙ sym (bit_next word i)
