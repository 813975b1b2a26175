-- What address registers read by the grain, as a program computes it; with a grain of 4 bytes it is what is stored. Assumes nothing.
use mathlib.Core.Path.{◌≡◌, refl, sym, ap, ◌∙◌}
use mathlib.Core.Bool.{Bool, true, false, cond}
use Prim.Native.Nat.{ℕ, zero, suc, ◌+◌, ◌-◌, ◌*◌, ◌/◌, ◌%◌, ◌^◌, ◌<◌}
use native.Mathlib.Nat.{pow-suc, div-add-mod'}
use lib.Bits.{bit_and, bit_or, and_mask, or_add_and}
use native.Mathlib.Omega.{arith}
use lib.Dec.{eqb, ltb}
use lib.Pow.{pow_pos}
use borrow.Author.Tests.{lt-ltb, ltb-true}
use Rattle.bits.proofs.Conjunction.{by_test}
use Rattle.pmp.specs.Entry.{span_of, legal_grain, low_zeros, low_ones, address_read, address_matched, span_read}

-- half of n ones is one fewer
half_ones : (n : ℕ) → (2 ^ n - 1) / 2 ≡ 2 ^ (n - 1) - 1
half_ones zero = refl
half_ones (suc n) =
    let e : suc n - 1 ≡ n = omega arith in
    rw e (omega (arith, pow-suc 2 n))

-- ones are put over the lowest bits by an or
pub ones_put : (n word : ℕ) → bit_or word ((2 ^ n - 1) / 2) ≡ low_ones (n - 1) word
ones_put n word =
    let k = n - 1 in
    let s = or_add_and word (2 ^ k - 1) in
    let m : bit_and word (2 ^ k - 1) ≡ word % 2 ^ k = and_mask word k in
    let d : word ≡ word / 2 ^ k * 2 ^ k + word % 2 ^ k = sym (div-add-mod' word (2 ^ k)) in
    ap (bit_or word) (half_ones n) ∙ omega (arith, s, m, d, pow_pos k)

-- ---- a grain of 4 bytes

pub read-stored : (a addr : ℕ) → address_read 0 a addr ≡ addr
unfolding address_read
read-stored a addr = go (ltb a 2)
  where
    go : (b : Bool) → cond b (low_zeros 0 addr) (low_ones 0 addr) ≡ addr
    go true = omega arith
    go false = omega arith

matched_stored : (a addr : ℕ) → address_matched 0 a addr ≡ addr
matched_stored a addr = by_test (λ (w : ℕ). w ≡ addr) (eqb a 2) addr (address_read 0 a addr) (λ t. refl) (λ t. read-stored a addr)

bound-stored : (before : ℕ) → low_zeros 0 before ≡ before
bound-stored before = omega arith

pub span-stored : (a addr before : ℕ) → span_read 0 a addr before ≡ span_of a addr before
span-stored a addr before = λ j. span_of a (matched_stored a addr j) (bound-stored before j)

-- ---- the grain as it counts

pub legal_small : (g : ℕ) → g < 11 → legal_grain g ≡ g
legal_small g h = rw (lt-ltb g 11 h)

pub legal_bound : (g : ℕ) → legal_grain g < 11
legal_bound g = go (ltb g 11) refl
  where
    go : (b : Bool) → ltb g 11 ≡ b → cond b g 0 < 11
    go true e = ltb-true g 11 e
    go false e = omega arith
