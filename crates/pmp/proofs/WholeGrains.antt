-- An entry's bytes begin and end at multiples of the grain, so that two bytes in one grain are matched alike. Assumes nothing.
use mathlib.Core.Path.{◌≡◌, refl, sym, ap, ◌∙◌}
use mathlib.Core.Bool.{cond, ◌&&◌}
use Prim.Native.Nat.{ℕ, zero, suc, ◌+◌, ◌-◌, ◌*◌, ◌/◌, ◌%◌, ◌^◌, ◌≤◌, ◌<◌, min}
use native.Mathlib.Nat.{pow-suc, add-mul, mul_assoc, mul_comm, le-div_iff_mul-le, min-eq_left, min-eq_right}
use native.Mathlib.Decide.{dec_le}
use native.Mathlib.Omega.{arith}
use lib.Dec.{leb, ltb, eqb}
use lib.Pow.{pow-add, pow_pos}
use borrow.Author.Tests.{le-leb, lt-leb, lt-ltb, le-ltb, ne_eqb}
use Rattle.pmp.specs.declared.Span.{Span}
use Rattle.pmp.specs.Entry.{top, trailing_ones, span_of, legal_grain, low_zeros, low_ones, address_read, span_read, contains}
use Rattle.pmp.proofs.EntryLaws.{ones_room}
use Rattle.pmp.proofs.GrainLaws.{legal_small}
use Rattle.pmp.proofs.GrainBits.{Filled, ones, next}

-- n is a multiple of d
pub record Multiple (d n : ℕ) : Type 0 where
  pub times : ℕ
  pub is : n ≡ times * d

-- ---- NAPOT

-- a word with m ones at its low end has at least so many trailing ones
ones_counted : (m n word filled : ℕ) → Filled m word 1 filled → m ≤ n → m ≤ trailing_ones n filled
unfolding trailing_ones
ones_counted zero n word filled f h = omega arith
ones_counted (suc m) zero word filled f h = absurd (omega arith)
ones_counted (suc m) (suc n) word filled f h =
    let k = next m word 1 filled f in
    rw k.first (omega (arith, ones_counted m n (word / 2) (filled / 2) k.rest (omega arith)))

-- without its t trailing ones a word is a multiple of 2^(t+1), since its next bit is 0
first_word_step : (d k word t : ℕ) → word % 2 ≡ d → 2 ^ t ≤ word / 2 + 1 → suc k ≤ cond (eqb d 1) (suc t) 0 + 1
    → (k ≤ t + 1 → Multiple (2 ^ k) (word / 2 - (2 ^ t - 1))) → Multiple (2 ^ suc k) (word - (2 ^ cond (eqb d 1) (suc t) 0 - 1))
first_word_step zero zero word t e room l below = record { times = word / 2; is = omega (arith, pow-suc 2 0) }
first_word_step zero (suc k) word t e room l below = absurd (omega arith)
first_word_step (suc zero) k word t e room l below =
    let m = below (omega arith) in
    let half : word - (2 ^ t * 2 - 1) ≡ (word / 2 - (2 ^ t - 1)) * 2 = omega (arith, pow_pos t) in
    record {
      times = m.times;
      is = ap (λ (p : ℕ). word - (p - 1)) (pow-suc 2 t) ∙ half ∙ ap (λ (n : ℕ). n * 2) m.is ∙ mul_assoc m.times (2 ^ k) 2
          ∙ ap (λ (n : ℕ). m.times * n) (sym (pow-suc 2 k));
    }
first_word_step (suc (suc d)) k word t e room l below = absurd (omega arith)

first_word : (n k word : ℕ) → k ≤ n → k ≤ trailing_ones n word + 1 → Multiple (2 ^ k) (word - (2 ^ trailing_ones n word - 1))
unfolding trailing_ones
first_word n zero word h l = record { times = word - (2 ^ trailing_ones n word - 1); is = omega arith }
first_word zero (suc k) word h l = absurd (omega arith)
first_word (suc n) (suc k) word h l =
    first_word_step (word % 2) k word (trailing_ones n (word / 2)) refl (ones_room n (word / 2)) l (λ m. first_word n k (word / 2) (omega arith) m)

-- ---- multiples of the grain

-- by words: four bytes each
words : (g n : ℕ) → Multiple (2 ^ g) n → Multiple (2 ^ (g + 2)) (4 * n)
words g n m =
    let q : m.times * 2 ^ (g + 2) ≡ m.times * 2 ^ g * 4 = ap (λ (k : ℕ). m.times * k) (pow-add 2 g 2) ∙ sym (mul_assoc m.times (2 ^ g) 4) in
    record { times = m.times; is = omega (arith, m.is, q) }

-- a power of two is a multiple of a lower one
powers : (j k : ℕ) → j ≤ k → Multiple (2 ^ j) (2 ^ k)
powers j k h =
    let e : k - j + j ≡ k = omega arith in
    record { times = 2 ^ (k - j); is = ap (λ (n : ℕ). 2 ^ n) (sym e) ∙ pow-add 2 (k - j) j }

module _ (d : ℕ) where
  sum : (a b : ℕ) → Multiple d a → Multiple d b → Multiple d (a + b)
  sum a b m n = record { times = m.times + n.times; is = (λ j. m.is j + n.is j) ∙ sym (add-mul m.times n.times d) }

  least : (a b : ℕ) → Multiple d a → Multiple d b → Multiple d (min a b)
  least a b m n = go (dec_le a b)
    where
      go : Dec (a ≤ b) → Multiple d (min a b)
      go (yes h) = rw (min-eq_left h) m
      go (no h) = let k : b ≤ a = omega arith in rw (min-eq_right k) n

-- the end of memory
top-whole : (g : ℕ) → g < 11 → Multiple (2 ^ (g + 2)) top
top-whole g h = powers (g + 2) 56 (omega arith)

zeros_whole : (g word : ℕ) → Multiple (2 ^ g) (low_zeros g word)
zeros_whole g word = record { times = word / 2 ^ g; is = refl }

-- both ends of a span
pub record Whole (d : ℕ) (s : Span) : Type 0 where
  pub low : Multiple d s.low
  pub high : Multiple d s.high

-- without NA4, unless the grain is 4 bytes
pub span-whole : (g a addr before : ℕ) → g < 11 → (a ≡ 2 → g ≡ 0) → Whole (2 ^ (g + 2)) (span_read g a addr before)
unfolding span_of address_read
span-whole g zero addr before h na4 = record { low = record { times = 0; is = omega arith }; high = record { times = 0; is = omega arith } }
span-whole g (suc zero) addr before h na4 =
    let d = 2 ^ (g + 2) in
    let z : (word : ℕ) → Multiple d (min (4 * low_zeros (legal_grain g) word) top) =
    λ word. rw (legal_small g h) (least d (4 * low_zeros g word) top (words g (low_zeros g word) (zeros_whole g word)) (top-whole g h)) in
    record { low = z before; high = z addr }
span-whole g (suc (suc zero)) addr before h na4 =
    let e : g ≡ 0 = na4 refl in
    rw e
    (let one : Multiple 4 (4 * addr) = record { times = addr; is = mul_comm 4 addr } in
    record {
      low = least 4 (4 * addr) top one (top-whole 0 (omega arith));
      high = least 4 (4 * addr + 4) top (sum 4 (4 * addr) 4 one (record { times = 1; is = refl })) (top-whole 0 (omega arith));
    })
span-whole g (suc (suc (suc a))) addr before h na4 =
    let d = 2 ^ (g + 2) in
    let w = low_ones (g - 1) addr in
    let t = trailing_ones 64 w in
    let c : g - 1 ≤ t = ones_counted (g - 1) 64 addr w ones (omega arith) in
    let first : Multiple d (4 * (w - (2 ^ t - 1))) = words g (w - (2 ^ t - 1)) (first_word 64 g w (omega arith) (omega (arith, c))) in
    let size : Multiple d (2 ^ (t + 3)) = powers (g + 2) (t + 3) (omega (arith, c)) in
    let set : 2 ≤ suc (suc (suc a)) = omega arith in
    let other : suc (suc (suc a)) ≡ 2 → ⊥ = λ e. omega arith in
    rw (legal_small g h, le-ltb (suc (suc (suc a))) 2 set, ne_eqb (suc (suc (suc a))) 2 other)
    (record {
      low = least d (4 * (w - (2 ^ t - 1))) top first (top-whole g h);
      high = least d (4 * (w - (2 ^ t - 1)) + 2 ^ (t + 3)) top (sum d (4 * (w - (2 ^ t - 1))) (2 ^ (t + 3)) first size) (top-whole g h);
    })

-- ---- bytes in one grain

module _ (d : ℕ) (some : 0 < d) (q byte : ℕ) where
  -- a byte lies from a multiple of d on where its grain does, and before it where its grain does
  by-grain : (leb (q * d) byte ≡ leb q (byte / d)) × (ltb byte (q * d) ≡ ltb (byte / d) q)
  by-grain = go (dec_le q (byte / d)) (dec_le (q * d) byte)
    where
      go : Dec (q ≤ byte / d) → Dec (q * d ≤ byte) → (leb (q * d) byte ≡ leb q (byte / d)) × (ltb byte (q * d) ≡ ltb (byte / d) q)
      go (yes h) (yes k) = (rw (le-leb q (byte / d) h, le-leb (q * d) byte k), rw (le-ltb (byte / d) q h, le-ltb byte (q * d) k))
      go (yes h) (no k) = absurd (k ((le-div_iff_mul-le some).0 h))
      go (no h) (yes k) = absurd (h ((le-div_iff_mul-le some).1 k))
      go (no h) (no k) =
          let l : byte / d < q = omega arith in
          let m : byte < q * d = omega arith in
          (rw (lt-leb q (byte / d) l, lt-leb (q * d) byte m), rw (lt-ltb (byte / d) q l, lt-ltb byte (q * d) m))

-- two bytes in one grain lie both in the span or both outside
pub alike : (d : ℕ) → 0 < d → (s : Span) → Whole d s → (byte other : ℕ) → byte / d ≡ other / d → contains s byte ≡ contains s other
alike d some s w byte other e = inside byte ∙ ap (λ (b : ℕ). leb w.low.times b && ltb b w.high.times) e ∙ sym (inside other)
  where
    inside : (b : ℕ) → contains s b ≡ (leb w.low.times (b / d) && ltb (b / d) w.high.times)
    inside b = rw (w.low.is, w.high.is, (by-grain d some w.low.times b).0, (by-grain d some w.high.times b).1)
