-- Laws of the bytes that an entry matches. Assumes nothing.
use mathlib.Core.Path.{◌≡◌, refl, sym, ap}
use mathlib.Core.Bool.{Bool, true, false, cond, ◌&&◌}
use Prim.Native.Nat.{ℕ, zero, suc, ◌+◌, ◌-◌, ◌*◌, ◌/◌, ◌%◌, ◌^◌, ◌≤◌, ◌<◌, min}
use native.Mathlib.Nat.{pow-suc}
use native.Mathlib.Decide.{dec_lt}
use native.Mathlib.Omega.{arith}
use lib.Count.{count_trailing_zeros, under}
use lib.Dec.{leb, ltb, eqb}
use lib.Pow.{pow-add, pow-lt, pow_mono, pow_pos}
use borrow.Author.Tests.{leb-true, ltb-true, le-leb, lt-leb, lt-ltb, le-ltb}
use Rattle.bits.proofs.Conjunction.{contradiction, both, join, not-true-false}
use Rattle.pmp.specs.declared.Span.{Span}
use Rattle.pmp.specs.Search.{any_byte, every_byte}
use Rattle.pmp.specs.Entry.{top, trailing_ones, napot, span_of, contains}
use Rattle.pmp.proofs.SearchLaws.{any_none, every_all, every_passes}

-- two spans with equal ends are equal
span_same : {a b c d : ℕ} → a ≡ c → b ≡ d → ◌≡◌ {A = Span} (record { low = a; high = b }) (record { low = c; high = d })
span_same p q = λ i. record { low = p i; high = q i }

-- ---- the ones at the low end of a word

complement_digit : (d t u : ℕ) → d < 2 → t ≡ u → under (1 - d) t ≡ cond (eqb d 1) (suc u) 0
complement_digit zero t u h e = refl
complement_digit (suc zero) t u h e = ap suc e
complement_digit (suc (suc d)) t u h e = absurd (omega arith)

-- they are the zeros at the low end of its complement
pub ones_zeros : (n word : ℕ) → word < 2 ^ n → count_trailing_zeros n ((2 ^ n - 1) - word) ≡ trailing_ones n word
unfolding count_trailing_zeros trailing_ones
ones_zeros zero word h = refl
ones_zeros (suc n) word h =
    let p : 2 ^ suc n ≡ 2 ^ n * 2 = pow-suc 2 n in
    let digit : ((2 ^ suc n - 1) - word) % 2 ≡ 1 - word % 2 = omega arith in
    let half : ((2 ^ suc n - 1) - word) / 2 ≡ (2 ^ n - 1) - word / 2 = omega arith in
    rw (digit, half) (complement_digit (word % 2) _ _ (omega arith) (ones_zeros n (word / 2) (omega arith)))

ones_room-step : (d word t : ℕ) → word % 2 ≡ d → 2 ^ t ≤ word / 2 + 1 → 2 ^ cond (eqb d 1) (suc t) 0 ≤ word + 1
ones_room-step zero word t e h = omega arith
ones_room-step (suc zero) word t e h = omega (arith, pow-suc 2 t)
ones_room-step (suc (suc d)) word t e h = absurd (omega arith)

-- a word with t trailing ones is at least 2^t - 1
pub ones_room : (n word : ℕ) → 2 ^ trailing_ones n word ≤ word + 1
unfolding trailing_ones
ones_room zero word = omega arith
ones_room (suc n) word = ones_room-step (word % 2) word (trailing_ones n (word / 2)) refl (ones_room n (word / 2))

-- ---- NAPOT, as a program computes it: q is the machine's 2^t and l the first byte

pub power_fits : (t : ℕ) → t < 64 → 1 * 2 ^ t % 2 ^ 64 ≡ 2 ^ t
power_fits t h = let fits : 2 ^ t < 2 ^ 64 = pow-lt h in omega arith

pub power_room : (addr t : ℕ) → t ≡ trailing_ones 64 addr → 2 ^ t ≤ addr + 1
power_room addr t e = rw e (ones_room 64 addr)

module _ (addr p q l : ℕ) (same : q ≡ p) (pos : 0 < p) (room : p ≤ addr + 1) (low : l ≡ min (4 * (addr - (q - 1))) top) where
  first_byte : l ≡ min (4 * (addr - (p - 1))) top
  first_byte = omega arith

  end_small : min (l + q * 8) top ≡ min (4 * (addr - (p - 1)) + p * 8) top
  end_small = omega arith

  end_large : 2 ^ 53 ≤ p → top ≡ min (4 * (addr - (p - 1)) + p * 8) top
  end_large h = omega arith

module _ (addr t q l : ℕ) (same : q ≡ 2 ^ t) (room : 2 ^ t ≤ addr + 1) (low : l ≡ min (4 * (addr - (q - 1))) top) where
  pub napot_small : record { low = l; high = min (l + q * 8) top } ≡ napot addr t
  napot_small =
      rw (pow-add 2 t 3) (span_same (first_byte addr (2 ^ t) q l same (pow_pos t) room low) (end_small addr (2 ^ t) q l same (pow_pos t) room low))

  pub napot_large : 53 ≤ t → record { low = l; high = top } ≡ napot addr t
  napot_large h =
      rw (pow-add 2 t 3)
      (span_same (first_byte addr (2 ^ t) q l same (pow_pos t) room low)
      (end_large addr (2 ^ t) q l same (pow_pos t) room low (pow_mono h)))

-- all ones: the whole of memory
pub napot-whole : (addr t : ℕ) → 64 ≤ t → addr < 2 ^ 64 → record { low = 0; high = top } ≡ napot addr t
napot-whole addr t h fits =
    let large : 2 ^ 64 ≤ 2 ^ t = pow_mono h in
    rw (pow-add 2 t 3) (span_same (omega arith) (omega arith))

-- ---- where a span lies

pub span_bounds : (a addr before : ℕ) → ((span_of a addr before).low ≤ top) × ((span_of a addr before).high ≤ top)
unfolding span_of
span_bounds zero addr before = omega arith
span_bounds (suc zero) addr before = omega arith
span_bounds (suc (suc zero)) addr before = omega arith
span_bounds (suc (suc (suc a))) addr before = omega arith

module _ (s : Span) (byte : ℕ) where
  pub contains_bounds : contains s byte ≡ true → (s.low ≤ byte) × (byte < s.high)
  contains_bounds e =
      let w = both (leb s.low byte) (ltb byte s.high) e in (leb-true _ _ w.0, ltb-true _ _ w.1)

  pub contains_inside : s.low ≤ byte → byte < s.high → contains s byte ≡ true
  contains_inside l h = rw (le-leb _ _ l, lt-ltb _ _ h)

  pub contains-below : byte < s.low → contains s byte ≡ false
  contains-below h = rw (lt-leb _ _ h)

  pub contains-beyond : s.high ≤ byte → contains s byte ≡ false
  contains-beyond h = not-true-false (contains s byte) (λ e. let b = contains_bounds e in absurd (omega arith))

-- a span holds every byte of an access that begins no earlier and ends no later
pub contains_every : (s : Span) (size address : ℕ) → 0 < size
    → (leb s.low address && leb (address + size) s.high) ≡ every_byte (contains s) size address
contains_every s size address p = go (leb s.low address && leb (address + size) s.high) refl
  where
    go : (b : Bool) → (leb s.low address && leb (address + size) s.high) ≡ b → b ≡ every_byte (contains s) size address
    go true e =
        let w = both _ _ e in
        let l = leb-true s.low address w.0 in
        let h = leb-true (address + size) s.high w.1 in
        sym (every_all (contains s) size address (λ b x y. contains_inside s b (omega arith) (omega arith)))
    go false e =
        sym (not-true-false (every_byte (contains s) size address)
        (λ t.
        let first = contains_bounds s address (every_passes (contains s) size address address t (omega arith) (omega arith)) in
        let last = contains_bounds s (address + size - 1) (every_passes (contains s) size address (address + size - 1) t (omega arith) (omega arith)) in
        contradiction (join _ _ (le-leb s.low address first.0) (le-leb (address + size) s.high (omega arith))) e))

-- a span that ends before an access begins, or begins where it has ended, holds none of its bytes
pub contains-none : (s : Span) (size address : ℕ) → (ltb address s.high && ltb s.low (address + size)) ≡ false
    → any_byte (contains s) size address ≡ false
contains-none s size address e =
    any_none (contains s) size address
    (λ b l h.
    not-true-false (contains s b)
    (λ t.
    let w = contains_bounds s b t in
    contradiction (join _ _ (lt-ltb address s.high (omega arith)) (lt-ltb s.low (address + size) (omega arith))) e))

-- ---- an access by its words: it overlaps an entry of whole words where its first word comes before the entry's end, and its end behind the entry's start

module _ (address size : ℕ) (some : 0 < size) (inside : address + size ≤ top) where
  -- the first word is below w where the first byte is below the start of word w, cut at the end of memory
  first_below : (w : ℕ) → ltb (address / 4) w ≡ ltb address (min (4 * w) top)
  first_below w = go (dec_lt (address / 4) w)
    where
      go : Dec (address / 4 < w) → ltb (address / 4) w ≡ ltb address (min (4 * w) top)
      go (yes l) = let k : address < min (4 * w) top = omega arith in rw (lt-ltb (address / 4) w l, lt-ltb address (min (4 * w) top) k)
      go (no l) =
          let h : w ≤ address / 4 = omega arith in
          let k : min (4 * w) top ≤ address = omega arith in
          rw (le-ltb (address / 4) w h, le-ltb address (min (4 * w) top) k)

  -- and word w is below the end where its start is
  end_above : (w : ℕ) → ltb w ((address + size + 3) / 4) ≡ ltb (min (4 * w) top) (address + size)
  end_above w = go (dec_lt w ((address + size + 3) / 4))
    where
      go : Dec (w < (address + size + 3) / 4) → ltb w ((address + size + 3) / 4) ≡ ltb (min (4 * w) top) (address + size)
      go (yes l) =
          let k : min (4 * w) top < address + size = omega arith in
          rw (lt-ltb w ((address + size + 3) / 4) l, lt-ltb (min (4 * w) top) (address + size) k)
      go (no l) =
          let h : (address + size + 3) / 4 ≤ w = omega arith in
          let k : address + size ≤ min (4 * w) top = omega arith in
          rw (le-ltb w ((address + size + 3) / 4) h, le-ltb (min (4 * w) top) (address + size) k)

-- the bytes of a span and those of an access overlap
abbrev pub overlaps : Span → ℕ → ℕ → Bool
overlaps s address size = ltb address s.high && ltb s.low (address + size)

module _ (address size addr before : ℕ) where
  pub off_overlaps : overlaps (span_of 0 addr before) address size ≡ false
  unfolding span_of
  off_overlaps = rw (le-ltb address 0 (omega arith))

  module _ (some : 0 < size) (inside : address + size ≤ top) where
    pub tor_overlaps : overlaps (span_of 1 addr before) address size ≡ (ltb (address / 4) addr && ltb before ((address + size + 3) / 4))
    unfolding span_of
    tor_overlaps = rw (first_below address size some inside addr, end_above address size some inside before)

    pub na4_overlaps : overlaps (span_of 2 addr before) address size ≡ (ltb (address / 4) (addr + 1) && ltb addr ((address + size + 3) / 4))
    unfolding span_of
    na4_overlaps =
        let next : 4 * (addr + 1) ≡ 4 * addr + 4 = omega arith in
        rw (end_above address size some inside addr, first_below address size some inside (addr + 1), next)
