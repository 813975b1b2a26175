-- What a hart can hold, judged eight configuration bytes at a time, and by the bits of all addresses together. Assumes nothing.
use Prim.Native.Nat.{ℕ, zero, suc, ◌+◌, ◌*◌, ◌/◌, ◌%◌, ◌^◌, ◌<◌}
use mathlib.Core.Path.{◌≡◌, refl, sym, ap, ap₂, ◌∙◌}
use mathlib.Core.Bool.{Bool, true, false, not, cond, ◌&&◌}
use native.Mathlib.Omega.{arith}
use borrow.Author.Tests.{eq-eqb, eqb-true, lt-ltb, ltb-true}
use lib.Bits.{bit_and, bit_or, and_block, or_block, and_zero_r, or_lt, and_le_l, and_le_r, or_add_and}
use lib.Dec.{eqb, ltb}
use lib.ListN.{replicate}
use Rattle.bits.specs.Lists.{all}
use Rattle.bits.proofs.Conjunction.{both, join}
use Rattle.bits.proofs.BitSolve.{upto_sound}
use Rattle.protection.specs.Configs.{packed, unpacked}
use Rattle.protection.specs.Hold.{config_allowed}

-- tests that pass together are the same
together : (a b : Bool) → (a ≡ true → b ≡ true) → (b ≡ true → a ≡ true) → a ≡ b
together true b f g = sym (f refl)
together false true f g = g refl
together false false f g = refl

-- whether two tests give the same
abbrev agree : Bool → Bool → Bool
agree true b = b
agree false b = not b

agree_eq : (a b : Bool) → agree a b ≡ true → a ≡ b
agree_eq true b e = sym e
agree_eq false true e = e
agree_eq false false e = refl

-- two numbers are the same where their lowest bytes and all above these are
byte_more : (a b r s : ℕ) → r < 256 → s < 256 → eqb (a * 256 + r) (b * 256 + s) ≡ (eqb r s && eqb a b)
byte_more a b r s h k =
    together (eqb (a * 256 + r) (b * 256 + s)) (eqb r s && eqb a b)
    (λ e.
    let w = eqb-true (a * 256 + r) (b * 256 + s) e in
    join (eqb r s) (eqb a b) (eq-eqb r s (omega arith)) (eq-eqb a b (omega arith)))
    (λ e.
    let w = both (eqb r s) (eqb a b) e in
    eq-eqb (a * 256 + r) (b * 256 + s) (omega (arith, eqb-true r s w.0, eqb-true a b w.1)))

-- In a byte bit 0 is set where bit 1 is, and, unless NA4 can be selected, bit 3 where bit 4 is: masks 1 and 9.

abbrev agrees : Bool → ℕ → Bool
agrees na4 b = agree (eqb (bit_and b (bit_or (bit_and (b / 2) (cond na4 1 9)) 0x60)) (bit_and (b / 2) (cond na4 1 9))) (config_allowed na4 b)

-- one byte, by trying all
byte-held : (na4 : Bool) (byte : ℕ) → byte < 256
    → eqb (bit_and byte (bit_or (bit_and (byte / 2) (cond na4 1 9)) 0x60)) (bit_and (byte / 2) (cond na4 1 9)) ≡ config_allowed na4 byte
byte-held na4 byte h = agree_eq _ _ (tried na4)
  where
    tried : (na4 : Bool) → agrees na4 byte ≡ true
    tried true = upto_sound 256 (agrees true) refl byte h
    tried false = upto_sound 256 (agrees false) refl byte h

-- a mask acts on the lowest byte and on all above it
mask_more : (w m c : ℕ) → c < 256 → bit_and w (m * 256 + c) ≡ bit_and (w / 256) m * 256 + bit_and (w % 256) c
mask_more w m c h =
    let s : w ≡ w / 256 * 256 + w % 256 = omega arith in
    ap (λ (x : ℕ). bit_and x (m * 256 + c)) s ∙ and_block 8 (w / 256) m (w % 256) c (omega arith) h

-- bits below the highest of a byte are not moved into it from the next one
half_byte : (w c : ℕ) → c < 128 → bit_and (w / 2 % 256) c ≡ bit_and (w % 256 / 2) c
half_byte w c h =
    let s : w / 2 % 256 ≡ w / 256 % 2 * 2 ^ 7 + w % 256 / 2 = omega arith in
    let t : c ≡ 0 * 2 ^ 7 + c = omega arith in
    let z = and_zero_r (w / 256 % 2) in
    ap₂ bit_and s t ∙ and_block 7 (w / 256 % 2) 0 (w % 256 / 2) c (omega arith) h ∙ omega (arith, z)

pairs_small : (na4 : Bool) → cond na4 1 9 < 128
pairs_small true = omega arith
pairs_small false = omega arith

-- n bytes of a word
pub word_held : (na4 : Bool) (n word : ℕ)
    → eqb (bit_and word (bit_or (bit_and (word / 2) (packed (replicate n (cond na4 1 9)))) (packed (replicate n 0x60))))
    (bit_and (word / 2) (packed (replicate n (cond na4 1 9))))
    ≡ all (config_allowed na4) (unpacked n word)
unfolding packed unpacked all
word_held na4 zero w = rw (and_zero_r (w / 2), and_zero_r w)
word_held na4 (suc n) w =
    let c : ℕ = cond na4 1 9 in
    let pairs = packed (replicate n c) in
    let reserved = packed (replicate n 0x60) in
    let first = bit_and (w % 256 / 2) c in
    let rest = bit_and (w / 256 / 2) pairs in
    let s : w / 2 / 256 ≡ w / 256 / 2 = omega arith in
    let k = pairs_small na4 in
    let f : first < 256 = omega (arith, k, and_le_r (w % 256 / 2) c) in
    let g = or_lt 8 first 0x60 f (omega arith) in
    rw (
      mask_more (w / 2) pairs c (omega arith),
      half_byte w c k,
      s,
      or_block 8 rest reserved first 0x60 f (omega arith),
      mask_more w (bit_or rest reserved) (bit_or first 0x60) g,
    )
    (byte_more (bit_and (w / 256) (bit_or rest reserved)) rest (bit_and (w % 256) (bit_or first 0x60)) first (omega (arith, and_le_r (w % 256) (bit_or first 0x60), g)) f
    ∙ ap₂ ◌&&◌ (byte-held na4 (w % 256) (omega arith)) (word_held na4 n (w / 256)))

-- the bits of two numbers together lie below a place where those of both do
pub or_below : (place a b : ℕ) → ltb (bit_or a b) (2 ^ place) ≡ (ltb a (2 ^ place) && ltb b (2 ^ place))
or_below k a b =
    together (ltb (bit_or a b) (2 ^ k)) (ltb a (2 ^ k) && ltb b (2 ^ k))
    (λ e.
    let h = ltb-true (bit_or a b) (2 ^ k) e in
    let s = or_add_and a b in
    join (ltb a (2 ^ k)) (ltb b (2 ^ k)) (lt-ltb a (2 ^ k) (omega (arith, s, and_le_r a b, h))) (lt-ltb b (2 ^ k) (omega (arith, s, and_le_l a b, h))))
    (λ e.
    let w = both (ltb a (2 ^ k)) (ltb b (2 ^ k)) e in
    lt-ltb (bit_or a b) (2 ^ k) (or_lt k a b (ltb-true a (2 ^ k) w.0) (ltb-true b (2 ^ k) w.1)))
