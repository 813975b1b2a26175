-- Words within a mask.
use mathlib.Core.Path.{◌≡◌, sym, ap, ap₂, ◌∙◌}
use mathlib.Core.Bool.{true}
use Prim.Native.Nat.{ℕ, ◌-◌, ◌^◌}
use borrow.Author.Tests.{eq-eqb, eqb-true}
use lib.Bits.{bit_and, bit_or, and_self, and_comm}
use Rattle.bits.specs.Mask.{within, cleared, replaced}
use Rattle.bits.proofs.BitLaws.{and_assoc, and_or}

-- what a mask keeps of a word is within it
pub within_mask : (mask word : ℕ) → within mask (bit_and word mask) ≡ true
within_mask mask word = eq-eqb (bit_and (bit_and word mask) mask) (bit_and word mask) (and_assoc word mask mask ∙ ap (bit_and word) (and_self mask))

-- the bits that two words share are within what either of them is within
pub within_and_left : (mask a b : ℕ) → within mask a ≡ true → within mask (bit_and a b) ≡ true
within_and_left mask a b p =
    eq-eqb (bit_and (bit_and a b) mask) (bit_and a b)
    (and_assoc a b mask ∙ ap (bit_and a) (and_comm b mask) ∙ sym (and_assoc a mask b) ∙ ap (λ (n : ℕ). bit_and n b) (eqb-true (bit_and a mask) a p))

pub within_and_right : (mask a b : ℕ) → within mask b ≡ true → within mask (bit_and a b) ≡ true
within_and_right mask a b p =
    eq-eqb (bit_and (bit_and a b) mask) (bit_and a b) (and_assoc a b mask ∙ ap (bit_and a) (eqb-true (bit_and b mask) b p))

pub within_or : (mask a b : ℕ) → within mask a ≡ true → within mask b ≡ true → within mask (bit_or a b) ≡ true
within_or mask a b p q =
    eq-eqb (bit_and (bit_or a b) mask) (bit_or a b)
    (and_or a b mask ∙ ap₂ bit_or (eqb-true (bit_and a mask) a p) (eqb-true (bit_and b mask) b q))

-- bits of a mask that is within the other mask can be replaced
pub within-replaced : (outer mask value word : ℕ) → within outer mask ≡ true → within outer word ≡ true → within outer (replaced mask value word) ≡ true
within-replaced outer mask value word p q =
    within_or outer (cleared mask word) (bit_and value mask) (within_and_left outer word (2 ^ 64 - 1 - mask) q) (within_and_right outer value mask p)
