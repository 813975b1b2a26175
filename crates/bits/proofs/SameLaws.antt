-- Lists that compare as the same are equal, and the loop that compares. Assumes nothing.
use Prim.Native.Nat.{ℕ, ◌+◌, ◌≤◌, ◌<◌}
use mathlib.Core.Path.{◌≡◌, refl, ap}
use mathlib.Core.Bool.{Bool, true, false, ◌&&◌}
use mathlib.Core.List.{List, [], ◌∷◌}
use native.Mathlib.Omega.{arith}
use native.Mathlib.Numerals.{add-one}
use lib.Dec.{eqb}
use lib.ListN.{length, get_or, drop, drop_of_length-le}
use lib.Seq.{drop-cons}
use borrow.Author.Tests.{eqb-true, eq-eqb}
use Rattle.bits.specs.Same.{same_list}

pub same_refl : (s : List ℕ) → same_list s s ≡ true
unfolding same_list
same_refl [] = refl
same_refl (a ∷ s) = rw (eq-eqb a a refl) (same_refl s)

pub same_eq : (s t : List ℕ) → same_list s t ≡ true → s ≡ t
unfolding same_list
same_eq [] [] h = refl
same_eq [] (b ∷ t) h = cc
same_eq (a ∷ s) [] h = cc
same_eq (a ∷ s) (b ∷ t) h = go (eqb a b) refl h (same_eq s t)
  where
    go : (e : Bool) → eqb a b ≡ e → (e && same_list s t) ≡ true → (same_list s t ≡ true → s ≡ t) → a ∷ s ≡ b ∷ t
    go true p q r = rw (eqb-true a b p, r q)
    go false p q r = cc

-- ---- the loop

pub same_lengths : (s t : List ℕ) → (length s ≡ length t → ⊥) → false ≡ same_list s t
same_lengths s t h = go (same_list s t) refl
  where
    go : (b : Bool) → same_list s t ≡ b → false ≡ b
    go true p = absurd (h (ap length (same_eq s t p)))
    go false p = refl

module _ (s t : List ℕ) (equal : length s ≡ length t) where
  pub same_more : (r : Bool) (i : ℕ) → i < length s
      → (r && same_list (drop i s) (drop i t)) ≡ ((r && eqb (get_or s i 0) (get_or t i 0)) && same_list (drop (i + 1) s) (drop (i + 1) t))
  unfolding same_list
  same_more true i h = rw (drop-cons s i 0 h, drop-cons t i 0 (omega arith), add-one i)
  same_more false i h = refl

  pub same_all : (r : Bool) (i : ℕ) → length s ≤ i → (r && same_list (drop i s) (drop i t)) ≡ r
  unfolding same_list
  same_all true i h = let k : length t ≤ i = omega arith in rw (drop_of_length-le s h, drop_of_length-le t k)
  same_all false i h = refl
