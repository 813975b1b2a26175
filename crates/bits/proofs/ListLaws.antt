-- A test of every element of a list (of one element, after a store, of two lists in a row, and the loop that makes it), and a part by its elements.
-- Assumes nothing.
use Prim.Native.Nat.{ℕ, zero, suc, ◌+◌, ◌≤◌, ◌<◌}
use mathlib.Core.Path.{◌≡◌, refl, sym, ap, ◌∙◌}
use mathlib.Core.Bool.{Bool, true, ◌&&◌, and_assoc, and-true}
use mathlib.Core.List.{List, [], ◌∷◌, ◌++◌}
use native.Mathlib.Omega.{arith}
use native.Mathlib.Numerals.{add-one}
use lib.ListN.{length, get_or, take, drop, set, drop_of_length-le}
use lib.Seq.{drop-cons, sets}
use Rattle.bits.specs.Lists.{all, elements}
use Rattle.bits.proofs.Conjunction.{both, join}

module _ (test : ℕ → Bool) where
  pub all_get_d : (xs : List ℕ) (i : ℕ) → test 0 ≡ true → all test xs ≡ true → test (get_or xs i 0) ≡ true
  unfolding all
  all_get_d [] i z p = z
  all_get_d (x ∷ xs) zero z p = (both (test x) (all test xs) p).0
  all_get_d (x ∷ xs) (suc i) z p = all_get_d xs i z (both (test x) (all test xs) p).1

  -- a store, also one past the end
  pub all_set : (xs : List ℕ) (i v : ℕ) → test v ≡ true → all test xs ≡ true → all test (set xs i v) ≡ true
  unfolding all
  all_set [] i v q p = p
  all_set (x ∷ xs) zero v q p = join (test v) (all test xs) q (both (test x) (all test xs) p).1
  all_set (x ∷ xs) (suc i) v q p =
      let w = both (test x) (all test xs) p in
      join (test x) (all test (set xs i v)) w.0 (all_set xs i v q w.1)

  pub all_append : (xs ys : List ℕ) → all test (xs ++ ys) ≡ (all test xs && all test ys)
  unfolding all
  all_append [] ys = refl
  all_append (x ∷ xs) ys = ap (λ (b : Bool). test x && b) (all_append xs ys) ∙ sym (and_assoc (test x) (all test xs) (all test ys))

-- ---- the loop: what was found of the first i elements, with the rest, is what holds of all
module _ (test : ℕ → Bool) (xs : List ℕ) where
  pub all_next : (i : ℕ) (found : Bool) → i < length xs → (found && all test (drop i xs)) ≡ all test xs
      → (found && test (get_or xs i 0) && all test (drop (i + 1) xs)) ≡ all test xs
  unfolding all
  all_next i found h e = and_assoc found (test (get_or xs i 0)) (all test (drop (i + 1) xs)) ∙ rw (← e, add-one, drop-cons xs i 0)

  pub all_end : (i : ℕ) (found : Bool) → length xs ≤ i → (found && all test (drop i xs)) ≡ all test xs → found ≡ all test xs
  unfolding all
  all_end i found h e = sym (and-true found) ∙ rw (drop_of_length-le xs h) at e

-- ---- the elements up to the end are what is left there
pub elements_are : (l : List ℕ) (n i : ℕ) → length l ≡ i + n → elements n i l ≡ drop i l
unfolding elements
elements_are l zero i h = let k : length l ≤ i = omega arith in sym (drop_of_length-le l k)
elements_are l (suc n) i h = rw (drop-cons l i 0 (omega arith), elements_are l n (i + 1) (omega arith), add-one i)

-- and those before the end a part of it
pub elements-take : (l : List ℕ) (n i : ℕ) → i + n ≤ length l → elements n i l ≡ take n (drop i l)
unfolding elements
elements-take l zero i h = refl
elements-take l (suc n) i h = rw (drop-cons l i 0 (omega arith), elements-take l n (i + 1) (omega arith), add-one i)

-- a store past the end
pub set_past : (l : List ℕ) (i v : ℕ) → length l ≤ i → set l i v ≡ l
set_past [] i v h = refl
set_past (x ∷ l) zero v h = absurd (omega arith)
set_past (x ∷ l) (suc i) v h = ap (λ (t : List ℕ). x ∷ t) (set_past l i v (omega arith))

-- ---- a copy of n elements, from number q of one list on to place p of another

-- one element is copied, and n are left
pub copy_next : (d s : List ℕ) (p q n : ℕ) {p' q' m : ℕ} → m ≡ suc n → p' ≡ p + 1 → q' ≡ q + 1
    → sets d p (elements m q s) ≡ sets (set d p (get_or s q 0)) p' (elements n q' s)
unfolding elements
copy_next d s p q n em ep eq = rw (em, ep, eq, add-one p)

-- none is left
pub copy_end : (d s : List ℕ) (p q : ℕ) {m : ℕ} → m ≡ 0 → sets d p (elements m q s) ≡ d
unfolding elements
copy_end d s p q em = rw em
