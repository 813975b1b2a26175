-- The first number of a list that passes a test, and the loop that looks for it: the numbers from i on decide as all do; the interrupt that step 7
-- chooses. Assumes nothing.
use Rattle.std.proofs.Common.{◌≡◌, ℕ, ◌+◌, ◌<◌, ◌≤◌, Bool, true, false, cond, ltb, List, [], ◌∷◌, length, get_or, drop, refl, add-one, arith, drop_of_length-le, drop-cons, ltb-true, Option, Some, None}
use Rattle.bits.proofs.Conjunction.{both}
use Rattle.bits.specs.Lists.{all}
use Rattle.bits.specs.Mask.{test_bit}
use Rattle.steps.specs.declared.Level.{Level}
use Rattle.steps.specs.declared.Level.TheVariants.{Supervisor, Machine}
use Rattle.registers.specs.declared.Registers.{Registers}
use Rattle.trap.specs.Interrupt.{takeable_to, first_of, priority, or_else, machine_bound_first}

module _ (test : ℕ → Bool) (xs : List ℕ) where
  first-at : (i : ℕ) → i < length xs → first_of test (drop i xs) ≡ cond (test (get_or xs i 0)) (Some (get_or xs i 0)) (first_of test (drop (i + 1) xs))
  first-at i h = rw (add-one, drop-cons xs i 0)

  pub first_found : (i : ℕ) → i < length xs → first_of test (drop i xs) ≡ first_of test xs → test (get_or xs i 0) ≡ true → Some (get_or xs i 0) ≡ first_of test xs
  first_found i h e p = rw (← e, first-at i h, p)

  pub first_next : (i : ℕ) → i < length xs → first_of test (drop i xs) ≡ first_of test xs → test (get_or xs i 0) ≡ false → first_of test (drop (i + 1) xs) ≡ first_of test xs
  first_next i h e p = rw (← e, first-at i h, p)

  pub first-none : (i : ℕ) → length xs ≤ i → first_of test (drop i xs) ≡ first_of test xs → None ≡ first_of test xs
  first-none i h e = rw (← e, drop_of_length-le xs h)

pub none_chosen : {P : Type 0} {i : ℕ} → None ≡ Some i → P
none_chosen q = let z : ◌≡◌ {A = ℕ} 0 1 = cc in absurd (omega arith)

module _ (test : ℕ → Bool) (i : ℕ) where
  -- the number chosen is the first of the list, or is chosen of the rest
  pub at_head : (P : Type 0) (x : ℕ) (xs : List ℕ) → (test x ≡ true → x ≡ i → P) → (test x ≡ false → first_of test xs ≡ Some i → P)
      → first_of test (x ∷ xs) ≡ Some i → P
  at_head P x xs here later q = go (test x) refl q
    where
      go : (b : Bool) → test x ≡ b → cond b (Some x) (first_of test xs) ≡ Some i → P
      go true p e = here p cc
      go false p e = later p e

  -- it passes the test
  pub passes : (xs : List ℕ) → first_of test xs ≡ Some i → test i ≡ true
  passes [] q = none_chosen q
  passes (x ∷ xs) q = at_head (test i ≡ true) x xs (λ p e. rw e at p) (λ p e. passes xs e) q

  -- it has what all numbers of the list have
  like_all : (good : ℕ → Bool) (xs : List ℕ) → all good xs ≡ true → first_of test xs ≡ Some i → good i ≡ true
  unfolding all
  like_all good [] a q = none_chosen q
  like_all good (x ∷ xs) a q =
      let w = both (good x) (all good xs) a in
      at_head (good i ≡ true) x xs (λ p e. rw e at w.0) (λ p e. like_all good xs w.1 e) q

-- two tests that agree on the places of a word choose alike
first_same : (f g : ℕ → Bool) (xs : List ℕ) → all (λ (n : ℕ). ltb n 64) xs ≡ true → ((i : ℕ) → i < 64 → f i ≡ g i) → first_of f xs ≡ first_of g xs
unfolding all
first_same f g [] a h = refl
first_same f g (x ∷ xs) a h =
    let w = both (ltb x 64) (all (λ (n : ℕ). ltb n 64) xs) a in
    rw (h x (ltb-true x 64 w.0), first_same f g xs w.1 h)

-- the first of a word whose bits are the takeable interrupts bound for a level
pub first-bound : (level : Level) (r : Registers) (set : ℕ) → ((i : ℕ) → i < 64 → test_bit set i ≡ takeable_to level r i)
    → first_of (test_bit set) priority ≡ first_of (takeable_to level r) priority
unfolding all
first-bound level r set h = first_same (test_bit set) (takeable_to level r) priority refl h

-- what is chosen of two is chosen by one of them
either_chosen : {P : Type 0} (first second : Option ℕ) (i : ℕ) → (first ≡ Some i → P) → (second ≡ Some i → P) → or_else first second ≡ Some i → P
either_chosen (Some j) second i p q e = p e
either_chosen None second i p q e = q e

module _ (r : Registers) (i : ℕ) where
  chosen_to : (level : Level) → first_of (takeable_to level r) priority ≡ Some i → i < 64
  unfolding all
  chosen_to level e = ltb-true i 64 (like_all (takeable_to level r) i (λ (n : ℕ). ltb n 64) priority refl e)

  -- the interrupt chosen is a place of a word
  pub chosen : machine_bound_first r ≡ Some i → i < 64
  chosen e = either_chosen _ _ i (chosen_to Machine) (chosen_to Supervisor) e
