-- The number of a step tells whether it is an access. Assumes nothing.
use Rattle.std.proofs.Common.{◌≡◌, ℕ, Bool, true, false, cond, eqb, leb, sym, refl, ap, ◌∙◌, arith, eqb-true, leb-true, Option, Some, None}
use borrow.Author.Tests.{eqb-false}
use Rattle.bits.proofs.Conjunction.{both}
use Rattle.steps.specs.declared.Step.{Step}
use Rattle.steps.specs.Decode.{decoded, is_access, names_access}

-- of what numbers name
abbrev access_of : Option Step → Bool
access_of (Some s) = is_access s
access_of None = false

else_access : (n k : ℕ) (s : Step) (d : Option Step) → is_access s ≡ names_access k → ((n ≡ k → ⊥) → access_of d ≡ names_access n)
    → access_of (cond (eqb n k) (Some s) d) ≡ names_access n
else_access n k s d here there = go (eqb n k) refl
  where
    go : (b : Bool) → eqb n k ≡ b → access_of (cond b (Some s) d) ≡ names_access n
    go true e = here ∙ ap names_access (sym (eqb-true n k e))
    go false e = there (eqb-false n k e)

outside : (n : ℕ) → (n ≡ 14 → ⊥) → (n ≡ 15 → ⊥) → (n ≡ 16 → ⊥) → false ≡ names_access n
outside n x y z = go (names_access n) refl
  where
    go : (b : Bool) → names_access n ≡ b → false ≡ b
    go true e =
        let p = both (leb 14 n) (leb n 16) e in
        absurd (omega (arith, leb-true 14 n p.0, leb-true n 16 p.1, x, y, z))
    go false e = refl

number_access : (n a b : ℕ) → access_of (decoded n a b) ≡ names_access n
unfolding decoded
number_access n a b =
    else_access n 0 _ _ refl (λ _. else_access n 1 _ _ refl (λ _. else_access n 2 _ _ refl (λ _. else_access n 3 _ _ refl (λ _. else_access n 4 _ _ refl (λ _.
    else_access n 5 _ _ refl (λ _. else_access n 6 _ _ refl (λ _. else_access n 7 _ _ refl (λ _. else_access n 8 _ _ refl (λ _. else_access n 9 _ _ refl (λ _.
    else_access n 10 _ _ refl (λ _. else_access n 11 _ _ refl (λ _. else_access n 12 _ _ refl (λ _. else_access n 13 _ _ refl (λ _.
    else_access n 14 _ _ refl (λ x. else_access n 15 _ _ refl (λ y. else_access n 16 _ _ refl (λ z. else_access n 17 _ _ refl (λ _.
    outside n x y z))))))))))))))))))

pub access_number : (n a b : ℕ) {s : Step} → decoded n a b ≡ Some s → names_access n ≡ is_access s
access_number n a b e = sym (number_access n a b) ∙ ap access_of e
