-- The numbers of the step that numbers form: the first is the same, and an elapsed step has its cycles. Assumes nothing.
use Rattle.std.proofs.Common.{◌≡◌, ℕ, Bool, true, false, cond, eqb, get_or, sym, refl, ◌∙◌, subst, arith, eqb-true, Option, Some}
use Rattle.steps.specs.declared.Step.{Step}
use Rattle.steps.specs.Decode.{decoded}
use Rattle.ledger.specs.Numbers.{numbers_of}

pub record FormedBy (n a : ℕ) (s : Step) : Type 0 where
  pub number : get_or (numbers_of s) 0 0 ≡ n
  pub cycles : n ≡ 17 → get_or (numbers_of s) 1 0 ≡ a

module _ (n a : ℕ) where
  abbrev Numbered : Option Step → Type 0
  Numbered d = (s : Step) → d ≡ Some s → FormedBy n a s

  else_numbered : (k : ℕ) (t : Step) (d : Option Step) → get_or (numbers_of t) 0 0 ≡ k → (k ≡ 17 → get_or (numbers_of t) 1 0 ≡ a) → Numbered d
      → Numbered (cond (eqb n k) (Some t) d)
  else_numbered k t d e f other = go (eqb n k) refl
    where
      go : (b : Bool) → eqb n k ≡ b → Numbered (cond b (Some t) d)
      go true h s q =
          let same : t ≡ s = cc in
          let n≡k = eqb-true n k h in
          subst (FormedBy n a) same (record { number = e ∙ sym n≡k; cycles = λ z. f (sym n≡k ∙ z) })
      go false h s q = other s q

  no_elapsed : {k x : ℕ} → (k ≡ 17 → ⊥) → k ≡ 17 → x ≡ a
  no_elapsed other z = absurd (other z)

  pub formed-by : (b : ℕ) → Numbered (decoded n a b)
  unfolding decoded
  formed-by b =
      else_numbered 0 _ _ refl (no_elapsed (λ z. omega arith)) (else_numbered 1 _ _ refl (no_elapsed (λ z. omega arith)) (else_numbered 2 _ _ refl (no_elapsed (λ z. omega arith)) (
      else_numbered 3 _ _ refl (no_elapsed (λ z. omega arith)) (else_numbered 4 _ _ refl (no_elapsed (λ z. omega arith)) (else_numbered 5 _ _ refl (no_elapsed (λ z. omega arith)) (
      else_numbered 6 _ _ refl (no_elapsed (λ z. omega arith)) (else_numbered 7 _ _ refl (no_elapsed (λ z. omega arith)) (else_numbered 8 _ _ refl (no_elapsed (λ z. omega arith)) (
      else_numbered 9 _ _ refl (no_elapsed (λ z. omega arith)) (else_numbered 10 _ _ refl (no_elapsed (λ z. omega arith)) (else_numbered 11 _ _ refl (no_elapsed (λ z. omega arith)) (
      else_numbered 12 _ _ refl (no_elapsed (λ z. omega arith)) (else_numbered 13 _ _ refl (no_elapsed (λ z. omega arith)) (else_numbered 14 _ _ refl (no_elapsed (λ z. omega arith)) (
      else_numbered 15 _ _ refl (no_elapsed (λ z. omega arith)) (else_numbered 16 _ _ refl (no_elapsed (λ z. omega arith)) (else_numbered 17 _ _ refl (λ z. refl)
      (λ s q. let z : ◌≡◌ {A = ℕ} 0 1 = cc in absurd (omega arith)))))))))))))))))))
