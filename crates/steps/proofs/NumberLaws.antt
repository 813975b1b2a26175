-- Steps from the numbers of a list, three at a time. Assumes nothing.
use Rattle.std.proofs.Common.{◌≡◌, ℕ, suc, ◌+◌, ◌-◌, ◌<◌, ◌≤◌, Bool, true, false, cond, ◌&&◌, eqb, leb, List, [], ◌∷◌, length, get_or, drop, sym, refl, ◌∙◌, arith, length-drop, drop_of_length-le, drop-cons, ne_eqb, leb-true, le-leb, nat_eq, take, Option, Some, None}
use mathlib.Core.Bool.{false≢true}
use borrow.Author.Tests.{eqb-false, lt-leb}
use Rattle.std.proofs.Math.Seq.{take-length}
use Rattle.bits.proofs.Conjunction.{both}
use Rattle.steps.specs.declared.Step.{Step}
use Rattle.steps.specs.Decode.{decoded, steps_of, name_steps}

three : (l : List ℕ) (i : ℕ) → i + 3 ≤ length l
    → drop i l ≡ get_or l i 0 ∷ get_or l (i + 1) 0 ∷ get_or l (i + 2) 0 ∷ drop (i + 3) l
three l i h =
    let p : i + 1 ≡ suc i = omega arith in
    let q : i + 2 ≡ suc (suc i) = omega arith in
    let r : i + 3 ≡ suc (suc (suc i)) = omega arith in
    rw (p, q, r, drop-cons l i 0 (omega arith), drop-cons l (suc i) 0 (omega arith), drop-cons l (suc (suc i)) 0 (omega arith))

-- a step's number above 17
pub above_17 : (l : List ℕ) → 3 ≤ length l → 17 < get_or l 0 0 → name_steps l ≡ false
unfolding name_steps
above_17 [] h g = absurd (omega arith)
above_17 (number ∷ []) h g = absurd (omega arith)
above_17 (number ∷ a ∷ []) h g = absurd (omega arith)
above_17 (number ∷ a ∷ b ∷ l) h g = rw (lt-leb number 17 g)

-- one that names a step: the rest decides
pub rest_named : (l : List ℕ) → 3 ≤ length l → get_or l 0 0 ≤ 17 → name_steps (take (length l - 3) (drop 3 l)) ≡ name_steps l
unfolding name_steps
rest_named [] h g = absurd (omega arith)
rest_named (number ∷ []) h g = absurd (omega arith)
rest_named (number ∷ a ∷ []) h g = absurd (omega arith)
rest_named (number ∷ a ∷ b ∷ l) h g =
    let n : suc (suc (suc (length l))) - 3 ≡ length l = omega arith in
    rw (le-leb number 17 g, n, take-length l)

-- fewer than three numbers are left
pub few_named : (l : List ℕ) → length l < 3 → name_steps l ≡ nat_eq (length l) 0
unfolding name_steps
few_named [] h = refl
few_named (number ∷ []) h = refl
few_named (number ∷ a ∷ []) h = refl
few_named (number ∷ a ∷ b ∷ l) h = absurd (omega arith)

-- a step's number forms a step
pub record IsFormed (d : Option Step) : Type 0 where
  pub step : Step
  pub formed : d ≡ Some step

else-formed : (n k : ℕ) (s : Step) (d : Option Step) → k ≤ n → (k < n → IsFormed d) → IsFormed (cond (eqb n k) (Some s) d)
else-formed n k s d h f = go (eqb n k) refl
  where
    go : (b : Bool) → eqb n k ≡ b → IsFormed (cond b (Some s) d)
    go true e = record { step = s; formed = refl }
    go false e = let n≢k = eqb-false n k e in f (omega arith)

pub number-formed : (n a b : ℕ) → n ≤ 17 → IsFormed (decoded n a b)
unfolding decoded
number-formed n a b h =
    else-formed n 0 _ _ (omega arith) (λ h0. else-formed n 1 _ _ (omega arith) (λ h1. else-formed n 2 _ _ (omega arith) (λ h2. else-formed n 3 _ _ (omega arith) (λ h3.
    else-formed n 4 _ _ (omega arith) (λ h4. else-formed n 5 _ _ (omega arith) (λ h5. else-formed n 6 _ _ (omega arith) (λ h6. else-formed n 7 _ _ (omega arith) (λ h7.
    else-formed n 8 _ _ (omega arith) (λ h8. else-formed n 9 _ _ (omega arith) (λ h9. else-formed n 10 _ _ (omega arith) (λ h10. else-formed n 11 _ _ (omega arith) (λ h11.
    else-formed n 12 _ _ (omega arith) (λ h12. else-formed n 13 _ _ (omega arith) (λ h13. else-formed n 14 _ _ (omega arith) (λ h14. else-formed n 15 _ _ (omega arith) (λ h15.
    else-formed n 16 _ _ (omega arith) (λ h16. else-formed n 17 _ _ (omega arith) (λ h17. absurd (omega arith)))))))))))))))))))

-- no step has a number above 17
passed : (n k : ℕ) (s : Step) (d : Option Step) → k < n → cond (eqb n k) (Some s) d ≡ d
passed n k s d h = rw (ne_eqb n k (omega arith))

pub none-formed : (n a b : ℕ) → 17 < n → decoded n a b ≡ None
unfolding decoded
none-formed n a b h =
    passed n 0 _ _ (omega arith) ∙ passed n 1 _ _ (omega arith) ∙ passed n 2 _ _ (omega arith) ∙ passed n 3 _ _ (omega arith) ∙ passed n 4 _ _ (omega arith)
    ∙ passed n 5 _ _ (omega arith) ∙ passed n 6 _ _ (omega arith) ∙ passed n 7 _ _ (omega arith) ∙ passed n 8 _ _ (omega arith) ∙ passed n 9 _ _ (omega arith)
    ∙ passed n 10 _ _ (omega arith) ∙ passed n 11 _ _ (omega arith) ∙ passed n 12 _ _ (omega arith) ∙ passed n 13 _ _ (omega arith) ∙ passed n 14 _ _ (omega arith)
    ∙ passed n 15 _ _ (omega arith) ∙ passed n 16 _ _ (omega arith) ∙ passed n 17 _ _ (omega arith)

-- what is known of the numbers from i on
pub record Named (l : List ℕ) (i : ℕ) : Type 0 where
  pub step : Step
  pub room : i + 3 ≤ length l
  pub formed : decoded (get_or l i 0) (get_or l (i + 1) 0) (get_or l (i + 2) 0) ≡ Some step
  pub rest : name_steps (drop (i + 3) l) ≡ true
  pub steps : steps_of (drop i l) ≡ step ∷ steps_of (drop (i + 3) l)

room_for : (l : List ℕ) → name_steps l ≡ true → 0 < length l → 3 ≤ length l
unfolding name_steps
room_for [] e h = absurd (omega arith)
room_for (number ∷ []) e h = absurd (false≢true e)
room_for (number ∷ a ∷ []) e h = absurd (false≢true e)
room_for (number ∷ a ∷ b ∷ l) e h = omega arith

three-named : (l : List ℕ) (i : ℕ) → i + 3 ≤ length l → name_steps (drop i l) ≡ (leb (get_or l i 0) 17 && name_steps (drop (i + 3) l))
unfolding name_steps
three-named l i h = rw (three l i h)

first_step : (l : List ℕ) (i : ℕ) → i + 3 ≤ length l → (s : Step)
    → decoded (get_or l i 0) (get_or l (i + 1) 0) (get_or l (i + 2) 0) ≡ Some s → steps_of (drop i l) ≡ s ∷ steps_of (drop (i + 3) l)
unfolding steps_of
first_step l i h s e = rw (three l i h, e)

pub named : (l : List ℕ) (i : ℕ) → i < length l → name_steps (drop i l) ≡ true → Named l i
named l i h e =
    let n = length-drop i l in
    let k : 3 ≤ length (drop i l) = room_for (drop i l) e (omega arith) in
    let room : i + 3 ≤ length l = omega arith in
    let b = both (leb (get_or l i 0) 17) (name_steps (drop (i + 3) l)) (sym (three-named l i room) ∙ e) in
    let f = number-formed (get_or l i 0) (get_or l (i + 1) 0) (get_or l (i + 2) 0) (leb-true (get_or l i 0) 17 b.0) in
    record {
      step = f.step;
      room = room;
      formed = f.formed;
      rest = b.1;
      steps = first_step l i room f.step f.formed;
    }

-- the end of the list
pub nothing_left : (l : List ℕ) (i : ℕ) → length l ≤ i → steps_of (drop i l) ≡ []
unfolding steps_of
nothing_left l i h = let n : drop i l ≡ [] = drop_of_length-le l h in rw n
