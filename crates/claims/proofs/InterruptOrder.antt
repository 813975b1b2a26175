-- Step 7 takes the takeable interrupt before which no takeable one goes. Assumes nothing.
use Rattle.std.specs.Prelude.{Option, Some, None}
use Prim.Native.Nat.{ℕ, suc, ◌<◌}
use mathlib.Core.Path.{◌≡◌, refl, sym, ap, ◌∙◌}
use mathlib.Core.Bool.{Bool, true, false, cond, ◌&&◌}
use mathlib.Core.List.{List, [], ◌∷◌}
use mathlib.Core.Logic.{inl, inr}
use native.Mathlib.Omega.{arith}
use borrow.Author.Tests.{eq-eqb, eqb-true, ltb-true}
use lib.Dec.{eqb, ltb}
use lib.ListN.{length}
use Rattle.bits.specs.Mask.{test_bit}
use Rattle.bits.proofs.Conjunction.{both, contradiction}
use Rattle.steps.specs.declared.Level.{Level}
use Rattle.steps.specs.declared.Level.TheVariants.{Supervisor, Machine}
use Rattle.steps.specs.declared.Event.TheVariants.{TakeInterrupt}
use Rattle.steps.specs.declared.Step.TheVariants.{Event as EventStep}
use Rattle.steps.specs.Number.{level_number}
use Rattle.registers.specs.declared.Registers.{Registers}
use Rattle.registers.specs.Status.{pending}
use Rattle.protection.proofs.SameLaws.{same_pmp-refl}
use Rattle.state.specs.Hold.{can_hold}
use Rattle.trap.specs.declared.Outcome.{Outcome}
use Rattle.trap.specs.Interrupt.{admits, takeable, takeable_to, first_of, priority, or_else, machine_bound_first, taken_by, interrupt_taken}
use Rattle.trap.proofs.First.{none_chosen, at_head, passes}
use Rattle.paging.specs.Memory.{Memory}
use Rattle.map.specs.declared.Map.{Map}
use Rattle.engine.specs.Effects.{with_registers, step_rule}
use Rattle.hart.specs.declared.Hart.{Hart}
use Rattle.hart.specs.declared.Stepped.{Stepped}
use Rattle.hart.specs.Steps.{hart_with, handed_back, stepped}
use Rattle.claims.specs.InterruptOrder.{delegated, may_take, place_in, InOrder, goes_before, TakesFirst}

-- ---- the first of a list that passes a test

module _ (test : ℕ → Bool) (i : ℕ) where
  -- i has a place in the list
  placed : (xs : List ℕ) → first_of test xs ≡ Some i → place_in xs i < length xs
  placed [] q = none_chosen q
  placed (x ∷ xs) q =
      at_head test i (place_in (x ∷ xs) i < length (x ∷ xs)) x xs (λ p e. rw (eq-eqb x i e) (omega arith))
      (λ p e. next (eqb x i) (placed xs e)) q
    where
      next : (b : Bool) → place_in xs i < length xs → cond b 0 (suc (place_in xs i)) < suc (length xs)
      next true l = omega arith
      next false l = omega arith

  -- what comes before i fails
  earlier_fails : (j : ℕ) (xs : List ℕ) → first_of test xs ≡ Some i → place_in xs j < place_in xs i → test j ≡ false
  earlier_fails j [] q l = none_chosen q
  earlier_fails j (x ∷ xs) q l =
      at_head test i (test j ≡ false) x xs (λ p e. absurd (omega (arith, rw (eq-eqb x i e) at l)))
      (λ p e. by_head (eqb x j) refl (eqb x i) refl p (earlier_fails j xs e)) q
    where
      by_head : (b : Bool) → eqb x j ≡ b → (c : Bool) → eqb x i ≡ c → test x ≡ false → (place_in xs j < place_in xs i → test j ≡ false) → test j ≡ false
      by_head true u c v p later = rw (eqb-true x j u) at p
      by_head false u true v p later = absurd (omega (arith, rw v at l))
      by_head false u false v p later = later (omega (arith, rw (u, v) at l))

-- where none is chosen, all fail
all_fail : (test : ℕ → Bool) (j : ℕ) (xs : List ℕ) → first_of test xs ≡ None → place_in xs j < length xs → test j ≡ false
all_fail test j [] q l = absurd (omega arith)
all_fail test j (x ∷ xs) q l = go (test x) refl q (eqb x j) refl (all_fail test j xs)
  where
    go : (b : Bool) → test x ≡ b → cond b (Some x) (first_of test xs) ≡ None → (c : Bool) → eqb x j ≡ c
        → (first_of test xs ≡ None → place_in xs j < length xs → test j ≡ false) → test j ≡ false
    go true p e c u later = none_chosen (sym e)
    go false p e true u later = rw (eqb-true x j u) at p
    go false p e false u later = later e (omega (arith, rw u at l))

-- ---- takeable, and bound for a level

-- mideleg's bit of an interrupt bound for the level
abbrev delegation_bit : Level → Bool
delegation_bit Supervisor = true
delegation_bit Machine = false

module _ (r : Registers) where
  admits_either : (d : Bool) → cond d (admits Supervisor r) (admits Machine r) ≡ admits (cond d Supervisor Machine) r
  admits_either true = refl
  admits_either false = refl

  may_take_lem : (i : ℕ) → may_take r i ≡ takeable r i
  unfolding takeable
  may_take_lem i = ap (λ (a : Bool). test_bit (pending r) i && (test_bit r.interrupts.mie i && a)) (admits_either (delegated r i))

  level_of_lem : (d : Bool) (level : Level) → eqb (level_number (cond d Supervisor Machine)) (level_number level) ≡ true → d ≡ delegation_bit level
  level_of_lem true Supervisor e = refl
  level_of_lem true Machine e = sym e
  level_of_lem false Supervisor e = e
  level_of_lem false Machine e = refl

  bound-takeable : (level : Level) (i : ℕ) → takeable_to level r i ≡ true → (delegated r i ≡ delegation_bit level) × (may_take r i ≡ true)
  bound-takeable level i e = let w = both _ _ e in (level_of_lem (delegated r i) level w.0, may_take_lem i ∙ w.1)

  bound_fails : (level : Level) (j : ℕ) → delegated r j ≡ delegation_bit level → takeable_to level r j ≡ false → may_take r j ≡ false
  bound_fails Supervisor j d e = may_take_lem j ∙ rw d at e
  bound_fails Machine j d e = may_take_lem j ∙ rw d at e

  -- what is claimed of a choice
  abbrev Right : Option ℕ → Type 0
  Right (Some i) = InOrder i × (may_take r i ≡ true) × ((j : ℕ) → InOrder j → goes_before r j i ≡ true → may_take r j ≡ false)
  Right None = (j : ℕ) → InOrder j → may_take r j ≡ false

  module _ (level : Level) (i : ℕ) (q : first_of (takeable_to level r) priority ≡ Some i) where
    earlier : (j : ℕ) → delegated r j ≡ delegation_bit level → ltb (place_in priority j) (place_in priority i) ≡ true → may_take r j ≡ false
    earlier j d e = bound_fails level j d (earlier_fails (takeable_to level r) i j priority q (ltb-true _ _ e))

  chosen_right : (m s : Option ℕ) → first_of (takeable_to Machine r) priority ≡ m → first_of (takeable_to Supervisor r) priority ≡ s → Right (or_else m s)
  chosen_right (Some i) s p q =
      let w = bound-takeable Machine i (passes (takeable_to Machine r) i priority p) in
      (placed (takeable_to Machine r) i priority p, w.1, λ j o b. by_level j (delegated r j) refl (rw w.0 at b))
    where
      by_level : (j : ℕ) (d : Bool) → delegated r j ≡ d → cond d false (ltb (place_in priority j) (place_in priority i)) ≡ true → may_take r j ≡ false
      by_level j true d b = absurd (contradiction b refl)
      by_level j false d b = earlier Machine i p j d b
  chosen_right None (Some i) p q =
      let w = bound-takeable Supervisor i (passes (takeable_to Supervisor r) i priority q) in
      (placed (takeable_to Supervisor r) i priority q, w.1, λ j o b. by_level j o (delegated r j) refl (rw w.0 at b))
    where
      by_level : (j : ℕ) → InOrder j → (d : Bool) → delegated r j ≡ d → cond d (ltb (place_in priority j) (place_in priority i)) true ≡ true → may_take r j ≡ false
      by_level j o true d b = earlier Supervisor i q j d b
      by_level j o false d b = bound_fails Machine j d (all_fail (takeable_to Machine r) j priority p o)
  chosen_right None None p q = λ j o. by_level j o (delegated r j) refl
    where
      by_level : (j : ℕ) → InOrder j → (d : Bool) → delegated r j ≡ d → may_take r j ≡ false
      by_level j o true d = bound_fails Supervisor j d (all_fail (takeable_to Supervisor r) j priority q o)
      by_level j o false d = bound_fails Machine j d (all_fail (takeable_to Machine r) j priority p o)

-- ---- the step

-- the registers that a step of them leaves, with its answer
abbrev left : Hart → Map → Outcome → Stepped
left h map o = handed_back (hart_with (with_registers h.state o.registers)) map o.answer

step_seven : (h : Hart) (map : Map) (m : Memory) → can_hold h.state ≡ true
    → stepped h map m (EventStep TakeInterrupt) ≡ left h map (taken_by h.state.registers (machine_bound_first h.state.registers))
unfolding stepped step_rule interrupt_taken
step_seven h map m p = rw (p, same_pmp-refl h.state.pmp)

pub takes_first : (h : Hart) (map : Map) (m : Memory) → can_hold h.state ≡ true → TakesFirst h map (stepped h map m (EventStep TakeInterrupt))
takes_first h map m p = go (machine_bound_first r) refl (chosen_right r _ _ refl refl)
  where
    r : Registers
    r = h.state.registers

    go : (c : Option ℕ) → machine_bound_first r ≡ c → Right r (machine_bound_first r) → TakesFirst h map (stepped h map m (EventStep TakeInterrupt))
    go (Some i) e w =
        let v = rw e at w in
        inl (record { interrupt = i; ordered = v.0; takeable = v.1; first = v.2; entry = step_seven h map m p ∙ ap (λ (c : Option ℕ). left h map (taken_by r c)) e })
    go None e w = inr (record { none = rw e at w; unchanged = step_seven h map m p ∙ ap (λ (c : Option ℕ). left h map (taken_by r c)) e })
