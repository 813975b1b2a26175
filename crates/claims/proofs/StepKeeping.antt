-- What every step keeps, and the rule of its map. Assumes nothing.
use Prim.Native.Nat.{ℕ, ◌≤◌, ◌<◌}
use mathlib.Core.Path.{◌≡◌, refl, sym, ap, ◌∙◌}
use mathlib.Core.Bool.{Bool, true, false, cond, ◌&&◌}
use mathlib.Core.List.{List}
use mathlib.Core.Logic.{◌⊎◌, inl, inr}
use native.Mathlib.Omega.{arith}
use borrow.Author.Tests.{lt-ltb, le-ltb}
use lib.Dec.{ltb}
use Rattle.bits.proofs.Conjunction.{both, not-true-false}
use Rattle.bits.proofs.FoldLaws.{fold-keeps}
use Rattle.pmp.specs.Entry.{span_of, legal_grain}
use Rattle.steps.specs.declared.Step.{Step}
use Rattle.steps.specs.declared.Step.TheVariants.{Reset}
use Rattle.protection.specs.Same.{same_pmp}
use Rattle.protection.proofs.SameLaws.{same_pmp_lem, same_pmp-refl}
use Rattle.protection.specs.Hold.{pmp_holdable}
use Rattle.protection.proofs.Held.{pmp-held}
use Rattle.registers.specs.Hold.{registers_holdable}
use Rattle.paging.specs.Satp.{satp_holdable}
use Rattle.paging.specs.Memory.{Memory}
use Rattle.state.specs.declared.State.{State}
use Rattle.state.specs.Hold.{can_hold}
use Rattle.map.specs.declared.Map.{Map}
use Rattle.map.specs.Painting.{painted, ranges_of}
use Rattle.map.specs.Compiled.{compiled}
use Rattle.map.proofs.Lawful.{less}
use Rattle.engine.specs.Effects.{is_reset, step_rule}
use Rattle.engine.specs.Runs.{Lent, state_after, after_all}
use Rattle.engine.proofs.EffectLaws.{only-reset, rule_grain}
use Rattle.engine.proofs.Holds.{rule_holds}
use Rattle.hart.specs.declared.Hart.{Hart}
use Rattle.hart.specs.declared.Stepped.{Stepped}
use Rattle.hart.specs.Steps.{map_for, reset_mapped, reset_done, stepped}
use Rattle.hart.proofs.StepLaws.{step_parts}
use Rattle.claims.specs.Keeps.{StepKeeps}

reset-given : (h : Hart) (map : Map) (m : Memory) → stepped h map m Reset ≡ reset_done h.state.pmp.grain
unfolding stepped
reset-given h map m = refl

module _ (h : Hart) (map : Map) (m : Memory) (step : Step) (other : is_reset step ≡ false) where
  map_kept : h.state.pmp ≡ (step_rule h.state m step).state.pmp → (stepped h map m step).map ≡ map
  unfolding stepped
  map_kept p = rw (other, ← p, same_pmp-refl h.state.pmp)

  map_anew : (h.state.pmp ≡ (step_rule h.state m step).state.pmp → ⊥) → (stepped h map m step).map ≡ map_for (step_rule h.state m step).state.pmp
  unfolding stepped
  map_anew z =
      let after = (step_rule h.state m step).state.pmp in
      rw (other, not-true-false (same_pmp h.state.pmp after) (λ q. z (same_pmp_lem h.state.pmp after (sym (rule_grain h.state m step other)) q)))

-- ---- the grain

legal_is : (g : ℕ) → legal_grain g ≡ cond (ltb 10 g) 0 g
legal_is g = go (less 10 g)
  where
    go : (10 < g) ⊎ (g ≤ 10) → legal_grain g ≡ cond (ltb 10 g) 0 g
    go (inl h) = rw (lt-ltb 10 g h, le-ltb g 11 (omega arith))
    go (inr h) = rw (le-ltb 10 g h, lt-ltb g 11 (omega arith))

reset-map : (g : ℕ) → (reset_mapped g).map ≡ (reset_mapped 0).map
unfolding compiled ranges_of painted span_of
reset-map g = refl

grain_kept : (h : Hart) (map : Map) (m : Memory) (step : Step)
    → (stepped h map m step).hart.state.pmp.grain ≡ cond (is_reset step && ltb 10 h.state.pmp.grain) 0 h.state.pmp.grain
unfolding stepped
grain_kept h map m step = go (is_reset step) refl
  where
    go : (b : Bool) → is_reset step ≡ b
        → (stepped h map m step).hart.state.pmp.grain ≡ cond (b && ltb 10 h.state.pmp.grain) 0 h.state.pmp.grain
    go true e = rw e (legal_is h.state.pmp.grain)
    go false e = rw e (rule_grain h.state m step e)

-- a state that a hart can hold keeps its grain at a reset too
held-grain : (s : State) (m : Memory) (step : Step) → can_hold s ≡ true → (step_rule s m step).state.pmp.grain ≡ s.pmp.grain
unfolding can_hold step_rule
held-grain s m step p = go (is_reset step) refl
  where
    small : ltb s.pmp.grain 11 ≡ true
    small = (pmp-held s.pmp (both (pmp_holdable s.pmp) (satp_holdable s.satp) (both (registers_holdable s.registers) _ p).1).0).grain

    go : (b : Bool) → is_reset step ≡ b → (step_rule s m step).state.pmp.grain ≡ s.pmp.grain
    go true e = rw (only-reset step e, small)
    go false e = rule_grain s m step e

-- over any list of steps
grain-after : (s : State) (steps : List Lent) → can_hold s ≡ true → (after_all s steps).pmp.grain ≡ s.pmp.grain
grain-after s steps p =
    (fold-keeps state_after (λ (t : State). (can_hold t ≡ true) × (t.pmp.grain ≡ s.pmp.grain))
    (λ t l q. (rule_holds t q.0 l.memory l.step, held-grain t l.memory l.step q.0 ∙ q.1)) s steps (p, refl)).1

pub step_keeps : StepKeeps
step_keeps =
    record {
      holdable = λ s m step p. rule_holds s p m step;
      reset = reset-given;
      grain = grain_kept;
      made = legal_is;
      reset-map = reset-map;
      grain-after = grain-after;
      mapless = λ h map m step.
          (ap (λ (r : Stepped). r.hart.state) (step_parts h map m step), ap (λ (r : Stepped). r.answer) (step_parts h map m step));
      map_kept = map_kept;
      map_anew = map_anew;
    }
