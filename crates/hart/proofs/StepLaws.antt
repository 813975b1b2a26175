-- A step by a hart: the step rule, and the map by whether the step remaps. Assumes nothing.
use Prim.Native.Nat.{ℕ}
use mathlib.Core.Path.{◌≡◌, refl, sym, ap, ◌∙◌}
use mathlib.Core.Bool.{Bool, true, false, cond, not}
use mathlib.Core.List.{List}
use borrow.Author.Tests.{not-true, not-false}
use Rattle.steps.specs.declared.Step.{Step}
use Rattle.steps.specs.declared.Step.TheVariants.{Reset}
use Rattle.protection.specs.Same.{same_pmp}
use Rattle.paging.specs.Memory.{Memory}
use Rattle.state.specs.declared.State.{State}
use Rattle.state.specs.Hold.{can_hold}
use Rattle.state.specs.Words.{state_of}
use Rattle.map.specs.declared.Map.{Map}
use Rattle.engine.specs.declared.Taken.{Taken}
use Rattle.engine.specs.Effects.{is_reset, ruled_by, step_rule}
use Rattle.engine.specs.Taking.{step_taken, remaps}
use Rattle.engine.proofs.EffectLaws.{only-reset}
use Rattle.hart.specs.declared.Hart.{Hart}
use Rattle.hart.specs.declared.Stepped.{Stepped}
use Rattle.hart.specs.Steps.{map_for, hart_with, handed_back, stepped}

-- what a step hands back, by the step rule and whether it remaps
abbrev pub parts : Hart → Map → Memory → Step → Stepped
parts h map m step =
    handed_back (hart_with (step_rule h.state m step).state)
    (cond (remaps h.state m step) (map_for (step_rule h.state m step).state.pmp) map)
    (step_rule h.state m step).answer

reset_parts : (h : Hart) (map : Map) (m : Memory) → stepped h map m Reset ≡ parts h map m Reset
unfolding stepped step_rule
reset_parts h map m = refl

flipped : (b : Bool) (x y : Map) → cond b x y ≡ cond (not b) y x
flipped true x y = refl
flipped false x y = refl

pub step_parts : (h : Hart) (map : Map) (m : Memory) (step : Step) → stepped h map m step ≡ parts h map m step
unfolding stepped
step_parts h map m step = go (is_reset step) refl
  where
    go : (b : Bool) → is_reset step ≡ b → stepped h map m step ≡ parts h map m step
    go true e = rw (only-reset step e) (reset_parts h map m)
    go false e =
        let r = step_rule h.state m step in
        rw e (λ j. handed_back (hart_with r.state) (flipped (same_pmp h.state.pmp r.state.pmp) map (map_for r.state.pmp) j) r.answer)

-- ---- from what the engine gave on the words of the state

module _ (h : Hart) (map : Map) (m : Memory) (step : Step) {held : Bool} (eh : held ≡ can_hold h.state)
    (w : List ℕ) (ew : state_of w ≡ h.state) {t : Taken} (et : t ≡ step_taken held (state_of w) m step) {s : State}
    (es : s ≡ (ruled_by held (state_of w) m step).state) where
  state_is : s ≡ (step_rule h.state m step).state
  unfolding step_rule
  state_is = es ∙ (λ j. (ruled_by (eh j) (ew j) m step).state)

  taken_is : t ≡ step_taken (can_hold h.state) h.state m step
  taken_is = et ∙ (λ j. step_taken (eh j) (ew j) m step)

  answer_is : t.answer ≡ (step_rule h.state m step).answer
  unfolding step_rule step_taken
  answer_is = ap (λ (x : Taken). x.answer) taken_is

  remap_is : remaps h.state m step ≡ t.told.remap
  unfolding step_rule step_taken
  remap_is = sym (ap (λ (x : Taken). x.told.remap) taken_is)

  by-remap : (b : Bool) → t.told.remap ≡ b → (n : Map) → n ≡ cond b (map_for s.pmp) map → handed_back (hart_with s) n t.answer ≡ stepped h map m step
  by-remap b e n p =
      (λ j. handed_back (hart_with (state_is j)) ((p ∙ (λ i. cond b (map_for (state_is i).pmp) map)) j) (answer_is j))
      ∙ ap (λ (c : Bool). handed_back (hart_with (step_rule h.state m step).state) (cond c (map_for (step_rule h.state m step).state.pmp) map) (step_rule h.state m step).answer)
      (sym (remap_is ∙ e))
      ∙ sym (step_parts h map m step)

  pub map-stays : not t.told.remap ≡ true → handed_back (hart_with s) map t.answer ≡ stepped h map m step
  map-stays n = by-remap false (not-true t.told.remap n) map refl

  pub map_anew : not t.told.remap ≡ false → {fresh : Map} → fresh ≡ map_for s.pmp → handed_back (hart_with s) fresh t.answer ≡ stepped h map m step
  map_anew n {fresh} e = by-remap true (not-false t.told.remap n) fresh e
