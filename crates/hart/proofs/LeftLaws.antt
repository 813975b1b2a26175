-- A list of steps by a hart leaves the state of the step rules, and the map that was given or that of the registers left. Assumes nothing.
use mathlib.Core.Path.{◌≡◌, refl, sym, ap, ◌∙◌}
use mathlib.Core.Bool.{Bool, true, false, cond, not, ◌||◌}
use mathlib.Core.List.{List, [], ◌∷◌}
use borrow.Author.Tests.{not-false}
use Rattle.bits.specs.Fold.{fold, any_step}
use Rattle.bits.proofs.Conjunction.{neither}
use Rattle.bits.proofs.FoldLaws.{outputs_related, no_step-keeps}
use Rattle.steps.specs.Number.{answer_numbers}
use Rattle.protection.specs.Same.{same_pmp}
use Rattle.protection.proofs.SameLaws.{same_pmp_lem}
use Rattle.state.specs.declared.State.{State}
use Rattle.map.specs.declared.Map.{Map}
use Rattle.engine.specs.Effects.{is_reset}
use Rattle.engine.proofs.EffectLaws.{rule_grain}
use Rattle.engine.specs.Runs.{Lent, state_after, after_all, answer_after, answers_of, remaps_at, any_remaps}
use Rattle.hart.specs.declared.Hart.{Hart}
use Rattle.hart.specs.declared.Mapped.{Mapped}
use Rattle.hart.specs.declared.Stepped.{Stepped}
use Rattle.hart.specs.Steps.{map_for, hart_with, stepped}
use Rattle.hart.specs.Runs.{with, handed_on, left_by, answers_by}
use Rattle.hart.proofs.StepLaws.{step_parts}

-- a step that does not remap leaves the protection registers as they were
unremapped : (s : State) (l : Lent) → remaps_at s l ≡ false → s.pmp ≡ (state_after s l).pmp
unremapped s l e =
    let n = neither (is_reset l.step) (not (same_pmp s.pmp (state_after s l).pmp)) e in
    same_pmp_lem s.pmp (state_after s l).pmp (sym (rule_grain s l.memory l.step n.0)) (not-false (same_pmp s.pmp (state_after s l).pmp) n.1)

pub pmp-stays : (s : State) (steps : List Lent) → any_remaps s steps ≡ false → s.pmp ≡ (after_all s steps).pmp
pmp-stays s steps e = no_step-keeps state_after remaps_at (λ (t : State). t.pmp) unremapped s steps e

-- the map of the registers left where a step asked for one, and else the map given
abbrev pub left_map : State → Map → List Lent → Map
left_map s map steps = cond (any_remaps s steps) (map_for (after_all s steps).pmp) map

-- a first step that remaps or not, and those behind it
map-by : (steps : List Lent) (s : State) (map : Map) (r : Bool)
    → left_map s (cond r (map_for s.pmp) map) steps ≡ cond (r || any_remaps s steps) (map_for (after_all s steps).pmp) map
map-by steps s map r = go r (any_remaps s steps) refl
  where
    go : (b c : Bool) → any_remaps s steps ≡ c
        → cond c (map_for (after_all s steps).pmp) (cond b (map_for s.pmp) map) ≡ cond (b || c) (map_for (after_all s steps).pmp) map
    go true true e = refl
    go true false e = ap map_for (pmp-stays s steps e)
    go false true e = refl
    go false false e = refl

pub left_is : (steps : List Lent) (h : Hart) (map : Map)
    → left_by h map steps ≡ with (hart_with (after_all h.state steps)) (left_map h.state map steps)
unfolding fold any_step
left_is [] h map = refl
left_is (l ∷ steps) h map =
    let s = state_after h.state l in
    let n = cond (remaps_at h.state l) (map_for s.pmp) map in
    ap (λ (x : Stepped). left_by x.hart x.map steps) (step_parts h map l.memory l.step) ∙ left_is steps (hart_with s) n
    ∙ (λ j. with (hart_with (after_all s steps)) (map-by steps s map (remaps_at h.state l) j))

-- the state, whatever the map is
pub left-state : (h : Hart) (map : Map) (steps : List Lent) → (left_by h map steps).hart.state ≡ after_all h.state steps
left-state h map steps = ap (λ (m : Mapped). m.hart.state) (left_is steps h map)

-- with its own map at the start, a hart has its own map at the end
pub own-map : (h : Hart) (map : Map) (steps : List Lent) → map ≡ map_for h.state.pmp
    → left_by h map steps ≡ with (hart_with (after_all h.state steps)) (map_for (after_all h.state steps).pmp)
own-map h map steps e =
    left_is steps h map ∙ (λ j. with (hart_with (after_all h.state steps)) (go (any_remaps h.state steps) refl j))
  where
    go : (b : Bool) → any_remaps h.state steps ≡ b
        → cond b (map_for (after_all h.state steps).pmp) map ≡ map_for (after_all h.state steps).pmp
    go true p = refl
    go false p = e ∙ ap map_for (pmp-stays h.state steps p)

-- the answers, whatever the map is
pub answers_are : (h : Hart) (map : Map) (steps : List Lent) → answers_by h map steps ≡ answers_of h.state steps
answers_are h map steps =
    outputs_related handed_on state_after (λ (m : Mapped) (s : State). m.hart.state ≡ s)
    (λ g s l e. ap (λ (x : Stepped). x.hart.state) (step_parts g.hart g.map l.memory l.step) ∙ ap (λ (t : State). state_after t l) e)
    (λ g l. answer_numbers (stepped g.hart g.map l.memory l.step).answer) answer_after
    (λ g s l e. ap (λ (x : Stepped). answer_numbers x.answer) (step_parts g.hart g.map l.memory l.step) ∙ ap (λ (t : State). answer_after t l) e)
    (with h map) h.state steps refl
