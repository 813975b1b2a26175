-- 01, "Steps" and "What a hart can hold", and 02, [9]: what every step keeps, and the rule of its map.
use Rattle.std.specs.Prelude.{ℕ, ◌≡◌, true, false, cond, ◌&&◌, List, ltb}
use Rattle.steps.specs.declared.Step.{Step}
use Rattle.steps.specs.declared.Step.TheVariants.{Reset}
use Rattle.paging.specs.Memory.{Memory}
use Rattle.state.specs.declared.State.{State}
use Rattle.state.specs.Hold.{can_hold}
use Rattle.map.specs.declared.Map.{Map}
use Rattle.engine.specs.Effects.{is_reset, step_rule}
use Rattle.engine.specs.Runs.{Lent, after_all}
use Rattle.hart.specs.declared.Hart.{Hart}
use Rattle.hart.specs.Steps.{map_for, reset_mapped, reset_done, stepped}

pub record StepKeeps : Type 0 where
  -- a state that a hart can hold stays one
  pub holdable : (s : State) (m : Memory) (step : Step) → can_hold s ≡ true → can_hold (step_rule s m step).state ≡ true
  -- step 0 hands back the reset state and the reset map, whatever was given but for the grain
  pub reset : (h : Hart) (map : Map) (m : Memory) → stepped h map m Reset ≡ reset_done h.state.pmp.grain
  -- that map is one for every grain
  pub reset-map : (g : ℕ) → (reset_mapped g).map ≡ (reset_mapped 0).map
  -- [9]: "no step changes it, but making a hart and step 0 turn a G above 10 into 0"
  pub grain : (h : Hart) (map : Map) (m : Memory) (step : Step)
      → (stepped h map m step).hart.state.pmp.grain ≡ cond (is_reset step && ltb 10 h.state.pmp.grain) 0 h.state.pmp.grain
  pub made : (g : ℕ) → (reset_mapped g).hart.state.pmp.grain ≡ cond (ltb 10 g) 0 g
  -- so no list of steps changes the grain of a hart
  pub grain-after : (s : State) (steps : List Lent) → can_hold s ≡ true → (after_all s steps).pmp.grain ≡ s.pmp.grain
  -- "only a query reads a map": state and answer are the step rule's, whatever map was given
  pub mapless : (h : Hart) (map : Map) (m : Memory) (step : Step)
      → ((stepped h map m step).hart.state ≡ (step_rule h.state m step).state) × ((stepped h map m step).answer ≡ (step_rule h.state m step).answer)
  -- any other step hands the map back as given where no protection register differs, and else one compiled for the new registers
  pub map_kept : (h : Hart) (map : Map) (m : Memory) (step : Step) → is_reset step ≡ false → h.state.pmp ≡ (step_rule h.state m step).state.pmp
      → (stepped h map m step).map ≡ map
  pub map_anew : (h : Hart) (map : Map) (m : Memory) (step : Step) → is_reset step ≡ false → (h.state.pmp ≡ (step_rule h.state m step).state.pmp → ⊥)
      → (stepped h map m step).map ≡ map_for (step_rule h.state m step).state.pmp
