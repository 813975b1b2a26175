-- 01, "Steps", and 02, [8] and [9]: a step by a hart takes the state, its map and the memory lent to it, and hands state and map back.
use Rattle.std.specs.Prelude.{ℕ, cond, List}
use Rattle.steps.specs.declared.Step.{Step}
use Rattle.steps.specs.declared.Answer.{Answer}
use Rattle.steps.specs.declared.Answer.TheVariants.{Done}
use Rattle.steps.specs.Number.{answer_numbers}
use Rattle.protection.specs.declared.Pmp.{Pmp}
use Rattle.protection.specs.Hold.{reset_pmp}
use Rattle.protection.specs.Same.{same_pmp}
use Rattle.paging.specs.Memory.{Memory}
use Rattle.state.specs.declared.State.{State}
use Rattle.state.specs.Hold.{reset_state}
use Rattle.map.specs.declared.Map.{Map}
use Rattle.map.specs.Compiled.{compiled}
use Rattle.engine.specs.Effects.{Effect, is_reset, step_rule}
use Rattle.hart.specs.declared.Hart.{Hart}
use Rattle.hart.specs.declared.Stepped.{Stepped}
use Rattle.hart.specs.declared.Mapped.{Mapped}

-- the map for protection registers
abbrev pub map_for : Pmp → Map
map_for p = compiled p.grain p.cfgs p.addrs

abbrev pub hart_with : State → Hart
hart_with s = record { state = s }

-- a hart, a map and an answer handed back
abbrev pub handed_back : Hart → Map → Answer → Stepped
handed_back h map answer = record { hart = h; map = map; answer = answer }

-- a step after which a PMP byte or pmpaddr differs hands back a freshly compiled map, any other the map as given
abbrev pub remapped : Pmp → Map → Pmp → Map
remapped before map after = cond (same_pmp before after) map (map_for after)

abbrev pub with_map : Hart → Map → Effect → Stepped
with_map h map e = handed_back (hart_with e.state) (remapped h.state.pmp map e.state.pmp) e.answer

-- the reset state and the reset map of a hart that is made with grain g; step 0 hands back those of the grain that the hart has
abbrev pub reset_mapped : ℕ → Mapped
reset_mapped g = record { hart = hart_with (reset_state g); map = map_for (reset_pmp g) }

abbrev pub reset_done : ℕ → Stepped
reset_done g = handed_back (reset_mapped g).hart (reset_mapped g).map Done

-- a step of any state, held or not
unfoldable pub stepped : Hart → Map → Memory → Step → Stepped
stepped h map m step = cond (is_reset step) (reset_done h.state.pmp.grain) (with_map h map (step_rule h.state m step))

-- the number and values of its answer
abbrev pub step_numbers : Hart → Map → Memory → Step → List ℕ
step_numbers h map m step = answer_numbers (stepped h map m step).answer
