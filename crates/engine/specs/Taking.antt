-- What the engine tells of a step besides the state: it stands for the algorithm, which carries refusal 3 and compiles a map at the end of a run alone.
use Rattle.std.specs.Prelude.{Bool, true, false, not, ◌||◌, Option, Some, None}
use Rattle.steps.specs.declared.Step.{Step}
use Rattle.steps.specs.declared.Answer.{Answer}
use Rattle.steps.specs.declared.Answer.TheVariants.{Done}
use Rattle.protection.specs.Same.{same_pmp}
use Rattle.paging.specs.Memory.{Memory}
use Rattle.state.specs.declared.State.{State}
use Rattle.engine.specs.declared.Taken.{Taken}
use Rattle.engine.specs.Effects.{Effect, effect, is_reset, ruled_by, step_rule}

-- a step that leaves the protection registers alone
abbrev pub apart : Answer → Taken
apart answer = record { answer = answer; told = record { held = true; remap = false } }

-- no reset: the map is compiled anew where a protection register differs
abbrev pub taken : State → Effect → Taken
taken s e = record { answer = e.answer; told = record { held = true; remap = not (same_pmp s.pmp e.state.pmp) } }

-- where refusal 3 does not apply
abbrev pub effect_taken : State → Memory → Step → Taken
effect_taken s m step =
    record {
      answer = (effect s m step).answer;
      told = record { held = true; remap = is_reset step || not (same_pmp s.pmp (effect s m step).state.pmp) };
    }

-- where `held` says whether a hart can hold the state
unfoldable pub step_taken : Bool → State → Memory → Step → Taken
step_taken held s m step =
    record {
      answer = (ruled_by held s m step).answer;
      told =
          record {
            held = is_reset step || held;
            remap = is_reset step || not (same_pmp s.pmp (ruled_by held s m step).state.pmp);
          };
    }

-- whether a step hands back a freshly compiled map
abbrev pub remaps : State → Memory → Step → Bool
remaps s m step = is_reset step || not (same_pmp s.pmp (step_rule s m step).state.pmp)

-- of the step that numbers name, if they name one
abbrev pub named_taken : Bool → State → Memory → Option Step → Taken
named_taken held s m (Some step) = step_taken held s m step
named_taken held s m None = record { answer = Done; told = record { held = held; remap = false } }

abbrev pub named_state : Bool → State → Memory → Option Step → State
named_state held s m (Some step) = (ruled_by held s m step).state
named_state held s m None = s
