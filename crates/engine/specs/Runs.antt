-- 01, "What has to be nailed", and 02, [8]: a list of steps, each given what the one before left and the memory lent at it, with no map read.
use Rattle.std.specs.Prelude.{ℕ, Bool, false, cond, ◌&&◌, List, [], ◌∷◌, eqb, length}
use Rattle.std.proofs.lemmas.List.Edits.{sets}
use Rattle.bits.specs.Fold.{fold, outputs, any_step}
use Rattle.steps.specs.declared.Step.{Step}
use Rattle.steps.specs.Number.{answer_numbers}
use Rattle.steps.specs.Decode.{steps_of, name_steps}
use Rattle.paging.specs.Memory.{Memory}
use Rattle.state.specs.declared.State.{State}
use Rattle.state.specs.Words.{words_of, state_of}
use Rattle.engine.specs.Effects.{step_rule}
use Rattle.engine.specs.Taking.{remaps}

-- a step with the memory that is lent at it
pub record Lent : Type 0 where
  pub memory : Memory
  pub step : Step

abbrev pub lent_to : Memory → Step → Lent
lent_to m step = record { memory = m; step = step }

-- steps that are all lent the same memory
abbrev pub lent : Memory → List Step → List Lent
lent m [] = []
lent m (step ∷ steps) = lent_to m step ∷ lent m steps

-- a refused step leaves what went in
abbrev pub state_after : State → Lent → State
state_after s l = (step_rule s l.memory l.step).state

-- the state that the step rules and the refusal table make of the start and the steps
abbrev pub after_all : State → List Lent → State
after_all s steps = fold state_after s steps

-- the numbers of a step's answer
abbrev pub answer_after : State → Lent → List ℕ
answer_after s l = answer_numbers (step_rule s l.memory l.step).answer

-- the answers, four numbers each
abbrev pub answers_of : State → List Lent → List ℕ
answers_of s steps = outputs state_after answer_after s steps

-- whether some step hands back a freshly compiled map
abbrev pub remaps_at : State → Lent → Bool
remaps_at s l = remaps s l.memory l.step

abbrev pub any_remaps : State → List Lent → Bool
any_remaps s steps = any_step state_after remaps_at s steps

-- ---- on slices

-- what a run leaves: whether some step asks for a fresh map, the words of the hart and their state, and the answers from the front of their slice
pub record Ran : Type 0 where
  pub remap : Bool
  pub words : List ℕ
  pub answers : List ℕ
  pub state : State

-- the words are 43, and each three numbers name a step; else nothing is done
unfoldable pub ran : List ℕ → Memory → List ℕ → List ℕ → Ran
ran words m steps answers =
    cond (eqb (length words) 43 && name_steps steps)
    (record {
      remap = any_remaps (state_of words) (lent m (steps_of steps));
      words = words_of (after_all (state_of words) (lent m (steps_of steps)));
      answers = sets answers 0 (answers_of (state_of words) (lent m (steps_of steps)));
      state = after_all (state_of words) (lent m (steps_of steps));
    })
    (record { remap = false; words = words; answers = answers; state = state_of words })
