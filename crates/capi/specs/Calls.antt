-- The calls of the C interface: what each gives back, and what it leaves in the slices that it is lent, from what was in them.
use Rattle.std.specs.Prelude.{ℕ, ◌*◌, ◌-◌, ◌^◌, Bool, cond, ◌&&◌, ◌||◌, List, [], ◌∷◌, eqb, leb, length, Option, Some, None}
use Rattle.std.proofs.lemmas.List.Edits.{sets}
use Rattle.pmp.specs.declared.Access.{Access}
use Rattle.pmp.specs.declared.Access.TheVariants.{Fetch, Load, Store}
use Rattle.pmp.specs.declared.Refusal.{Refusal}
use Rattle.pmp.specs.Number.{is_mode, mode_of, refusal_number}
use Rattle.steps.specs.Number.{decision_numbers, refusal_of}
use Rattle.steps.specs.Decode.{steps_of, name_steps}
use Rattle.paging.specs.Memory.{Memory}
use Rattle.state.specs.Words.{words_of, state_of}
use Rattle.map.specs.declared.Map.{Map}
use Rattle.map.specs.MapWords.{map_of_words, map_words}
use Rattle.engine.specs.Runs.{Lent, lent}
use Rattle.text.specs.declared.Form.{Form}
use Rattle.text.specs.declared.Form.TheVariants.{First, Second}
use Rattle.hart.specs.declared.Hart.{Hart}
use Rattle.hart.specs.declared.Stepped.{Stepped}
use Rattle.hart.specs.Steps.{hart_with, reset_mapped}
use Rattle.hart.specs.Runs.{left_by, answers_by}
use Rattle.hart.specs.Queries.{query_answer}
use Rattle.hart.specs.Saved.{saved_answer, saved_buffer, restored, converted_answer, converted_buffer}

-- the hart of 43 words: those of the first form's lines in their order, satp and the grain
abbrev pub hart_of : List ℕ → Hart
hart_of words = hart_with (state_of words)

-- a hart's slice has 43 words and a map's 100
abbrev pub fits : List ℕ → List ℕ → Bool
fits hart map = eqb (length hart) 43 && eqb (length map) 100

-- ---- making a hart

-- 02, [9]: a hart as after reset, with a grain, and its map; 1, or 0 where a length is another
unfoldable pub make_result : List ℕ → List ℕ → ℕ
make_result hart map = cond (fits hart map) 1 0

unfoldable pub made_hart : ℕ → List ℕ → List ℕ → List ℕ
made_hart grain hart map = cond (fits hart map) (words_of (reset_mapped grain).hart.state) hart

unfoldable pub made_map : ℕ → List ℕ → List ℕ → List ℕ
made_map grain hart map = cond (fits hart map) (map_words (reset_mapped grain).map) map

-- ---- steps

-- what a call by steps leaves
pub record Left : Type 0 where
  pub result : ℕ
  pub hart : List ℕ
  pub map : List ℕ
  pub answers : List ℕ

-- 0, and nothing is changed
abbrev pub unchanged : List ℕ → List ℕ → List ℕ → Left
unchanged hart map answers = record { result = 0; hart = hart; map = map; answers = answers }

-- the hart and the map that the steps leave, and their answers, written over what the slice held
abbrev pub left : Hart → Map → List Lent → List ℕ → Left
left h map steps answers =
    record {
      result = 1;
      hart = words_of (left_by h map steps).hart.state;
      map = map_words (left_by h map steps).map;
      answers = sets answers 0 (answers_by h map steps);
    }

-- a step has three words and its answer four
abbrev pub answers_fit : List ℕ → List ℕ → Bool
answers_fit steps answers = eqb (3 * length answers) (4 * length steps)

-- many steps: the first word of each names it. One memory is lent to all
unfoldable pub run_call : List ℕ → List ℕ → Memory → List ℕ → List ℕ → Left
run_call hart map m steps answers =
    cond (fits hart map && (answers_fit steps answers && name_steps steps))
    (left (hart_of hart) (map_of_words map) (lent m (steps_of steps)) answers)
    (unchanged hart map answers)

-- one step
abbrev pub step_call : List ℕ → List ℕ → Memory → ℕ → ℕ → ℕ → List ℕ → Left
step_call hart map m step a b answer = run_call hart map m (step ∷ a ∷ b ∷ []) answer

-- ---- the access query

-- 0 fetch, 1 load, 2 store
abbrev pub access_of : ℕ → Access
access_of kind = cond (eqb kind 0) Fetch (cond (eqb kind 1) Load Store)

-- the slices fit, an answer's four words too; mode is 0, 1 or 3 and kind 0, 1 or 2
abbrev pub queryable : List ℕ → List ℕ → ℕ → ℕ → List ℕ → Bool
queryable hart map mode kind answer = fits hart map && (eqb (length answer) 4 && (is_mode mode && leb kind 2))

unfoldable pub query_result : List ℕ → List ℕ → ℕ → ℕ → List ℕ → ℕ
query_result hart map mode kind answer = cond (queryable hart map mode kind answer) 1 0

unfoldable pub query_answered : List ℕ → List ℕ → ℕ → ℕ → ℕ → ℕ → List ℕ → List ℕ
query_answered hart map mode kind address size answer =
    cond (queryable hart map mode kind answer)
    (decision_numbers (query_answer (hart_of hart) (map_of_words map) (mode_of mode) (access_of kind) address size))
    answer

-- ---- the saved text

-- what a call gives where the hart or the map has another length, or the form is another: no refusal has this number
abbrev pub misfit : ℕ
misfit = 2 ^ 64 - 1

-- 02, [10]: form 1 is 01's, and 2 the other
abbrev pub is_form : ℕ → Bool
is_form form = eqb form 1 || eqb form 2

abbrev pub form_of : ℕ → Form
form_of form = cond (eqb form 1) First Second

-- the number of a refusal, or 0
abbrev pub refusal_word : Option Refusal → ℕ
refusal_word None = 0
refusal_word (Some refusal) = refusal_number refusal

-- 0, or refusal 3, then 6, then 12
abbrev pub saveable : ℕ → List ℕ → Bool
saveable form hart = is_form form && eqb (length hart) 43

unfoldable pub save_result : ℕ → List ℕ → List ℕ → ℕ
save_result form hart text = cond (saveable form hart) (refusal_word (refusal_of (saved_answer (form_of form) (hart_of hart) text))) misfit

unfoldable pub saved_text : ℕ → List ℕ → List ℕ → List ℕ
saved_text form hart text = cond (saveable form hart) (saved_buffer (form_of form) (hart_of hart) text) text

-- what reading a text back leaves
abbrev pub read_back : ℕ → List ℕ → List ℕ → List ℕ → Stepped
read_back form text hart map = restored (form_of form) (hart_of hart) (map_of_words map) text

-- 0, or refusal 4, then 5
abbrev pub restorable : ℕ → List ℕ → List ℕ → Bool
restorable form hart map = is_form form && fits hart map

unfoldable pub restore_result : ℕ → List ℕ → List ℕ → List ℕ → ℕ
restore_result form text hart map = cond (restorable form hart map) (refusal_word (refusal_of (read_back form text hart map).answer)) misfit

unfoldable pub restored_hart : ℕ → List ℕ → List ℕ → List ℕ → List ℕ
restored_hart form text hart map = cond (restorable form hart map) (words_of (read_back form text hart map).hart.state) hart

unfoldable pub restored_map : ℕ → List ℕ → List ℕ → List ℕ → List ℕ
restored_map form text hart map = cond (restorable form hart map) (map_words (read_back form text hart map).map) map

-- 0, or refusal 4, then 5, 6 and 12
unfoldable pub convert_result : ℕ → List ℕ → List ℕ → ℕ
convert_result to text buffer = cond (is_form to) (refusal_word (refusal_of (converted_answer (form_of to) text buffer))) misfit

unfoldable pub converted_text : ℕ → List ℕ → List ℕ → List ℕ
converted_text to text buffer = cond (is_form to) (converted_buffer (form_of to) text buffer) buffer
