-- 01, "Saved text", refusals 3 to 6, and 02, [8] to [10]: saving a hart in a form, reading a text of a form back, and converting a text to the other form.
use Rattle.std.specs.Prelude.{ℕ, Bool, true, cond, ◌&&◌, List, ⊤, Result, Ok, Err}
use Rattle.pmp.specs.declared.Refusal.{Refusal}
use Rattle.steps.specs.declared.Answer.{Answer}
use Rattle.steps.specs.declared.Answer.TheVariants.{Done, Refused}
use Rattle.steps.specs.Number.{answer_numbers}
use Rattle.state.specs.declared.State.{State}
use Rattle.state.specs.Hold.{can_hold}
use Rattle.state.specs.Words.{words_of, state_of}
use Rattle.state.specs.Texts.{first_form_holds}
use Rattle.map.specs.declared.Map.{Map}
use Rattle.text.specs.declared.Form.{Form}
use Rattle.text.specs.declared.Form.TheVariants.{First, Second}
use Rattle.text.specs.Text.{other, text_of, has_room_for, written_to, read_text}
use Rattle.hart.specs.declared.Hart.{Hart}
use Rattle.hart.specs.declared.Stepped.{Stepped}
use Rattle.hart.specs.Steps.{map_for, hart_with, reset_mapped, handed_back}

-- the answer of a call that is done or refused
abbrev pub outcome_answer : Result ⊤ Refusal → Answer
outcome_answer (Ok done) = Done
outcome_answer (Err refusal) = Refused refusal

-- ---- saving

-- the hart's saved text
abbrev pub text_for : Form → Hart → List ℕ
text_for form h = text_of form (words_of h.state)

-- the form can hold the state: the second holds every one
abbrev pub form_holds : Form → State → Bool
form_holds First s = first_form_holds s
form_holds Second s = true

-- a hart can hold the state, and so can the form
abbrev pub text_holds : Form → State → Bool
text_holds form s = can_hold s && form_holds form s

-- refusal 3, then 6: the buffer is shorter than a text of the form; then 12: satp, the grain, SUM or a bit of medeleg has no place in the form
unfoldable pub saved_answer : Form → Hart → List ℕ → Answer
saved_answer form h buffer =
    cond (can_hold h.state) (cond (has_room_for form buffer) (cond (form_holds form h.state) Done (Refused Refusal.Form)) (Refused Refusal.Buffer)) (Refused Refusal.State)

-- the number and values of that answer
abbrev pub saved_numbers : Form → Hart → List ℕ → List ℕ
saved_numbers form h buffer = answer_numbers (saved_answer form h buffer)

-- bytes of a longer buffer past the text are unchanged; a refused save leaves the buffer as it was
unfoldable pub saved_buffer : Form → Hart → List ℕ → List ℕ
saved_buffer form h buffer = cond (text_holds form h.state) (written_to form (words_of h.state) buffer) buffer

-- ---- reading back

-- the state in a text of a form
abbrev pub state_in : Form → List ℕ → State
state_in form text = state_of (read_text form text).words

-- refusal 4: the text is not in the form; then 5: its state is not one a hart can hold, or has bits that the form has no place for. Else what is made of its state
abbrev pub by_text : {A : Type 0} → Form → List ℕ → (Refusal → A) → (State → A) → A
by_text form text refused read =
    cond (read_text form text).ok (cond (text_holds form (state_in form text)) (read (state_in form text)) (refused Refusal.TextState)) (refused Refusal.Text)

-- reading a text back compiles its map
abbrev pub restored_done : State → Stepped
restored_done s = handed_back (hart_with s) (map_for s.pmp) Done

-- a refused text hands back the hart and map that went in
unfoldable pub restored : Form → Hart → Map → List ℕ → Stepped
restored form h map text = by_text form text (λ r. handed_back h map (Refused r)) restored_done

-- what reading a text back gives where nothing stood before
abbrev pub read_anew : Form → List ℕ → Stepped
read_anew form text = restored form (reset_mapped 0).hart (reset_mapped 0).map text

-- the number and values of its answer
abbrev pub restored_numbers : Form → Hart → Map → List ℕ → List ℕ
restored_numbers form h map text = answer_numbers (restored form h map text).answer

-- ---- converting: a text of the other form is read, and its state saved

unfoldable pub converted_answer : Form → List ℕ → List ℕ → Answer
converted_answer to text buffer = by_text (other to) text Refused (λ s. saved_answer to (hart_with s) buffer)

-- the number and values of its answer
abbrev pub converted_numbers : Form → List ℕ → List ℕ → List ℕ
converted_numbers to text buffer = answer_numbers (converted_answer to text buffer)

-- a refused text leaves the buffer as it was
unfoldable pub converted_buffer : Form → List ℕ → List ℕ → List ℕ
converted_buffer to text buffer = by_text (other to) text (λ r. buffer) (λ s. saved_buffer to (hart_with s) buffer)
