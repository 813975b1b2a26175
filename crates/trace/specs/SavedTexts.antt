-- Saved texts as programs read and write them (02, [10]): which form is read and which is written, and the line of a refusal in place of a text.
use Rattle.std.specs.Prelude.{ℕ, cond, List, [], length, ◌==◌, Option, Some, None}
use Rattle.pmp.specs.declared.Refusal.{Refusal}
use Rattle.state.specs.declared.State.{State}
use Rattle.state.specs.Hold.{can_hold}
use Rattle.state.specs.Texts.{first_form_holds}
use Rattle.state.specs.Words.{words_of}
use Rattle.text.specs.declared.Form.{Form}
use Rattle.text.specs.declared.Form.TheVariants.{First, Second}
use Rattle.text.specs.Text.{other, text_of, length_of}
use Rattle.hart.specs.declared.Hart.{Hart}
use Rattle.hart.specs.Saved.{text_for, form_holds, by_text}
use Rattle.trace.specs.Answers.{refused_line}

-- the form that a text is read in, which its length tells (house: 02 names no way). A text of neither length is refused in both
abbrev pub form_by_length : List ℕ → Form
form_by_length text = cond (length text == length_of Second) Second First

-- the form that a state is written in: the first, or the second where saving in the first is refusal 12 (house)
abbrev pub form_for : State → Form
form_for s = cond (first_form_holds s) First Second

-- the saved text of a hart, or the line of refusal 3 where no hart can hold its state
unfoldable pub state_text : Hart → List ℕ
state_text h = cond (can_hold h.state) (text_for (form_for h.state) h) (refused_line Refusal.State)

-- a text converted to a form, or the line of the refusal: 4 or 5 in reading it in the other form, 12 where the form cannot hold its state
unfoldable pub converted_output : Form → List ℕ → List ℕ
converted_output to text = by_text (other to) text refused_line (λ s. cond (form_holds to s) (text_of to (words_of s)) (refused_line Refusal.Form))

-- ---- behind a call that wrote a text of a form or was refused: what is then written, and the length of the text or of that line

abbrev pub refusal_text : Option Refusal → List ℕ
refusal_text None = []
refusal_text (Some refusal) = refused_line refusal

abbrev pub outcome_length : Form → Option Refusal → ℕ
outcome_length form None = length_of form
outcome_length form (Some refusal) = length (refused_line refusal)
