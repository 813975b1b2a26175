-- 02, [10]: what `replay` and `convert` write of a text, by the answers of saving and of converting.
use Rattle.std.specs.Prelude.{◌≡◌, ℕ, List, ◌++◌, drop, ◌≢◌}
use Rattle.pmp.specs.declared.Refusal.{Refusal}
use Rattle.steps.specs.declared.Answer.TheVariants.{Done, Refused}
use Rattle.text.specs.declared.Form.{Form}
use Rattle.text.specs.declared.Form.TheVariants.{First, Second}
use Rattle.text.specs.Text.{length_of}
use Rattle.hart.specs.declared.Hart.{Hart}
use Rattle.hart.specs.Saved.{text_for, saved_answer, converted_answer, converted_buffer}
use Rattle.trace.specs.Answers.{refused_line}
use Rattle.trace.specs.SavedTexts.{state_text, converted_output}

pub record TextOutput : Type 0 where
  -- the end state is written in the first form, or in the second where 12 would be given
  pub end_first : (h : Hart) (buffer : List ℕ) → saved_answer First h buffer ≡ Done → state_text h ≡ text_for First h
  pub end_second : (h : Hart) (buffer : List ℕ) → saved_answer First h buffer ≡ Refused Refusal.Form → state_text h ≡ text_for Second h
  -- `convert` writes what converting leaves in a buffer, or the line of its refusal; 6 is the buffer's
  pub converted : (to : Form) (text buffer : List ℕ) → converted_answer to text buffer ≡ Done
      → converted_buffer to text buffer ≡ converted_output to text ++ drop (length_of to) buffer
  pub refused : (to : Form) (text buffer : List ℕ) (refusal : Refusal) → converted_answer to text buffer ≡ Refused refusal → (refusal ≢ Refusal.Buffer)
      → converted_output to text ≡ refused_line refusal
