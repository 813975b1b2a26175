-- 01, "Saved text", and 02, [10]: the text claim of demand 2, within each form, and what converting keeps.
use Rattle.std.specs.Prelude.{ℕ, ◌^◌, ◌≤◌, ◌<◌, ◌≡◌, true, false, cond, List, ◌++◌, length, get_or, take, drop}
use Rattle.pmp.specs.declared.Refusal.{Refusal}
use Rattle.steps.specs.declared.Answer.TheVariants.{Done, Refused}
use Rattle.protection.specs.Arrays.{Arrays}
use Rattle.state.specs.declared.State.{State}
use Rattle.state.specs.Hold.{can_hold}
use Rattle.state.specs.Words.{words_of}
use Rattle.map.specs.declared.Map.{Map}
use Rattle.text.specs.declared.Form.{Form}
use Rattle.text.specs.declared.Form.TheVariants.{First, Second}
use Rattle.text.specs.Text.{other, length_of}
use Rattle.hart.specs.declared.Hart.{Hart}
use Rattle.hart.specs.declared.Stepped.{Stepped}
use Rattle.hart.specs.Steps.{handed_back}
use Rattle.hart.specs.Saved.{text_for, form_holds, saved_answer, saved_buffer, restored, restored_done, converted_answer, converted_buffer}
use Rattle.claims.specs.Refusals.{unheld_by}

-- what every value of the type State has, and its lists of numbers do not say
pub record Typed (s : State) : Type 0 where
  pub arrays : Arrays s.pmp
  pub words : (i : ℕ) → get_or (words_of s) i 0 < 2 ^ 64

-- the text at the front of a buffer
abbrev pub text_at : Form → List ℕ → List ℕ
text_at form buffer = take (length_of form) buffer

-- a hart is saved, and reading back what was saved gives it again, with its map
abbrev pub SavesAndRestores : Form → Hart → Type 0
SavesAndRestores form h =
    (g : Hart) (map : Map) (buffer : List ℕ) → length_of form ≤ length buffer
    → (saved_answer form h buffer ≡ Done) × (restored form g map (text_at form (saved_buffer form h buffer)) ≡ restored_done h.state)

-- the text reads back as the hart, with its map, whatever hart and map went in
abbrev pub ReadsAs : Form → List ℕ → Hart → Map → Type 0
ReadsAs form text h m = (g : Hart) (map : Map) → restored form g map text ≡ handed_back h m Done

-- ---- within a form

pub record Lossless : Type 0 where
  -- "the second form is without loss for every state"
  pub second : (h : Hart) → Typed h.state → can_hold h.state ≡ true → SavesAndRestores Second h
  -- "the old one for every state it doesn't refuse by 12"
  pub first : (h : Hart) → Typed h.state → can_hold h.state ≡ true → unheld_by First h.state ≡ false → SavesAndRestores First h
  -- what is read back does not hang on the hart and map that went in
  pub read_alike : (form : Form) (g h : Hart) (map m : Map) (text : List ℕ) → restored form g map text ≡ handed_back h m Done → ReadsAs form text h m
  -- saving what a text reads back as writes that text
  pub restored_saved : (form : Form) (h : Hart) (m : Map) (text buffer : List ℕ) → ReadsAs form text h m → length_of form ≤ length buffer
      → (saved_answer form h buffer ≡ Done) × (saved_buffer form h buffer ≡ text ++ drop (length_of form) buffer)
  -- "no second text of one form stands for the same state"
  pub one_text : (form : Form) (h : Hart) (m n : Map) (text second : List ℕ) → ReadsAs form text h m → ReadsAs form second h n → text ≡ second
  -- "old texts read as satp 0, G 0"
  pub read_plain : (h : Hart) (m : Map) (text : List ℕ) → ReadsAs First text h m → (h.state.satp ≡ 0) × (h.state.pmp.grain ≡ 0)

-- ---- from form to form

-- what was converted, at the front of the buffer
abbrev pub converted : Form → List ℕ → List ℕ → List ℕ
converted to text buffer = text_at to (converted_buffer to text buffer)

pub record Conversion : Type 0 where
  -- "converting keeps the state", and bytes past the text are unchanged
  pub keeps : (to : Form) (h : Hart) (m : Map) (text buffer : List ℕ) → ReadsAs (other to) text h m → converted_answer to text buffer ≡ Done
      → ReadsAs to (converted to text buffer) h m × (converted_buffer to text buffer ≡ text_for to h ++ drop (length_of to) buffer)
  -- every text that can be read converts, to the first form where 12 does not refuse its state
  pub done : (to : Form) (h : Hart) (m : Map) (text buffer : List ℕ) → ReadsAs (other to) text h m → unheld_by to h.state ≡ false → length_of to ≤ length buffer
      → converted_answer to text buffer ≡ Done
  -- "old to new and back gives the same bytes", and so does new to old and back where there is an old one
  pub back : (to : Form) (text buffer again : List ℕ) → converted_answer to text buffer ≡ Done → length_of (other to) ≤ length again
      → (converted_answer (other to) (converted to text buffer) again ≡ Done)
      × (converted_buffer (other to) (converted to text buffer) again ≡ text ++ drop (length_of (other to)) again)
  -- converting is reading back and saving
  pub read_and_saved : (to : Form) (h : Hart) (m : Map) (text buffer : List ℕ) → ReadsAs (other to) text h m
      → (converted_answer to text buffer ≡ saved_answer to h buffer) × (converted_buffer to text buffer ≡ saved_buffer to h buffer)

-- saving and reading back at once
unfoldable pub resaved : Form → Hart → Map → Stepped
resaved form h map =
    cond (can_hold h.state) (cond (form_holds form h.state) (restored_done h.state) (handed_back h map (Refused Refusal.Form))) (handed_back h map (Refused Refusal.State))
