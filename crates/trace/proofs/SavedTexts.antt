-- The forms that are read and written, and what stands in a buffer behind a save or a conversion. Assumes nothing.
use Rattle.std.proofs.Common.{◌≡◌, ℕ, ◌≤◌, Bool, true, false, cond, ◌&&◌, eqb, List, ◌++◌, length, drop, sym, refl, ap, ◌∙◌, zero-add, arith, le-leb, Option, Some, None}
use lib.Seq.{sets, sets-eq}
use Rattle.pmp.specs.declared.Refusal.{Refusal}
use Rattle.pmp.specs.Number.{refusal_number}
use Rattle.steps.specs.declared.Answer.{Answer}
use Rattle.steps.specs.declared.Answer.TheVariants.{Done, Refused}
use Rattle.steps.specs.Number.{refusal_of}
use Rattle.lines.specs.Lines.{bytes_of}
use Rattle.state.specs.declared.State.{State}
use Rattle.state.specs.Hold.{can_hold}
use Rattle.state.specs.Texts.{first_form_holds}
use Rattle.state.specs.Words.{words_of}
use Rattle.text.specs.declared.Form.{Form}
use Rattle.text.specs.declared.Form.TheVariants.{First, Second}
use Rattle.text.specs.Text.{other, text_of, length_of, has_room_for, written_to, read_text}
use Rattle.text.proofs.Template.{text-length, longest}
use Rattle.text.proofs.Laws.{text-read, read_as_lem}
use Rattle.hart.specs.declared.Hart.{Hart}
use Rattle.hart.specs.Steps.{hart_with}
use Rattle.hart.specs.Saved.{text_for, form_holds, text_holds, state_in, saved_answer, saved_buffer, converted_answer, converted_buffer}
use Rattle.trace.specs.Buffers.{Put}
use Rattle.trace.specs.Answers.{refused_line}
use Rattle.trace.specs.SavedTexts.{form_by_length, form_for, state_text, converted_output, refusal_text, outcome_length}
use Rattle.trace.proofs.Writing.{numbered_length}

-- ---- forms

-- a text in a form is read in that form
pub form-read : (form : Form) (t : List ℕ) → (read_text form t).ok ≡ true → form_by_length t ≡ form
form-read form t e =
    let ws = (read_text form t).words in
    let n : length t ≡ length_of form = ap length (text-read form t ws (read_as_lem form t e)) ∙ text-length form ws in
    ap (λ (k : ℕ). cond (eqb k (length_of Second)) Second First) n ∙ go form
  where
    go : (f : Form) → cond (eqb (length_of f) (length_of Second)) Second First ≡ f
    go First = refl
    go Second = refl

-- the form that a state is written in can hold it
form-fits : (s : State) → form_holds (form_for s) s ≡ true
form-fits s = go (first_form_holds s) refl
  where
    go : (b : Bool) → first_form_holds s ≡ b → form_holds (cond b First Second) s ≡ true
    go true e = e
    go false e = refl

-- ---- lengths

refused-length : (r : Refusal) → length (refused_line r) ≤ 1094
unfolding bytes_of
refused-length r = omega (arith, numbered_length (bytes_of "refused ") (refusal_number r))

text-fits : (form : Form) (ws : List ℕ) → length (text_of form ws) ≤ 1094
text-fits form ws = omega (arith, text-length form ws, longest form)

pub state-length : (h : Hart) → length (state_text h) ≤ 1094
unfolding state_text
state-length h = go (can_hold h.state)
  where
    go : (c : Bool) → length (cond c (text_for (form_for h.state) h) (refused_line Refusal.State)) ≤ 1094
    go true = text-fits (form_for h.state) (words_of h.state)
    go false = refused-length Refusal.State

pub converted-length : (to : Form) (t : List ℕ) → length (converted_output to t) ≤ 1094
unfolding converted_output
converted-length to t = go (read_text (other to) t).ok (text_holds (other to) s) (form_holds to s)
  where
    s : State
    s = state_in (other to) t

    go : (ok held fits : Bool)
        → length (cond ok (cond held (cond fits (text_of to (words_of s)) (refused_line Refusal.Form)) (refused_line Refusal.TextState)) (refused_line Refusal.Text)) ≤ 1094
    go true true true = text-fits to (words_of s)
    go true true false = refused-length Refusal.Form
    go true false fits = refused-length Refusal.TextState
    go false held fits = refused-length Refusal.Text

-- ---- behind a call that was to write a text to a buffer, which has room

holds : (form : Form) (b : List ℕ) → 1094 ≤ length b → has_room_for form b ≡ true
holds form b room = le-leb (length_of form) (length b) (omega (arith, longest form))

-- what is then done for its refusal, if any
abbrev pub Outcome : Form → Answer → List ℕ → List ℕ → ℕ → Type 0
Outcome form a x after r = (r ≡ outcome_length form (refusal_of a)) × (after ≡ sets x 0 (refusal_text (refusal_of a)))

module _ (form : Form) (a : Answer) (b : List ℕ) {n : Option Refusal} (e : n ≡ refusal_of a) where
  pub none-refused : {r : ℕ} → n ≡ None → r ≡ length_of form → Outcome form a b b r
  none-refused z k = rw (← e, z) (k, refl)

  pub refusal_put : {q : Refusal} {after : List ℕ} {r : ℕ} → n ≡ Some q → Put b 0 (refused_line q) after r → Outcome form a b after r
  refusal_put {q} z put = rw (← e, z) (put.behind ∙ zero-add (length (refused_line q)), put.bytes)

module _ (form : Form) (b : List ℕ) (room : 1094 ≤ length b) {a : Answer} {x after : List ℕ} {r : ℕ} (o : Outcome form a x after r) where
  outcome-refused : (q : Refusal) → a ≡ Refused q → x ≡ b → Put b 0 (refused_line q) after r
  outcome-refused q e f = record {
    bytes = o.1 ∙ (λ j. sets (f j) 0 (refusal_text (refusal_of (e j))));
    behind =
        o.0 ∙ (λ j. outcome_length form (refusal_of (e j))) ∙ sym (zero-add (length (refused_line q)));
  }

  outcome-done : (ws : List ℕ) → a ≡ Done → x ≡ written_to form ws b → Put b 0 (text_of form ws) after r
  unfolding written_to
  outcome-done ws e f =
      let t = text_of form ws in
      let n : length t ≡ length_of form = text-length form ws in
      let w : x ≡ t ++ drop (length_of form) b = f ∙ rw (holds form b room) in record {
        bytes = o.1 ∙ (λ j. sets (w j) 0 (refusal_text (refusal_of (e j)))) ∙ sym (sets-eq t b 0 (omega (arith, text-fits form ws)) ∙ ap (λ (k : ℕ). t ++ drop k b) (zero-add (length t) ∙ n));
        behind = o.0 ∙ (λ j. outcome_length form (refusal_of (e j))) ∙ sym (zero-add (length t) ∙ n);
      }

  -- ---- saving, in a form that can hold the state

  module _ (h : Hart) (e : a ≡ saved_answer form h b) (f : x ≡ saved_buffer form h b) where
    save_unheld : can_hold h.state ≡ false → Put b 0 (refused_line Refusal.State) after r
    unfolding saved_answer saved_buffer
    save_unheld p = outcome-refused Refusal.State (e ∙ rw p) (f ∙ rw p)

    module _ (p : can_hold h.state ≡ true) where
      save_unfit : form_holds form h.state ≡ false → Put b 0 (refused_line Refusal.Form) after r
      unfolding saved_answer saved_buffer
      save_unfit q = outcome-refused Refusal.Form (e ∙ rw (p, holds form b room, q)) (f ∙ rw (p, q))

      save-done : form_holds form h.state ≡ true → Put b 0 (text_for form h) after r
      unfolding saved_answer saved_buffer
      save-done q = outcome-done (words_of h.state) (e ∙ rw (p, holds form b room, q)) (f ∙ rw (p, q))

  pub state-put : (h : Hart) → form ≡ form_for h.state → a ≡ saved_answer form h b → x ≡ saved_buffer form h b → Put b 0 (state_text h) after r
  unfolding state_text
  state-put h i e f = go (can_hold h.state) refl
    where
      fits : form_holds form h.state ≡ true
      fits = ap (λ (g : Form). form_holds g h.state) i ∙ form-fits h.state

      go : (c : Bool) → can_hold h.state ≡ c → Put b 0 (cond c (text_for (form_for h.state) h) (refused_line Refusal.State)) after r
      go true p = rw (← i) (save-done h e f p fits)
      go false p = save_unheld h e f p

  -- ---- converting

  pub converted-put : (t : List ℕ) → a ≡ converted_answer form t b → x ≡ converted_buffer form t b → Put b 0 (converted_output form t) after r
  unfolding converted_answer converted_buffer converted_output
  converted-put t = go (read_text (other form) t).ok (can_hold s) (form_holds (other form) s) (form_holds form s) refl refl
    where
      s : State
      s = state_in (other form) t

      go : (ok c d q : Bool) → can_hold s ≡ c → form_holds form s ≡ q
          → a ≡ cond ok (cond (c && d) (saved_answer form (hart_with s) b) (Refused Refusal.TextState)) (Refused Refusal.Text)
          → x ≡ cond ok (cond (c && d) (saved_buffer form (hart_with s) b) b) b
          → Put b 0 (cond ok (cond (c && d) (cond q (text_of form (words_of s)) (refused_line Refusal.Form)) (refused_line Refusal.TextState)) (refused_line Refusal.Text)) after r
      go false c d q p h e f = outcome-refused Refusal.Text e f
      go true false d q p h e f = outcome-refused Refusal.TextState e f
      go true true false q p h e f = outcome-refused Refusal.TextState e f
      go true true true false p h e f = save_unfit (hart_with s) e f p h
      go true true true true p h e f = save-done (hart_with s) e f p h
