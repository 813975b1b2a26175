-- What `replay` and `convert` write of a text is what saving and converting answer. Assumes nothing.
use Rattle.std.proofs.Common.{◌≡◌, ℕ, Bool, true, false, cond, ◌&&◌, leb, List, ◌++◌, length, drop, sym, refl, ap}
use mathlib.Core.Bool.{false≢true}
use Rattle.pmp.specs.declared.Refusal.{Refusal}
use Rattle.steps.specs.declared.Answer.{Answer}
use Rattle.steps.specs.declared.Answer.TheVariants.{Done, Refused}
use Rattle.state.specs.declared.State.{State}
use Rattle.state.specs.Hold.{can_hold}
use Rattle.state.specs.Words.{words_of}
use Rattle.text.specs.declared.Form.{Form}
use Rattle.text.specs.declared.Form.TheVariants.{First, Second}
use Rattle.text.specs.Text.{other, text_of, length_of, written_to, read_text}
use Rattle.hart.specs.declared.Hart.{Hart}
use Rattle.hart.specs.Saved.{text_for, form_holds, saved_answer, saved_buffer, state_in, converted_answer, converted_buffer}
use Rattle.hart.proofs.Numbered.{is_done}
use Rattle.trace.specs.Answers.{refused_line}
use Rattle.trace.specs.SavedTexts.{state_text, converted_output}
use Rattle.trace.specs.TextOutput.{TextOutput}

-- ---- the end state

module _ (h : Hart) (b : List ℕ) where
  -- by whether a hart can hold the state, the buffer has room, and the first form holds it
  abbrev answer : Bool → Bool → Bool → Answer
  answer c l f = cond c (cond l (cond f Done (Refused Refusal.Form)) (Refused Refusal.Buffer)) (Refused Refusal.State)

  abbrev written : Bool → Bool → List ℕ
  written c f = cond c (text_for (cond f First Second) h) (refused_line Refusal.State)

  end_first : saved_answer First h b ≡ Done → state_text h ≡ text_for First h
  unfolding saved_answer state_text
  end_first = go (can_hold h.state) (leb (length_of First) (length b)) (form_holds First h.state)
    where
      go : (c l f : Bool) → answer c l f ≡ Done → written c f ≡ text_for First h
      go true true true e = refl
      go true true false e = cc
      go true false f e = cc
      go false l f e = cc

  end_second : saved_answer First h b ≡ Refused Refusal.Form → state_text h ≡ text_for Second h
  unfolding saved_answer state_text
  end_second = go (can_hold h.state) (leb (length_of First) (length b)) (form_holds First h.state)
    where
      go : (c l f : Bool) → answer c l f ≡ Refused Refusal.Form → written c f ≡ text_for Second h
      go true true true e = cc
      go true true false e = refl
      go true false f e = cc
      go false l f e = cc

-- ---- converting

module _ (to : Form) (text b : List ℕ) where
  abbrev state : State
  state = state_in (other to) text

  -- by whether the text is in the form, a hart can hold its state, and so can that form; the buffer has room, and the form asked for holds it
  abbrev converts : Bool → Bool → Bool → Bool → Bool → Answer
  converts o c d l f = cond o (cond (c && d) (cond c (cond l (cond f Done (Refused Refusal.Form)) (Refused Refusal.Buffer)) (Refused Refusal.State)) (Refused Refusal.TextState)) (Refused Refusal.Text)

  abbrev output : Bool → Bool → Bool → Bool → List ℕ
  output o c d f = cond o (cond (c && d) (cond f (text_of to (words_of state)) (refused_line Refusal.Form)) (refused_line Refusal.TextState)) (refused_line Refusal.Text)

  converted : converted_answer to text b ≡ Done → converted_buffer to text b ≡ converted_output to text ++ drop (length_of to) b
  unfolding converted_answer converted_buffer converted_output saved_answer saved_buffer written_to
  converted =
      go (read_text (other to) text).ok (can_hold state) (form_holds (other to) state) (leb (length_of to) (length b)) (form_holds to state)
    where
      whole : List ℕ
      whole = text_of to (words_of state) ++ drop (length_of to) b

      go : (o c d l f : Bool) → converts o c d l f ≡ Done
          → cond o (cond (c && d) (cond (c && f) (cond l whole b) b) b) b ≡ output o c d f ++ drop (length_of to) b
      go true true true true true e = refl
      go true true true true false e = cc
      go true true true false f e = cc
      go true true false l f e = cc
      go true false d l f e = cc
      go false c d l f e = cc

  refused : (r : Refusal) → converted_answer to text b ≡ Refused r → (r ≡ Refusal.Buffer → ⊥) → converted_output to text ≡ refused_line r
  unfolding converted_answer converted_output saved_answer
  refused r =
      go (read_text (other to) text).ok (can_hold state) (form_holds (other to) state) (leb (length_of to) (length b)) (form_holds to state)
    where
      go : (o c d l f : Bool) → converts o c d l f ≡ Refused r → (r ≡ Refusal.Buffer → ⊥) → output o c d f ≡ refused_line r
      go true true true true true e k = absurd (false≢true (sym (ap is_done e)))
      go true true true true false e k = cc
      go true true true false f e k = absurd (k cc)
      go true true false l f e k = cc
      go true false d l f e k = cc
      go false c d l f e k = cc

pub text_output : TextOutput
text_output = record { end_first = end_first; end_second = end_second; converted = converted; refused = refused }
