-- What the functions below `save`, `restore` and `convert` hand back, put together as the definitions say. Assumes nothing.
use Prim.Native.Nat.{ℕ, ◌≤◌, ◌<◌}
use mathlib.Core.Path.{◌≡◌, refl, sym, ap, ◌∙◌}
use mathlib.Core.Bool.{Bool, true, false, cond, ◌&&◌}
use mathlib.Core.List.{List}
use lib.ListN.{length}
use borrow.Author.Tests.{le-leb, lt-leb}
use Rattle.std.specs.Prelude.{⊤, Result, Ok, Err, IsErrAnd}
use Rattle.bits.specs.Lists.{Words}
use Rattle.pmp.specs.declared.Refusal.{Refusal}
use Rattle.steps.specs.declared.Answer.{Answer}
use Rattle.steps.specs.declared.Answer.TheVariants.{Done, Refused}
use Rattle.steps.specs.Number.{answer_numbers}
use Rattle.state.specs.declared.State.{State}
use Rattle.state.specs.Hold.{can_hold}
use Rattle.state.specs.Words.{words_of, state_of}
use Rattle.state.specs.Slices.{loaded}
use Rattle.state.proofs.Back.{words_back}
use Rattle.state.proofs.SliceLaws.{all-loaded}
use Rattle.text.specs.declared.Form.{Form}
use Rattle.text.specs.Text.{Reading, other, length_of, written_to, read_text}
use Rattle.text.proofs.Laws.{read-words}
use Rattle.hart.specs.declared.Hart.{Hart}
use Rattle.hart.specs.Steps.{hart_with}
use Rattle.hart.specs.Saved.{outcome_answer, form_holds, text_holds, saved_answer, saved_numbers, saved_buffer, state_in, by_text, converted_answer, converted_buffer}

-- ---- saving: by what was found, the answer, its numbers and the buffer

module _ (form : Form) (h : Hart) (b : List ℕ) where
  abbrev pub Saved : Answer → List ℕ → Type 0
  Saved a x = (a ≡ saved_answer form h b) × ((answer_numbers a ≡ saved_numbers form h b) × (x ≡ saved_buffer form h b))

  answered : {a : Answer} {x : List ℕ} → a ≡ saved_answer form h b → x ≡ saved_buffer form h b → Saved a x
  answered e f = (e, (ap answer_numbers e, f))

  pub save_unheld : can_hold h.state ≡ false → Saved (Refused Refusal.State) b
  unfolding saved_answer saved_buffer
  save_unheld p = answered (rw p) (rw p)

  module _ (p : can_hold h.state ≡ true) where
    pub save-short : length b < length_of form → Saved (Refused Refusal.Buffer) b
    unfolding saved_answer saved_buffer written_to
    save-short l =
        answered (rw (p, lt-leb (length_of form) (length b) l)) (rw (p, lt-leb (length_of form) (length b) l) (go (form_holds form h.state)))
      where
        go : (t : Bool) → b ≡ cond t b b
        go true = refl
        go false = refl

    module _ (room : length_of form ≤ length b) where
      pub save_unfit : form_holds form h.state ≡ false → Saved (Refused Refusal.Form) b
      unfolding saved_answer saved_buffer
      save_unfit t = answered (rw (p, le-leb (length_of form) (length b) room, t)) (rw (p, t))

      pub save-done : form_holds form h.state ≡ true → {x : List ℕ} → x ≡ written_to form (words_of h.state) b → Saved Done x
      unfolding saved_answer saved_buffer
      save-done t e = answered (rw (p, le-leb (length_of form) (length b) room, t)) (rw (p, t) e)

-- ---- what is made of a text, by what was read of it

-- what was read, from its two parts
pub read_as_lem : (form : Form) (text : List ℕ) {k : Bool} {ws : List ℕ} → k ≡ (read_text form text).ok → ws ≡ (read_text form text).words
    → record { ok = k; words = ws } ≡ read_text form text
read_as_lem form text e d = λ j. record { ok = e j; words = d j }

module _ {A : Type 0} (form : Form) (text : List ℕ) (refused : Refusal → A) (read : State → A) {r : Reading} (e : r ≡ read_text form text) where
  -- where it is not in the form ..
  pub text_unformed : r.ok ≡ false → refused Refusal.Text ≡ by_text form text refused read
  text_unformed o = rw (← e, o)

  -- .. and where it is, by whether a hart can hold its state, and so can the form
  pub text_judged : {s : State} (held : Bool) → r.ok ≡ true → s ≡ state_of r.words → text_holds form s ≡ held
      → cond held (read s) (refused Refusal.TextState) ≡ by_text form text refused read
  text_judged {s} held o d c = rw (← e, o, ← d, c)

-- ---- the words of a text that is in the form

module _ (form : Form) (text : List ℕ) {r : Reading} {s : State} (e : r ≡ read_text form text) (o : r.ok ≡ true) (d : s ≡ state_of r.words) where
  words : Words 43 r.words
  words = read-words form text r.words (sym e ∙ ap (λ (k : Bool). record { ok = k; words = r.words }) o)

  pub words_count : length r.words ≡ 43
  words_count = words.count

  -- are those of its state
  pub words_are : r.words ≡ words_of s
  words_are = sym (words_back r.words words) ∙ ap words_of (sym d)

  -- and can be judged in its place
  pub words_judged : {k t : Bool} → k ≡ can_hold (loaded r.words) → t ≡ form_holds form s → text_holds form s ≡ (k && t)
  words_judged p q = sym (λ j. (p ∙ ap can_hold (all-loaded r.words words.count ∙ sym d)) j && q j)

-- what is made of a text, from its state or its refusal
module _ {A : Type 0} (form : Form) (text : List ℕ) (refused : Refusal → A) (read : State → A) where
  pub state_made : {s : State} → ◌≡◌ {A = Result State Refusal} (Ok s) (by_text form text Err Ok) → read s ≡ by_text form text refused read
  state_made {s} = go (read_text form text).ok (text_holds form (state_in form text))
    where
      go : (a b : Bool) → ◌≡◌ {A = Result State Refusal} (Ok s) (cond a (cond b (Ok (state_in form text)) (Err Refusal.TextState)) (Err Refusal.Text))
          → read s ≡ cond a (cond b (read (state_in form text)) (refused Refusal.TextState)) (refused Refusal.Text)
      go true true e = cc
      go true false e = cc
      go false b e = cc

  pub refusal_made : {r : Refusal} → ◌≡◌ {A = Result State Refusal} (Err r) (by_text form text Err Ok) → refused r ≡ by_text form text refused read
  refusal_made {r} = go (read_text form text).ok (text_holds form (state_in form text))
    where
      go : (a b : Bool) → ◌≡◌ {A = Result State Refusal} (Err r) (cond a (cond b (Ok (state_in form text)) (Err Refusal.TextState)) (Err Refusal.Text))
          → refused r ≡ cond a (cond b (read (state_in form text)) (refused Refusal.TextState)) (refused Refusal.Text)
      go true true e = cc
      go true false e = cc
      go false b e = cc

-- ---- converting

-- a refusal that is handed on
pub handed_on : {q : Refusal} (r : Result ⊤ Refusal) → IsErrAnd r (λ e. e ≡ q) → outcome_answer r ≡ Refused q
handed_on (Ok done) h = absurd h
handed_on (Err e) h = ap Refused h

module _ (to : Form) (text b : List ℕ) {f : Form} (o : f ≡ other to) where
  abbrev pub Converted : Answer → List ℕ → Type 0
  Converted a x = (a ≡ converted_answer to text b) × (x ≡ converted_buffer to text b)

  converted : {a : Answer} {x : List ℕ} → a ≡ by_text f text Refused (λ s. saved_answer to (hart_with s) b)
      → x ≡ by_text f text (λ r. b) (λ s. saved_buffer to (hart_with s) b) → Converted a x
  unfolding converted_answer converted_buffer
  converted p q = (
    p ∙ ap (λ (g : Form). by_text g text Refused (λ s. saved_answer to (hart_with s) b)) o,
    q ∙ ap (λ (g : Form). by_text g text (λ r. b) (λ s. saved_buffer to (hart_with s) b)) o,
  )

  pub convert_refused : {r : Refusal} → ◌≡◌ {A = Result State Refusal} (Err r) (by_text f text Err Ok) → Converted (Refused r) b
  convert_refused e =
      converted (refusal_made f text Refused (λ s. saved_answer to (hart_with s) b) e) (refusal_made f text (λ r. b) (λ s. saved_buffer to (hart_with s) b) e)

  -- the rest is saving
  pub convert_saved : {s : State} → ◌≡◌ {A = Result State Refusal} (Ok s) (by_text f text Err Ok) → {a : Answer} {x : List ℕ}
      → a ≡ saved_answer to (hart_with s) b → x ≡ saved_buffer to (hart_with s) b → Converted a x
  convert_saved e p q =
      converted (p ∙ state_made f text Refused (λ s. saved_answer to (hart_with s) b) e) (q ∙ state_made f text (λ r. b) (λ s. saved_buffer to (hart_with s) b) e)
