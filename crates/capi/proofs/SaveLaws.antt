-- Saving, reading back and converting on words. Assumes nothing.
use Prim.Native.Nat.{ℕ}
use mathlib.Core.Path.{◌≡◌, refl, sym, ap, ◌∙◌}
use mathlib.Core.Bool.{Bool, true, false, cond}
use mathlib.Core.List.{List}
use lib.Dec.{eqb}
use lib.ListN.{length}
use Rattle.std.specs.Prelude.{Option, Some, None}
use borrow.Author.Tests.{eqb-true}
use Rattle.bits.specs.Lists.{Words}
use Rattle.bits.proofs.Conjunction.{both}
use Rattle.pmp.specs.declared.Refusal.{Refusal}
use Rattle.pmp.specs.Number.{refusal_number}
use Rattle.steps.specs.declared.Answer.{Answer}
use Rattle.steps.specs.declared.Answer.TheVariants.{Refused}
use Rattle.steps.specs.Number.{refusal_of}
use Rattle.state.specs.declared.State.{State}
use Rattle.state.specs.Words.{words_of}
use Rattle.state.specs.Slices.{loaded}
use Rattle.state.proofs.Back.{words_back}
use Rattle.state.proofs.SliceLaws.{all-loaded}
use Rattle.map.specs.declared.Map.{Map}
use Rattle.map.specs.MapWords.{map_of_words, map_words}
use Rattle.map.proofs.MapWords.{map-words-back}
use Rattle.text.specs.declared.Form.{Form}
use Rattle.text.specs.Text.{read_text}
use Rattle.hart.specs.declared.Hart.{Hart}
use Rattle.hart.specs.declared.Stepped.{Stepped}
use Rattle.hart.specs.Steps.{hart_with, handed_back}
use Rattle.hart.specs.Saved.{saved_answer, saved_buffer, text_holds, state_in, restored_done, restored, converted_answer, converted_buffer}
use Rattle.capi.specs.Calls.{hart_of, fits, is_form, form_of, refusal_word, saveable, save_result, saved_text, read_back, restorable, restore_result, restored_hart, restored_map, convert_result, converted_text}
use Rattle.capi.proofs.CallLaws.{fitting}

-- ---- saving

module _ (form : ℕ) (hart text : List ℕ) where
  -- a hart of 43 words, as it is loaded, and the form that the number names
  module _ (t : saveable form hart ≡ true) {f : Form} (ef : f ≡ form_of form) {s : State} (es : s ≡ loaded hart) where
    hart_is : hart_with s ≡ hart_of hart
    hart_is = ap (λ (x : State). hart_with x) (es ∙ all-loaded hart (eqb-true (length hart) 43 (both (is_form form) (eqb (length hart) 43) t).1))

    pub saved_number : {a : Answer} {r : ℕ} → a ≡ saved_answer f (hart_with s) text → r ≡ refusal_word (refusal_of a) → r ≡ save_result form hart text
    unfolding save_result
    saved_number ea er = rw t (er ∙ (λ i. refusal_word (refusal_of ((ea ∙ (λ j. saved_answer (ef j) (hart_is j) text)) i))))

    pub saved_bytes : {b : List ℕ} → b ≡ saved_buffer f (hart_with s) text → b ≡ saved_text form hart text
    unfolding saved_text
    saved_bytes eb = rw t (eb ∙ (λ j. saved_buffer (ef j) (hart_is j) text))

-- ---- converting

module _ (to : ℕ) (text buffer : List ℕ) where
  module _ (t : is_form to ≡ true) {f : Form} (ef : f ≡ form_of to) where
    pub converted-number : {a : Answer} {r : ℕ} → a ≡ converted_answer f text buffer → r ≡ refusal_word (refusal_of a) → r ≡ convert_result to text buffer
    unfolding convert_result
    converted-number ea er = rw t (er ∙ (λ i. refusal_word (refusal_of ((ea ∙ ap (λ (x : Form). converted_answer x text buffer) ef) i))))

    pub converted-bytes : {b : List ℕ} → b ≡ converted_buffer f text buffer → b ≡ converted_text to text buffer
    unfolding converted_text
    converted-bytes eb = rw t (eb ∙ ap (λ (x : Form). converted_buffer x text buffer) ef)

-- ---- reading back

-- what a text is read as, by whether it is in the form and whether its state can be held
abbrev read : Hart → Map → State → Bool → Bool → Stepped
read h m s a b = cond a (cond b (restored_done s) (handed_back h m (Refused Refusal.TextState))) (handed_back h m (Refused Refusal.Text))

module _ (form : Form) (g h : Hart) (m n : Map) (text : List ℕ) where
  -- the answer does not hang on the hart and the map that were given
  read_answer : (restored form g m text).answer ≡ (restored form h n text).answer
  unfolding restored
  read_answer = go (read_text form text).ok (text_holds form (state_in form text))
    where
      go : (a b : Bool) → (read g m (state_in form text) a b).answer ≡ (read h n (state_in form text) a b).answer
      go true true = refl
      go true false = refl
      go false b = refl

  -- where there is no refusal, nor does what is read
  read_done : refusal_of (restored form g m text).answer ≡ None → restored form g m text ≡ restored form h n text
  unfolding restored
  read_done = go (read_text form text).ok (text_holds form (state_in form text))
    where
      go : (a b : Bool) → refusal_of (read g m (state_in form text) a b).answer ≡ None → read g m (state_in form text) a b ≡ read h n (state_in form text) a b
      go true true e = refl
      go true false e = cc
      go false b e = cc

  -- a refusal leaves hart and map
  read-refused : (r : Refusal) → refusal_of (restored form g m text).answer ≡ Some r → ((restored form h n text).hart ≡ h) × ((restored form h n text).map ≡ n)
  unfolding restored
  read-refused r = go (read_text form text).ok (text_holds form (state_in form text))
    where
      go : (a b : Bool) → refusal_of (read g m (state_in form text) a b).answer ≡ Some r
          → ((read h n (state_in form text) a b).hart ≡ h) × ((read h n (state_in form text) a b).map ≡ n)
      go true true e = cc
      go true false e = (refl, refl)
      go false b e = (refl, refl)

-- what the call gives back, and leaves as hart and as map
abbrev Restored : ℕ → List ℕ → List ℕ → List ℕ → ℕ → List ℕ → List ℕ → Type 0
Restored form text hart map result h m =
    (result ≡ restore_result form text hart map) × ((h ≡ restored_hart form text hart map) × (m ≡ restored_map form text hart map))

module _ (form : ℕ) (text hart map : List ℕ) where
  module _ (t : restorable form hart map ≡ true) {f : Form} (ef : f ≡ form_of form) (g : Hart) (empty : Map) {s : Stepped}
      (e : s ≡ restored f g empty text) {r : Option Refusal} (d : r ≡ refusal_of s.answer) where
    named : s ≡ restored (form_of form) g empty text
    named = e ∙ ap (λ (x : Form). restored x g empty text) ef

    given-number : r ≡ refusal_of (restored (form_of form) g empty text).answer
    given-number = d ∙ ap (λ (x : Stepped). refusal_of x.answer) named

    number : r ≡ refusal_of (read_back form text hart map).answer
    number = given-number ∙ ap refusal_of (read_answer (form_of form) g (hart_of hart) empty (map_of_words map) text)

    pub restore-refused : {q : Refusal} {n : ℕ} → Words 43 hart → r ≡ Some q → n ≡ refusal_number q → Restored form text hart map n hart map
    unfolding restore_result restored_hart restored_map
    restore-refused {q} words z n =
        let k = read-refused (form_of form) g (hart_of hart) empty (map_of_words map) text q (sym given-number ∙ z) in
        let l = (fitting hart map (both (is_form form) (fits hart map) t).1).1 in (
          rw t (n ∙ ap refusal_word (sym z ∙ number)),
          (
            rw t (sym (words_back hart words) ∙ ap (λ (x : Hart). words_of x.state) (sym k.0)),
            rw t (sym (map-words-back map l) ∙ ap map_words (sym k.1)),
          ),
        )

    pub restore-done : r ≡ None → {h m : List ℕ} → h ≡ words_of s.hart.state → m ≡ map_words s.map → Restored form text hart map 0 h m
    unfolding restore_result restored_hart restored_map
    restore-done z p q =
        let d : s ≡ read_back form text hart map = named ∙ read_done (form_of form) g (hart_of hart) empty (map_of_words map) text (sym given-number ∙ z) in (
          rw t (ap refusal_word (sym z ∙ number)),
          (
            rw t (p ∙ ap (λ (x : Stepped). words_of x.hart.state) d),
            rw t (q ∙ ap (λ (x : Stepped). map_words x.map) d),
          ),
        )
