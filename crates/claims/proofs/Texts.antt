-- Harts and saved texts turn into each other without loss within each form, no second text stands for the same state, and converting keeps it. Assumes nothing.
use Prim.Native.Nat.{ℕ, ◌-◌, ◌≤◌}
use mathlib.Core.Path.{◌≡◌, refl, sym, ap, subst, ◌∙◌}
use mathlib.Core.Bool.{Bool, true, false, cond, ◌&&◌, false≢true}
use mathlib.Core.List.{List, ◌++◌}
use native.Mathlib.Omega.{arith}
use borrow.Author.Tests.{le-leb, leb-true, eqb-true, not-false}
use lib.Dec.{eqb, leb}
use lib.ListN.{length, take, drop}
use lib.Seq.{take_at}
use Rattle.std.specs.Prelude.{is_some}
use Rattle.bits.specs.Lists.{elements, Words}
use Rattle.bits.proofs.Conjunction.{both, contradiction}
use Rattle.pmp.specs.declared.Refusal.{Refusal}
use Rattle.steps.specs.declared.Answer.{Answer}
use Rattle.steps.specs.declared.Answer.TheVariants.{Done, Refused}
use Rattle.steps.specs.Number.{refusal_of}
use Rattle.state.specs.declared.State.{State}
use Rattle.state.specs.Hold.{can_hold}
use Rattle.state.specs.Words.{words_of, state_of}
use Rattle.state.specs.Texts.{first_form_holds}
use Rattle.state.proofs.Back.{words_back, state-back}
use Rattle.map.specs.declared.Map.{Map}
use Rattle.text.specs.declared.Form.{Form}
use Rattle.text.specs.declared.Form.TheVariants.{First, Second}
use Rattle.text.specs.Text.{Reading, other, text_of, length_of, read_as, written_to, read_text}
use Rattle.text.proofs.Template.{text-length}
use Rattle.text.proofs.Laws.{with_lines, all_lines, first-lines, read-text, text-read, read_as_lem, read-words}
use Rattle.hart.specs.declared.Hart.{Hart}
use Rattle.hart.specs.declared.Stepped.{Stepped}
use Rattle.hart.specs.Steps.{map_for, hart_with, handed_back}
use Rattle.hart.specs.Saved.{text_for, form_holds, text_holds, saved_answer, saved_buffer, state_in, by_text, restored_done, restored, converted_answer, converted_buffer}
use Rattle.hart.proofs.Numbered.{is_done}
use Rattle.claims.specs.Refusals.{unheld_by}
use Rattle.claims.proofs.RefusalLaws.{unheld}
use Rattle.claims.specs.Texts.{Typed, text_at, SavesAndRestores, ReadsAs, Lossless, converted, Conversion, resaved}

-- ---- what was saved reads back

-- a state that is not refused by 12
fitting : (form : Form) (s : State) → unheld_by form s ≡ false → form_holds form s ≡ true
fitting form s q = not-false (form_holds form s) (sym (unheld form s) ∙ q)

-- a state that the first form holds has satp 0 and grain 0
plain : (s : State) → first_form_holds s ≡ true → (s.satp ≡ 0) × (s.pmp.grain ≡ 0)
unfolding first_form_holds
plain s p =
    let w = both (eqb s.satp 0) (eqb s.pmp.grain 0) (both (eqb s.satp 0 && eqb s.pmp.grain 0) _ p).0 in
    (eqb-true s.satp 0 w.0, eqb-true s.pmp.grain 0 w.1)

-- the words of a state that the form holds are those that it has lines for
words_kept : (form : Form) (ws : List ℕ) → length ws ≡ 43 → form_holds form (state_of ws) ≡ true → with_lines form ws ≡ ws
words_kept First ws n p = let w = plain (state_of ws) p in first-lines ws n w.0 w.1
words_kept Second ws n p = all_lines ws n

-- what is made of a text's reading
abbrev judged : Form → Hart → Map → Reading → Stepped
judged form g map r =
    cond r.ok (cond (text_holds form (state_of r.words)) (restored_done (state_of r.words)) (handed_back g map (Refused Refusal.TextState))) (handed_back g map (Refused Refusal.Text))

-- the text of words reads back as their state
words-restored : (form : Form) (ws : List ℕ) (g : Hart) (map : Map) → Words 43 ws → can_hold (state_of ws) ≡ true → form_holds form (state_of ws) ≡ true
    → restored form g map (text_of form ws) ≡ restored_done (state_of ws)
unfolding restored
words-restored form ws g map w p q =
    ap (judged form g map) (read-text form ws w ∙ ap read_as (words_kept form ws w.count q)) ∙ rw (p, q)

state-words : (s : State) → Typed s → Words 43 (words_of s)
unfolding words_of elements
state-words s t = record { count = refl; below = t.words }

-- and that of a hart as the hart
text-restored : (form : Form) (h g : Hart) (map : Map) → Typed h.state → can_hold h.state ≡ true → form_holds form h.state ≡ true
    → restored form g map (text_for form h) ≡ restored_done h.state
text-restored form h g map t p q =
    let e = state-back h.state t.arrays in
    words-restored form (words_of h.state) g map (state-words h.state t) (ap can_hold e ∙ p) (ap (form_holds form) e ∙ q) ∙ ap restored_done e

module _ (form : Form) (h : Hart) (b : List ℕ) (p : can_hold h.state ≡ true) (q : form_holds form h.state ≡ true) (room : length_of form ≤ length b) where
  saved_done : saved_answer form h b ≡ Done
  unfolding saved_answer
  saved_done = rw (p, q, le-leb (length_of form) (length b) room)

  saved_text_lem : saved_buffer form h b ≡ text_for form h ++ drop (length_of form) b
  unfolding saved_buffer written_to
  saved_text_lem = rw (p, q, le-leb (length_of form) (length b) room)

  saved_front : text_at form (saved_buffer form h b) ≡ text_for form h
  saved_front =
      ap (text_at form) saved_text_lem ∙ take_at (text_for form h) (drop (length_of form) b) (length_of form) (text-length form (words_of h.state))

saves_and_restores : (form : Form) (h : Hart) → Typed h.state → can_hold h.state ≡ true → form_holds form h.state ≡ true → SavesAndRestores form h
saves_and_restores form h t p q g map b room =
    (saved_done form h b p q room, ap (restored form g map) (saved_front form h b p q room) ∙ text-restored form h g map t p q)

-- ---- what a text reads back as

-- a text that reads back is the text of words, whose state a hart can hold, and so can the form
record Read (form : Form) (text : List ℕ) (h : Hart) (m : Map) : Type 0 where
  pub words : List ℕ
  pub typed : Words 43 words
  pub is_text_lem : text ≡ text_of form words
  pub back : restored_done (state_of words) ≡ handed_back h m Done
  pub held : can_hold (state_of words) ≡ true
  pub fits : form_holds form (state_of words) ≡ true
  pub reading : read_text form text ≡ read_as words

module _ (form : Form) (g h : Hart) (map m : Map) (text : List ℕ) where
  text-reads : restored form g map text ≡ handed_back h m Done → Read form text h m
  unfolding restored
  text-reads = go (read_text form text).ok (text_holds form (state_in form text)) refl refl
    where
      go : (a b : Bool) → (read_text form text).ok ≡ a → text_holds form (state_in form text) ≡ b
          → cond a (cond b (restored_done (state_in form text)) (handed_back g map (Refused Refusal.TextState))) (handed_back g map (Refused Refusal.Text)) ≡ handed_back h m Done
          → Read form text h m
      go true true p q e =
          let r = read_as_lem form text p in
          let k = both (can_hold (state_in form text)) (form_holds form (state_in form text)) q in
          record {
            words = (read_text form text).words;
            typed = read-words form text (read_text form text).words r;
            is_text_lem = text-read form text (read_text form text).words r;
            back = e;
            held = k.0;
            fits = k.1;
            reading = r;
          }
      go true false p q e = absurd (false≢true (ap (λ (x : Stepped). is_done x.answer) e))
      go false b p q e = absurd (false≢true (ap (λ (x : Stepped). is_done x.answer) e))

module _ {form : Form} {text : List ℕ} {h : Hart} {m : Map} (r : Read form text h m) where
  -- the same whatever hart and map go in
  reads : ReadsAs form text h m
  unfolding restored
  reads g map = ap (judged form g map) r.reading ∙ rw (r.held, r.fits) r.back

  state_is : state_of r.words ≡ h.state
  state_is = ap (λ (x : Stepped). x.hart.state) r.back

  words_are : words_of h.state ≡ r.words
  words_are = ap words_of (sym state_is) ∙ words_back r.words r.typed

  hart-held : can_hold h.state ≡ true
  hart-held = ap can_hold (sym state_is) ∙ r.held

  hart-fits : form_holds form h.state ≡ true
  hart-fits = ap (form_holds form) (sym state_is) ∙ r.fits

  text_is : text ≡ text_for form h
  text_is = r.is_text_lem ∙ ap (text_of form) (sym words_are)

-- what a text that reads back is
read_of : {form : Form} {text : List ℕ} {h : Hart} {m : Map} → ReadsAs form text h m → Read form text h m
read_of {form} {text} {h} {m} e = text-reads form h h m m text (e h m)

restored_saved : (form : Form) (h : Hart) (m : Map) (text b : List ℕ) → ReadsAs form text h m → length_of form ≤ length b
    → (saved_answer form h b ≡ Done) × (saved_buffer form h b ≡ text ++ drop (length_of form) b)
restored_saved form h m text b e room =
    let r = read_of e in (
      saved_done form h b (hart-held r) (hart-fits r) room,
      saved_text_lem form h b (hart-held r) (hart-fits r) room ∙ ap (λ (l : List ℕ). l ++ drop (length_of form) b) (sym (text_is r)),
    )

pub lossless : Lossless
lossless =
    record {
      second = λ h t p. saves_and_restores Second h t p refl;
      first = λ h t p q. saves_and_restores First h t p (fitting First h.state q);
      read_alike = λ form g h map m text e. reads (text-reads form g h map m text e);
      restored_saved = restored_saved;
      one_text = λ form h m n text second d e. text_is (read_of d) ∙ sym (text_is (read_of e));
      read_plain = λ h m text e. plain h.state (hart-fits (read_of e));
    }

-- ---- converting

-- what is made of a text that reads back
read_made : {A : Type 0} (form : Form) (text : List ℕ) (refused : Refusal → A) (made : State → A) (h : Hart) (m : Map) → ReadsAs form text h m
    → by_text form text refused made ≡ made h.state
read_made form text refused made h m e =
    let r = read_of e in
    ap (λ (x : Reading). cond x.ok (cond (text_holds form (state_of x.words)) (made (state_of x.words)) (refused Refusal.TextState)) (refused Refusal.Text)) r.reading
    ∙ rw (r.held, r.fits) (ap made (state_is r))

module _ (to : Form) (h : Hart) (m : Map) (text b : List ℕ) (e : ReadsAs (other to) text h m) where
  answer_saved : converted_answer to text b ≡ saved_answer to h b
  unfolding converted_answer
  answer_saved = read_made (other to) text Refused (λ s. saved_answer to (hart_with s) b) h m e

  buffer_saved : converted_buffer to text b ≡ saved_buffer to h b
  unfolding converted_buffer
  buffer_saved = read_made (other to) text (λ n. b) (λ s. saved_buffer to (hart_with s) b) h m e

-- a save that is done had room, and a state that the form holds
saved_when : (form : Form) (h : Hart) (b : List ℕ) → saved_answer form h b ≡ Done → (length_of form ≤ length b) × (form_holds form h.state ≡ true)
unfolding saved_answer
saved_when form h b = go (can_hold h.state) (leb (length_of form) (length b)) (form_holds form h.state) refl refl
  where
    go : (a c d : Bool) → leb (length_of form) (length b) ≡ c → form_holds form h.state ≡ d
        → cond a (cond c (cond d Done (Refused Refusal.Form)) (Refused Refusal.Buffer)) (Refused Refusal.State) ≡ Done → (length_of form ≤ length b) × (form_holds form h.state ≡ true)
    go true true true p q e = (leb-true (length_of form) (length b) p, q)
    go true true false p q e = absurd (false≢true (ap is_done e))
    go true false d p q e = absurd (false≢true (ap is_done e))
    go false c d p q e = absurd (false≢true (ap is_done e))

module _ (to : Form) (h : Hart) (m : Map) (text b : List ℕ) (e : ReadsAs (other to) text h m) (d : converted_answer to text b ≡ Done) where
  fit : (length_of to ≤ length b) × (form_holds to h.state ≡ true)
  fit = saved_when to h b (sym (answer_saved to h m text b e) ∙ d)

  written : converted_buffer to text b ≡ text_for to h ++ drop (length_of to) b
  written = buffer_saved to h m text b e ∙ saved_text_lem to h b (hart-held (read_of e)) fit.1 fit.0

  front : converted to text b ≡ text_for to h
  front = ap (text_at to) (buffer_saved to h m text b e) ∙ saved_front to h b (hart-held (read_of e)) fit.1 fit.0

  kept : ReadsAs to (converted to text b) h m
  kept g map =
      let r = read_of e in
      ap (restored to g map) (front ∙ ap (text_of to) (words_are r))
      ∙ words-restored to r.words g map r.typed r.held (ap (form_holds to) (state_is r) ∙ fit.1)
      ∙ r.back

-- a conversion that is done has read a text
convert-read : (to : Form) (text b : List ℕ) → converted_answer to text b ≡ Done
    → let s = state_in (other to) text in ReadsAs (other to) text (hart_with s) (map_for s.pmp)
unfolding converted_answer restored
convert-read to text b e g map = go (read_text (other to) text).ok (text_holds (other to) (state_in (other to) text)) e
  where
    s : State
    s = state_in (other to) text

    go : (x y : Bool) → cond x (cond y (saved_answer to (hart_with s) b) (Refused Refusal.TextState)) (Refused Refusal.Text) ≡ Done
        → cond x (cond y (restored_done s) (handed_back g map (Refused Refusal.TextState))) (handed_back g map (Refused Refusal.Text)) ≡ restored_done s
    go true true q = refl
    go true false q = absurd (false≢true (ap is_done q))
    go false y q = absurd (false≢true (ap is_done q))

other-other : (form : Form) → other (other form) ≡ form
other-other First = refl
other-other Second = refl

there_and_back : (to : Form) (text b again : List ℕ) → converted_answer to text b ≡ Done → length_of (other to) ≤ length again
    → (converted_answer (other to) (converted to text b) again ≡ Done)
    × (converted_buffer (other to) (converted to text b) again ≡ text ++ drop (length_of (other to)) again)
there_and_back to text b again d room =
    let s = state_in (other to) text in
    let h = hart_with s in
    let m = map_for s.pmp in
    let e = convert-read to text b d in
    let k : ReadsAs (other (other to)) (converted to text b) h m =
    subst (λ (f : Form). ReadsAs f (converted to text b) h m) (sym (other-other to)) (kept to h m text b e d) in
    let r = restored_saved (other to) h m text again e room in
    (answer_saved (other to) h m (converted to text b) again k ∙ r.0, buffer_saved (other to) h m (converted to text b) again k ∙ r.1)

pub conversion : Conversion
conversion =
    record {
      keeps = λ to h m text b e d. (kept to h m text b e d, written to h m text b e d);
      done = λ to h m text b e q room. answer_saved to h m text b e ∙ saved_done to h b (hart-held (read_of e)) (fitting to h.state q) room;
      back = there_and_back;
      read_and_saved = λ to h m text b e. (answer_saved to h m text b e, buffer_saved to h m text b e);
    }

-- ---- saving to a buffer that has room, and reading the text at its front back

module _ (form : Form) (h : Hart) (map : Map) (b : List ℕ) (t : Typed h.state) (room : length_of form ≤ length b) where
  -- by the answer of the save, and its refusal
  module _ {a : Answer} (e : a ≡ saved_answer form h b) {n : Bool} (f : n ≡ is_some (refusal_of a)) where
    answered : a ≡ cond (can_hold h.state) (cond (form_holds form h.state) Done (Refused Refusal.Form)) (Refused Refusal.State)
    unfolding saved_answer
    answered = e ∙ rw (le-leb (length_of form) (length b) room)

    pub resaved-refused : n ≡ true → handed_back h map a ≡ resaved form h map
    unfolding resaved
    resaved-refused z = go (can_hold h.state) (form_holds form h.state) answered
      where
        go : (x y : Bool) → a ≡ cond x (cond y Done (Refused Refusal.Form)) (Refused Refusal.State)
            → handed_back h map a ≡ cond x (cond y (restored_done h.state) (handed_back h map (Refused Refusal.Form))) (handed_back h map (Refused Refusal.State))
        go true true q = contradiction z (f ∙ ap (λ (x : Answer). is_some (refusal_of x)) q)
        go true false q = ap (handed_back h map) q
        go false y q = ap (handed_back h map) q

    pub resaved-done : n ≡ false → {l : ℕ} → l ≡ length_of form → {x : List ℕ} → x ≡ saved_buffer form h b → {s : Stepped}
        → s ≡ restored form h map (take (l - 0) x) → s ≡ resaved form h map
    unfolding resaved
    resaved-done z {l} i {x} d {s} k = go (can_hold h.state) (form_holds form h.state) refl refl answered
      where
        front : take (l - 0) x ≡ text_at form (saved_buffer form h b)
        front = let m : l - 0 ≡ length_of form = omega arith in λ j. take (m j) (d j)

        go : (x y : Bool) → can_hold h.state ≡ x → form_holds form h.state ≡ y → a ≡ cond x (cond y Done (Refused Refusal.Form)) (Refused Refusal.State)
            → s ≡ cond x (cond y (restored_done h.state) (handed_back h map (Refused Refusal.Form))) (handed_back h map (Refused Refusal.State))
        go true true p q c = k ∙ ap (restored form h map) (front ∙ saved_front form h b p q room) ∙ text-restored form h h map t p q
        go true false p q c = contradiction (f ∙ ap (λ (x : Answer). is_some (refusal_of x)) c) z
        go false y p q c = contradiction (f ∙ ap (λ (x : Answer). is_some (refusal_of x)) c) z
