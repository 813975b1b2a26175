-- Refusal 8 comes exactly where a record names no step. Assumes nothing.
use Rattle.std.proofs.Common.{◌≡◌, ℕ, zero, suc, ◌^◌, ◌<◌, ◌≤◌, Bool, true, false, cond, not, ◌&&◌, ◌||◌, eqb, ltb, leb, List, [], ◌∷◌, ◌++◌, length, get_or, sym, refl, ap, ◌∙◌, true≢false, arith, eq-eqb, eqb-true, leb-false, leb-true, Option, Some, None}
use mathlib.Core.Bool.{false≢true}
use Rattle.bits.specs.Lists.{Words}
use Rattle.bits.specs.Mask.{within}
use Rattle.bits.specs.Same.{same_list}
use Rattle.bits.proofs.Conjunction.{both, by_test}
use Rattle.pmp.specs.declared.Access.{Access}
use Rattle.pmp.specs.declared.Access.TheVariants.{Fetch, Load, Store}
use Rattle.pmp.specs.Rule.{is_size, none as no_entry}
use Rattle.pmp.specs.Number.{fault_cause}
use Rattle.lines.specs.Lines.{lines_of, lines_length, words_in, is_text, bytes_of, hex_digits, line_of, number_at, places_of}
use Rattle.lines.proofs.Back.{words_found, text-only}
use Rattle.lines.proofs.Reading.{lines-length}
use Rattle.steps.specs.declared.Operation.{Operation}
use Rattle.steps.specs.declared.Event.{Event}
use Rattle.steps.specs.declared.Event.TheVariants.{Raise, Lines, TakeInterrupt, Mret, Sret, Wfi, Ecall, Ebreak, Advance, Elapsed}
use Rattle.steps.specs.declared.Step.{Step}
use Rattle.steps.specs.declared.Step.TheVariants.{Reset, Csr, Access as AccessStep, Event as EventStep}
use Rattle.steps.specs.declared.Answer.{Answer}
use Rattle.pmp.specs.declared.Refusal.{Refusal}
use Rattle.pmp.specs.Number.{refusal_number}
use Rattle.steps.specs.declared.Answer.TheVariants.{Done, DoneValue, DoneFlag, Granted, Trapped, Refused}
use Rattle.steps.specs.Decode.{decoded, is_access}
use Rattle.steps.proofs.NumberLaws.{number-formed, none-formed}
use Rattle.registers.specs.Masks.{lines_mask}
use Rattle.protection.specs.Read.{is_pmp}
use Rattle.paging.specs.declared.Context.{Context}
use Rattle.paging.specs.Memory.{Memory, lawful}
use Rattle.paging.specs.Access.{Reached, page_fault_cause, reached}
use Rattle.paging.proofs.Answered.{Answered as Judged, grants, faults, page_faults, reached_unlawful, reached_missized, reached-answered}
use Rattle.state.specs.declared.State.{State}
use Rattle.state.specs.Hold.{can_hold}
use Rattle.csr.specs.Permit.{illegal}
use Rattle.trap.specs.declared.Outcome.{Outcome}
use Rattle.trap.specs.Enter.{raised_by}
use Rattle.trap.specs.Events.{event_step}
use Rattle.trap.proofs.Quiet.{refuses, Quiet, event_quiet}
use Rattle.map.specs.declared.Map.{Map}
use Rattle.engine.specs.Effects.{Effect, refused, on_registers, csr_step, access_decided, context_of, access_at, event_effect, effect, is_reset, step_rule}
use Rattle.hart.specs.declared.Hart.{Hart}
use Rattle.hart.specs.declared.Stepped.{Stepped}
use Rattle.hart.specs.Steps.{stepped}
use Rattle.hart.proofs.StepLaws.{step_parts}
use Rattle.records.specs.Records.{keys, record_of, read_record, ignores_first, ignores_second, unused_are_zero, record_step, read_step}
use Rattle.records.proofs.Back.{record_back}
use Rattle.trace.specs.Replies.{Answered, Broken}
use Rattle.trace.specs.Reading.{Reading, reading, after_decoded, reply_to, after_byte, byte_replies}
use Rattle.trace.specs.RefusalEight.{Names, NamesNone, Completes, RefusalEight, WorkedRecords}
use Rattle.trace.proofs.OneByte.{byte-ignored, byte-short, byte_full}

-- ---- unused arguments

either : (p q : Bool) → (p ≡ true → q ≡ true) → (not p || q) ≡ true
either true q h = h refl
either false q h = refl

from_either : (p q : Bool) → (not p || q) ≡ true → p ≡ true → q ≡ true
from_either true q h e = h
from_either false q h e = absurd (false≢true e)

module _ (step a b : ℕ) where
  unused-zero : (ignores_first step ≡ true → a ≡ 0) → (ignores_second step ≡ true → b ≡ 0) → unused_are_zero step a b ≡ true
  unfolding unused_are_zero
  unused-zero h k =
      let p = either (ignores_first step) (eqb a 0) (λ e. eq-eqb a 0 (h e)) in
      let q = either (ignores_second step) (eqb b 0) (λ e. eq-eqb b 0 (k e)) in
      (λ j. p j && q j)

  zero-unused : unused_are_zero step a b ≡ true → (ignores_first step ≡ true → a ≡ 0) × (ignores_second step ≡ true → b ≡ 0)
  unfolding unused_are_zero
  zero-unused h =
      let r = both (not (ignores_first step) || eqb a 0) (not (ignores_second step) || eqb b 0) h in (
        (λ e. eqb-true a 0 (from_either (ignores_first step) (eqb a 0) r.0 e)),
        (λ e. eqb-true b 0 (from_either (ignores_second step) (eqb b 0) r.1 e)),
      )

-- ---- step numbers

formed-not : (s : Step) → Some s ≡ None → ⊥
formed-not s e = let z : ◌≡◌ {A = ℕ} 0 1 = cc in absurd (omega arith)

formed : (step a b : ℕ) → step ≤ 17 → decoded step a b ≡ None → ⊥
formed step a b h e = let f = number-formed step a b h in formed-not f.step (sym f.formed ∙ e)

-- ---- a record's bytes

record_length : lines_length keys ≡ 60
unfolding keys bytes_of lines_length
record_length = refl

sixty : (text : List ℕ) (step a b : ℕ) → Names text step a b → length text ≡ 60
unfolding record_of
sixty text step a b n = ap length n.lines ∙ lines-length keys 0 (step ∷ a ∷ b ∷ []) ∙ record_length

-- the three words that a text is searched for
words-three : (text : List ℕ) → let ws = words_in keys text in Words 3 (get_or ws 0 0 ∷ get_or ws 1 0 ∷ get_or ws 2 0 ∷ [])
words-three text = record { count = refl; below = below }
  where
    below : (i : ℕ) → let ws = words_in keys text in get_or (get_or ws 0 0 ∷ get_or ws 1 0 ∷ get_or ws 2 0 ∷ []) i 0 < 2 ^ 64
    below zero = (words_found keys text).below 0
    below (suc zero) = (words_found keys text).below 1
    below (suc (suc zero)) = (words_found keys text).below 2
    below (suc (suc (suc i))) = omega arith

-- a text in the form is the record of its three words
text-three : (text : List ℕ) → is_text keys text ≡ true → let ws = words_in keys text in text ≡ record_of (get_or ws 0 0) (get_or ws 1 0) (get_or ws 2 0)
unfolding keys lines_of record_of
text-three text p = text-only keys text p

module _ (text : List ℕ) where
  named : (step a b : ℕ) → Names text step a b → read_step text ≡ decoded step a b
  unfolding read_step record_step
  named step a b n =
      let u = unused-zero step a b n.first n.second in
      ap (λ (t : List ℕ). record_step (read_record t)) n.lines ∙ ap record_step (record_back step a b n.words)
      ∙ (λ j. cond (u j) (decoded step a b) None)

  only : read_step text ≡ None → NamesNone text
  only e step a b n = formed step a b n.known (sym (named step a b n) ∙ e)

  -- a record in the form, whose number or whose unused arguments name no step
  none_named : (step a b : ℕ) → Words 3 (step ∷ a ∷ b ∷ []) → text ≡ record_of step a b → NamesNone text
      → cond (unused_are_zero step a b) (decoded step a b) None ≡ None
  none_named step a b w t h = go (unused_are_zero step a b) refl (leb step 17) refl
    where
      go : (u : Bool) → unused_are_zero step a b ≡ u → (k : Bool) → leb step 17 ≡ k → cond u (decoded step a b) None ≡ None
      go false p k q = refl
      go true p false q = none-formed step a b (leb-false step 17 q)
      go true p true q =
          let z = zero-unused step a b p in
          absurd (h step a b (record { words = w; lines = t; known = leb-true step 17 q; first = z.0; second = z.1 }))

  none : NamesNone text → read_step text ≡ None
  unfolding read_record record_step read_step
  none h = go (is_text keys text) refl
    where
      go : (r : Bool) → is_text keys text ≡ r → read_step text ≡ None
      go true p =
          let ws = words_in keys text in
          rw p (none_named (get_or ws 0 0) (get_or ws 1 0) (get_or ws 2 0) (words-three text) (text-three text p) h)
      go false p = rw p

-- ---- the byte that completes a record

module _ (m : Memory) (x : Reading) (b : ℕ) (h : Completes x) where
  abbrev text : List ℕ
  text = x.left ++ b ∷ []

  full : (after_byte m x b ≡ reading (after_decoded m x.replay (read_step text)) []) × (byte_replies m x b ≡ reply_to m x.replay (read_step text) ∷ [])
  full = byte_full m x b h.reads (omega (arith, h.short))

  judged : (d : Option Step) → read_step text ≡ d → (byte_replies m x b ≡ reply_to m x.replay d ∷ []) × (after_byte m x b ≡ reading (after_decoded m x.replay d) [])
  judged d e = (full.1 ∙ (λ j. reply_to m x.replay (e j) ∷ []), full.0 ∙ (λ j. reading (after_decoded m x.replay (e j)) []))

  refused-only : (number : ℕ) → byte_replies m x b ≡ Broken number ∷ [] → NamesNone text
  refused-only number e = go (read_step text) refl
    where
      go : (d : Option Step) → read_step text ≡ d → NamesNone text
      go (Some s) p =
          let q = sym (judged (Some s) p).0 ∙ e in
          let z : ◌≡◌ {A = ℕ} 0 1 = cc in
          absurd (omega arith)
      go None p = only text p

-- ---- no step answers refusal 8

abbrev is_eight : Answer → Bool
is_eight Done = false
is_eight (DoneValue old) = false
is_eight (DoneFlag flag) = false
is_eight (Granted entry) = false
is_eight (Trapped trap level entry) = false
is_eight (Refused refusal) = eqb (refusal_number refusal) 8

abbrev Other : Effect → Type 0
Other e = is_eight e.answer ≡ false

unrefused-other : (a : Answer) → refuses a ≡ false → is_eight a ≡ false
unrefused-other Done h = refl
unrefused-other (DoneValue old) h = refl
unrefused-other (DoneFlag flag) h = refl
unrefused-other (Granted entry) h = refl
unrefused-other (Trapped trap level entry) h = refl
unrefused-other (Refused refusal) h = absurd (true≢false h)

module _ (s : State) where
  quiet_other : (b : Bool) (o : Outcome) → Quiet s.registers b o → Other (on_registers s o)
  quiet_other true o q = ap (λ (p : Outcome). is_eight p.answer) q
  quiet_other false o q = unrefused-other o.answer q

  raised-other : (cause tval entry : ℕ) → Other (on_registers s (raised_by s.registers cause tval entry))
  unfolding raised_by
  raised-other cause tval entry = refl

  by_quiet : (b : Bool) (e : Event) → Quiet s.registers b (event_step s.registers e) → Other (event_effect s e)
  by_quiet b e q = quiet_other b (event_step s.registers e) q

  event_other : (e : Event) → Other (event_effect s e)
  event_other (Raise cause tval) = by_quiet (not (leb cause 7)) (Raise cause tval) (event_quiet s.registers (Raise cause tval))
  event_other (Lines lines) = by_quiet (not (within lines_mask lines)) (Lines lines) (event_quiet s.registers (Lines lines))
  event_other TakeInterrupt = by_quiet false TakeInterrupt (event_quiet s.registers TakeInterrupt)
  event_other Mret = by_quiet false Mret (event_quiet s.registers Mret)
  event_other Sret = by_quiet false Sret (event_quiet s.registers Sret)
  event_other Wfi = by_quiet false Wfi (event_quiet s.registers Wfi)
  event_other Ecall = by_quiet false Ecall (event_quiet s.registers Ecall)
  event_other Ebreak = by_quiet false Ebreak (event_quiet s.registers Ebreak)
  event_other (Advance target) = by_quiet false (Advance target) (event_quiet s.registers (Advance target))
  event_other (Elapsed cycles retired) = by_quiet false (Elapsed cycles retired) (event_quiet s.registers (Elapsed cycles retired))

  csr_other : (op : Operation) (number operand : ℕ) → Other (csr_step s op number operand)
  unfolding csr_step
  csr_other op number operand =
      by_test Other (ltb 4095 number) _ _ (λ t. refl)
      (λ t.
      by_test Other (illegal s.registers op number) _ _ (λ u. raised-other 2 0 no_entry)
      (λ u. by_test Other (is_pmp number) _ _ (λ v. refl) (λ v. by_test Other (eqb number 0x180) _ _ (λ w. refl) (λ w. refl))))

  decided-other : (access : Access) {Start : ℕ → Type 0} (d : Reached) → Judged access Start d → Other (access_decided s d)
  decided-other access _ (grants entry h) = refl
  decided-other access _ (faults tval entry a h) = raised-other (fault_cause access) tval entry
  decided-other access _ (page_faults tval a) = raised-other (page_fault_cause access) tval no_entry

  module _ (m : Memory) where
    at_other : (access : Access) (address size : ℕ) → Other (access_at s m access address size)
    unfolding access_at
    at_other access address size = go (lawful m) (is_size size) refl refl
      where
        c : Context
        c = context_of s access

        go : (a b : Bool) → lawful m ≡ a → is_size size ≡ b → Other (access_decided s (reached s.pmp m c address size))
        go true true l k = decided-other access _ (reached-answered s.pmp m c address size l k)
        go true false l k = ap (λ (d : Reached). is_eight (access_decided s d).answer) (reached_missized s.pmp m c address size l k)
        go false b l k = ap (λ (d : Reached). is_eight (access_decided s d).answer) (reached_unlawful s.pmp m c address size l)

    effect-other : (step : Step) → Other (effect s m step)
    effect-other Reset = refl
    effect-other (Csr op number operand) = csr_other op number operand
    effect-other (AccessStep Fetch address size) = at_other Fetch s.registers.pc 4
    effect-other (AccessStep Load address size) = at_other Load address size
    effect-other (AccessStep Store address size) = at_other Store address size
    effect-other (EventStep event) = event_other event

    rule_other : (step : Step) → Other (step_rule s m step)
    unfolding step_rule
    rule_other step = by_test Other (is_reset step || can_hold s) (effect s m step) (refused s Refusal.State) (λ t. effect-other step) (λ t. refl)

own : (m : Memory) (h : Hart) (map : Map) (s : Step) → (stepped h map m s).answer ≡ Refused Refusal.Record → ⊥
own m h map s e = true≢false (sym (ap is_eight (sym (ap (λ (r : Stepped). r.answer) (step_parts h map m s)) ∙ e)) ∙ rule_other h.state m s)

pub refusal_eight : (m : Memory) → RefusalEight m
refusal_eight m = record {
  none = none;
  only = only;
  named = named;
  formed = formed;
  sixty = sixty;
  refused = λ x b h n. judged m x b h None (none (x.left ++ b ∷ []) n);
  refused-only = λ x b number h. refused-only m x b h number;
  answered = λ x b step a b' s h n e. judged m x b h (Some s) (named (x.left ++ b ∷ []) step a b' n ∙ e);
  goes_on = λ x b step a b' n s h k e r.
      let j = judged m x b h (Some s) (named (x.left ++ b ∷ []) step a b' k ∙ e) in (
        j.0 ∙ (λ i. Answered (r i) (is_access s) ∷ []),
        ap (λ (y : Reading). y.replay.stopped) j.1,
        ap (λ (y : Reading). y.replay.number) j.1,
      );
  own = own m;
  unjudged = λ x b h l. let r = byte-short m x b h l in (r.1, r.0);
  later = λ x b h. let r = byte-ignored m x b h in (r.1, r.0);
}

pub worked_records : WorkedRecords
unfolding bytes_of hex_digits line_of lines_of number_at places_of words_in is_text same_list keys record_of read_record unused_are_zero record_step read_step decoded
worked_records = record {
  first = refl;
  second = refl;
  letters = refl;
  eighteen = refl;
  unused = refl;
  upper_case = refl;
  other_key = refl;
  other_end = refl;
}
