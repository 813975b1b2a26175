-- Steps, queries, saves, readings of a text and conversions are refused exactly when the table says, and a refusal changes nothing. Assumes nothing.
use Prim.Native.Nat.{ℕ}
use mathlib.Core.Path.{◌≡◌, refl, sym, ap, ◌∙◌}
use mathlib.Core.Bool.{Bool, true, false, cond, not, ◌&&◌, ◌||◌}
use mathlib.Core.List.{List, ◌++◌}
use mathlib.Core.Option.{Option, none, some}
use lib.Bits.{bit_and}
use lib.Dec.{eqb, leb, ltb}
use lib.ListN.{length, take, drop}
use Rattle.bits.proofs.Conjunction.{contradiction}
use Rattle.lines.specs.Lines.{bytes_of, hex_digits, line_of}
use Rattle.pmp.specs.declared.Mode.{Mode}
use Rattle.pmp.specs.declared.Access.{Access}
use Rattle.pmp.specs.declared.Access.TheVariants.{Fetch, Load, Store}
use Rattle.pmp.specs.declared.Decision.{Decision}
use Rattle.pmp.specs.declared.Refusal.{Refusal}
use Rattle.pmp.specs.Search.{any_byte}
use Rattle.pmp.specs.Entry.{top}
use Rattle.pmp.specs.Rule.{is_size, owners_decide, none as no_entry}
use Rattle.pmp.specs.Number.{fault_cause, refusal_number}
use Rattle.pmp.proofs.Answered.{GrantOrFault, grants, faults, owners_answer}
use Rattle.steps.specs.declared.Operation.{Operation}
use Rattle.steps.specs.declared.Event.{Event}
use Rattle.steps.specs.declared.Event.TheVariants.{Raise, Lines, TakeInterrupt, Mret, Sret, Wfi, Ecall, Ebreak, Advance, Elapsed}
use Rattle.steps.specs.declared.Step.{Step}
use Rattle.steps.specs.declared.Step.TheVariants.{Reset, Csr, Access as AccessStep, Event as EventStep}
use Rattle.steps.specs.declared.Answer.{Answer}
use Rattle.steps.specs.declared.Answer.TheVariants.{Done, DoneValue, DoneFlag, Granted, Trapped, Refused}
use Rattle.protection.specs.Read.{is_pmp}
use Rattle.protection.proofs.SameLaws.{same_pmp-refl}
use Rattle.paging.specs.declared.Context.{Context}
use Rattle.paging.specs.Memory.{Memory, lawful}
use Rattle.paging.specs.Access.{Reached, page_fault_cause, reached}
use Rattle.paging.proofs.Answered.{Answered, grants as reach-grants, faults as reach-faults, page_faults, reached_unlawful, reached_missized, reached-answered}
use Rattle.state.specs.declared.State.{State}
use Rattle.state.specs.Hold.{can_hold}
use Rattle.state.specs.Words.{words_of}
use Rattle.state.specs.Texts.{first_form_holds}
use Rattle.csr.specs.Permit.{illegal}
use Rattle.trap.specs.declared.Outcome.{Outcome}
use Rattle.trap.specs.Enter.{illegal_instruction}
use Rattle.trap.specs.Events.{event_step}
use Rattle.trap.proofs.Quiet.{refuses, Quiet, raised_quiet, event_quiet}
use Rattle.map.specs.declared.Map.{Map}
use Rattle.map.specs.declared.Range.{Range}
use Rattle.map.specs.Lookup.{find_range, ranges_in, owner_found, owner_in}
use Rattle.map.specs.Query.{ranges_decide, queried}
use Rattle.text.specs.declared.Form.{Form}
use Rattle.text.specs.declared.Form.TheVariants.{First, Second}
use Rattle.text.specs.Text.{Reading, other, head_of, text_of, length_of, written_to, read_text}
use Rattle.text.proofs.Laws.{text-read, read_as_lem, other-unread}
use Rattle.engine.specs.Effects.{
  Effect,
  refused,
  on_registers,
  protection_step,
  satp_step,
  register_step,
  csr_step,
  access_decided,
  context_of,
  access_at,
  access_step,
  effect,
  is_reset,
  step_rule,
}
use Rattle.hart.specs.declared.Hart.{Hart}
use Rattle.hart.specs.declared.Stepped.{Stepped}
use Rattle.hart.specs.Steps.{hart_with, handed_back, with_map, reset_done, stepped}
use Rattle.hart.specs.Queries.{query_answer}
use Rattle.hart.specs.Saved.{form_holds, text_holds, saved_answer, saved_buffer, state_in, restored_done, restored, converted_answer, converted_buffer}
use Rattle.claims.specs.Refusals.{
  memory_refusal,
  event_refusal,
  argument_refusal,
  step_refusal,
  unowned,
  range_refusal,
  query_refusal,
  save_refusal,
  restore_refusal,
  bytes_of_form,
  unheld_by,
  convert_refusal,
  refused_by,
  query_refused_by,
  Exactly,
  RefusalTable,
}

-- ---- an answer of any type that has refusals, and the table

module _ {A : Type 0} (RefusedWith : Refusal → A) (refusing : A → Bool) (by : A → Option ℕ)
    (by-is : (r : Refusal) → by (RefusedWith r) ≡ some (refusal_number r)) (by-none : (a : A) → refusing a ≡ false → by a ≡ none) where
  -- the answer is a refusal with the table's number, or none where the table has none
  abbrev Tells : Option ℕ → A → Type 0
  Tells none a = refusing a ≡ false
  Tells (some n) a = (r : Refusal) × ((a ≡ RefusedWith r) × (refusal_number r ≡ n))

  told-by : (table : Option ℕ) (a : A) → Tells table a → by a ≡ table
  told-by none a t = by-none a t
  told-by (some n) a t = ap by t.1.0 ∙ by-is t.0 ∙ ap {B = Option ℕ} some t.1.1

  exactly : (table : Option ℕ) (a : A) → Tells table a → Exactly (λ n. by a ≡ some n) table
  exactly table a t n = (λ e. sym (told-by table a t) ∙ e, λ e. told-by table a t ∙ e)

unrefused : (a : Answer) → refuses a ≡ false → refused_by a ≡ none
unrefused Done e = refl
unrefused (DoneValue old) e = refl
unrefused (DoneFlag flag) e = refl
unrefused (Granted entry) e = refl
unrefused (Trapped trap level entry) e = refl
unrefused (Refused refusal) e = contradiction refl e

abbrev Told : Option ℕ → Answer → Type 0
Told = Tells Refused refuses refused_by (λ r. refl) unrefused

told_exactly : (table : Option ℕ) (a : Answer) → Told table a → Exactly (λ n. refused_by a ≡ some n) table
told_exactly = exactly Refused refuses refused_by (λ r. refl) unrefused

-- ---- what is handed back: a refusal with the table's number and the hart and map that went in, or no refusal

abbrev Handed : Hart → Map → Option ℕ → Stepped → Type 0
Handed h map none s = refuses s.answer ≡ false
Handed h map (some n) s = (r : Refusal) × ((s ≡ handed_back h map (Refused r)) × (refusal_number r ≡ n))

handed_told : (h : Hart) (map : Map) (table : Option ℕ) (s : Stepped) → Handed h map table s → Told table s.answer
handed_told h map none s t = t
handed_told h map (some n) s t = (t.0, (ap (λ (x : Stepped). x.answer) t.1.0, t.1.1))

handed_exactly : (h : Hart) (map : Map) (table : Option ℕ) (s : Stepped) → Handed h map table s → Exactly (λ n. refused_by s.answer ≡ some n) table
handed_exactly h map table s t = told_exactly table s.answer (handed_told h map table s t)

handed_unchanged : (h : Hart) (map : Map) (table : Option ℕ) (s : Stepped) → Handed h map table s → (r : Refusal) → s.answer ≡ Refused r
    → s ≡ handed_back h map (Refused r)
handed_unchanged h map none s t r e = contradiction (ap refuses e) t
handed_unchanged h map (some n) s t r e = t.1.0 ∙ ap (handed_back h map) (sym (ap (λ (x : Stepped). x.answer) t.1.0) ∙ e)

-- ---- steps: what each does to the state

abbrev Refuses : State → Option ℕ → Effect → Type 0
Refuses s none e = refuses e.answer ≡ false
Refuses s (some n) e = (r : Refusal) × ((e ≡ refused s r) × (refusal_number r ≡ n))

module _ (s : State) where
  -- an event that passes its test is not refused
  unless : (b : Bool) (o : Outcome) → Quiet s.registers (not b) o → Refuses s (cond b none (some 2)) (on_registers s o)
  unless true o q = q
  unless false o q = (Refusal.Argument, (ap (on_registers s) q, refl))

  event_refuses : (event : Event) → Refuses s (event_refusal event) (on_registers s (event_step s.registers event))
  event_refuses (Raise cause tval) = unless (leb cause 7) _ (event_quiet s.registers (Raise cause tval))
  event_refuses (Lines lines) = unless (eqb (bit_and lines 0xA88) lines) _ (event_quiet s.registers (Lines lines))
  event_refuses TakeInterrupt = event_quiet s.registers TakeInterrupt
  event_refuses Mret = event_quiet s.registers Mret
  event_refuses Sret = event_quiet s.registers Sret
  event_refuses Wfi = event_quiet s.registers Wfi
  event_refuses Ecall = event_quiet s.registers Ecall
  event_refuses Ebreak = event_quiet s.registers Ebreak
  event_refuses (Advance target) = event_quiet s.registers (Advance target)
  event_refuses (Elapsed cycles retired) = event_quiet s.registers (Elapsed cycles retired)

  csr_refuses : (op : Operation) (number operand : ℕ) → Refuses s (cond (ltb 4095 number) (some 2) none) (csr_step s op number operand)
  unfolding csr_step
  csr_refuses op number operand = go (ltb 4095 number) (illegal s.registers op number) (is_pmp number) (eqb number 0x180)
    where
      go : (a b c d : Bool)
          → Refuses s (cond a (some 2) none)
          (cond a (refused s Refusal.Argument)
          (cond b (on_registers s (illegal_instruction s.registers))
          (cond c (protection_step s op number operand) (cond d (satp_step s op operand) (register_step s op number operand)))))
      go true b c d = (Refusal.Argument, (refl, refl))
      go false true c d = raised_quiet s.registers 2 0 no_entry
      go false false true d = refl
      go false false false true = refl
      go false false false false = refl

  decided_refuses : (access : Access) {Start : ℕ → Type 0} (d : Reached) → Answered access Start d → Refuses s none (access_decided s d)
  decided_refuses access _ (reach-grants entry h) = refl
  decided_refuses access _ (reach-faults tval entry a h) = raised_quiet s.registers (fault_cause access) tval entry
  decided_refuses access _ (page_faults tval a) = raised_quiet s.registers (page_fault_cause access) tval no_entry

  module _ (m : Memory) where
    access_refuses : (access : Access) (address size : ℕ)
        → Refuses s (cond (lawful m) (cond (is_size size) none (some 1)) (some 13)) (access_at s m access address size)
    unfolding access_at
    access_refuses access address size = go (lawful m) (is_size size) refl refl
      where
        c : Context
        c = context_of s access

        go : (a b : Bool) → lawful m ≡ a → is_size size ≡ b
            → Refuses s (cond a (cond b none (some 1)) (some 13)) (access_decided s (reached s.pmp m c address size))
        go true true l k = decided_refuses access _ (reached-answered s.pmp m c address size l k)
        go true false l k = (Refusal.Size, (ap (access_decided s) (reached_missized s.pmp m c address size l k), refl))
        go false b l k = (Refusal.Memory, (ap (access_decided s) (reached_unlawful s.pmp m c address size l), refl))

    access_step_refuses : (access : Access) (address size : ℕ) → Refuses s (memory_refusal m access size) (access_step s m access address size)
    access_step_refuses Fetch address size = access_refuses Fetch s.registers.pc 4
    access_step_refuses Load address size = access_refuses Load address size
    access_step_refuses Store address size = access_refuses Store address size

    effect_refuses : (step : Step) → Refuses s (argument_refusal m step) (effect s m step)
    effect_refuses Reset = refl
    effect_refuses (Csr op number operand) = csr_refuses op number operand
    effect_refuses (AccessStep access address size) = access_step_refuses access address size
    effect_refuses (EventStep event) = event_refuses event

-- ---- the step with its map

with-map : (h : Hart) (map : Map) (table : Option ℕ) (e : Effect) → Refuses h.state table e → Handed h map table (with_map h map e)
with-map h map none e q = q
with-map h map (some n) e q = (q.0, (ap (with_map h map) q.1.0 ∙ rw (same_pmp-refl h.state.pmp), q.1.1))

step_handed : (h : Hart) (map : Map) (m : Memory) (step : Step) → Handed h map (step_refusal h.state m step) (stepped h map m step)
unfolding stepped step_rule
step_handed h map m step = go (is_reset step) (can_hold h.state)
  where
    go : (a b : Bool)
        → Handed h map (cond a none (cond b (argument_refusal m step) (some 3)))
        (cond a (reset_done h.state.pmp.grain) (with_map h map (cond (a || b) (effect h.state m step) (refused h.state Refusal.State))))
    go true b = refl
    go false true = with-map h map (argument_refusal m step) (effect h.state m step) (effect_refuses h.state m step)
    go false false = with-map h map (some 3) (refused h.state Refusal.State) (Refusal.State, (refl, refl))

reset_never : (h : Hart) (map : Map) (m : Memory) (refusal : Refusal) → (stepped h map m Reset).answer ≡ Refused refusal → ⊥
reset_never h map m refusal e = contradiction (ap refuses e) (step_handed h map m Reset)

-- ---- queries

abbrev refuses_access : Decision → Bool
refuses_access (Decision.Granted entry) = false
refuses_access (Decision.Fault cause entry) = false
refuses_access (Decision.Refused refusal) = true

query_unrefused : (d : Decision) → refuses_access d ≡ false → query_refused_by d ≡ none
query_unrefused (Decision.Granted entry) e = refl
query_unrefused (Decision.Fault cause entry) e = refl
query_unrefused (Decision.Refused refusal) e = contradiction refl e

abbrev Decided : Option ℕ → Decision → Type 0
Decided = Tells Decision.Refused refuses_access query_refused_by (λ r. refl) query_unrefused

answered : (access : Access) (d : Decision) → GrantOrFault access d → Decided none d
answered access _ (grants entry h) = refl
answered access _ (faults entry h) = refl

-- a byte whose range is missing or has no owner is read as such
unowned-read : (found : Option Range) → unowned found ≡ ltb no_entry (owner_found found)
unowned-read none = refl
unowned-read (some r) = refl

module _ (cfgs : List ℕ) (mode : Mode) (access : Access) (address size : ℕ) (map : Map) where
  ranges-decided : Decided (range_refusal map address size) (ranges_decide cfgs mode access (owner_in (ranges_in map)) address size)
  unfolding ranges_decide
  ranges-decided =
      rw any_unowned (go (any_byte (λ byte. ltb no_entry (owner_in (ranges_in map) byte)) size address))
    where
      any_unowned : any_byte (λ byte. unowned (find_range (ranges_in map) byte)) size address
          ≡ any_byte (λ byte. ltb no_entry (owner_in (ranges_in map) byte)) size address
      any_unowned = λ j. any_byte (λ byte. unowned-read (find_range (ranges_in map) byte) j) size address

      go : (a : Bool)
          → Decided (cond a (some 7) none) (cond a (Decision.Refused Refusal.Map) (owners_decide cfgs mode access (owner_in (ranges_in map)) address size))
      go true = (Refusal.Map, (refl, refl))
      go false = answered access _ (owners_answer cfgs mode access (owner_in (ranges_in map)) address size)

query-decided : (h : Hart) (map : Map) (mode : Mode) (access : Access) (address size : ℕ)
    → Decided (query_refusal h.state map address size) (query_answer h map mode access address size)
unfolding query_answer queried
query-decided h map mode access address size = go (can_hold h.state) (is_size size) (any_byte (leb top) size address)
  where
    cfgs : List ℕ
    cfgs = h.state.pmp.cfgs

    decision : Decision
    decision = ranges_decide cfgs mode access (owner_in (ranges_in map)) address size

    go : (a b c : Bool)
        → Decided (cond a (cond b (cond c none (range_refusal map address size)) (some 1)) (some 3))
        (cond a (cond (b && not c) decision (cond b (Decision.Fault (fault_cause access) no_entry) (Decision.Refused Refusal.Size))) (Decision.Refused Refusal.State))
    go true true true = refl
    go true true false = ranges-decided cfgs mode access address size map
    go true false c = (Refusal.Size, (refl, refl))
    go false b c = (Refusal.State, (refl, refl))

-- ---- texts

bytes_are : (form : Form) → bytes_of_form form ≡ length_of form
bytes_are First = refl
bytes_are Second = refl

pub unheld : (form : Form) (s : State) → unheld_by form s ≡ not (form_holds form s)
unfolding first_form_holds
unheld First s = refl
unheld Second s = refl

module _ (form : Form) (h : Hart) (buffer : List ℕ) where
  save-told : Told (save_refusal form h.state buffer) (saved_answer form h buffer)
  unfolding saved_answer
  save-told =
      rw (bytes_are form, unheld form h.state) (go (can_hold h.state) (leb (length_of form) (length buffer)) (form_holds form h.state))
    where
      go : (a b c : Bool)
          → Told (cond a (cond b (cond (not c) (some 12) none) (some 6)) (some 3)) (cond a (cond b (cond c Done (Refused Refusal.Form)) (Refused Refusal.Buffer)) (Refused Refusal.State))
      go true true true = refl
      go true true false = (Refusal.Form, (refl, refl))
      go true false c = (Refusal.Buffer, (refl, refl))
      go false b c = (Refusal.State, (refl, refl))

  save-unchanged : (r : Refusal) → saved_answer form h buffer ≡ Refused r → saved_buffer form h buffer ≡ buffer
  unfolding saved_answer saved_buffer written_to
  save-unchanged r = go (can_hold h.state) (leb (length_of form) (length buffer)) (form_holds form h.state)
    where
      text : List ℕ
      text = text_of form (words_of h.state) ++ drop (length_of form) buffer

      go : (a b c : Bool) → cond a (cond b (cond c Done (Refused Refusal.Form)) (Refused Refusal.Buffer)) (Refused Refusal.State) ≡ Refused r
          → cond (a && c) (cond b text buffer) buffer ≡ buffer
      go true true true e = contradiction (ap refuses e) refl
      go true true false e = refl
      go true false true e = refl
      go true false false e = refl
      go false b c e = refl

read_handed : (form : Form) (h : Hart) (map : Map) (text : List ℕ) → Handed h map (restore_refusal form text) (restored form h map text)
unfolding restored
read_handed form h map text = rw (unheld form s) (go (read_text form text).ok (can_hold s) (form_holds form s))
  where
    s : State
    s = state_in form text

    go : (a b c : Bool)
        → Handed h map (cond a (cond (b && not (not c)) none (some 5)) (some 4))
        (cond a (cond (b && c) (restored_done s) (handed_back h map (Refused Refusal.TextState))) (handed_back h map (Refused Refusal.Text)))
    go true true true = refl
    go true true false = (Refusal.TextState, (refl, refl))
    go true false c = (Refusal.TextState, (refl, refl))
    go false b c = (Refusal.Text, (refl, refl))

module _ (to : Form) (text buffer : List ℕ) where
  abbrev in_text : State
  in_text = state_in (other to) text

  convert-told : Told (convert_refusal to text buffer) (converted_answer to text buffer)
  unfolding converted_answer saved_answer
  convert-told =
      rw (bytes_are to, unheld (other to) in_text, unheld to in_text)
      (go (read_text (other to) text).ok (can_hold in_text) (form_holds (other to) in_text) (leb (length_of to) (length buffer)) (form_holds to in_text))
    where
      go : (a b c d e : Bool)
          → Told (cond a (cond (b && not (not c)) (cond d (cond (not e) (some 12) none) (some 6)) (some 5)) (some 4))
          (cond a (cond (b && c) (cond b (cond d (cond e Done (Refused Refusal.Form)) (Refused Refusal.Buffer)) (Refused Refusal.State)) (Refused Refusal.TextState)) (Refused Refusal.Text))
      go true true true true true = refl
      go true true true true false = (Refusal.Form, (refl, refl))
      go true true true false e = (Refusal.Buffer, (refl, refl))
      go true true false d e = (Refusal.TextState, (refl, refl))
      go true false c d e = (Refusal.TextState, (refl, refl))
      go false b c d e = (Refusal.Text, (refl, refl))

  convert-unchanged : (r : Refusal) → converted_answer to text buffer ≡ Refused r → converted_buffer to text buffer ≡ buffer
  unfolding converted_answer converted_buffer
  convert-unchanged r = go (read_text (other to) text).ok (text_holds (other to) in_text)
    where
      go : (a b : Bool) → cond a (cond b (saved_answer to (hart_with in_text) buffer) (Refused Refusal.TextState)) (Refused Refusal.Text) ≡ Refused r
          → cond a (cond b (saved_buffer to (hart_with in_text) buffer) buffer) buffer ≡ buffer
      go true true e = save-unchanged to (hart_with in_text) buffer r e
      go true false e = refl
      go false b e = refl

-- ---- texts of the other form, and of none

module _ (form : Form) (text : List ℕ) (e : (read_text form text).ok ≡ false) where
  unformed : (h : Hart) (map : Map) → (restored form h map text).answer ≡ Refused Refusal.Text
  unfolding restored
  unformed h map = rw e

other-form : (form : Form) (text : List ℕ) → (read_text form text).ok ≡ true → (read_text (other form) text).ok ≡ false
other-form form text e = ap (λ (r : Reading). r.ok) (other-unread form text e)

same_form : (to : Form) (text buffer : List ℕ) → (read_text to text).ok ≡ true → converted_answer to text buffer ≡ Refused Refusal.Text
unfolding converted_answer
same_form to text buffer e = rw (other-form to text e)

second_begins : (ws : List ℕ) → take 22 (text_of Second ws) ≡ bytes_of "form=0000000000000002\n"
unfolding text_of head_of line_of bytes_of hex_digits
second_begins ws = refl

form_line : (h : Hart) (map : Map) (text : List ℕ) → (take 22 text ≡ bytes_of "form=0000000000000002\n" → ⊥) → (restored Second h map text).answer ≡ Refused Refusal.Text
form_line h map text line = go (read_text Second text).ok refl
  where
    go : (b : Bool) → (read_text Second text).ok ≡ b → (restored Second h map text).answer ≡ Refused Refusal.Text
    go true e =
        let ws = (read_text Second text).words in
        absurd (line (ap (take 22) (text-read Second text ws (read_as_lem Second text e)) ∙ second_begins ws))
    go false e = unformed Second text e h map

-- ---- the whole table

pub refusal_table : RefusalTable
refusal_table =
    record {
      step = λ h map m step. handed_exactly h map (step_refusal h.state m step) (stepped h map m step) (step_handed h map m step);
      step-unchanged = λ h map m step. handed_unchanged h map (step_refusal h.state m step) (stepped h map m step) (step_handed h map m step);
      reset_never = reset_never;
      query = λ h map mode access address size.
          exactly Decision.Refused refuses_access query_refused_by (λ r. refl) query_unrefused (query_refusal h.state map address size)
          (query_answer h map mode access address size) (query-decided h map mode access address size);
      save = λ form h buffer. told_exactly (save_refusal form h.state buffer) (saved_answer form h buffer) (save-told form h buffer);
      save-unchanged = save-unchanged;
      restore = λ form h map text. handed_exactly h map (restore_refusal form text) (restored form h map text) (read_handed form h map text);
      restore-unchanged = λ form h map text. handed_unchanged h map (restore_refusal form text) (restored form h map text) (read_handed form h map text);
      convert = λ to text buffer. told_exactly (convert_refusal to text buffer) (converted_answer to text buffer) (convert-told to text buffer);
      convert-unchanged = convert-unchanged;
      other-form = λ form h map text e. unformed (other form) text (other-form form text e) h map;
      same_form = same_form;
      form_line = form_line;
    }
