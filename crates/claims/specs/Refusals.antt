-- 01, "Steps", with refusal 7 as 02, [5] widens it, 12 and 13 of 02, [8] and [9], and 02, [10]: the table of refusals and its order. A refusal returns its number and no more, and changes nothing.
use Rattle.std.specs.Prelude.{ℕ, ◌+◌, ◌*◌, ◌%◌, ◌^◌, ◌≡◌, Bool, true, false, cond, not, ◌&&◌, ◌||◌, List, ◌↔◌, eqb, leb, ltb, length, take}
use Rattle.std.proofs.Math.Option.{Option, none, some}
use Rattle.std.specs.Int.Bits.{bit_and}
use Rattle.bits.specs.Mask.{test_bit}
use Rattle.lines.specs.Lines.{bytes_of}
use Rattle.pmp.specs.declared.Mode.{Mode}
use Rattle.pmp.specs.declared.Access.{Access}
use Rattle.pmp.specs.declared.Access.TheVariants.{Fetch, Load, Store}
use Rattle.pmp.specs.declared.Decision.{Decision}
use Rattle.pmp.specs.declared.Refusal.{Refusal}
use Rattle.pmp.specs.Number.{refusal_number}
use Rattle.pmp.specs.Search.{any_byte}
use Rattle.steps.specs.declared.Event.{Event}
use Rattle.steps.specs.declared.Event.TheVariants.{Raise, Lines, TakeInterrupt, Mret, Sret, Wfi, Ecall, Ebreak, Advance, Elapsed}
use Rattle.steps.specs.declared.Step.{Step}
use Rattle.steps.specs.declared.Step.TheVariants.{Reset, Csr, Access as AccessStep, Event as EventStep}
use Rattle.steps.specs.declared.Answer.{Answer}
use Rattle.steps.specs.declared.Answer.TheVariants.{Done, DoneValue, DoneFlag, Granted, Trapped, Refused}
use Rattle.paging.specs.Memory.{Memory}
use Rattle.state.specs.declared.State.{State}
use Rattle.state.specs.Hold.{can_hold}
use Rattle.state.specs.Words.{state_of}
use Rattle.map.specs.declared.Map.{Map}
use Rattle.map.specs.declared.Range.{Range}
use Rattle.map.specs.Lookup.{find_range, ranges_in}
use Rattle.text.specs.declared.Form.{Form}
use Rattle.text.specs.declared.Form.TheVariants.{First, Second}
use Rattle.text.specs.Text.{other, read_text}
use Rattle.engine.specs.Effects.{is_reset}
use Rattle.hart.specs.declared.Hart.{Hart}
use Rattle.hart.specs.Steps.{handed_back, stepped}
use Rattle.hart.specs.Queries.{query_answer}
use Rattle.hart.specs.Saved.{saved_answer, saved_buffer, restored, converted_answer, converted_buffer}

-- ---- the table: the number of the refusal, or none

-- 1, 2, 4 or 8
abbrev pub size_named : ℕ → Bool
size_named size = eqb size 1 || (eqb size 2 || (eqb size 4 || eqb size 8))

-- 1: step 15 or 16 has a size other than 1, 2, 4, 8
abbrev pub size_refusal : Access → ℕ → Option ℕ
size_refusal Fetch size = none
size_refusal Load size = cond (size_named size) none (some 1)
size_refusal Store size = cond (size_named size) none (some 1)

-- 13, before 1: steps 14 to 16 are lent words at an address that is no multiple of 8, or that with 8 added for each word is above 2^56
abbrev pub memory_refusal : Memory → Access → ℕ → Option ℕ
memory_refusal m access size =
    cond (eqb (m.base % 8) 0 && leb (m.base + 8 * length m.words) (2 ^ 56)) (size_refusal access size) (some 13)

-- 2: raise cause above 7; lines outside 0xA88
abbrev pub event_refusal : Event → Option ℕ
event_refusal (Raise cause tval) = cond (leb cause 7) none (some 2)
event_refusal (Lines lines) = cond (eqb (bit_and lines 0xA88) lines) none (some 2)
event_refusal TakeInterrupt = none
event_refusal Mret = none
event_refusal Sret = none
event_refusal Wfi = none
event_refusal Ecall = none
event_refusal Ebreak = none
event_refusal (Advance target) = none
event_refusal (Elapsed cycles retired) = none

-- 2: CSR number above 4095
abbrev pub argument_refusal : Memory → Step → Option ℕ
argument_refusal m Reset = none
argument_refusal m (Csr op number operand) = cond (ltb 4095 number) (some 2) none
argument_refusal m (AccessStep access address size) = memory_refusal m access size
argument_refusal m (EventStep event) = event_refusal event

-- 3 before 1, 2 and 13: the state given is not one a hart can hold; step 0 is never refused
abbrev pub step_refusal : State → Memory → Step → Option ℕ
step_refusal s m step = cond (is_reset step) none (cond (can_hold s) (argument_refusal m step) (some 3))

-- no range holds the byte, or the owner of the range read is not 0 to 15 or "none", which is 16
abbrev pub unowned : Option Range → Bool
unowned none = true
unowned (some r) = ltb 16 r.owner

-- 7, by 02, [5]: "if for any of them there is none, or its owner is not 0 to 15 or none"
abbrev pub range_refusal : Map → ℕ → ℕ → Option ℕ
range_refusal map address size = cond (any_byte (λ byte. unowned (find_range (ranges_in map) byte)) size address) (some 7) none

-- 3 before 1, and 1 before 7, which is given where all bytes lie below 2^56
abbrev pub query_refusal : State → Map → ℕ → ℕ → Option ℕ
query_refusal s map address size =
    cond (can_hold s)
    (cond (size_named size)
    (cond (any_byte (leb (2 ^ 56)) size address) none (range_refusal map address size))
    (some 1))
    (some 3)

-- 02, [10]: "refusal 6 reads the length of the form asked for"
abbrev pub bytes_of_form : Form → ℕ
bytes_of_form First = 1027
bytes_of_form Second = 1094

-- a state that the form has no place for. The first: satp, the grain or SUM, bit 18 of mstatus, is not 0, or medeleg has a bit outside 0x3FF. The second: none
abbrev pub unheld_by : Form → State → Bool
unheld_by First s =
    not ((eqb s.satp 0 && eqb s.pmp.grain 0) && (not (test_bit s.registers.mstatus 18) && eqb (bit_and s.registers.medeleg 0x3FF) s.registers.medeleg))
unheld_by Second s = false

-- 6 before 12: the buffer is shorter than the form
abbrev pub write_refusal : Form → State → List ℕ → Option ℕ
write_refusal form s buffer = cond (leb (bytes_of_form form) (length buffer)) (cond (unheld_by form s) (some 12) none) (some 6)

-- 3 before 6
abbrev pub save_refusal : Form → State → List ℕ → Option ℕ
save_refusal form s buffer = cond (can_hold s) (write_refusal form s buffer) (some 3)

-- 4 before 5: the text is not in the form; its state is not one a hart can hold, or for the first form "such an mstatus or medeleg". Then what follows
abbrev pub text_refusal : Form → List ℕ → (State → Option ℕ) → Option ℕ
text_refusal form text next =
    let s = state_of (read_text form text).words in
    cond (read_text form text).ok (cond (can_hold s && not (unheld_by form s)) (next s) (some 5)) (some 4)

abbrev pub restore_refusal : Form → List ℕ → Option ℕ
restore_refusal form text = text_refusal form text (λ s. none)

-- "new to old, and saving in the old form, is refusal 12 exactly if .. and no earlier one applies (order 3, 4, 5, 6, 12)"
abbrev pub convert_refusal : Form → List ℕ → List ℕ → Option ℕ
convert_refusal to text buffer = text_refusal (other to) text (λ s. write_refusal to s buffer)

-- ---- what is claimed

-- the number by which an answer refuses, and none where it is no refusal
abbrev pub refused_by : Answer → Option ℕ
refused_by Done = none
refused_by (DoneValue old) = none
refused_by (DoneFlag flag) = none
refused_by (Granted entry) = none
refused_by (Trapped trap level entry) = none
refused_by (Refused refusal) = some (refusal_number refusal)

-- the same of a query's answer
abbrev pub query_refused_by : Decision → Option ℕ
query_refused_by (Decision.Granted entry) = none
query_refused_by (Decision.Fault cause entry) = none
query_refused_by (Decision.Refused refusal) = some (refusal_number refusal)

-- an answer refuses with n exactly when the table gives n
abbrev pub Exactly : (ℕ → Type 0) → Option ℕ → Type 0
Exactly RefusedWith table = (n : ℕ) → RefusedWith n ↔ (table ≡ some n)

pub record RefusalTable : Type 0 where
  -- a step, and a refused one hands back the hart and map that went in
  pub step : (h : Hart) (map : Map) (m : Memory) (step : Step) → Exactly (λ n. refused_by (stepped h map m step).answer ≡ some n) (step_refusal h.state m step)
  pub step-unchanged : (h : Hart) (map : Map) (m : Memory) (step : Step) (refusal : Refusal) → (stepped h map m step).answer ≡ Refused refusal
      → stepped h map m step ≡ handed_back h map (Refused refusal)
  -- step 0 is never refused
  pub reset_never : (h : Hart) (map : Map) (m : Memory) (refusal : Refusal) → (stepped h map m Reset).answer ≡ Refused refusal → ⊥
  -- a query, which hands back its answer and nothing that could change
  pub query : (h : Hart) (map : Map) (mode : Mode) (access : Access) (address size : ℕ)
      → Exactly (λ n. query_refused_by (query_answer h map mode access address size) ≡ some n) (query_refusal h.state map address size)
  -- a save, and a refused one leaves the buffer as it was
  pub save : (form : Form) (h : Hart) (buffer : List ℕ) → Exactly (λ n. refused_by (saved_answer form h buffer) ≡ some n) (save_refusal form h.state buffer)
  pub save-unchanged : (form : Form) (h : Hart) (buffer : List ℕ) (refusal : Refusal) → saved_answer form h buffer ≡ Refused refusal → saved_buffer form h buffer ≡ buffer
  -- reading a text back, and a refused one hands back the hart and map that went in
  pub restore : (form : Form) (h : Hart) (map : Map) (text : List ℕ) → Exactly (λ n. refused_by (restored form h map text).answer ≡ some n) (restore_refusal form text)
  pub restore-unchanged : (form : Form) (h : Hart) (map : Map) (text : List ℕ) (refusal : Refusal) → (restored form h map text).answer ≡ Refused refusal
      → restored form h map text ≡ handed_back h map (Refused refusal)
  -- a conversion, and a refused one leaves the buffer as it was
  pub convert : (to : Form) (text buffer : List ℕ) → Exactly (λ n. refused_by (converted_answer to text buffer) ≡ some n) (convert_refusal to text buffer)
  pub convert-unchanged : (to : Form) (text buffer : List ℕ) (refusal : Refusal) → converted_answer to text buffer ≡ Refused refusal → converted_buffer to text buffer ≡ buffer
  -- "each reader refuses the other's form by refusal 4", also where no hart can hold the text's state; so a text of the form asked for is not converted
  pub other-form : (form : Form) (h : Hart) (map : Map) (text : List ℕ) → (read_text form text).ok ≡ true → (restored (other form) h map text).answer ≡ Refused Refusal.Text
  pub same_form : (to : Form) (text buffer : List ℕ) → (read_text to text).ok ≡ true → converted_answer to text buffer ≡ Refused Refusal.Text
  -- "the second form begins with a line `form=` and the value 2": a text that begins otherwise is refused by 4
  pub form_line : (h : Hart) (map : Map) (text : List ℕ) → (take 22 text ≡ bytes_of "form=0000000000000002\n" → ⊥) → (restored Second h map text).answer ≡ Refused Refusal.Text
