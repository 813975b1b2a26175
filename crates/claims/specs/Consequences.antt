-- Sentences of 01 and 02 that rest on more than one definition, each as a law in 01's own numbers: registers of one value, the counters, interrupts,
-- accesses, the saved text, the map.
use Rattle.std.specs.Prelude.{ℕ, ◌+◌, ◌*◌, ◌/◌, ◌%◌, ◌^◌, ◌≤◌, ◌<◌, ◌≡◌, Bool, true, false, cond, not, ◌&&◌, ◌||◌, List, [], ◌∷◌, ◌++◌, ◌⊎◌, eqb, leb, ltb, length, get_or, take, drop}
use Rattle.std.proofs.Math.Option.{some, none as nothing}
use Rattle.bits.specs.Lists.{Words}
use Rattle.bits.specs.Mask.{test_bit}
use Rattle.lines.specs.Lines.{bytes_of, hex_digits}
use Rattle.pmp.specs.declared.Mode.{Mode}
use Rattle.pmp.specs.declared.Mode.TheVariants.{User, Supervisor, Machine}
use Rattle.pmp.specs.declared.Access.{Access}
use Rattle.pmp.specs.declared.Access.TheVariants.{Fetch, Load, Store}
use Rattle.pmp.specs.declared.Decision.{Decision}
use Rattle.pmp.specs.declared.Span.{Span}
use Rattle.pmp.specs.Number.{mode_of}
use Rattle.pmp.specs.Entry.{matches}
use Rattle.pmp.specs.Rule.{owner_decides, byte_rule, is_size, owner_of}
use Rattle.steps.specs.declared.Trap.TheVariants.{Exception}
use Rattle.steps.specs.declared.Operation.{Operation}
use Rattle.steps.specs.declared.Operation.TheVariants.{Read}
use Rattle.steps.specs.declared.Event.{Event}
use Rattle.steps.specs.declared.Event.TheVariants.{Raise, Lines, TakeInterrupt, Mret, Sret, Wfi, Ecall, Ebreak, Advance, Elapsed}
use Rattle.steps.specs.declared.Step.{Step}
use Rattle.steps.specs.declared.Step.TheVariants.{Reset, Csr, Access as AccessStep, Event as EventStep}
use Rattle.steps.specs.declared.Answer.{Answer}
use Rattle.steps.specs.declared.Answer.TheVariants.{Done, DoneValue, DoneFlag, Granted, Trapped, Refused}
use Rattle.steps.specs.Decode.{is_access}
use Rattle.registers.specs.declared.Counters.{Counters}
use Rattle.registers.specs.declared.Registers.{Registers}
use Rattle.registers.specs.Effective.{effective_mode}
use Rattle.registers.specs.Update.{level_of, with_pc, with_counters}
use Rattle.protection.specs.declared.Pmp.{Pmp}
use Rattle.protection.specs.Configs.{packed}
use Rattle.protection.specs.Spans.{spans_of}
use Rattle.protection.specs.Read.{pmp_read}
use Rattle.paging.specs.Memory.{Memory, lawful}
use Rattle.state.specs.declared.State.{State}
use Rattle.state.specs.Hold.{can_hold, reset_state}
use Rattle.csr.specs.Permit.{between, attempts_write, illegal}
use Rattle.csr.specs.Show.{register_read}
use Rattle.trap.specs.Enter.{destination, raised_by}
use Rattle.map.specs.declared.Range.{Range}
use Rattle.map.specs.declared.Map.{Map}
use Rattle.map.specs.Lookup.{find_range, ranges_in, owner_in}
use Rattle.map.specs.Ranges.{IsMap}
use Rattle.map.specs.Boundaries.{Boundaries}
use Rattle.text.specs.declared.Form.{Form}
use Rattle.text.specs.declared.Form.TheVariants.{First, Second}
use Rattle.text.specs.Text.{text_of, line_count, completed, read_as, read_text}
use Rattle.engine.specs.Effects.{with_registers, with_satp, satp_operated}
use Rattle.hart.specs.declared.Hart.{Hart}
use Rattle.hart.specs.declared.Stepped.{Stepped}
use Rattle.hart.specs.Steps.{map_for, hart_with, handed_back, stepped}
use Rattle.hart.specs.Queries.{query_answer}
use Rattle.hart.specs.Saved.{text_for}
use Rattle.claims.specs.InterruptOrder.{TakesFirst}
use Rattle.claims.specs.Refusals.{memory_refusal}
use Rattle.claims.specs.SavedLines.{keyed, keyed_second, keyed_text, reset_lines, reset_second, joined}

-- ---- registers of one value

-- a number in one of these ranges, first and last included
abbrev pub listed : List (ℕ × ℕ) → ℕ → Bool
listed [] n = false
listed (r ∷ rs) n = between r.0 r.1 n || listed rs n

-- F11 to F15, 323 to 33F, B03 to B1F, C03 to C1F, 30A, 10A read 0; 180 no more, by 02, [8]
abbrev pub zero_numbers : List (ℕ × ℕ)
zero_numbers = (0xF11, 0xF15) ∷ (0x323, 0x33F) ∷ (0xB03, 0xB1F) ∷ (0xC03, 0xC1F) ∷ (0x30A, 0x30A) ∷ (0x10A, 0x10A) ∷ []

abbrev pub reads_zero : ℕ → Bool
reads_zero n = listed zero_numbers n

-- a write to 301, 323 to 33F, B03 to B1F, 30A or 10A changes nothing
abbrev pub fixed_numbers : List (ℕ × ℕ)
fixed_numbers = (0x301, 0x301) ∷ (0x323, 0x33F) ∷ (0xB03, 0xB1F) ∷ (0x30A, 0x30A) ∷ (0x10A, 0x10A) ∷ []

abbrev pub ignores_writes : ℕ → Bool
ignores_writes n = listed fixed_numbers n

-- a hart whose pc moved on by 4, wrapping, and nothing else; the map as given; the old value
abbrev pub moved_on : Hart → Map → ℕ → Stepped
moved_on h map old =
    handed_back (hart_with (with_registers h.state (with_pc h.state.registers ((h.state.registers.pc + 4) % 2 ^ 64)))) map (DoneValue old)

-- ---- the counters

abbrev pub is_elapsed : Event → Bool
is_elapsed (Raise cause tval) = false
is_elapsed (Lines lines) = false
is_elapsed TakeInterrupt = false
is_elapsed Mret = false
is_elapsed Sret = false
is_elapsed Wfi = false
is_elapsed Ecall = false
is_elapsed Ebreak = false
is_elapsed (Advance target) = false
is_elapsed (Elapsed cycles retired) = true

-- what may change the counter of this number: a reset, and, of a state that a hart can hold, elapsed and a write attempt to it that is not illegal
abbrev pub may_change : ℕ → State → Step → Bool
may_change counter s Reset = true
may_change counter s (Csr op number operand) =
    can_hold s && (attempts_write op && (eqb number counter && not (illegal s.registers op number)))
may_change counter s (AccessStep access address size) = false
may_change counter s (EventStep event) = can_hold s && is_elapsed event

-- every other step leaves it: refused, trapping and illegal ones, fetches, loads and stores too
abbrev pub OthersLeave : ℕ → (Counters → ℕ) → Type 0
OthersLeave number counter =
    (h : Hart) (map : Map) (m : Memory) (step : Step) → may_change number h.state step ≡ false
    → counter (stepped h map m step).hart.state.registers.counters ≡ counter h.state.registers.counters

-- mcycle and minstret after elapsed, and nothing else changed
abbrev pub elapsed_by : Hart → ℕ → ℕ → State
elapsed_by h cycles retired =
    let c = h.state.registers.counters in
    with_registers h.state
    (with_counters h.state.registers c.mcountinhibit
    (cond (test_bit c.mcountinhibit 0) c.mcycle ((c.mcycle + cycles) % 2 ^ 64))
    (cond (test_bit c.mcountinhibit 2) c.minstret ((c.minstret + retired) % 2 ^ 64)))

-- ---- accesses

-- the byte rule on all bytes of an access at once, in its effective mode
abbrev pub rule_on : Hart → Access → ℕ → ℕ → Decision
rule_on h access address size =
    byte_rule (spans_of h.state.pmp) h.state.pmp.cfgs (effective_mode h.state.registers access) access address size

-- the bit of an entry's byte for an access: R is bit 0, W bit 1, X bit 2
abbrev pub bit_for : Access → ℕ
bit_for Fetch = 2
bit_for Load = 0
bit_for Store = 1

-- faults: fetch 1, load 5, store 7
abbrev pub cause_for : Access → ℕ
cause_for Fetch = 1
cause_for Load = 5
cause_for Store = 7

abbrev pub is_machine : Mode → Bool
is_machine User = false
is_machine Supervisor = false
is_machine Machine = true

-- granted where this holds, and else the access's fault, both by the same entry
abbrev pub granted_if : Bool → Access → ℕ → Decision
granted_if granted access entry = cond granted (Decision.Granted entry) (Decision.Fault (cause_for access) entry)

-- the mode of a load or store: MPP, bits 12:11 of mstatus, if MPRV, bit 17, is 1
abbrev pub load_mode : Registers → Mode
load_mode r = mode_of (cond (test_bit r.mstatus 17) (r.mstatus / 2 ^ 11 % 4) r.mode)

-- a step that traps with this cause and trap value, decided by this entry, and does no more than the entry to its level
pub record TrapsWith (h : Hart) (map : Map) (cause tval decider : ℕ) (after : Stepped) : Type 0 where
  pub entry :
      after
      ≡ handed_back (hart_with (with_registers h.state (raised_by h.state.registers cause tval decider).registers)) map
      (raised_by h.state.registers cause tval decider).answer
  pub answer : after.answer ≡ Trapped (Exception cause) (destination h.state.registers (Exception cause)) decider
  pub recorded :
      ((level_of (destination h.state.registers (Exception cause)) after.hart.state.registers).cause ≡ cause)
      × ((level_of (destination h.state.registers (Exception cause)) after.hart.state.registers).tval ≡ tval)

-- a step that is one access: one decision on all its bytes, whose entry the answer tells, and where that is a fault this cause and the first byte's
-- address
pub record OneAccess (h : Hart) (map : Map) (access : Access) (cause address size : ℕ) (after : Stepped) : Type 0 where
  pub decider : ℕ
  pub known : decider ≤ 16
  pub decision :
      ((rule_on h access address size ≡ Decision.Granted decider) × (after ≡ handed_back h map (Granted decider)))
      ⊎ ((rule_on h access address size ≡ Decision.Fault cause decider) × TrapsWith h map cause address decider after)

-- 02, [8]: "Effective mode M is untranslated", and so is all with another MODE than 8, bits 63:60 of satp
abbrev pub untranslated : Hart → Access → Bool
untranslated h access = is_machine (effective_mode h.state.registers access) || not (eqb (h.state.satp / 2 ^ 60) 8)

-- "Causes 12, 13, 15"
abbrev pub page_cause_for : Access → ℕ
page_cause_for Fetch = 12
page_cause_for Load = 13
page_cause_for Store = 15

-- "tval, at access faults too, is the virtual address": where the access starts, or the next boundary of 4,096 bytes, at which its second part does
abbrev pub PartStarts : ℕ → ℕ → Type 0
PartStarts address tval = (tval ≡ address) ⊎ (tval ≡ (address / 4096 + 1) * 4096 % 2 ^ 64)

-- granted, and nothing changed; or a trap with the access fault of its kind, or with the page fault, which no entry decides
pub record AccessAnswered (h : Hart) (map : Map) (access : Access) (address : ℕ) (after : Stepped) : Type 0 where
  pub decider : ℕ
  pub known : decider ≤ 16
  pub cause : ℕ
  pub tval : ℕ
  pub kind : (cause ≡ cause_for access) ⊎ ((cause ≡ page_cause_for access) × (decider ≡ 16))
  pub start : PartStarts address tval
  pub decision : (after ≡ handed_back h map (Granted decider)) ⊎ TrapsWith h map cause tval decider after

-- where an access starts: a fetch at pc
abbrev pub start_of : Hart → Access → ℕ → ℕ
start_of h Fetch address = h.state.registers.pc
start_of h Load address = address
start_of h Store address = address

-- a trap tells no entry, and nothing is granted
abbrev pub NoEntry : Answer → Type 0
NoEntry Done = Unit {0}
NoEntry (DoneValue old) = Unit {0}
NoEntry (DoneFlag flag) = Unit {0}
NoEntry (Granted entry) = ⊥
NoEntry (Trapped trap level entry) = entry ≡ 16
NoEntry (Refused refusal) = Unit {0}

-- ---- owners

-- an owner is the lowest of the sixteen entries that matches the byte, or none, which is 16
pub record LowestOwner (spans : ℕ → Span) (byte owner : ℕ) : Type 0 where
  pub bound : owner ≤ 16
  pub matching : owner < 16 → matches spans owner byte ≡ true
  pub lowest : (i : ℕ) → i < owner → matches spans i byte ≡ false

-- the lowest of the owners that the bytes of an access have
pub record LowestOf (owner : ℕ → ℕ) (address size low : ℕ) : Type 0 where
  pub byte : ℕ
  pub from : address ≤ byte
  pub to : byte < address + size
  pub here : owner byte ≡ low
  pub least : (other : ℕ) → address ≤ other → other < address + size → low ≤ owner other

-- ---- queries

-- no range of the list holds the byte
abbrev pub NoneHolds : List Range → ℕ → Type 0
NoneHolds [] byte = Unit {0}
NoneHolds (r ∷ rs) byte = (r.first ≤ byte → byte ≤ r.last → ⊥) × NoneHolds rs byte

-- the range is the list's lowest-numbered one that holds the byte
pub record LowestHolding (rs : List Range) (byte : ℕ) (r : Range) : Type 0 where
  pub before : List Range
  pub after : List Range
  pub place : rs ≡ before ++ r ∷ after
  pub none : NoneHolds before byte
  pub holds : (r.first ≤ byte) × (byte ≤ r.last)

-- the sizes of an access
abbrev pub Sized : ℕ → Type 0
Sized size = (size ≡ 1) ⊎ ((size ≡ 2) ⊎ ((size ≡ 4) ⊎ (size ≡ 8)))

-- ---- all of them

pub record Consequences : Type 0 where
  -- "F11 to F15, 323 to 33F, B03 to B1F, C03 to C1F, 30A, 10A .. read 0": any CSR step on one that is not illegal; and in M a read never is
  pub reads-zero : (h : Hart) (map : Map) (m : Memory) (op : Operation) (number operand : ℕ) → can_hold h.state ≡ true
      → illegal h.state.registers op number ≡ false → reads_zero number ≡ true → stepped h map m (Csr op number operand) ≡ moved_on h map 0
  pub readable : (r : Registers) (number : ℕ) → r.mode ≡ 3 → reads_zero number ≡ true → illegal r Read number ≡ false
  -- "misa (301) reads 0x8000000000141101"
  pub reads-misa : (h : Hart) (map : Map) (m : Memory) (op : Operation) (operand : ℕ) → can_hold h.state ≡ true
      → illegal h.state.registers op 0x301 ≡ false → stepped h map m (Csr op 0x301 operand) ≡ moved_on h map 0x8000000000141101
  -- "3A0 and 3A2 are pmpcfg0 and pmpcfg2, entry 0 in the lowest byte"
  pub reads_configs : (p : Pmp) → (pmp_read p 0x3A0 ≡ packed (take 8 p.cfgs)) × (pmp_read p 0x3A2 ≡ packed (drop 8 p.cfgs))
  pub lowest-first : (b c d e f g i j : ℕ)
      → packed (b ∷ c ∷ d ∷ e ∷ f ∷ g ∷ i ∷ j ∷ [])
      ≡ b + 2 ^ 8 * c + 2 ^ 16 * d + 2 ^ 24 * e + 2 ^ 32 * f + 2 ^ 40 * g + 2 ^ 48 * i + 2 ^ 56 * j
  pub packed-bytes : packed (1 ∷ 2 ∷ 3 ∷ 4 ∷ 5 ∷ 6 ∷ 7 ∷ 8 ∷ []) ≡ 0x0807060504030201
  pub config_steps : (h : Hart) (map : Map) (m : Memory) (operand : ℕ) → can_hold h.state ≡ true → h.state.registers.mode ≡ 3
      → (stepped h map m (Csr Read 0x3A0 operand) ≡ moved_on h map (packed (take 8 h.state.pmp.cfgs)))
      × (stepped h map m (Csr Read 0x3A2 operand) ≡ moved_on h map (packed (drop 8 h.state.pmp.cfgs)))
  -- "A write to 301, 323 to 33F, B03 to B1F, 30A, 10A .. is done and changes nothing"; it is illegal only below bits 9:8
  pub ignores_writes_lem : (h : Hart) (map : Map) (m : Memory) (op : Operation) (number operand : ℕ) → can_hold h.state ≡ true
      → illegal h.state.registers op number ≡ false → ignores_writes number ≡ true
      → stepped h map m (Csr op number operand) ≡ moved_on h map (register_read h.state.registers number)
  pub writable : (r : Registers) (op : Operation) (number : ℕ) → ignores_writes number ≡ true
      → illegal r op number ≡ ltb r.mode (number / 256 % 4)
  -- 02, [8]: 180 is illegal below S, and in S with TVM=1, bit 20 of mstatus; else a step on it is done with the old value, moves pc on and stores, and nothing
  -- else changes. What is stored, by numbers: Worked
  pub satp-illegal : (r : Registers) (op : Operation) → illegal r op 0x180 ≡ (ltb r.mode 1 || (eqb r.mode 1 && test_bit r.mstatus 20))
  pub satp-step : (h : Hart) (map : Map) (m : Memory) (op : Operation) (operand : ℕ) → can_hold h.state ≡ true
      → illegal h.state.registers op 0x180 ≡ false
      → stepped h map m (Csr op 0x180 operand)
      ≡ handed_back (hart_with (with_satp (moved_on h map 0).hart.state (satp_operated h.state.satp op operand))) map (DoneValue h.state.satp)
  -- "Elapsed adds a to mcycle unless inhibit bit 0, b to minstret unless bit 2; both counters wrap at 2^64. No other step counts."
  pub elapsed_counts : (h : Hart) (map : Map) (m : Memory) (cycles retired : ℕ) → can_hold h.state ≡ true
      → stepped h map m (EventStep (Elapsed cycles retired)) ≡ handed_back (hart_with (elapsed_by h cycles retired)) map Done
  pub mcycle_left : OthersLeave 0xB00 (λ c. c.mcycle)
  pub minstret_left : OthersLeave 0xB02 (λ c. c.minstret)
  -- 02, [2]: "first the takeable ones bound for M in 01's order, then those for S in that order"
  pub takes_first : (h : Hart) (map : Map) (m : Memory) → can_hold h.state ≡ true → TakesFirst h map (stepped h map m (EventStep TakeInterrupt))
  -- "A misaligned load or store is one access (house). A granted access changes nothing." "Faults: fetch 1, load 5, store 7, tval the first byte's address."
  -- So it is where nothing is translated, whatever memory is lent, if it can stand where it is said to
  pub load : (h : Hart) (map : Map) (m : Memory) (address size : ℕ) → can_hold h.state ≡ true → lawful m ≡ true
      → untranslated h Load ≡ true → is_size size ≡ true → OneAccess h map Load 5 address size (stepped h map m (AccessStep Load address size))
  pub store : (h : Hart) (map : Map) (m : Memory) (address size : ℕ) → can_hold h.state ≡ true → lawful m ≡ true
      → untranslated h Store ≡ true → is_size size ≡ true → OneAccess h map Store 7 address size (stepped h map m (AccessStep Store address size))
  -- "fetch of 4 bytes at pc", "arguments not named are ignored"
  pub fetch : (h : Hart) (map : Map) (m : Memory) (a b : ℕ) → can_hold h.state ≡ true → lawful m ≡ true → untranslated h Fetch ≡ true
      → OneAccess h map Fetch 1 h.state.registers.pc 4 (stepped h map m (AccessStep Fetch a b))
  -- 02, [8]: translated or not, an access that the table of refusals does not refuse is granted and changes nothing, or traps with one of two causes
  pub access_answers : (h : Hart) (map : Map) (m : Memory) (access : Access) (address size : ℕ) → can_hold h.state ≡ true
      → memory_refusal m access size ≡ nothing → AccessAnswered h map access (start_of h access address) (stepped h map m (AccessStep access address size))
  -- 02, [5]: a trap that comes from no access has none; step 7 and all others grant nothing
  pub no_access : (h : Hart) (map : Map) (m : Memory) (step : Step) → is_access step ≡ false → NoEntry (stepped h map m step).answer
  -- "Any byte at or above 2^56: access fault in every mode (house)"; [5]: "for a byte past memory, none". "Else the lowest entry matching any byte
  -- decides: it must match all bytes, or fault, even in M with L=0": bytes of one owner are decided by it, and where some byte has another than the
  -- lowest, that one decides and it is a fault
  pub beyond : (spans : ℕ → Span) (cfgs : List ℕ) (mode : Mode) (access : Access) (address size : ℕ) → 0 < size → 2 ^ 56 < address + size
      → byte_rule spans cfgs mode access address size ≡ Decision.Fault (cause_for access) 16
  pub two_owners : (spans : ℕ → Span) (cfgs : List ℕ) (mode : Mode) (access : Access) (address size low byte : ℕ) → address + size ≤ 2 ^ 56
      → LowestOf (owner_of spans) address size low → address ≤ byte → byte < address + size → (owner_of spans byte ≡ low → ⊥)
      → byte_rule spans cfgs mode access address size ≡ Decision.Fault (cause_for access) low
  pub one_owner : (spans : ℕ → Span) (cfgs : List ℕ) (mode : Mode) (access : Access) (address size owner : ℕ) → 0 < size → address + size ≤ 2 ^ 56
      → ((byte : ℕ) → address ≤ byte → byte < address + size → owner_of spans byte ≡ owner)
      → byte_rule spans cfgs mode access address size ≡ owner_decides cfgs mode access owner
  -- "Then unlocked in M is granted; otherwise its R, W or X bit.": L is bit 7
  pub entry_decides_lem : (cfgs : List ℕ) (mode : Mode) (access : Access) (owner : ℕ) → owner < 16 → get_or cfgs owner 0 < 256
      → owner_decides cfgs mode access owner
      ≡ granted_if ((is_machine mode && not (test_bit (get_or cfgs owner 0) 7)) || test_bit (get_or cfgs owner 0) (bit_for access)) access owner
  -- "No matching entry: granted in M, fault in S and U. Faults: fetch 1, load 5, store 7"
  pub none_decides_lem : (cfgs : List ℕ) (mode : Mode) (access : Access) → owner_decides cfgs mode access 16 ≡ granted_if (is_machine mode) access 16
  -- "Effective mode: a fetch uses mode; a load or store uses MPP if MPRV=1, else mode."
  pub effective_mode_lem : (r : Registers)
      → (effective_mode r Fetch ≡ mode_of r.mode) × (effective_mode r Load ≡ load_mode r) × (effective_mode r Store ≡ load_mode r)
  -- "modes U=0, S=1, M=3"
  pub mode_numbers : (mode_of 0 ≡ User) × (mode_of 1 ≡ Supervisor) × (mode_of 3 ≡ Machine)
  -- "owner being the lowest entry matching each byte or none"
  pub owner : (spans : ℕ → Span) (byte : ℕ) → LowestOwner spans byte (owner_of spans byte)
  -- "41 lines, each key, `=`, 16 lower-case hexadecimal digits, line feed; 1,027 bytes. Keys in this order"
  pub lines : (s : State) → (text_for First (hart_with s) ≡ keyed_text (keyed s)) × (length (keyed s) ≡ 41) × (length (text_for First (hart_with s)) ≡ 1027)
  -- 02, [10]: "a line `form=` and the value 2, then 01's 41 lines, then `satp` and `grain`, same style, 1,094 bytes"
  pub second-lines : (s : State)
      → (text_for Second (hart_with s) ≡ keyed_text (keyed_second s)) × (length (keyed_second s) ≡ 44) × (length (text_for Second (hart_with s)) ≡ 1094)
  pub digits : hex_digits 16 0x0123456789ABCDEF ≡ bytes_of "0123456789abcdef"
  -- "The reset state is that text with every value 0 except mode 3, pc 1000, mstatus a00000000."
  pub reset-text : text_for First (hart_with (reset_state 0)) ≡ joined reset_lines
  pub reset-second : text_for Second (hart_with (reset_state 0)) ≡ joined reset_second
  -- reading and writing a text are inverse: words below 2^64 are read from their text, but 0 for a word that the form has no line for; what is read as words is
  -- their text; and what is refused is no text
  pub text-read : (form : Form) (words : List ℕ) → Words 43 words
      → read_text form (text_of form words) ≡ read_as (completed form (take (line_count form) words))
  pub read-text : (form : Form) (text words : List ℕ) → read_text form text ≡ read_as words → (text ≡ text_of form words) × Words 43 words
  pub unread : (form : Form) (text words : List ℕ) → (read_text form text).ok ≡ false → Words 43 words → text ≡ text_of form words → ⊥
  -- "The map lists ranges (first byte, last byte, owner), owner being the lowest entry matching each byte or none. In order, no gap, no overlap,
  -- from 0 to 2^56-1, neighbours never with one owner." 02, [7]: "sixteen entries make at most 32 inner boundaries, each the first byte an entry
  -- matches or the byte after its last". Both for any grain, bytes and addresses of the sixteen entries
  pub compiled-map : (p : Pmp) → Boundaries (spans_of p) (map_for p)
  -- [5]: "a query reads, for each byte of the access, the lowest-numbered range that holds it": what is found is it, and where nothing is found no
  -- range holds the byte
  pub range_found : (rs : List Range) (byte : ℕ) (r : Range) → find_range rs byte ≡ some r → LowestHolding rs byte r
  pub range_missing : (rs : List Range) (byte : ℕ) → find_range rs byte ≡ nothing → NoneHolds rs byte
  -- "a byte at or above 2^56 faults before the map is read"
  pub query-beyond : (h : Hart) (map : Map) (mode : Mode) (access : Access) (address size : ℕ) → can_hold h.state ≡ true
      → Sized size → 2 ^ 56 < address + size → query_answer h map mode access address size ≡ Decision.Fault (cause_for access) 16
  -- refusal 1: "a size other than 1, 2, 4, 8"
  pub sizes : (size : ℕ) → is_size size ≡ true → Sized size
  -- [5]: "the lowest owner read decides and must be every byte's, or fault". Two ranges with one owner grant across their border
  pub query_one : (h : Hart) (map : Map) (mode : Mode) (access : Access) (address size owner : ℕ) → can_hold h.state ≡ true → Sized size
      → address + size ≤ 2 ^ 56 → owner ≤ 16 → ((byte : ℕ) → address ≤ byte → byte < address + size → owner_in (ranges_in map) byte ≡ owner)
      → query_answer h map mode access address size ≡ owner_decides h.state.pmp.cfgs mode access owner
  pub query_two : (h : Hart) (map : Map) (mode : Mode) (access : Access) (address size low byte : ℕ) → can_hold h.state ≡ true → Sized size
      → address + size ≤ 2 ^ 56 → ((other : ℕ) → address ≤ other → other < address + size → owner_in (ranges_in map) other ≤ 16)
      → LowestOf (owner_in (ranges_in map)) address size low → address ≤ byte → byte < address + size → (owner_in (ranges_in map) byte ≡ low → ⊥)
      → query_answer h map mode access address size ≡ Decision.Fault (cause_for access) low
  -- on a map as 01 lays it down one range suffices to tell a grant from a fault, that of the first byte: "it faults unless that range holds all bytes,
  -- and else the owner decides"; which entry a fault is by hangs on the other bytes too: the lowest owner of all
  pub one_range : (spans : ℕ → Span) (h : Hart) (map : Map) (mode : Mode) (access : Access) (address size low : ℕ) (r : Range)
      → can_hold h.state ≡ true → Sized size → address + size ≤ 2 ^ 56 → IsMap spans (ranges_in map) → find_range (ranges_in map) address ≡ some r
      → LowestOf (owner_of spans) address size low
      → query_answer h map mode access address size
      ≡ cond (leb (address + size) (r.last + 1)) (owner_decides h.state.pmp.cfgs mode access r.owner) (Decision.Fault (cause_for access) low)
  -- "A count above 33 is read as 33."
  pub count-read : (m : Map) → ranges_in m ≡ take (cond (leb m.count 33) m.count 33) m.ranges
