-- 01, "Use these forms" and "Steps", and 02, [8] and [9]: an answer's number and values tell which answer it is, and the number of a refusal which refusal.
use Rattle.std.specs.Prelude.{ℕ, ◌-◌, ◌^◌, ◌<◌, ◌≡◌, cond, List, [], ◌∷◌, eqb, ltb, length, get_or, map}
use Rattle.pmp.specs.declared.Decision.{Decision}
use Rattle.pmp.specs.declared.Refusal.{Refusal}
use Rattle.pmp.specs.declared.Refusal.TheVariants.{Size, Argument, State, Text, TextState, Buffer, Map, Record, Form, Memory}
use Rattle.pmp.specs.Number.{refusal_number}
use Rattle.steps.specs.declared.Level.{Level}
use Rattle.steps.specs.declared.Level.TheVariants.{Supervisor, Machine}
use Rattle.steps.specs.declared.Trap.{Trap}
use Rattle.steps.specs.declared.Trap.TheVariants.{Exception, Interrupt}
use Rattle.steps.specs.declared.Answer.{Answer}
use Rattle.steps.specs.declared.Answer.TheVariants.{Done, DoneValue, DoneFlag, Granted, Trapped, Refused}
use Rattle.steps.specs.Number.{answer_numbers, refused_numbers, decision_numbers}

-- interrupt cause is 2^63+i
abbrev pub trap_of : ℕ → Trap
trap_of cause = cond (ltb cause (2 ^ 63)) (Exception cause) (Interrupt (cause - 2 ^ 63))

-- S=1, M=3
abbrev pub level_of : ℕ → Level
level_of mode = cond (eqb mode 3) Machine Supervisor

-- refusals 1 to 8, 12 and 13
abbrev pub refusals : List Refusal
refusals = Size ∷ Argument ∷ State ∷ Text ∷ TextState ∷ Buffer ∷ Map ∷ Record ∷ Form ∷ Memory ∷ []

-- the refusal that a number stands for
abbrev pub refusal_by : ℕ → Refusal
refusal_by number =
    cond (eqb number 1) Size
    (cond (eqb number 2) Argument
    (cond (eqb number 3) State
    (cond (eqb number 4) Text
    (cond (eqb number 5) TextState
    (cond (eqb number 6) Buffer (cond (eqb number 7) Map (cond (eqb number 8) Record (cond (eqb number 12) Form Memory))))))))

-- 0 done; 1 done with a value; 2 done with yes or no; 3 granted; 4 trapped with cause and destination mode; 5 refused. The fourth number is the entry
abbrev pub answer_of : List ℕ → Answer
answer_of ns =
    let kind = get_or ns 0 0 in
    let value = get_or ns 1 0 in
    cond (eqb kind 0) Done
    (cond (eqb kind 1) (DoneValue value)
    (cond (eqb kind 2) (DoneFlag (eqb value 1))
    (cond (eqb kind 3) (Granted (get_or ns 3 0))
    (cond (eqb kind 4) (Trapped (trap_of value) (level_of (get_or ns 2 0)) (get_or ns 3 0))
    (Refused (refusal_by value))))))

-- 3 granted and 6 fault with its cause, both with the entry; 5 refused
abbrev pub decision_of : List ℕ → Decision
decision_of ns =
    let kind = get_or ns 0 0 in
    cond (eqb kind 3) (Decision.Granted (get_or ns 3 0))
    (cond (eqb kind 6) (Decision.Fault (get_or ns 1 0) (get_or ns 3 0)) (Decision.Refused (refusal_by (get_or ns 1 0))))

-- the cause of an exception; 0 where there is none
abbrev pub exception_cause : Answer → ℕ
exception_cause Done = 0
exception_cause (DoneValue old) = 0
exception_cause (DoneFlag flag) = 0
exception_cause (Granted entry) = 0
exception_cause (Trapped (Exception cause) level entry) = cause
exception_cause (Trapped (Interrupt number) level entry) = 0
exception_cause (Refused refusal) = 0

-- 02, [5]: the entry at granted and trapped, 0 elsewhere
abbrev pub entry_told : Answer → ℕ
entry_told Done = 0
entry_told (DoneValue old) = 0
entry_told (DoneFlag flag) = 0
entry_told (Granted entry) = entry
entry_told (Trapped trap level entry) = entry
entry_told (Refused refusal) = 0

pub record Numbered : Type 0 where
  -- the numbers of the refusals, of which no two are one
  pub refusals-numbered : map refusal_number refusals ≡ 1 ∷ 2 ∷ 3 ∷ 4 ∷ 5 ∷ 6 ∷ 7 ∷ 8 ∷ 12 ∷ 13 ∷ []
  pub refusals-apart : (first second : Refusal) → refusal_number first ≡ refusal_number second → first ≡ second
  -- the numbers of a refusal tell its kind and its number, whatever the number, and no entry
  pub refused : (number : ℕ) → refused_numbers number ≡ 5 ∷ number ∷ 0 ∷ 0 ∷ []
  pub refused-answer : (refusal : Refusal) → answer_numbers (Refused refusal) ≡ refused_numbers (refusal_number refusal)
  pub refused-decision : (refusal : Refusal) → decision_numbers (Decision.Refused refusal) ≡ refused_numbers (refusal_number refusal)
  -- no exception's cause has bit 63, which marks an interrupt
  pub answers : (a : Answer) → exception_cause a < 2 ^ 63 → answer_of (answer_numbers a) ≡ a
  pub decisions : (d : Decision) → decision_of (decision_numbers d) ≡ d
  -- there are four numbers, of which the fourth is the entry
  pub four : (a : Answer) → (length (answer_numbers a) ≡ 4) × (get_or (answer_numbers a) 3 0 ≡ entry_told a)
