-- 01, "Steps", "Traps, returns, time" and "Protection, byte by byte", and 02, [5]: the numbers of each case of an answer and of a decision, and their values.
use Rattle.std.specs.Prelude.{ℕ, ◌+◌, ◌%◌, ◌^◌, cond, List, [], ◌∷◌, Option, Some, None}
use Rattle.pmp.specs.declared.Decision.{Decision}
use Rattle.pmp.specs.declared.Refusal.{Refusal}
use Rattle.pmp.specs.Number.{refusal_number}
use Rattle.steps.specs.declared.Level.{Level}
use Rattle.steps.specs.declared.Level.TheVariants.{Supervisor, Machine}
use Rattle.steps.specs.declared.Trap.{Trap}
use Rattle.steps.specs.declared.Trap.TheVariants.{Exception, Interrupt}
use Rattle.steps.specs.declared.Answer.{Answer}
use Rattle.steps.specs.declared.Answer.TheVariants.{Done, DoneValue, DoneFlag, Granted, Trapped, Refused}

-- the number of a level's mode: S=1, M=3
abbrev pub level_number : Level → ℕ
level_number Supervisor = 1
level_number Machine = 3

-- an exception's cause is its number; interrupt cause is 2^63+i
abbrev pub cause_number : Trap → ℕ
cause_number (Exception c) = c
cause_number (Interrupt i) = 2 ^ 63 + i

-- the number of an interrupt; an exception has none
abbrev pub interrupt_number : Trap → ℕ
interrupt_number (Exception c) = 0
interrupt_number (Interrupt i) = i

-- the interrupt of an answer, 0 for none
abbrev pub answer_interrupt : Answer → ℕ
answer_interrupt Done = 0
answer_interrupt (DoneValue old) = 0
answer_interrupt (DoneFlag flag) = 0
answer_interrupt (Granted entry) = 0
answer_interrupt (Trapped trap level entry) = interrupt_number trap
answer_interrupt (Refused refusal) = 0

-- the cases are numbered in 01's order (house): 0 done; 1 done with a value; 2 done with yes (1) or no (0); 3 granted; 4 trapped, with cause and
-- destination mode; 5 refused, with its number. The fourth number of a grant and a trap is the entry that decided, 16 for none (02, [5])
abbrev pub answer_numbers : Answer → List ℕ
answer_numbers Done = 0 ∷ 0 ∷ 0 ∷ 0 ∷ []
answer_numbers (DoneValue v) = 1 ∷ v ∷ 0 ∷ 0 ∷ []
answer_numbers (DoneFlag b) = 2 ∷ cond b 1 0 ∷ 0 ∷ 0 ∷ []
answer_numbers (Granted entry) = 3 ∷ 0 ∷ 0 ∷ entry ∷ []
answer_numbers (Trapped trap level entry) = 4 ∷ cause_number trap ∷ level_number level ∷ entry ∷ []
answer_numbers (Refused refusal) = 5 ∷ refusal_number refusal ∷ 0 ∷ 0 ∷ []

-- those of a refusal, by its number, whatever the number
abbrev pub refused_numbers : ℕ → List ℕ
refused_numbers number = 5 ∷ number ∷ 0 ∷ 0 ∷ []

-- the same in words of 64 bits: the sum of an interrupt's cause wraps. No step answers with an interrupt, and then these are the numbers
abbrev pub cause_word : Trap → ℕ
cause_word (Exception c) = c
cause_word (Interrupt i) = (2 ^ 63 + i) % 2 ^ 64

abbrev pub answer_words : Answer → List ℕ
answer_words (Trapped trap level entry) = 4 ∷ cause_word trap ∷ level_number level ∷ entry ∷ []
answer_words Done = answer_numbers Done
answer_words (DoneValue v) = answer_numbers (DoneValue v)
answer_words (DoneFlag b) = answer_numbers (DoneFlag b)
answer_words (Granted entry) = answer_numbers (Granted entry)
answer_words (Refused refusal) = answer_numbers (Refused refusal)

-- a decision on an access has the numbers of the answers granted and refused; a fault is the case 6, with its cause and entry
abbrev pub decision_numbers : Decision → List ℕ
decision_numbers (Decision.Granted entry) = answer_numbers (Granted entry)
decision_numbers (Decision.Fault cause entry) = 6 ∷ cause ∷ 0 ∷ entry ∷ []
decision_numbers (Decision.Refused refusal) = answer_numbers (Refused refusal)

-- the refusal of an answer, and none for any other answer
abbrev pub refusal_of : Answer → Option Refusal
refusal_of Done = None
refusal_of (DoneValue old) = None
refusal_of (DoneFlag flag) = None
refusal_of (Granted entry) = None
refusal_of (Trapped trap level entry) = None
refusal_of (Refused refusal) = Some refusal
