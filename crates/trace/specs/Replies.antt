-- What is given out for a record: the answer to its step, or refusal 8 with the record's number; and how that is written, in words or as a line.
use Rattle.std.specs.Prelude.{ℕ, Bool, List, [], ◌∷◌, ◌++◌}
use Rattle.steps.specs.declared.Answer.{Answer}
use Rattle.steps.specs.Number.{answer_numbers}
use Rattle.trace.specs.Answers.{answer_line, broken_line}

pub data Reply : Type 0 where
  -- with whether the step was an access, whose line tells the entry that decided
  Answered : Answer → (accessed : Bool) → Reply
  Broken : (number : ℕ) → Reply

-- four numbers: those of the answer, or 5, 8 and the record's number
abbrev pub reply_numbers : Reply → List ℕ
reply_numbers (Answered answer accessed) = answer_numbers answer
reply_numbers (Broken number) = 5 ∷ 8 ∷ number ∷ 0 ∷ []

abbrev pub reply_line : Reply → List ℕ
reply_line (Answered answer accessed) = answer_line accessed answer
reply_line (Broken number) = broken_line number

-- what is written for each of them, one behind the other
unfoldable pub written : {A : Type 0} → (Reply → List A) → List Reply → List A
written text [] = []
written text (reply ∷ replies) = text reply ++ written text replies
