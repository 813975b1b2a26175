-- The numbers of an answer tell which answer it is. Assumes nothing.
use Prim.Native.Nat.{ℕ, ◌+◌, ◌-◌, ◌^◌, ◌<◌, ◌≤◌}
use mathlib.Core.Path.{◌≡◌, refl, sym, ap, ◌∙◌}
use mathlib.Core.Bool.{true, false}
use native.Mathlib.Omega.{arith}
use lib.ListN.{length, get_or}
use borrow.Author.Tests.{lt-ltb, le-ltb}
use Rattle.pmp.specs.declared.Decision.{Decision}
use Rattle.pmp.specs.declared.Refusal.{Refusal}
use Rattle.pmp.specs.declared.Refusal.TheVariants.{Size, Argument, State, Text, TextState, Buffer, Map, Record, Form, Memory}
use Rattle.pmp.specs.Number.{refusal_number}
use Rattle.steps.specs.declared.Level.{Level}
use Rattle.steps.specs.declared.Level.TheVariants.{Supervisor, Machine}
use Rattle.steps.specs.declared.Trap.TheVariants.{Exception, Interrupt}
use Rattle.steps.specs.declared.Answer.{Answer}
use Rattle.steps.specs.declared.Answer.TheVariants.{Done, DoneValue, DoneFlag, Granted, Trapped, Refused}
use Rattle.steps.specs.Number.{level_number, answer_numbers, decision_numbers}
use Rattle.claims.specs.Numbers.{refusal_by, trap_of, level_of, answer_of, decision_of, exception_cause, entry_told, Numbered}

refusal_back : (r : Refusal) → refusal_by (refusal_number r) ≡ r
refusal_back Size = refl
refusal_back Argument = refl
refusal_back State = refl
refusal_back Text = refl
refusal_back TextState = refl
refusal_back Buffer = refl
refusal_back Map = refl
refusal_back Record = refl
refusal_back Form = refl
refusal_back Memory = refl

refusals-apart : (first second : Refusal) → refusal_number first ≡ refusal_number second → first ≡ second
refusals-apart first second e = sym (refusal_back first) ∙ ap refusal_by e ∙ refusal_back second

level_back : (level : Level) → level_of (level_number level) ≡ level
level_back Supervisor = refl
level_back Machine = refl

exception_back : (cause : ℕ) → cause < 2 ^ 63 → trap_of cause ≡ Exception cause
exception_back cause h = rw (lt-ltb cause (2 ^ 63) h)

interrupt-back : (number : ℕ) → trap_of (2 ^ 63 + number) ≡ Interrupt number
interrupt-back number =
    let past : 2 ^ 63 ≤ 2 ^ 63 + number = omega arith in
    let back : 2 ^ 63 + number - 2 ^ 63 ≡ number = omega arith in
    rw (le-ltb (2 ^ 63 + number) (2 ^ 63) past, back)

answer_back : (a : Answer) → exception_cause a < 2 ^ 63 → answer_of (answer_numbers a) ≡ a
answer_back Done h = refl
answer_back (DoneValue old) h = refl
answer_back (DoneFlag true) h = refl
answer_back (DoneFlag false) h = refl
answer_back (Granted entry) h = refl
answer_back (Trapped (Exception cause) level entry) h = λ j. Trapped (exception_back cause h j) (level_back level j) entry
answer_back (Trapped (Interrupt number) level entry) h = λ j. Trapped (interrupt-back number j) (level_back level j) entry
answer_back (Refused refusal) h = ap Refused (refusal_back refusal)

decision-back : (d : Decision) → decision_of (decision_numbers d) ≡ d
decision-back (Decision.Granted entry) = refl
decision-back (Decision.Fault cause entry) = refl
decision-back (Decision.Refused refusal) = ap Decision.Refused (refusal_back refusal)

four-numbers : (a : Answer) → (length (answer_numbers a) ≡ 4) × (get_or (answer_numbers a) 3 0 ≡ entry_told a)
four-numbers Done = (refl, refl)
four-numbers (DoneValue old) = (refl, refl)
four-numbers (DoneFlag flag) = (refl, refl)
four-numbers (Granted entry) = (refl, refl)
four-numbers (Trapped trap level entry) = (refl, refl)
four-numbers (Refused refusal) = (refl, refl)

pub answers_numbered : Numbered
answers_numbered =
    record {
      refusals-numbered = refl;
      refusals-apart = refusals-apart;
      refused = λ number. refl;
      refused-answer = λ refusal. refl;
      refused-decision = λ refusal. refl;
      answers = answer_back;
      decisions = decision-back;
      four = four-numbers;
    }
