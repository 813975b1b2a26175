-- 02, [5] and [1]: lines of `replay` letter by letter, with the entry that decided on an access and without, and that of refusal 8.
use Rattle.std.specs.Prelude.{◌≡◌, true, false}
use Rattle.lines.specs.Lines.{bytes_of}
use Rattle.pmp.specs.Rule.{none}
use Rattle.steps.specs.declared.Level.TheVariants.{Supervisor, Machine}
use Rattle.steps.specs.declared.Trap.TheVariants.{Exception}
use Rattle.steps.specs.declared.Answer.TheVariants.{Granted, Trapped}
use Rattle.trace.specs.Answers.{answer_line, broken_line}

pub record WorkedLines : Type 0 where
  pub granted : answer_line true (Granted 3) ≡ bytes_of "granted entry 3\n"
  pub granted-by-none : answer_line true (Granted none) ≡ bytes_of "granted entry none\n"
  pub fault : answer_line true (Trapped (Exception 5) Machine 15) ≡ bytes_of "trapped exception 5 to M entry 15\n"
  pub fault-by-none : answer_line true (Trapped (Exception 7) Supervisor none) ≡ bytes_of "trapped exception 7 to S entry none\n"
  pub raised : answer_line false (Trapped (Exception 5) Machine none) ≡ bytes_of "trapped exception 5 to M\n"
  -- [1]: "refusal 8 with the record's number"
  pub broken : broken_line 7 ≡ bytes_of "refused 8 record 7\n"
