use mathlib.Core.Path.{sym}
use Rattle.steps.specs.Decode.{decoded}
use Rattle.steps.specs.Number.{answer_numbers}
use Rattle.paging.specs.Memory.{memory_of}
use Rattle.state.specs.Words.{state_of}
use Rattle.engine.specs.Taking.{named_taken}
use Rattle.engine.proofs.RunLaws.{sets_past}
use Rattle.engine.proofs.runs.step_into.Goals as goal

pub returns-then-answers-place-clause-answers_after : goal.returns-then-answers-place-clause-answers_after
returns-then-answers-place-clause-answers_after c = let a = c.args in
    let answer = (named_taken a.held (state_of a.words.now) (memory_of a.memory) (decoded a.numbers.step a.numbers.a a.numbers.b)).answer in
    sym (sets_past (answer_numbers answer) a.answers.now a.place c.if-answers-place.true)
