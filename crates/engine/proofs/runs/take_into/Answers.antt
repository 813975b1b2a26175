use Rattle.steps.specs.Decode.{decoded}
use Rattle.paging.specs.Memory.{memory_of}
use Rattle.state.specs.Words.{state_of}
use Rattle.engine.proofs.RunLaws.{named-plain}
use Rattle.engine.proofs.runs.take_into.Goals as goal

pub put_answer-requires : goal.put_answer-requires
put_answer-requires c =
    let a = c.args in
    (named-plain a.held (state_of a.words.now) (memory_of a.memory) (decoded a.numbers.step a.numbers.a a.numbers.b) c.step_named-next.ensures.value, c.requires)
