use mathlib.Core.Path.{◌∙◌}
use Rattle.paging.specs.Memory.{memory_of}
use Rattle.state.specs.Words.{state_of}
use Rattle.engine.proofs.TakingLaws.{taken_on, taken_refused}
use Rattle.engine.proofs.taking.step.Goals as goal

pub returns-then-is_reset-held : goal.returns-then-is_reset-held
returns-then-is_reset-held c = let a = c.args in
    let k = taken_on a.held (state_of a.words.now) (memory_of a.memory) a.step c.is_reset.ensures c.if-is_reset-held.true in
    record {
      value = c.take_effect.ensures.value ∙ k.0;
      words_after = c.take_effect.ensures.words_after ∙ k.1;
    }

pub returns : goal.returns
returns c = let a = c.args in
    let both = taken_refused a.held (state_of a.words.now) (memory_of a.memory) a.step c.is_reset.ensures c.if-is_reset-held.false in
    record {
      value = both.0;
      words_after = both.1;
    }
