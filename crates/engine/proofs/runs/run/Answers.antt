use Rattle.std.proofs.Common.{◌≡◌, length, sym, ◌∙◌, arith, rules}
use Rattle.state.proofs.Back.{state-words}
use Rattle.paging.specs.Memory.{memory_of}
use Rattle.engine.proofs.RunLaws.{run_done}
use Rattle.engine.proofs.runs.run.Goals as goal

pub returns-clause-words_after : goal.returns-clause-words_after
returns-clause-words_after c =
    let a = c.args in
    let h : length a.words.now ≡ 43 = search rules in
    let q : c.in-Some.words.now ≡ a.words.now = search rules in
    let n : length c.run_steps.new.words ≡ 43 = search rules in
    rw (run_done a.words.now (memory_of a.memory) a.steps.now a.answers.now h (sym c.name_steps.ensures ∙ c.if-not-name_steps.false))
    (state-words c.run_steps.new.words (record { count = n; below = λ j. omega (arith, c.type_inv.words j) })
    (rw q at c.run_steps.ensures.words_after))
