use mathlib.Core.Path.{sym, ap, ◌∙◌}
use Rattle.steps.specs.Number.{answer_numbers}
use Rattle.state.specs.Hold.{can_hold}
use Rattle.state.proofs.SliceLaws.{all-loaded}
use Rattle.hart.proofs.SavedLaws.{save_unheld}
use borrow.Author.Rules.{rules}
use Rattle.hart.proofs.Hart.save.Goals as goal

pub returns-then-not-words_can_hold : goal.returns-then-not-words_can_hold
returns-then-not-words_can_hold c =
    let a = c.args in
    let held = c.words_can_hold.ensures ∙ ap can_hold (all-loaded c.from-words.result (search rules) ∙ c.from-words.ensures.1) in
    let both = save_unheld a.form a.self a.buffer.now (sym held ∙ c.if-not-words_can_hold.true) in
    record {
      value = both.0;
      result_value = both.1.0;
      buffer_after = both.1.1;
    }

pub write_state-requires : goal.write_state-requires
write_state-requires c =
    let held = c.words_can_hold.ensures ∙ ap can_hold (all-loaded c.from-words.result (search rules) ∙ c.from-words.ensures.1) in
    (c.from-words.ensures.0, sym held ∙ c.if-not-words_can_hold.false)

pub returns : goal.returns
returns c =
    let e = c.outcome_answer.ensures ∙ c.write_state.ensures.value in
    record {
      value = e;
      result_value = ap answer_numbers e;
      buffer_after = c.write_state.ensures.buffer_after;
    }
