use mathlib.Core.Path.{ap, ◌∙◌}
use Rattle.paging.specs.Memory.{memory_of}
use Rattle.state.specs.Hold.{can_hold}
use Rattle.state.proofs.SliceLaws.{all-loaded}
use Rattle.hart.proofs.Numbered.{numbered}
use Rattle.hart.proofs.StepLaws.{map-stays, map_anew}
use borrow.Author.Rules.{rules}
use Rattle.hart.proofs.Hart.step.Goals as goal

pub returns-then-not-taken : goal.returns-then-not-taken
returns-then-not-taken c = let a = c.args in
    let both = numbered
    (map-stays a.self a.map (memory_of a.memory) a.step ((c.words_can_hold-held.ensures ∙ ap can_hold (all-loaded c.from-words.result (search rules) ∙ c.from-words.ensures.1))) c.from-words.result c.from-words.ensures.1 c.step-taken.ensures.value (c.from-after.ensures ∙ c.step-taken.ensures.words_after) c.if-not-taken.true) in
    record {
      value = both.0;
      answer_value = both.1;
    }

pub returns : goal.returns
returns c = let a = c.args in
    let both = numbered
    (map_anew a.self a.map (memory_of a.memory) a.step ((c.words_can_hold-held.ensures ∙ ap can_hold (all-loaded c.from-words.result (search rules) ∙ c.from-words.ensures.1))) c.from-words.result c.from-words.ensures.1 c.step-taken.ensures.value (c.from-after.ensures ∙ c.step-taken.ensures.words_after) c.if-not-taken.false c.map_for-fresh.ensures) in
    record {
      value = both.0;
      answer_value = both.1;
    }
