use mathlib.Core.Path.{ap, ◌∙◌}
use borrow.Author.Rules.{rules}
use Rattle.state.specs.Hold.{can_hold}
use Rattle.state.proofs.SliceLaws.{all-loaded}
use Rattle.state.proofs.hold.can_hold.Goals as goal

pub returns : goal.returns
returns c = c.words_can_hold.ensures ∙ ap can_hold (all-loaded c.from-words.result (search rules) ∙ c.from-words.ensures.1)
