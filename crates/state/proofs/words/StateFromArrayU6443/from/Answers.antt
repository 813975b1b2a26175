use mathlib.Core.Path.{◌∙◌}
use borrow.Author.Rules.{rules}
use Rattle.state.proofs.SliceLaws.{all-loaded}
use Rattle.state.proofs.words.StateFromArrayU6443.from.Goals as goal

pub returns : goal.returns
returns c = c.load.ensures ∙ all-loaded c.args.words (search rules)
