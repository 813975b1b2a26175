use mathlib.Core.Path.{refl, ◌∙◌}
use lib.ListN.{replicate}
use borrow.Author.Rules.{rules}
use Rattle.protection.specs.Arrays.{Arrays}
use Rattle.state.proofs.Back.{words-state}
use Rattle.state.proofs.SliceLaws.{all-stored}
use Rattle.state.proofs.words.ArrayU6443FromState.from.Goals as goal

pub returns : goal.returns
returns c =
    let state = c.args.state in
    let arrays : Arrays state.pmp = search rules in
    let words = c.store.ensures ∙ all-stored (replicate 43 0) refl state in
    (words, words-state state arrays words)
