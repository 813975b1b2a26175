use Rattle.std.proofs.Common.{ap, ◌∙◌}
use Rattle.state.specs.Hold.{can_hold}
use Rattle.state.proofs.SliceLaws.{all-loaded}
use Rattle.engine.proofs.RunLaws.{started, goes_on, behind, state_end, remap_end, answers_end}
use Rattle.engine.proofs.runs.run_steps.Goals as goal

pub loop-rest-init : goal.loop-rest-init
loop-rest-init c = started _ _ _ _ (c.words_can_hold-held.ensures ∙ ap can_hold (all-loaded c.args.words.now c.told-words)) c.requires

pub loop-rest-preserved : goal.loop-rest-preserved
loop-rest-preserved c =
    let e = c.take_into-next.ensures in
    let room = c.in-len3-up.len_at_least in
    goes_on c.loop-rest.invariant room (behind _ room) e.value e.words_after e.answers_after

pub returns : goal.returns
returns c =
    let few = c.in_default.len_below in
    let o = c.loop-rest.invariant in
    record { value = remap_end o few; words_after = state_end o few; answers_after = answers_end o few }
