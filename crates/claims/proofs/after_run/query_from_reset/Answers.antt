use mathlib.Core.Path.{ap, ◌∙◌}
use Rattle.paging.specs.Memory.{memory_of}
use Rattle.hart.specs.declared.Mapped.{Mapped}
use Rattle.hart.specs.Steps.{reset_mapped}
use Rattle.claims.specs.AfterRun.{steps_in}
use Rattle.claims.specs.Faithful.{query_after}
use Rattle.claims.proofs.Faithfulness.{reset_sound, query-after}
use Rattle.claims.proofs.after_run.query_from_reset.Goals as goal

pub returns : goal.returns
returns c =
    let a = c.args in
    let steps = steps_in (memory_of a.memory) a.steps.now in
    c.query_after.ensures
    ∙ ap (λ (m : Mapped). query_after m steps a.mode a.access a.address a.size) c.reset-start.ensures
    ∙ query-after (reset_mapped a.grain) (reset_sound a.grain) steps a.mode a.access a.address a.size
