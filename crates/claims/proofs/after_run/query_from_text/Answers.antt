use mathlib.Core.Path.{ap, ◌∙◌}
use Rattle.paging.specs.Memory.{memory_of}
use Rattle.hart.specs.declared.Mapped.{Mapped}
use Rattle.hart.specs.Saved.{restored}
use Rattle.claims.specs.AfterRun.{steps_in}
use Rattle.claims.proofs.AfterRun.{text-asked, text-refused}
use Rattle.claims.proofs.after_run.query_from_text.Goals as goal

pub returns-in-None : goal.returns-in-None
returns-in-None c =
    let a = c.args in
    c.query_after.ensures
    ∙ text-asked a.form a.text.now (steps_in (memory_of a.memory) a.steps.now) a.mode a.access a.address a.size ((let a = c.args in
    c.restore-read.ensures.value ∙ ap (λ (m : Mapped). restored a.form m.hart m.map a.text.now) c.reset-start.ensures)) c.refusal.ensures c.in-None.is

pub returns-in-Some : goal.returns-in-Some
returns-in-Some c =
    let a = c.args in
    text-refused a.form a.text.now (steps_in (memory_of a.memory) a.steps.now) a.mode a.access a.address a.size ((let a = c.args in
    c.restore-read.ensures.value ∙ ap (λ (m : Mapped). restored a.form m.hart m.map a.text.now) c.reset-start.ensures)) c.refusal.ensures c.in-Some.is
