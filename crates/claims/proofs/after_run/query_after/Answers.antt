use mathlib.Core.Path.{refl, ap, ◌∙◌}
use mathlib.Core.Bool.{true, false}
use Rattle.paging.specs.Memory.{memory_of}
use Rattle.hart.specs.declared.Mapped.{Mapped}
use Rattle.hart.specs.Queries.{query_answer}
use Rattle.claims.proofs.AfterRun.{left_by_lem}
use Rattle.claims.proofs.after_run.query_after.Goals as goal

pub returns-then-not-remap : goal.returns-then-not-remap
returns-then-not-remap c =
    let a = c.args in
    c.query.ensures.value
    ∙ ap (λ (l : Mapped). query_answer l.hart l.map a.mode a.access a.address a.size)
    ((let a = c.args in
    left_by_lem a.hart a.map (memory_of a.memory) a.steps.now c.from-words.ensures.0 c.from-words.ensures.1 _ c.run-remap.ensures.value
    (c.from-after.ensures ∙ c.run-remap.ensures.words_after_2) false (c.if-not-remap.true) refl))

pub returns : goal.returns
returns c =
    let a = c.args in
    c.query-2.ensures.value
    ∙ ap (λ (l : Mapped). query_answer l.hart l.map a.mode a.access a.address a.size)
    ((let a = c.args in
    left_by_lem a.hart a.map (memory_of a.memory) a.steps.now c.from-words.ensures.0 c.from-words.ensures.1 _ c.run-remap.ensures.value
    (c.from-after.ensures ∙ c.run-remap.ensures.words_after_2) true (c.if-not-remap.false) c.map_for-fresh.ensures))
