use mathlib.Core.Path.{sym, ◌∙◌}
use mathlib.Core.Bool.{◌&&◌}
use lib.Dec.{eqb}
use lib.ListN.{length}
use borrow.Author.Rules.{rules}
use Rattle.paging.specs.Memory.{memory_at}
use Rattle.capi.specs.Calls.{answers_fit}
use Rattle.capi.proofs.CallLaws.{unmade, fits-by, hart-fits, made}
use Rattle.capi.proofs.tegrwyllt_run.Goals as goal

pub returns-then-not-hart-answers : goal.returns-then-not-hart-answers
returns-then-not-hart-answers c =
    let a = c.args in
    let map = c.in-Some.ensures.cases in
    let t = fits-by a.hart.now a.map.now _ map.long
    ∙ sym (λ j. eqb (length a.hart.now) 43 && (answers_fit a.steps.now a.answers.now && c.name_steps.ensures j)) ∙ c.if-not-hart-answers.true in
    let all = unmade a.hart.now a.map.now (memory_at a.memory.now a.base) a.steps.now a.answers.now t in
    record {
      value = all.0;
      hart_after = all.1.0;
      map_after = map.same ∙ all.1.1.0;
      answers_after = all.1.1.1;
    }

pub returns : goal.returns
returns c =
    let a = c.args in
    let map = c.in-Some.ensures.cases in
    let t = fits-by a.hart.now a.map.now _ map.long
    ∙ sym (λ j. eqb (length a.hart.now) 43 && (answers_fit a.steps.now a.answers.now && c.name_steps.ensures j)) ∙ c.if-not-hart-answers.false in
    let h = hart-fits a.hart.now a.map.now (memory_at a.memory.now a.base) a.steps.now a.answers.now t in
    let k = c.run-remap.ensures in
    let all = made a.hart.now a.map.now (memory_at a.memory.now a.base) a.steps.now a.answers.now t map.same (search (rules, h))
    k.value k.words_after k.answers_after k.words_after_2 c.renew.ensures in
    record {
      value = all.0;
      hart_after = all.1.0;
      map_after = all.1.1.0;
      answers_after = all.1.1.1;
    }
