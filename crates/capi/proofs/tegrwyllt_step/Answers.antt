-- `capi::tegrwyllt_step` meets its contract: it is a run of one step. Assumes nothing.
use mathlib.Core.Path.{refl}
use Rattle.paging.specs.Memory.{memory_at}
use Rattle.capi.proofs.CallLaws.{unnamed}
use Rattle.capi.proofs.tegrwyllt_step.Goals as goal

pub returns-then-step-gt17 : goal.returns-then-step-gt17
returns-then-step-gt17 c = let a = c.args in
    let both = unnamed a.hart.now a.map.now (memory_at a.memory.now a.base) _ a.answer.now a.step a.a a.b refl c.if-step-gt17.true in
    record {
      value = both.0;
      hart_after = both.1.0;
      map_after = both.1.1.0;
      answer_after = both.1.1.1;
    }

pub returns : goal.returns
returns c =
    record {
      value = c.tegrwyllt_run.ensures.value;
      hart_after = c.tegrwyllt_run.ensures.hart_after;
      map_after = c.tegrwyllt_run.ensures.map_after;
      answer_after = c.tegrwyllt_run.ensures.answers_after;
    }
