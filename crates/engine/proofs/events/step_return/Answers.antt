use Rattle.std.proofs.Common.{rules}
use Rattle.engine.proofs.InPlace.{return_illegal, return_done}
use Rattle.engine.proofs.events.step_return.Goals as goal

pub returns-then-not-may_return : goal.returns-then-not-may_return
returns-then-not-may_return c = let a = c.args in
    let both = return_illegal a.words.now c.told-words a.level c.load_registers.ensures c.may_return.ensures (c.if-not-may_return.true)
    (search rules) c.on_registers.ensures.rest_kept in
    record {
      value = both.0;
      words_after = both.1;
    }

pub returns : goal.returns
returns c = let a = c.args in
    let both = return_done a.words.now c.told-words a.level c.load_registers.ensures c.may_return.ensures (c.if-not-may_return.false) c.load_registers-2.ensures
    c.return_registers.ensures c.store_registers.ensures in
    record {
      value = both.0;
      words_after = both.1;
    }
