use borrow.Author.Rules.{rules}
use Rattle.engine.proofs.InPlace.{protection_done}
use Rattle.engine.proofs.csrs.step_protection.Goals as goal

pub returns : goal.returns
returns c = let a = c.args in
    let both = protection_done a.words.now c.told-words a.operation a.number a.operand c.load_pmp-before.ensures c.read_register-old.ensures c.operate_pmp-after.ensures
    (search rules) c.next_pc-pc.ensures c.store_pmp.ensures c.same.ensures in
    record {
      value = both.0;
      words_after = both.1;
    }
