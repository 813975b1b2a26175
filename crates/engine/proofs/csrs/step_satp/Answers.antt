use Rattle.engine.proofs.InPlace.{satp-done}
use Rattle.engine.proofs.csrs.step_satp.Goals as goal

pub returns : goal.returns
returns c = let a = c.args in
    let both = satp-done a.words.now c.told-words a.operation 0x180 a.operand c.load_satp-old.ensures c.operate_satp-after.ensures c.next_pc-pc.ensures
    c.store_satp.ensures c.apart.ensures in
    record {
      value = both.0;
      words_after = both.1;
    }
