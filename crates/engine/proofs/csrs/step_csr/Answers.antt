use Rattle.std.proofs.Common.{rules}
use mathlib.Core.Path.{◌∙◌}
use Rattle.engine.proofs.InPlace.{number-refused, csr_illegal, csr_protection, csr_satp, csr_register}
use Rattle.engine.proofs.csrs.step_csr.Goals as goal

pub returns-then-number-gt4095 : goal.returns-then-number-gt4095
returns-then-number-gt4095 c = let a = c.args in
    let k = number-refused a.words.now c.told-words a.operation a.number a.operand c.if-number-gt4095.true in
    record {
      value = c.apart.ensures ∙ k.0;
      words_after = k.1;
    }

pub returns-then-is_illegal : goal.returns-then-is_illegal
returns-then-is_illegal c = let a = c.args in
    let both = csr_illegal a.words.now c.told-words a.operation a.number a.operand c.if-number-gt4095.false c.load_registers.ensures c.is_illegal.ensures
    c.if-is_illegal.true (search rules) c.on_registers.ensures.rest_kept c.apart-then-is_illegal.ensures in
    record {
      value = both.0;
      words_after = both.1;
    }

pub returns-then-is_pmp : goal.returns-then-is_pmp
returns-then-is_pmp c = let a = c.args in
    let both = csr_protection a.words.now c.told-words a.operation a.number a.operand c.if-number-gt4095.false c.load_registers.ensures c.is_illegal.ensures
    c.if-is_illegal.false c.is_pmp.ensures c.if-is_pmp.true c.step_protection.ensures.value c.step_protection.ensures.words_after in
    record {
      value = both.0;
      words_after = both.1;
    }

pub returns-then-number-eq-SATP : goal.returns-then-number-eq-SATP
returns-then-number-eq-SATP c = let a = c.args in
    let both = csr_satp a.words.now c.told-words a.operation a.number a.operand c.if-number-gt4095.false c.load_registers.ensures c.is_illegal.ensures
    c.if-is_illegal.false c.is_pmp.ensures c.if-is_pmp.false c.if-number-eq-SATP.true c.step_satp.ensures.value c.step_satp.ensures.words_after in
    record {
      value = both.0;
      words_after = both.1;
    }

pub returns : goal.returns
returns c = let a = c.args in
    let both = csr_register a.words.now c.told-words a.operation a.number a.operand c.if-number-gt4095.false c.load_registers.ensures c.is_illegal.ensures
    c.if-is_illegal.false c.is_pmp.ensures c.if-is_pmp.false c.if-number-eq-SATP.false c.load_registers-2.ensures c.read-old.ensures c.next_pc-pc.ensures c.operate.ensures c.apart-2.ensures in
    record {
      value = both.0;
      words_after = both.1;
    }
