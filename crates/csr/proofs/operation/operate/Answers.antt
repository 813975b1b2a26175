use borrow.Author.Rules.{rules}
use Rattle.state.proofs.SliceLaws.{registers_unfit}
use Rattle.csr.proofs.OperateLaws.{stores, reads}
use Rattle.csr.proofs.operation.operate.Goals as goal

pub returns-in_default : goal.returns-in_default
returns-in_default c = registers_unfit _ _ c.in_default.ensures.cases

pub returns-then-attempts_write : goal.returns-then-attempts_write
returns-then-attempts_write c =
    let a = c.args in
    rw (← c.in-Some.ensures.cases.same)
    (stores c.in-Some.words.now (search rules) a.operation a.number a.operand a.old c.attempts_write.ensures c.if-attempts_write.true c.modified_from-from.ensures
    c.value_written.ensures c.write.ensures)

pub returns-else-attempts_write : goal.returns-else-attempts_write
returns-else-attempts_write c =
    let a = c.args in
    rw (← c.in-Some.ensures.cases.same)
    (reads c.in-Some.words.now (search rules) a.operation a.number a.operand a.old c.attempts_write.ensures c.if-attempts_write.false)
