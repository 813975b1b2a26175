use Rattle.csr.proofs.TableLaws.{illegal-by-number, illegal-to_machine}
use Rattle.csr.proofs.permit.is_illegal.Goals as goal

pub returns-then-mode-eq3 : goal.returns-then-mode-eq3
returns-then-mode-eq3 c =
    let b = c in
    let given = b.args in
    rw (b.attempts_write.ensures, b.accessibility-access.ensures)
    (illegal-to_machine given.r given.operation given.number c.if-mode-eq3.true)

pub returns : goal.returns
returns c =
    let b = c in
    let given = b.args in
    rw (c.is_counter_hidden-hidden.ensures, b.attempts_write.ensures, b.accessibility-access.ensures)
    (illegal-by-number given.r given.operation given.number)
