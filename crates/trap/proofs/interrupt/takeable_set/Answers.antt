use Rattle.std.proofs.Common.{◌≡◌, true, sym, ◌∙◌, rules}
use Rattle.trap.specs.Interrupt.{admits}
use Rattle.trap.proofs.Takeable.{machine_set, supervisor_set, empty-set}
use Rattle.trap.proofs.interrupt.takeable_set.Goals as goal

pub returns-then-not-admits : goal.returns-then-not-admits
returns-then-not-admits c = empty-set c.args.r c.args.level (sym c.admits.ensures ∙ c.if-not-admits.true)

pub returns-in-Machine : goal.returns-in-Machine
returns-in-Machine c =
    let a : admits c.args.level c.args.r ≡ true = sym c.admits.ensures ∙ c.if-not-admits.false in
    rw (c.in-Machine.is, c.pending_interrupts.ensures) (machine_set c.args.r (rw c.in-Machine.is at a) (search rules))

pub returns-in-Supervisor : goal.returns-in-Supervisor
returns-in-Supervisor c =
    let a : admits c.args.level c.args.r ≡ true = sym c.admits.ensures ∙ c.if-not-admits.false in
    rw (c.in-Supervisor.is, c.pending_interrupts.ensures) (supervisor_set c.args.r (rw c.in-Supervisor.is at a))
