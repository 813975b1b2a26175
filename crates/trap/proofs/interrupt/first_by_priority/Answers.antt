use Rattle.std.proofs.Common.{sym, ◌∙◌, rules}
use Rattle.bits.specs.Mask.{test_bit}
use Rattle.trap.specs.Interrupt.{priority}
use Rattle.trap.proofs.First.{first_found, first_next, first-none}
use Rattle.trap.proofs.interrupt.first_by_priority.Goals as goal

pub returns-then-has_bit : goal.returns-then-has_bit
returns-then-has_bit c = first_found (test_bit _) priority c.loop-number.number-index (search rules) c.loop-number.invariant (sym c.has_bit.ensures ∙ c.if-has_bit.true)

pub loop-number-preserved : goal.loop-number-preserved
loop-number-preserved c = first_next (test_bit _) priority c.loop-number.number-index (search rules) c.loop-number.invariant (sym c.has_bit.ensures ∙ c.if-has_bit.false)

pub returns : goal.returns
returns c = first-none (test_bit _) priority c.loop-number.number-index (search rules) c.loop-number.invariant
