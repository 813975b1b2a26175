use Rattle.std.proofs.Common.{◌≡◌, drop}
use Rattle.bits.specs.Mask.{test_bit}
use Rattle.trap.specs.Interrupt.{first_of}
use Rattle.trap.proofs.interrupt.first_by_priority.Given as goal

abbrev pub invariant-loop-number : goal.invariant-loop-number
invariant-loop-number l = first_of (test_bit l.set) (drop l.number-index l.number-items) ≡ first_of (test_bit l.set) l.number-items
