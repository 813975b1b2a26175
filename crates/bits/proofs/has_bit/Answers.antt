-- `bits::has_bit` meets its contract. Assumes nothing.
use borrow.Author.Rules.{rules}
use Rattle.bits.proofs.BitSolve.{no_bit}
use Rattle.bits.proofs.has_bit.Goals as goal

pub returns-else-place-lt64 : goal.returns-else-place-lt64
returns-else-place-lt64 c = rw (no_bit c.before.args.word c.before.args.place (search rules) c.if-place-lt64.false)
