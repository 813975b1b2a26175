-- The numbers that are left decide as all of them do.
use Rattle.std.proofs.Common.{◌≡◌, length}
use Rattle.steps.specs.Decode.{name_steps}
use Rattle.steps.proofs.from_numbers.name_steps.Given as goal

abbrev pub invariant-loop-rest : goal.invariant-loop-rest
invariant-loop-rest l = name_steps l.rest ≡ name_steps l.steps

abbrev pub decreases-loop-rest : goal.decreases-loop-rest
decreases-loop-rest l = length l.rest
