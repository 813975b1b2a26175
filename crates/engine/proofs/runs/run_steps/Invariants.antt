use Rattle.std.proofs.Common.{length}
use Rattle.paging.specs.Memory.{memory_of}
use Rattle.engine.proofs.RunLaws.{Ongoing}
use Rattle.engine.proofs.runs.run_steps.Given as goal

abbrev pub invariant-loop-rest : goal.invariant-loop-rest
invariant-loop-rest l =
    Ongoing (memory_of l.memory) l.initial.words l.steps l.initial.answers l.words l.held l.remap l.rest l.answers l.place

abbrev pub decreases-loop-rest : goal.decreases-loop-rest
decreases-loop-rest l = length l.rest
