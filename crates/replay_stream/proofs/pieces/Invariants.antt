use Rattle.paging.specs.Memory.{memory_of}
use Rattle.replay_stream.specs.Streams.{Going}
use Rattle.replay_stream.proofs.pieces.Given as goal

abbrev pub invariant-loop-fed : goal.invariant-loop-fed
invariant-loop-fed g l = Going (memory_of l.memory) l.initial.session l.session l.fed
