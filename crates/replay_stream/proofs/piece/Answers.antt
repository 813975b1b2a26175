use Rattle.std.proofs.Common.{rules, length-take-le}
use Rattle.replay_stream.proofs.Streaming.{piece-fed}
use Rattle.replay_stream.proofs.piece.Goals as goal

pub returns-in-Ok-write : goal.returns-in-Ok-write
returns-in-Ok-write g c = piece-fed _ _ _ _ (search (rules, length-take-le)) (search rules) c.feed-fed.ensures.value
