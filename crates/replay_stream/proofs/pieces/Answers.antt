use Rattle.replay_stream.proofs.Streaming.{none-fed, one_fed}
use Rattle.replay_stream.proofs.pieces.Goals as goal

pub loop-fed-init : goal.loop-fed-init
loop-fed-init g c = none-fed _ c.args.start

pub loop-fed-preserved : goal.loop-fed-preserved
loop-fed-preserved g c = one_fed _ c.loop-fed.invariant c.piece.ensures c.in_ok-session.was
