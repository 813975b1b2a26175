use Rattle.trace.proofs.Writing.{put_both}
use Rattle.trace.proofs.feeding.join.Goals as goal

pub returns : goal.returns
returns c =
    (put_both c.put-next.ensures c.put.ensures).bytes
