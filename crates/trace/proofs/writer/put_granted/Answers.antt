use Rattle.lines.specs.Lines.{bytes_of}
use Rattle.trace.proofs.Writing.{put_both}
use Rattle.trace.proofs.writer.put_granted.Goals as goal

pub returns : goal.returns
unfolding bytes_of
returns c = put_both c.put-next.ensures (put_both c.put_entry-next.ensures c.put.ensures)
