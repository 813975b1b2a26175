use Rattle.lines.specs.Lines.{bytes_of}
use Rattle.trace.specs.Endings.{ending}
use Rattle.trace.proofs.Writing.{put_both}
use Rattle.trace.proofs.ending.put_ending.Goals as goal

pub returns : goal.returns
unfolding ending bytes_of
returns c = put_both c.put_state-next.ensures (put_both c.put_ranges-next.ensures c.put_numbered.ensures)
