use Rattle.lines.specs.Lines.{bytes_of}
use Rattle.trace.proofs.writer.put_refused.Goals as goal

pub returns : goal.returns
unfolding bytes_of
returns c = rw (← c.from.ensures) c.put_numbered.ensures
