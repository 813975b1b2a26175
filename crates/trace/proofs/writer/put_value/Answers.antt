use Rattle.lines.specs.Lines.{bytes_of, hex_digits}
use Rattle.trace.proofs.Writing.{put_both}
use Rattle.trace.proofs.writer.put_value.Goals as goal

pub returns : goal.returns
unfolding bytes_of hex_digits
returns c = put_both c.put_word-next.ensures c.put.ensures
