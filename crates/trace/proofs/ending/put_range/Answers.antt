use Rattle.lines.specs.Lines.{bytes_of, hex_digits}
use Rattle.trace.specs.Endings.{range_line}
use Rattle.trace.proofs.Writing.{put_both}
use Rattle.trace.proofs.ending.put_range.Goals as goal

pub returns : goal.returns
unfolding range_line bytes_of hex_digits
returns c =
    put_both c.put_word-next.ensures (put_both c.put_word-next-2.ensures (put_both c.put-next.ensures (put_both c.put_owner-next.ensures c.put.ensures)))
