use Rattle.trace.proofs.Writing.{put_both, put-length, put_word}
use Rattle.std.proofs.Common.{arith}
use Rattle.trace.proofs.writer.put_word.Goals as goal

pub returns : goal.returns
returns c =
    put_both c.put-next.ensures (put_word c.args.word c.put-next.new.out c.write_word.new.text c.put-next.result
    (omega (arith, c.requires, c.put-next.ensures.behind, put-length c.put-next.ensures)) c.write_word.ensures)
