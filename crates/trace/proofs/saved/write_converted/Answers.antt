use Rattle.trace.specs.SavedTexts.{converted_output}
use Rattle.trace.proofs.Writing.{not_written, written}
use Rattle.trace.proofs.SavedTexts.{converted-length, converted-put}
use Rattle.trace.proofs.saved.write_converted.Goals as goal

pub returns-then-out-lt1094 : goal.returns-then-out-lt1094
returns-then-out-lt1094 c = let a = c.args in
    let both = not_written 1094 (converted_output a.to a.text.now) a.out.now c.if-out-lt1094.true in
    record {
      value = both.0;
      out_after = both.1.0;
      upper_bound = both.1.1;
    }

pub returns : goal.returns
returns c = let a = c.args in
    let t = a.text.now in
    let both = written 1094 (converted_output a.to t) a.out.now c.put_refusal.new.out c.put_refusal.result c.if-out-lt1094.false (converted-length a.to t)
    (converted-put a.to a.out.now c.if-out-lt1094.false (c.put_refusal.ensures.value, c.put_refusal.ensures.out_after) t c.convert-answer.ensures.value c.convert-answer.ensures.buffer_after) in
    record {
      value = both.0;
      out_after = both.1.0;
      upper_bound = both.1.1;
    }
