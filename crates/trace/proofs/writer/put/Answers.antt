use Rattle.std.proofs.Common.{◌+◌, get_or, sym, refl, ◌∙◌, arith, length-set}
use Rattle.trace.proofs.Writing.{put-start, put_more, put_all}
use Rattle.trace.proofs.writer.put.Goals as goal

pub loop-i-init : goal.loop-i-init
loop-i-init c = record { long = refl; rest = put-start c.args.text.now c.args.out.now c.args.place }

pub loop-i-preserved : goal.loop-i-preserved
loop-i-preserved c =
    let l = c.loop-i in
    let a = c.args in record {
      long = length-set l.out (a.place + l.i) (get_or a.text.now l.i 0) ∙ l.invariant.long;
      rest = l.invariant.rest ∙ put_more a.text.now l.out a.place l.i (omega arith);
    }

pub returns : goal.returns
returns c =
    let l = c.loop-i in
    let a = c.args in record {
      bytes = sym (l.invariant.rest ∙ put_all a.text.now l.out (a.place + l.i) l.i (omega arith));
      behind = refl;
    }
