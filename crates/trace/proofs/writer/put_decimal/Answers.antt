use Rattle.std.proofs.Common.{ap, length, arith}
use Rattle.trace.proofs.Writing.{put_digit, front_decimal}
use Rattle.trace.proofs.writer.put_decimal.Goals as goal

pub bounds-out-place : goal.bounds-out-place
bounds-out-place c = omega (arith, (put_digit c.args.number c.args.out.now c.args.place c.if-number-lt10.true).behind)

pub overflow_add-result : goal.overflow_add-result
overflow_add-result c = omega (arith, (put_digit c.args.number c.args.out.now c.args.place c.if-number-lt10.true).behind)

pub returns-then-number-lt10 : goal.returns-then-number-lt10
returns-then-number-lt10 c = put_digit c.args.number c.args.out.now c.args.place c.if-number-lt10.true

pub put-requires : goal.put-requires
put-requires c =
    let more = front_decimal c.decimal-count.result c.args.number c.decimal-count.new.out c.ranges.number.fits c.decimal-count.ensures.len c.decimal-count.ensures.digits in
    omega (arith, ap length more)

pub returns : goal.returns
returns c =
    rw (front_decimal c.decimal-count.result c.args.number c.decimal-count.new.out c.ranges.number.fits c.decimal-count.ensures.len c.decimal-count.ensures.digits) at c.put.ensures
