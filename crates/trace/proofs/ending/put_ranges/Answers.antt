use Rattle.std.proofs.Common.{◌<◌, length, take, get_or, sym, refl, add-zero, arith, rules}
use Rattle.map.specs.declared.Range.{Range}
use Rattle.trace.specs.Endings.{range_lines}
use Rattle.trace.proofs.Writing.{put_both}
use Rattle.trace.proofs.Endings.{range_length, lines_more}
use Rattle.trace.proofs.ending.put_ranges.Goals as goal

pub loop-range-init : goal.loop-range-init
unfolding range_lines
loop-range-init c = record { room = omega arith; put = record { bytes = refl; behind = sym (add-zero c.args.place) } }

pub loop-range-preserved : goal.loop-range-preserved
loop-range-preserved c =
    let i = c.loop-range in
    let ranges = take c.count_read-n.result c.args.map.ranges in
    let d : Range = record { first = 0; last = 0; owner = 0 } in
    let more : i.range-index < length ranges = search rules in
    let one = lines_more ranges i.range-index d more in
    record {
      room = omega (arith, i.invariant.room, c.put_range-next.ensures.behind, range_length (get_or ranges i.range-index d));
      put = rw one at (put_both i.invariant.put c.put_range-next.ensures);
    }
