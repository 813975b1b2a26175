-- `map::sweep` meets its contract. Assumes nothing.
use Rattle.std.proofs.Common.{arith}
use Rattle.map.specs.Sweep.{spans_in}
use Rattle.map.proofs.RangeFromLaws.{range_bounds}
use Rattle.map.proofs.SweepLaws.{swept_start, swept_room, swept_next, swept_end}
use Rattle.map.proofs.sweep.Goals as goal

pub loop-at-init : goal.loop-at-init
loop-at-init c = swept_start (spans_in c.args.spans.now) c.requires

-- there is room for the next range
pub offset_bounds-ranges-count : goal.offset_bounds-ranges-count
offset_bounds-ranges-count c =
    let l = c.loop-at in
    omega (arith, swept_room (spans_in c.args.spans.now) c.requires l.ranges l.count l.at l.invariant c.loop-at-test.true)

pub bounds-ranges-count : goal.bounds-ranges-count
bounds-ranges-count c =
    let l = c.loop-at in
    omega (arith, swept_room (spans_in c.args.spans.now) c.requires l.ranges l.count l.at l.invariant c.loop-at-test.true)

pub overflow_add-count : goal.overflow_add-count
overflow_add-count c =
    let l = c.loop-at in
    omega (arith, swept_room (spans_in c.args.spans.now) c.requires l.ranges l.count l.at l.invariant c.loop-at-test.true)

-- it holds the byte and lies in memory
pub overflow_add-at : goal.overflow_add-at
overflow_add-at c =
    let r = c.range_from-range in
    omega (arith, range_bounds (spans_in c.args.spans.now) c.loop-at.at c.requires r.result c.loop-at-test.true r.ensures)

pub loop-at-smaller : goal.loop-at-smaller
loop-at-smaller c =
    let r = c.range_from-range in
    omega (arith, range_bounds (spans_in c.args.spans.now) c.loop-at.at c.requires r.result c.loop-at-test.true r.ensures)

pub loop-at-preserved : goal.loop-at-preserved
loop-at-preserved c =
    let l = c.loop-at in
    swept_next (spans_in c.args.spans.now) c.requires l.ranges l.count l.at c.range_from-range.result l.invariant c.loop-at-test.true
    c.range_from-range.ensures

pub returns : goal.returns
returns c =
    let l = c.loop-at in swept_end (spans_in c.args.spans.now) c.requires l.ranges l.count l.at l.invariant c.loop-at-test.false
