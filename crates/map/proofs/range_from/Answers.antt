-- `map::range_from` meets its contract. Assumes nothing.
use Rattle.std.proofs.Common.{◌∙◌, arith}
use Rattle.map.specs.Sweep.{spans_in}
use Rattle.map.proofs.RangeFromLaws.{from-later, from_past}
use Rattle.map.proofs.range_from.Goals.{then-at-span, else-at-span+else-at-span-2}
use Rattle.map.proofs.range_from.Goals as goal

pub loop-entry-preserved : goal.loop-entry-preserved
loop-entry-preserved c =
    let l = c.loop-entry in
    let spans = spans_in c.args.spans.now in
    elim c.if-at-span.branch [
      | then-at-span w ↦
          rw (w.end-is, w.min-end.ensures)
          (record {
            some = omega arith;
            passed = l.invariant.passed ∙ from-later spans c.args.at l.entry l.end c.loop-entry-test.true w.if-at-span.true;
          })
      | else-at-span+else-at-span-2 w ↦
          rw w.end-is
          (record {
            some = omega arith;
            passed = l.invariant.passed ∙ from_past spans c.args.at l.entry l.end c.loop-entry-test.true w.if-at-span.false w.if-at-span-2.false;
          })
    ]
