-- `map::range_from` meets its contract: the entries from the next one on, and the bytes that those before leave, decide the range. Assumes nothing.
use Rattle.std.proofs.Common.{◌≡◌, ◌<◌, ◌-◌}
use Rattle.pmp.specs.Entry.{top}
use Rattle.map.specs.Sweep.{spans_in, range_from}
use Rattle.map.proofs.range_from.Given as goal

abbrev pub invariant-loop-entry : goal.invariant-loop-entry
invariant-loop-entry l = record {
  some : 0 < l.end;
  passed : range_from (spans_in l.spans) l.at 16 0 top ≡ range_from (spans_in l.spans) l.at (16 - l.entry) l.entry l.end;
}
