use Rattle.std.proofs.Common.{◌+◌, ◌*◌, ◌≤◌, take}
use Rattle.trace.specs.Buffers.{Put}
use Rattle.trace.specs.Endings.{range_lines}
use Rattle.trace.proofs.ending.put_ranges.Given as goal

abbrev pub invariant-loop-range : goal.invariant-loop-range
invariant-loop-range l = record {
  room : l.next ≤ l.place + 64 * l.range-index;
  put : Put l.initial.out l.place (range_lines (take l.range-index l.range-items)) l.out l.next;
}
