-- `map::sweep` meets its contract: the ranges found stand in the array's first places, and what is left starts at the next byte.
-- There is room for the next range since there are at most 33. Assumes nothing.
use Rattle.std.proofs.Common.{◌-◌}
use Rattle.pmp.specs.Entry.{top}
use Rattle.map.specs.Sweep.{spans_in}
use Rattle.map.proofs.SweepLaws.{Swept}
use Rattle.map.proofs.sweep.Given as goal

abbrev pub invariant-loop-at : goal.invariant-loop-at
invariant-loop-at l = Swept (spans_in l.spans) l.ranges l.count l.at

abbrev pub decreases-loop-at : goal.decreases-loop-at
decreases-loop-at l = top - l.at
