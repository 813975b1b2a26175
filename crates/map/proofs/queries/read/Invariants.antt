-- `map::queries::read` meets its contract: what is read and the ranges from the next one on read the whole. Assumes nothing.
use Rattle.std.proofs.Common.{◌≡◌, drop}
use Rattle.bits.specs.Fold.{fold}
use Rattle.map.specs.Reading.{read_range, read_ranges}
use Rattle.map.proofs.queries.read.Given as goal

abbrev pub invariant-loop-number : goal.invariant-loop-number
invariant-loop-number g l =
    let rs = g.R.Ranges.ranges l.ranges in
    read_ranges l.address l.size rs ≡ fold (read_range l.address) l.reading (drop l.number rs)
