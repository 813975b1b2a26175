use Rattle.std.proofs.Common.{sym, refl, add-zero}
use Rattle.bits.specs.Fold.{fold, outputs}
use Rattle.trace.specs.Batches.{records_of}
use Rattle.trace.specs.Replies.{written}
use Rattle.trace.proofs.feeding.read_first.Goals as goal

pub batch-requires-clause-count_in_bounds_2 : goal.batch-requires-clause-count_in_bounds_2
unfolding records_of
batch-requires-clause-count_in_bounds_2 g c = rw c.in-Some.is at c.requires.count_in_bounds

pub returns-in-None-clause-batch : goal.returns-in-None-clause-batch
unfolding fold outputs written
returns-in-None-clause-batch g c map = rw c.in-None.is (record { replay = refl; put = record { bytes = refl; behind = sym (add-zero c.args.start.filled) } })
