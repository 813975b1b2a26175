-- `map::compile` meets its contract: the array holds the bytes of the entries before the next one. Assumes nothing.
use Rattle.std.proofs.Common.{◌≡◌, length}
use Rattle.pmp.specs.Entry.{address_before, entry_span}
use Rattle.map.proofs.SweepLaws.{Filled}
use Rattle.map.proofs.compile.Given as goal

abbrev pub invariant-loop-entry : goal.invariant-loop-entry
invariant-loop-entry l = record {
  held : length l.spans ≡ 16;
  before : l.before ≡ address_before l.fn.addrs l.entry;
  filled : Filled (entry_span l.grain l.cfgs l.fn.addrs) l.spans l.entry;
}
