-- `pmp::search::lowest_match` meets its contract. Inner loop: what is left of the bytes decides whether the entry matches any.
-- Outer loop: what is left of the entries decides which is the lowest, and the address before is at hand. Assumes nothing.
use Rattle.std.proofs.Common.{◌≡◌, ◌+◌, ◌-◌}
use Rattle.pmp.specs.Search.{any_byte, lowest}
use Rattle.pmp.specs.Entry.{address_before, entry_span, contains, matches}
use Rattle.pmp.specs.Rule.{lowest_match}
use Rattle.pmp.proofs.search.lowest_match.Given as goal

abbrev pub invariant-loop-byte : goal.invariant-loop-byte
invariant-loop-byte l =
    any_byte (contains l.span) l.size l.address ≡ any_byte (contains l.span) (l.size - l.byte) (l.address + l.byte)

abbrev pub invariant-loop-entry : goal.invariant-loop-entry
invariant-loop-entry l =
    let spans = entry_span l.grain l.cfgs l.addrs in
    record {
      before : l.before ≡ address_before l.addrs l.entry;
      passed : lowest_match spans l.address l.size ≡ lowest (λ i. any_byte (matches spans i) l.size l.address) (16 - l.entry) l.entry;
    }
