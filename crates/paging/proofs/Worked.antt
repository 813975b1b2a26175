-- The worked page tables hold of the definitions, by computation. Assumes nothing.
use Rattle.std.proofs.Common.{refl}
use Rattle.pmp.specs.Search.{lowest, any_byte, every_byte}
use Rattle.pmp.specs.Entry.{trailing_ones, span_of, address_read}
use Rattle.pmp.specs.Rule.{lowest_match, byte_rule}
use Rattle.paging.specs.Entry.{entry_says}
use Rattle.paging.specs.Walk.{table_read, found_at, walk_from, walked}
use Rattle.paging.specs.Access.{located, part_reached, parts_reached, reached}
use Rattle.paging.specs.Worked.{AllRight, settings}

pub worked : AllRight settings
unfolding lowest any_byte every_byte trailing_ones span_of address_read lowest_match byte_rule
    entry_says table_read found_at walk_from walked located part_reached parts_reached reached
worked =
    (refl, (refl, (refl, (refl, (refl, (refl, (refl, (refl, (refl, (refl, (refl, (refl, (refl, (refl, (refl, (refl, (refl, (refl, (refl, (refl, (refl, (refl, (refl, (refl, (refl, (refl, (refl, (refl, (refl, (refl, (refl, (refl, (refl, (refl, (refl, (refl, (refl, (refl, (refl, (refl, (refl, (refl, (refl, (refl, (refl, (refl, (refl, (refl, (refl, (refl, (refl, (refl, (refl, (refl, (refl, (refl, (refl, (refl, (refl, (refl, (refl, (refl, (refl, (refl, (refl, (refl, (refl, (refl, (refl, tt)))))))))))))))))))))))))))))))))))))))))))))))))))))))))))))))))))))
