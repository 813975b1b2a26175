-- The words up to a range's place are the map's.
use Prim.Native.Nat.{◌+◌, ◌*◌}
use mathlib.Core.Path.{◌≡◌}
use mathlib.Core.List.{◌++◌}
use lib.ListN.{length, take, drop}
use Rattle.map.specs.MapWords.{range_words, map_words}
use Rattle.capi.proofs.maps.store_map.Given as goal

abbrev pub invariant-loop-k : goal.invariant-loop-k
invariant-loop-k l =
    (length l.words ≡ 100) × (take (3 * l.k + 1) l.words ++ range_words (drop l.k l.fn.map.ranges) ≡ map_words l.fn.map)
