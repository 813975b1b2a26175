-- The ranges of the entries are the map of 01, and the only one. Assumes nothing.
use Prim.Native.Nat.{ℕ, ◌-◌, ◌≤◌, ◌<◌, min}
use mathlib.Core.Path.{◌≡◌}
use mathlib.Core.List.{List}
use native.Mathlib.Omega.{arith}
use lib.ListN.{length, take, replicate}
use lib.Seq.{take-append_seam}
use Rattle.pmp.specs.declared.Span.{Span}
use Rattle.pmp.specs.Entry.{top, entry_span}
use Rattle.pmp.specs.Rule.{owner_of}
use Rattle.pmp.proofs.EntryLaws.{span_bounds}
use Rattle.map.specs.declared.Range.{Range}
use Rattle.map.specs.Lookup.{ranges_in}
use Rattle.map.specs.Ranges.{IsMap}
use Rattle.map.specs.Painting.{ranges_of}
use Rattle.map.specs.Compiled.{padding, map_of, compiled}
use Rattle.map.proofs.Lawful.{Lawful, lawful-map}
use Rattle.map.proofs.Painting.{Short, painted-lawful}

pub read-back_list : (rs : List Range) → length rs ≤ 33 → ranges_in (map_of rs) ≡ rs
read-back_list rs h =
    let e : min (length rs) 33 ≡ length rs = omega arith in
    rw e (take-append_seam rs (replicate (33 - length rs) padding))

module _ (spans : ℕ → Span) (bounded : (k : ℕ) → k < 16 → (spans k).high ≤ top) where
  ranges-lawful : Short (owner_of spans) 17 0 (ranges_of spans) 33
  unfolding ranges_of owner_of
  ranges-lawful = painted-lawful spans bounded 16 (omega arith)

  pub lawful-ranges : Lawful (owner_of spans) 17 0 (ranges_of spans)
  lawful-ranges = ranges-lawful.lawful

  -- sixteen entries make at most 33 ranges
  pub count-bound : length (ranges_of spans) ≤ 33
  count-bound = ranges-lawful.short

  pub is_map : IsMap spans (ranges_of spans)
  is_map = lawful-map spans (ranges_of spans) lawful-ranges

module _ (g : ℕ) (cfgs addrs : List ℕ) where
  -- no entry matches a byte past the end of memory
  pub entry-below : (k : ℕ) → k < 16 → (entry_span g cfgs addrs k).high ≤ top
  entry-below k h = (span_bounds _ _ _).1

  -- a compiled map is read as the ranges of the registers
  pub read_back_lem : ranges_in (compiled g cfgs addrs) ≡ ranges_of (entry_span g cfgs addrs)
  unfolding compiled
  read_back_lem = read-back_list (ranges_of (entry_span g cfgs addrs)) (count-bound (entry_span g cfgs addrs) entry-below)

  -- up to its count, of at most 33, the compiled map is the ranges of the registers
  pub compiled-ranges : take (compiled g cfgs addrs).count (compiled g cfgs addrs).ranges ≡ ranges_of (entry_span g cfgs addrs)
  unfolding compiled
  compiled-ranges =
      take-append_seam (ranges_of (entry_span g cfgs addrs)) (replicate (33 - length (ranges_of (entry_span g cfgs addrs))) padding)

  -- so it is the map of the registers as it is read
  pub compiled_is_map : IsMap (entry_span g cfgs addrs) (ranges_in (compiled g cfgs addrs))
  compiled_is_map = rw read_back_lem (is_map (entry_span g cfgs addrs) entry-below)
