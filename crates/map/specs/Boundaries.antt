-- 02, [7]: "sixteen entries make at most 32 inner boundaries, each the first byte an entry matches or the byte after its last".
use Rattle.std.specs.Prelude.{ℕ, ◌+◌, ◌≤◌, ◌<◌, ◌≡◌, true, false, List, [], ◌∷◌, map, ◌⊎◌, length, take, drop}
use Rattle.pmp.specs.declared.Span.{Span}
use Rattle.pmp.specs.Entry.{entries, matches}
use Rattle.map.specs.declared.Range.{Range}
use Rattle.map.specs.declared.Map.{Map}
use Rattle.map.specs.Ranges.{IsMap}

-- the first byte that entry i matches
abbrev pub FirstByte : (ℕ → Span) → ℕ → ℕ → Type 0
FirstByte spans i byte = (matches spans i byte ≡ true) × ((lower : ℕ) → lower < byte → matches spans i lower ≡ false)

-- the last byte that entry i matches
abbrev pub LastByte : (ℕ → Span) → ℕ → ℕ → Type 0
LastByte spans i byte = (matches spans i byte ≡ true) × ((higher : ℕ) → byte < higher → matches spans i higher ≡ false)

-- the first byte that one of the sixteen entries matches, or the byte after its last
pub record Edge (spans : ℕ → Span) (byte : ℕ) : Type 0 where
  pub entry : ℕ
  pub within : entry < entries
  pub at : FirstByte spans entry byte ⊎ ((last : ℕ) × (byte ≡ last + 1) × LastByte spans entry last)

-- each of the bytes is an edge
abbrev pub AllEdges : (ℕ → Span) → List ℕ → Type 0
AllEdges spans [] = Unit {0}
AllEdges spans (byte ∷ bytes) = Edge spans byte × AllEdges spans bytes

-- where the ranges up to the map's count begin, but for the first
abbrev pub inner_boundaries : Map → List ℕ
inner_boundaries m = drop 1 (map (λ (r : Range). r.first) (take m.count m.ranges))

-- what [7] says of a map and the entries that it is compiled for
pub record Boundaries (spans : ℕ → Span) (m : Map) : Type 0 where
  -- its ranges are those that 01 lays down, so that an inner boundary is where the owner changes
  pub laid : IsMap spans (take m.count m.ranges)
  -- "at most 32 inner boundaries"
  pub most : length (inner_boundaries m) ≤ 32
  -- "each the first byte an entry matches or the byte after its last"
  pub edges : AllEdges spans (inner_boundaries m)
  -- the count is one more, so at most 33
  pub count : m.count ≡ length (inner_boundaries m) + 1
  pub bounded : m.count ≤ 33
