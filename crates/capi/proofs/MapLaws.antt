-- The turns of the loops over a map's words. Assumes nothing.
use Prim.Native.Nat.{ℕ, suc, ◌+◌, ◌*◌, ◌≤◌, ◌<◌}
use mathlib.Core.Path.{◌≡◌, sym, ◌∙◌}
use mathlib.Core.List.{List, [], ◌∷◌, ◌++◌, append_assoc, append-nil}
use native.Mathlib.Omega.{arith}
use native.Mathlib.Numerals.{add-one}
use lib.ListN.{length, get_or, take, drop, set, length-set, drop_of_length-le}
use lib.Seq.{take-suc-set, take_all, drop-cons}
use Rattle.map.specs.declared.Map.{Map}
use Rattle.map.specs.Ranges.{range}
use Rattle.map.specs.MapWords.{range_words, map_words}

-- ---- three words in a row

three-written : (l : List ℕ) (i a b c : ℕ) → i + 3 ≤ length l
    → take (i + 3) (set (set (set l i a) (i + 1) b) (i + 2) c) ≡ take i l ++ (a ∷ b ∷ c ∷ [])
three-written l i a b c h =
    let p : i + 1 ≡ suc i = omega arith in
    let q : i + 2 ≡ suc (suc i) = omega arith in
    let r : i + 3 ≡ suc (suc (suc i)) = omega arith in
    let m = set l i a in
    let n = set m (suc i) b in
    let lm : length m ≡ length l = length-set l i a in
    let ln : length n ≡ length m = length-set m (suc i) b in
    rw (p, q, r, take-suc-set n (suc (suc i)) c (omega arith), take-suc-set m (suc i) b (omega arith), take-suc-set l i a (omega arith))
    (simp append_assoc)

-- ---- a map to words

module _ (m : Map) (full : length m.ranges ≡ 33) where
  pub map-start : (w : List ℕ) → length w ≡ 100 → take 1 (set w 0 m.count) ++ range_words (drop 0 m.ranges) ≡ map_words m
  map-start w h = rw (take-suc-set w 0 m.count (omega arith))

  pub map_next : (w : List ℕ) (k : ℕ) → k < 33 → length w ≡ 100
      → take (3 * k + 1) w ++ range_words (drop k m.ranges) ≡ map_words m
      → let r = get_or m.ranges k (range 0 0 0) in
      let at = 3 * k + 1 in
      take (3 * (k + 1) + 1) (set (set (set w at r.first) (at + 1) r.last) (at + 2) r.owner) ++ range_words (drop (k + 1) m.ranges) ≡ map_words m
  map_next w k h l e =
      let r = get_or m.ranges k (range 0 0 0) in
      let at = 3 * k + 1 in
      let c : drop k m.ranges ≡ r ∷ drop (suc k) m.ranges = drop-cons m.ranges k (range 0 0 0) (omega arith) in
      let n : 3 * (k + 1) + 1 ≡ at + 3 = omega arith in
      rw (n, three-written w at r.first r.last r.owner (omega arith), append_assoc, add-one k) (rw c at e)

  pub map_end : (w : List ℕ) (k : ℕ) → k ≤ 33 → 33 ≤ k → length w ≡ 100 → take (3 * k + 1) w ++ range_words (drop k m.ranges) ≡ map_words m
      → w ≡ map_words m
  map_end w k h g l e =
      let short : length m.ranges ≤ k = omega arith in
      let n : drop k m.ranges ≡ [] = drop_of_length-le m.ranges short in
      sym (append-nil w) ∙ (rw (n, take_all (3 * k + 1) w (omega arith)) at e)
