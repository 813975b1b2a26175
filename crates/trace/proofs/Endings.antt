-- The lines behind those of the records.
use Rattle.std.proofs.Common.{◌≡◌, ℕ, ◌+◌, ◌*◌, ◌<◌, ◌≤◌, min, Bool, true, false, cond, eqb, List, [], ◌∷◌, ◌++◌, length, get_or, take, sym, refl, ap, ◌∙◌, append_assoc, append-nil, add-one, arith, length-append, length-take, take-suc}
use Rattle.map.specs.declared.Range.{Range}
use Rattle.map.specs.declared.Map.{Map}
use Rattle.map.specs.Lookup.{ranges_in}
use Rattle.lines.specs.Lines.{bytes_of, hex_digits}
use Rattle.hart.specs.declared.Hart.{Hart}
use Rattle.trace.specs.Answers.{decimal, numbered_line}
use Rattle.trace.specs.SavedTexts.{state_text}
use Rattle.trace.specs.Endings.{owner_text, range_line, range_lines, ending}
use Rattle.trace.proofs.Writing.{parts, decimal-length, hex_length, numbered_length}
use Rattle.trace.proofs.SavedTexts.{state-length}

-- ---- ranges

pub owner-length : (owner : ℕ) → length (owner_text owner) ≤ 20
unfolding owner_text bytes_of
owner-length owner = go (eqb owner 16)
  where
    go : (b : Bool) → length (cond b (110 ∷ 111 ∷ 110 ∷ 101 ∷ []) (decimal owner)) ≤ 20
    go true = omega arith
    go false = decimal-length 20 owner

pub range_length : (r : Range) → length (range_line r) ≤ 64
unfolding range_line bytes_of
range_length r =
    let owner = owner_text r.owner ++ (10 ∷ []) in
    let last = hex_digits 16 r.last ++ (32 ∷ owner) in
    omega (
      arith,
      length-append (hex_digits 16 r.first) (32 ∷ last),
      hex_length r.first,
      length-append (hex_digits 16 r.last) (32 ∷ owner),
      hex_length r.last,
      length-append (owner_text r.owner) (10 ∷ []),
      owner-length r.owner,
    )

lines_append : (rs ss : List Range) → range_lines (rs ++ ss) ≡ range_lines rs ++ range_lines ss
unfolding range_lines
lines_append [] ss = refl
lines_append (r ∷ rs) ss = ap (λ (l : List ℕ). range_line r ++ l) (lines_append rs ss) ∙ sym (append_assoc (range_line r) (range_lines rs) (range_lines ss))

pub lines-length : (rs : List Range) → length (range_lines rs) ≤ 64 * length rs
unfolding range_lines
lines-length [] = omega arith
lines-length (r ∷ rs) = omega (arith, length-append (range_line r) (range_lines rs), range_length r, lines-length rs)

-- one range more
pub lines_more : (rs : List Range) (k : ℕ) (d : Range) → k < length rs → range_lines (take k rs) ++ range_line (get_or rs k d) ≡ range_lines (take (k + 1) rs)
unfolding range_lines
lines_more rs k d h =
    let r = get_or rs k d in
    sym (ap (λ (n : ℕ). range_lines (take n rs)) (add-one k) ∙ ap range_lines (take-suc rs k d h) ∙ lines_append (take k rs) (r ∷ [])
    ∙ ap (λ (l : List ℕ). range_lines (take k rs) ++ l) (append-nil (range_line r)))

pub ranges-length : (m : Map) → length (range_lines (ranges_in m)) ≤ 2112
ranges-length m =
    let n = min m.count 33 in
    omega (arith, lines-length (ranges_in m), length-take n m.ranges)

pub ending-length : (h : Hart) (map : Map) (left : ℕ) → length (ending h map left) ≤ 4096
unfolding ending bytes_of
ending-length h map left =
    let name = bytes_of "left " in
    let last = numbered_line name left in
    omega (
      arith,
      length-append (state_text h) (range_lines (ranges_in map) ++ last),
      state-length h,
      length-append (range_lines (ranges_in map)) last,
      ranges-length map,
      numbered_length name left,
    )

-- how long the parts of an ending are
pub ruleset lengths = (parts, owner-length, range_length, ranges-length, state-length)
