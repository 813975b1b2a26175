-- The words of the map of some words are these, and how many ranges some words have. Assumes nothing.
use Prim.Native.Nat.{ℕ, zero, suc, ◌+◌, ◌*◌, ◌-◌, ◌/◌, ◌≤◌, ◌<◌, min}
use mathlib.Core.Path.{◌≡◌, refl, sym, ap, ◌∙◌}
use mathlib.Core.List.{List, [], ◌∷◌}
use mathlib.Core.Logic.{◌⊎◌, inl, inr}
use native.Mathlib.Omega.{arith}
use lib.ListN.{length, get_or, take}
use lib.Seq.{take_all, length-take-le, get_or-take}
use Rattle.map.specs.declared.Range.{Range}
use Rattle.map.specs.Ranges.{range, no_range}
use Rattle.map.specs.Lookup.{ranges_in}
use Rattle.map.proofs.Lawful.{less}
use Rattle.map.specs.MapWords.{ranges_of_words, range_words, map_of_words, map_words}

-- the words of the ranges of words are the words, where there are three for each
ranges-back : (n : ℕ) (w : List ℕ) → length w ≡ 3 * n → range_words (ranges_of_words w) ≡ w
ranges-back n [] h = refl
ranges-back n (a ∷ []) h = absurd (omega arith)
ranges-back n (a ∷ b ∷ []) h = absurd (omega arith)
ranges-back zero (a ∷ b ∷ c ∷ w) h = absurd (omega arith)
ranges-back (suc n) (a ∷ b ∷ c ∷ w) h = ap (λ (l : List ℕ). a ∷ b ∷ c ∷ l) (ranges-back n w (omega arith))

-- the words of the map of 100 words are the words
pub map-words-back : (w : List ℕ) → length w ≡ 100 → map_words (map_of_words w) ≡ w
map-words-back [] h = absurd (omega arith)
map-words-back (count ∷ w) h = ap (λ (l : List ℕ). count ∷ l) (ranges-back 33 w (omega arith))

-- a range has the three words at its place
words_at : (v : List ℕ) (k : ℕ) (d : Range) → 3 * k + 3 ≤ length v
    → get_or (ranges_of_words v) k d ≡ range (get_or v (3 * k) 0) (get_or v (3 * k + 1) 0) (get_or v (3 * k + 2) 0)
words_at [] k d h = absurd (omega arith)
words_at (a ∷ []) k d h = absurd (omega arith)
words_at (a ∷ b ∷ []) k d h = absurd (omega arith)
words_at (a ∷ b ∷ c ∷ v) zero d h = refl
words_at (a ∷ b ∷ c ∷ v) (suc k) d h =
    let first : 3 * suc k ≡ suc (suc (suc (3 * k))) = omega arith in
    let last : 3 * suc k + 1 ≡ suc (suc (suc (3 * k + 1))) = omega arith in
    let owner : 3 * suc k + 2 ≡ suc (suc (suc (3 * k + 2))) = omega arith in
    rw (owner, last, first) (words_at v k d (omega arith))

-- ---- how many ranges some words have

three_each : (w : List ℕ) → length (ranges_of_words w) ≡ length w / 3
three_each [] = refl
three_each (a ∷ []) = refl
three_each (a ∷ b ∷ []) = refl
three_each (a ∷ b ∷ c ∷ w) = omega (arith, three_each w)

length-take : {A : Type 0} (n : ℕ) (l : List A) → length (take n l) ≡ min n (length l)
length-take n l = go (less n (length l))
  where
    go : (n < length l) ⊎ (length l ≤ n) → length (take n l) ≡ min n (length l)
    go (inl x) = length-take-le n l (omega arith) ∙ omega arith
    go (inr x) = ap length (take_all n l x) ∙ omega arith

-- the count that is read, and no more than there are whole ranges
ranges-count : (count : ℕ) (w : List ℕ) → length (ranges_in (map_of_words (count ∷ w))) ≡ min (min count 33) (length w / 3)
ranges-count count w = length-take (min count 33) (ranges_of_words w) ∙ ap (min (min count 33)) (three_each w)

pub ranges_number : (w : List ℕ) → 0 < length w → length (ranges_in (map_of_words w)) ≡ min (min (get_or w 0 0) 33) ((length w - 1) / 3)
ranges_number [] h = absurd (omega arith)
ranges_number (count ∷ w) h = let n : suc (length w) - 1 ≡ length w = omega arith in rw n (ranges-count count w)

-- there are three words for each, behind the count
pub ranges_room : (w : List ℕ) → 3 * length (ranges_in (map_of_words w)) ≤ length w - 1
ranges_room [] = omega arith
ranges_room (count ∷ w) = omega (arith, ranges-count count w)

-- the first of them lies behind the count
pub range_at : (w : List ℕ) (k : ℕ) → k < length (ranges_in (map_of_words w))
    → get_or (ranges_in (map_of_words w)) k no_range ≡ range (get_or w (3 * k + 1) 0) (get_or w (3 * k + 2) 0) (get_or w (3 * k + 3) 0)
range_at [] k h = absurd (omega arith)
range_at (count ∷ v) k h =
    let n = min count 33 in
    let room = ranges_room (count ∷ v) in
    let first : 3 * k + 1 ≡ suc (3 * k) = omega arith in
    let last : 3 * k + 2 ≡ suc (3 * k + 1) = omega arith in
    let owner : 3 * k + 3 ≡ suc (3 * k + 2) = omega arith in
    get_or-take n (ranges_of_words v) k no_range (omega (arith, length-take n (ranges_of_words v)))
    ∙ words_at v k no_range (omega arith)
    ∙ (λ j. range (get_or (count ∷ v) (sym first j) 0) (get_or (count ∷ v) (sym last j) 0) (get_or (count ∷ v) (sym owner j) 0))
