-- Words with words behind them, and two words. Assumes nothing.
use Rattle.std.proofs.Common.{ℕ, zero, suc, ◌+◌, ◌^◌, ◌<◌, List, [], ◌∷◌, ◌++◌, get_or, refl, ◌∙◌, arith, length-append}
use Rattle.bits.specs.Lists.{Words}

append_below : (xs ys : List ℕ) → ((i : ℕ) → get_or xs i 0 < 2 ^ 64) → ((i : ℕ) → get_or ys i 0 < 2 ^ 64) → (i : ℕ) → get_or (xs ++ ys) i 0 < 2 ^ 64
append_below [] ys h k i = k i
append_below (x ∷ xs) ys h k zero = h 0
append_below (x ∷ xs) ys h k (suc i) = append_below xs ys (λ j. h (suc j)) k i

pub words_append : (m n : ℕ) (xs ys : List ℕ) → Words m xs → Words n ys → Words (m + n) (xs ++ ys)
words_append m n xs ys v w = record {
  count = length-append xs ys ∙ (λ j. v.count j + w.count j);
  below = append_below xs ys v.below w.below;
}

pub two-words : (a b : ℕ) → a < 2 ^ 64 → b < 2 ^ 64 → Words 2 (a ∷ b ∷ [])
two-words a b h k = record { count = refl; below = under }
  where
    under : (i : ℕ) → get_or (a ∷ b ∷ []) i 0 < 2 ^ 64
    under zero = h
    under (suc zero) = k
    under (suc (suc i)) = omega arith
