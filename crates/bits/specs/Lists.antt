-- Lists of numbers: a test of every element, a part by its elements, and words.
use Rattle.std.specs.Prelude.{ℕ, zero, suc, ◌+◌, ◌^◌, ◌<◌, ◌≡◌, Bool, true, ◌&&◌, List, [], ◌∷◌, length, get_or}

-- every element passes the test
unfoldable pub all : (ℕ → Bool) → List ℕ → Bool
all test [] = true
all test (x ∷ xs) = test x && all test xs

-- n elements from number i on
unfoldable pub elements : ℕ → ℕ → List ℕ → List ℕ
elements zero i l = []
elements (suc n) i l = get_or l i 0 ∷ elements n (i + 1) l

-- n words of 64 bits
pub record Words (n : ℕ) (ws : List ℕ) : Type 0 where
  pub count : length ws ≡ n
  pub below : (i : ℕ) → get_or ws i 0 < 2 ^ 64
