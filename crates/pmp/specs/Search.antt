-- 01, "Protection, byte by byte": the lowest entry, any byte and all bytes that pass a test; 02, [5]: the lowest number that the bytes have.
use Rattle.std.specs.Prelude.{ℕ, zero, suc, min, Bool, true, false, cond, ◌&&◌, ◌||◌}

-- the lowest of the n numbers from i on that passes the test, and i + n where none does
unfoldable pub lowest : (ℕ → Bool) → ℕ → ℕ → ℕ
lowest test zero i = i
lowest test (suc n) i = cond (test i) i (lowest test n (suc i))

-- some byte of the n from `address` on passes the test
unfoldable pub any_byte : (ℕ → Bool) → ℕ → ℕ → Bool
any_byte test zero address = false
any_byte test (suc n) address = test address || any_byte test n (suc address)

-- every byte of the n from `address` on passes the test
unfoldable pub every_byte : (ℕ → Bool) → ℕ → ℕ → Bool
every_byte test zero address = true
every_byte test (suc n) address = test address && every_byte test n (suc address)

-- the least number that the n bytes from `address` on have, and no more than `most`
unfoldable pub least : ℕ → (ℕ → ℕ) → ℕ → ℕ → ℕ
least most number zero address = most
least most number (suc n) address = min (number address) (least most number n (suc address))
