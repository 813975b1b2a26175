-- Words as sets of bits.
use Rattle.std.specs.Prelude.{ℕ, ◌-◌, ◌/◌, ◌%◌, ◌^◌, Bool, eqb}
use Rattle.std.specs.Int.Bits.{bit_and, bit_or}

-- the word has no bit outside the mask
abbrev pub within : ℕ → ℕ → Bool
within mask word = eqb (bit_and word mask) word

-- bit number `place` of the word is 1
abbrev pub test_bit : ℕ → ℕ → Bool
test_bit word place = eqb (word / 2 ^ place % 2) 1

-- the word without the bits of the mask
abbrev pub cleared : ℕ → ℕ → ℕ
cleared mask word = bit_and word (2 ^ 64 - 1 - mask)

-- the word with the bits of the mask taken from the value
abbrev pub replaced : ℕ → ℕ → ℕ → ℕ
replaced mask value word = bit_or (cleared mask word) (bit_and value mask)
