-- 02, [8]: the register satp. MODE is bits 63:60, ASID bits 59:44, PPN bits 43:0.
use Rattle.std.specs.Prelude.{ℕ, ◌/◌, ◌^◌, Bool, cond, ◌||◌, ◌==◌, bit_and}
use Rattle.bits.specs.Mask.{within}

-- MODE: 0 is no translation, 8 is Sv39
abbrev pub satp_mode : ℕ → ℕ
satp_mode satp = satp / 2 ^ 60

-- MODE 0 or 8; ASID reads 0; PPN 44 bits
abbrev pub satp_mask : ℕ
satp_mask = 0x80000FFFFFFFFFFF

abbrev pub satp_holdable : ℕ → Bool
satp_holdable satp = within satp_mask satp

-- a write with another MODE is ignored whole; ASID bits are dropped
abbrev pub satp_written : ℕ → ℕ → ℕ
satp_written old value = cond (satp_mode value == 0 || satp_mode value == 8) (bit_and value satp_mask) old
