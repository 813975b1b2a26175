-- 02, [11]: what of an access depends on the address alone, as one number for each of the 4,096 CSR addresses.
use Rattle.std.specs.Prelude.{ℕ, ◌+◌, ◌*◌, cond}
use Rattle.csr.specs.Permit.{present, lowest_mode, read_only}

-- 0 where no register is present; else bit 0, the lowest mode in bits 2:1, and bit 3 where the register is read-only
abbrev pub accessibility : ℕ → ℕ
accessibility n = cond (present n) (1 + 2 * lowest_mode n + 8 * cond (read_only n) 1 0) 0
