-- What a write to satp leaves is what a hart can hold.
use Rattle.std.proofs.Common.{◌≡◌, ℕ, Bool, true, false, cond, ◌||◌, eqb}
use lib.Bits.{bit_and}
use Rattle.bits.proofs.Within.{within_mask}
use Rattle.paging.specs.Satp.{satp_mode, satp_mask, satp_holdable, satp_written}

pub satp_kept : (old value : ℕ) → satp_holdable old ≡ true → satp_holdable (satp_written old value) ≡ true
satp_kept old value held = go (eqb (satp_mode value) 0 || eqb (satp_mode value) 8)
  where
    go : (allowed : Bool) → satp_holdable (cond allowed (bit_and value satp_mask) old) ≡ true
    go true = within_mask satp_mask value
    go false = held
