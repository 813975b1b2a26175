-- 01, "What a hart can hold", and 02, [8] and [9]: all registers.
use Rattle.std.specs.Prelude.{ℕ, Bool, ◌&&◌}
use Rattle.registers.specs.Hold.{registers_holdable, reset_registers}
use Rattle.protection.specs.Hold.{pmp_holdable, reset_pmp}
use Rattle.paging.specs.Satp.{satp_holdable}
use Rattle.state.specs.declared.State.{State}

unfoldable pub can_hold : State → Bool
can_hold s = registers_holdable s.registers && (pmp_holdable s.pmp && satp_holdable s.satp)

-- reset of a hart with grain g: mode 3, pc 0x1000 (house), mstatus 0xA00000000, all other registers 0
abbrev pub reset_state : ℕ → State
reset_state g = record { registers = reset_registers; pmp = reset_pmp g; satp = 0 }
