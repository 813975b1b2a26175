-- 01, "What a hart can hold" and "Traps, returns, time": the fields of mstatus, by level where both have one.
use Rattle.std.specs.Prelude.{ℕ, ◌*◌, ◌/◌, Bool}
use Rattle.std.specs.Int.Bits.{bit_and, bit_or}
use Rattle.bits.specs.Mask.{test_bit}
use Rattle.steps.specs.declared.Level.{Level}
use Rattle.steps.specs.declared.Level.TheVariants.{Supervisor, Machine}
use Rattle.registers.specs.declared.Registers.{Registers}

-- MIE and SIE
abbrev pub ie_mask : Level → ℕ
ie_mask Supervisor = 0x2
ie_mask Machine = 0x8

-- MIE or SIE is 1
abbrev pub enabled : Level → ℕ → Bool
enabled Supervisor mstatus = test_bit mstatus 1
enabled Machine mstatus = test_bit mstatus 3

-- MPIE and SPIE, four places above
abbrev pub pie_mask : Level → ℕ
pie_mask Supervisor = 0x20
pie_mask Machine = 0x80

-- MPP and SPP
abbrev pub pp_mask : Level → ℕ
pp_mask Supervisor = 0x100
pp_mask Machine = 0x1800

-- the lowest bit of MPP and of SPP
abbrev pub pp_unit : Level → ℕ
pp_unit Supervisor = 0x100
pp_unit Machine = 0x800

-- how many modes MPP and SPP can name: two bits and one
abbrev pub pp_modes : Level → ℕ
pp_modes Supervisor = 2
pp_modes Machine = 4

-- the number in MPP or SPP
abbrev pub previous_mode : Level → ℕ → ℕ
previous_mode level mstatus = bit_and mstatus (pp_mask level) / pp_unit level

-- MPP=2, which no hart can hold
abbrev pub mpp_two : ℕ
mpp_two = 2 * pp_unit Machine

abbrev pub mprv_mask : ℕ
mprv_mask = 0x20000

abbrev pub mprv : ℕ → Bool
mprv mstatus = test_bit mstatus 17

-- 02, [8]: SUM is writable
abbrev pub sum : ℕ → Bool
sum mstatus = test_bit mstatus 18

abbrev pub mxr : ℕ → Bool
mxr mstatus = test_bit mstatus 19

abbrev pub tvm : ℕ → Bool
tvm mstatus = test_bit mstatus 20

abbrev pub tw : ℕ → Bool
tw mstatus = test_bit mstatus 21

abbrev pub tsr : ℕ → Bool
tsr mstatus = test_bit mstatus 22

-- 01, "Registers and access to them": mip reads software bits or lines
abbrev pub pending : Registers → ℕ
pending r = bit_or r.interrupts.mip r.interrupts.lines
