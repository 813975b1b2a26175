-- 01, "What a hart can hold", and 02, [8]: the bits of each register that a hart can hold.
use Rattle.std.specs.Prelude.{ℕ}

-- mstatus = 0xA00000000 (SXL=UXL=2) plus bits within 0x7E19AA
abbrev pub mstatus_mask : ℕ
mstatus_mask = 0x7E19AA

abbrev pub sxl_uxl : ℕ
sxl_uxl = 0xA00000000

-- 01, "Registers and access to them", with SUM of 02, [8]: sstatus within 0xC0122, plus UXL
abbrev pub sstatus_mask : ℕ
sstatus_mask = 0xC0122

abbrev pub uxl : ℕ
uxl = 0x200000000

-- exceptions 0 to 9 and, by 02, [8], the page faults 12, 13 and 15
abbrev pub medeleg_mask : ℕ
medeleg_mask = 0xB3FF

abbrev pub mideleg_mask : ℕ
mideleg_mask = 0x222

abbrev pub mie_mask : ℕ
mie_mask = 0xAAA

-- the software bits of mip
abbrev pub mip_mask : ℕ
mip_mask = 0x222

abbrev pub lines_mask : ℕ
lines_mask = 0xA88

-- mcounteren, scounteren, mcountinhibit
abbrev pub counters_mask : ℕ
counters_mask = 0x5

-- mcause, scause
abbrev pub cause_mask : ℕ
cause_mask = 0x800000000000003F
