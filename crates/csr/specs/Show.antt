-- 01, "Registers and access to them": what a read gives.
use Rattle.std.specs.Prelude.{ℕ, cond, eqb}
use Rattle.std.specs.Int.Bits.{bit_and, bit_or}
use Rattle.registers.specs.declared.Registers.{Registers}
use Rattle.registers.specs.Masks.{sstatus_mask, uxl}
use Rattle.registers.specs.Status.{pending}

-- sstatus shows mstatus within 0xC0122 plus UXL
abbrev pub sstatus : ℕ → ℕ
sstatus mstatus = bit_or (bit_and mstatus sstatus_mask) uxl

-- sie shows mie within mideleg
abbrev pub sie : Registers → ℕ
sie r = bit_and r.interrupts.mie r.interrupts.mideleg

-- sip reads mip within mideleg
abbrev pub sip : Registers → ℕ
sip r = bit_and (pending r) r.interrupts.mideleg

-- misa (301)
abbrev pub misa : ℕ
misa = 0x8000000000141101

-- the register's value, by its number; F11 to F15, 323 to 33F, B03 to B1F, C03 to C1F, 30A, 10A read 0, and so do the numbers of no register here: 180
-- and those of protection, which the step rule reads where they are, and numbers not present
unfoldable pub register_read : Registers → ℕ → ℕ
register_read r n =
    cond (eqb n 0x100) (sstatus r.mstatus)
    (cond (eqb n 0x104) (sie r)
    (cond (eqb n 0x105) r.supervisor.tvec
    (cond (eqb n 0x106) r.supervisor.counteren
    (cond (eqb n 0x140) r.supervisor.scratch
    (cond (eqb n 0x141) r.supervisor.epc
    (cond (eqb n 0x142) r.supervisor.cause
    (cond (eqb n 0x143) r.supervisor.tval
    (cond (eqb n 0x144) (sip r)
    (cond (eqb n 0x300) r.mstatus
    (cond (eqb n 0x301) misa
    (cond (eqb n 0x302) r.medeleg
    (cond (eqb n 0x303) r.interrupts.mideleg
    (cond (eqb n 0x304) r.interrupts.mie
    (cond (eqb n 0x305) r.machine.tvec
    (cond (eqb n 0x306) r.machine.counteren
    (cond (eqb n 0x320) r.counters.mcountinhibit
    (cond (eqb n 0x340) r.machine.scratch
    (cond (eqb n 0x341) r.machine.epc
    (cond (eqb n 0x342) r.machine.cause
    (cond (eqb n 0x343) r.machine.tval
    (cond (eqb n 0x344) (pending r)
    (cond (eqb n 0xB00) r.counters.mcycle
    (cond (eqb n 0xB02) r.counters.minstret
    (cond (eqb n 0xC00) r.counters.mcycle
    (cond (eqb n 0xC02) r.counters.minstret 0)))))))))))))))))))))))))
