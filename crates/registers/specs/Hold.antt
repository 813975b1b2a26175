-- 01, "What a hart can hold", with the masks of 02, [8].
use Rattle.std.specs.Prelude.{ℕ, ◌%◌, Bool, not, ◌&&◌, eqb, ltb}
use Rattle.std.specs.Int.Bits.{bit_and, bit_or}
use Rattle.bits.specs.Mask.{within}
use Rattle.pmp.specs.Number.{is_mode}
use Rattle.steps.specs.declared.Level.TheVariants.{Machine}
use Rattle.registers.specs.declared.LevelRegisters.{LevelRegisters}
use Rattle.registers.specs.declared.Interrupts.{Interrupts}
use Rattle.registers.specs.declared.Registers.{Registers}
use Rattle.registers.specs.Masks.{mstatus_mask, sxl_uxl, medeleg_mask, mideleg_mask, mie_mask, mip_mask, lines_mask, counters_mask, cause_mask}
use Rattle.registers.specs.Status.{pp_mask, mpp_two}

-- pc, mepc, sepc multiples of 4
abbrev pub aligned : ℕ → Bool
aligned address = eqb (address % 4) 0

-- the bits of mstatus that can be kept, plus SXL=UXL=2
abbrev pub kept_status : ℕ → ℕ
kept_status mstatus = bit_or (bit_and mstatus mstatus_mask) sxl_uxl

-- mstatus = 0xA00000000 plus bits within 0x7E19AA, MPP not 2
abbrev pub status_holdable : ℕ → Bool
status_holdable mstatus = eqb (kept_status mstatus) mstatus && not (eqb (bit_and mstatus (pp_mask Machine)) mpp_two)

-- mideleg within 0x222; mie within 0xAAA; mip software bits within 0x222; lines within 0xA88
abbrev pub interrupts_holdable : Interrupts → Bool
interrupts_holdable i =
    within mideleg_mask i.mideleg && (within mie_mask i.mie && (within mip_mask i.mip && within lines_mask i.lines))

-- tvec with MODE 0 or 1; counteren within 0x5; epc a multiple of 4; cause within 0x800000000000003F
abbrev pub level_holdable : LevelRegisters → Bool
level_holdable l =
    ltb (l.tvec % 4) 2 && (within counters_mask l.counteren && (aligned l.epc && within cause_mask l.cause))

-- all registers but those of protection
unfoldable pub registers_holdable : Registers → Bool
registers_holdable r =
    is_mode r.mode && (aligned r.pc && (status_holdable r.mstatus && (within medeleg_mask r.medeleg
    && (interrupts_holdable r.interrupts && (within counters_mask r.counters.mcountinhibit
    && (level_holdable r.machine && level_holdable r.supervisor))))))

abbrev zero_level : LevelRegisters
zero_level = record { tvec = 0; counteren = 0; scratch = 0; epc = 0; cause = 0; tval = 0 }

-- Reset: mode 3, pc 0x1000 (house), mstatus 0xA00000000, all else 0
abbrev pub reset_registers : Registers
reset_registers =
    record {
      mode = 3;
      pc = 0x1000;
      mstatus = sxl_uxl;
      medeleg = 0;
      interrupts = record { mideleg = 0; mie = 0; mip = 0; lines = 0 };
      counters = record { mcountinhibit = 0; mcycle = 0; minstret = 0 };
      machine = zero_level;
      supervisor = zero_level;
    }
