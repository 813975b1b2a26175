-- 01, "Registers and access to them": what a write stores. Writes keep the bits a hart can hold and drop others.
use Rattle.std.specs.Prelude.{ℕ, ◌-◌, ◌%◌, cond, eqb, ltb}
use Rattle.std.specs.Int.Bits.{bit_and}
use Rattle.bits.specs.Mask.{replaced}
use Rattle.steps.specs.declared.Level.{Level}
use Rattle.steps.specs.declared.Level.TheVariants.{Supervisor, Machine}
use Rattle.registers.specs.declared.Registers.{Registers}
use Rattle.registers.specs.Masks.{sstatus_mask, medeleg_mask, mideleg_mask, mie_mask, mip_mask, counters_mask, cause_mask}
use Rattle.registers.specs.Status.{pp_mask}
use Rattle.registers.specs.Hold.{kept_status}
use Rattle.registers.specs.Update.{with_status, with_medeleg, level_of, with_level}
use Rattle.csr.specs.Replace.{with_mideleg, with_mie, with_mip, with_mcountinhibit, with_mcycle, with_minstret, with_tvec, with_counteren, with_scratch, with_epc, with_cause, with_tval}

-- ---- the registers with a rule of their own: what is stored, by what was held and the value written

-- MPP written 2 keeps its old field (house)
unfoldable pub status_written : ℕ → ℕ → ℕ
status_written old value =
    cond (eqb (bit_and value (pp_mask Machine)) 0x1000) (replaced (pp_mask Machine) old (kept_status value)) (kept_status value)

-- sstatus writes within 0xC0122
abbrev pub sstatus_written : ℕ → ℕ → ℕ
sstatus_written mstatus value = replaced sstatus_mask value mstatus

-- sie writes mie within mideleg
abbrev pub sie_written : Registers → ℕ → ℕ
sie_written r value = replaced r.interrupts.mideleg value r.interrupts.mie

-- sip's write changes bit 1 only, and only if delegated
abbrev pub sip_written : Registers → ℕ → ℕ
sip_written r value = replaced (bit_and r.interrupts.mideleg 0x2) value r.interrupts.mip

-- tvec with MODE 2 or 3 is ignored whole (house)
abbrev pub tvec_written : ℕ → ℕ → ℕ
tvec_written old value = cond (ltb (value % 4) 2) value old

-- mepc, sepc multiples of 4
abbrev pub epc_written : ℕ → ℕ
epc_written value = value - value % 4

-- ---- a write to a trap register of either level

abbrev pub tvec_at : Level → Registers → ℕ → Registers
tvec_at level r value = with_level level r (with_tvec (level_of level r) (tvec_written (level_of level r).tvec value))

abbrev pub counteren_at : Level → Registers → ℕ → Registers
counteren_at level r value = with_level level r (with_counteren (level_of level r) (bit_and value counters_mask))

abbrev pub scratch_at : Level → Registers → ℕ → Registers
scratch_at level r value = with_level level r (with_scratch (level_of level r) value)

abbrev pub epc_at : Level → Registers → ℕ → Registers
epc_at level r value = with_level level r (with_epc (level_of level r) (epc_written value))

abbrev pub cause_at : Level → Registers → ℕ → Registers
cause_at level r value = with_level level r (with_cause (level_of level r) (bit_and value cause_mask))

abbrev pub tval_at : Level → Registers → ℕ → Registers
tval_at level r value = with_level level r (with_tval (level_of level r) value)

-- ---- a write to any register

-- by its number; a write to 301, 323 to 33F, B03 to B1F, 30A or 10A changes nothing, nor does one to the number of no register here
unfoldable pub registers_written : Registers → ℕ → ℕ → Registers
registers_written r n value =
    cond (eqb n 0x100) (with_status r (sstatus_written r.mstatus value))
    (cond (eqb n 0x104) (with_mie r (sie_written r value))
    (cond (eqb n 0x105) (tvec_at Supervisor r value)
    (cond (eqb n 0x106) (counteren_at Supervisor r value)
    (cond (eqb n 0x140) (scratch_at Supervisor r value)
    (cond (eqb n 0x141) (epc_at Supervisor r value)
    (cond (eqb n 0x142) (cause_at Supervisor r value)
    (cond (eqb n 0x143) (tval_at Supervisor r value)
    (cond (eqb n 0x144) (with_mip r (sip_written r value))
    (cond (eqb n 0x300) (with_status r (status_written r.mstatus value))
    (cond (eqb n 0x302) (with_medeleg r (bit_and value medeleg_mask))
    (cond (eqb n 0x303) (with_mideleg r (bit_and value mideleg_mask))
    (cond (eqb n 0x304) (with_mie r (bit_and value mie_mask))
    (cond (eqb n 0x305) (tvec_at Machine r value)
    (cond (eqb n 0x306) (counteren_at Machine r value)
    (cond (eqb n 0x320) (with_mcountinhibit r (bit_and value counters_mask))
    (cond (eqb n 0x340) (scratch_at Machine r value)
    (cond (eqb n 0x341) (epc_at Machine r value)
    (cond (eqb n 0x342) (cause_at Machine r value)
    (cond (eqb n 0x343) (tval_at Machine r value)
    (cond (eqb n 0x344) (with_mip r (bit_and value mip_mask))
    (cond (eqb n 0xB00) (with_mcycle r value)
    (cond (eqb n 0xB02) (with_minstret r value) r))))))))))))))))))))))
