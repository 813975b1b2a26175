-- 01, "Traps, returns, time": where a trap goes, and entry to x; 02, [5]: the entry in its answer.
use Rattle.std.specs.Prelude.{ℕ, ◌+◌, ◌-◌, ◌*◌, ◌%◌, ◌^◌, cond, not, ◌&&◌, ◌==◌, bit_and, bit_or, nat_le}
use Rattle.bits.specs.Mask.{test_bit, cleared}
use Rattle.pmp.specs.declared.Refusal.{Refusal}
use Rattle.pmp.specs.Rule.{none}
use Rattle.steps.specs.declared.Level.{Level}
use Rattle.steps.specs.declared.Level.TheVariants.{Supervisor, Machine}
use Rattle.steps.specs.declared.Trap.{Trap}
use Rattle.steps.specs.declared.Trap.TheVariants.{Exception, Interrupt}
use Rattle.steps.specs.declared.Answer.TheVariants.{Trapped}
use Rattle.steps.specs.Number.{level_number, cause_number}
use Rattle.registers.specs.declared.LevelRegisters.{LevelRegisters}
use Rattle.registers.specs.declared.Registers.{Registers}
use Rattle.registers.specs.Update.{level_of, with_level, with_flow}
use Rattle.registers.specs.Status.{ie_mask, pie_mask, pp_mask, pp_unit, pp_modes}
use Rattle.trap.specs.declared.Outcome.{Outcome}
use Rattle.trap.specs.Refusal.{refused_step}

-- exception c goes to S if mode is not M and medeleg bit c is 1, else to M; interrupt i goes to S if mideleg bit i is 1, else to M
abbrev pub destination : Registers → Trap → Level
destination r (Exception c) = cond (not (r.mode == 3) && test_bit r.medeleg c) Supervisor Machine
destination r (Interrupt i) = cond (test_bit r.interrupts.mideleg i) Supervisor Machine

-- tvec without its MODE
abbrev pub base : ℕ → ℕ
base tvec = tvec - tvec % 4

-- pc=BASE, or BASE+4*i for interrupt i with MODE 1, a sum that wraps at 2^64
abbrev pub handler : ℕ → Trap → ℕ
handler tvec (Exception c) = base tvec
handler tvec (Interrupt i) = cond (tvec % 4 == 1) ((base tvec + 4 * i) % 2 ^ 64) (base tvec)

-- xPIE=xIE, xIE=0, xPP=old mode
unfoldable pub entered_status : Level → ℕ → ℕ → ℕ
entered_status level mode mstatus =
    bit_or (cleared (ie_mask level + pie_mask level + pp_mask level) mstatus)
    (bit_or (bit_and mstatus (ie_mask level) * 16) (mode % pp_modes level * pp_unit level))

-- epc=pc, cause, tval
abbrev pub trap_recorded : LevelRegisters → ℕ → Trap → ℕ → LevelRegisters
trap_recorded l pc trap tval =
    record {
      tvec = l.tvec;
      counteren = l.counteren;
      scratch = l.scratch;
      epc = pc;
      cause = cause_number trap;
      tval = tval;
    }

-- entry to a level
unfoldable pub entered : Level → Trap → ℕ → Registers → Registers
entered level trap tval r =
    with_level level
    (with_flow r (level_number level) (handler (level_of level r).tvec trap) (entered_status level r.mode r.mstatus))
    (trap_recorded (level_of level r) r.pc trap tval)

-- an exception is raised: entry to its destination. The answer tells the entry that decided on the access from which it comes
unfoldable pub raised_by : Registers → ℕ → ℕ → ℕ → Outcome
raised_by r cause tval entry =
    record {
      registers = entered (destination r (Exception cause)) (Exception cause) tval r;
      answer = Trapped (Exception cause) (destination r (Exception cause)) entry;
    }

-- one that comes from no access
abbrev pub raised : Registers → ℕ → ℕ → Outcome
raised r cause tval = raised_by r cause tval none

-- 01, "Steps": raise; a cause above 7 is refusal 2
unfoldable pub raise_step : Registers → ℕ → ℕ → Outcome
raise_step r cause tval = cond (nat_le cause 7) (raised r cause tval) (refused_step r Refusal.Argument)

-- 01, "Registers and access to them": illegal instruction is cause 2 with trap value 0
abbrev pub illegal_instruction : Registers → Outcome
illegal_instruction r = raised r 2 0

-- ECALL: cause 8, 9, 11 from U, S, M, with tval 0
abbrev pub environment_call : Registers → Outcome
environment_call r = raised r (8 + r.mode % 4) 0

-- EBREAK: cause 3, with tval 0
abbrev pub breakpoint : Registers → Outcome
breakpoint r = raised r 3 0
