-- 01, "Traps, returns, time": MRET, SRET and WFI.
use Rattle.std.specs.Prelude.{ℕ, ◌+◌, ◌/◌, ◌%◌, ◌^◌, Bool, cond, not, ◌&&◌, ◌||◌, ◌==◌, bit_and, bit_or}
use Rattle.bits.specs.Mask.{cleared}
use Rattle.steps.specs.declared.Level.{Level}
use Rattle.steps.specs.declared.Level.TheVariants.{Supervisor, Machine}
use Rattle.steps.specs.declared.Answer.TheVariants.{Done, DoneFlag}
use Rattle.registers.specs.declared.Registers.{Registers}
use Rattle.registers.specs.Update.{level_of, with_flow, with_pc}
use Rattle.registers.specs.Status.{ie_mask, pie_mask, pp_mask, previous_mode, mprv_mask, tw, tsr, pending}
use Rattle.trap.specs.declared.Outcome.{Outcome}
use Rattle.trap.specs.Enter.{illegal_instruction}

-- MPRV=0 unless the new mode is M
abbrev pub cleared_mprv : ℕ → ℕ
cleared_mprv mode = cond (mode == 3) 0 mprv_mask

-- xIE=xPIE, xPIE=1, xPP=0, and MPRV=0 unless the new mode is M
unfoldable pub returned_status : Level → ℕ → ℕ
returned_status level mstatus =
    bit_or (cleared (ie_mask level + pp_mask level) (cleared (cleared_mprv (previous_mode level mstatus)) mstatus))
    (bit_or (bit_and mstatus (pie_mask level) / 16) (pie_mask level))

-- pc=xepc, mode=xPP
unfoldable pub returned : Level → Registers → Registers
returned level r =
    with_flow r (previous_mode level r.mstatus) (level_of level r).epc (returned_status level r.mstatus)

-- MRET: M only. SRET: M, or S with TSR=0
abbrev pub may_return : Level → Registers → Bool
may_return Machine r = r.mode == 3
may_return Supervisor r = r.mode == 3 || (r.mode == 1 && not (tsr r.mstatus))

-- MRET for M, SRET for S; elsewhere illegal
unfoldable pub return_step : Level → Registers → Outcome
return_step level r =
    cond (may_return level r) (record { registers = returned level r; answer = Done }) (illegal_instruction r)

-- WFI: M, or S with TW=0
abbrev pub may_wait : Registers → Bool
may_wait r = r.mode == 3 || (r.mode == 1 && not (tw r.mstatus))

-- pc plus 4, wrapping
abbrev pub next_pc : Registers → ℕ
next_pc r = (r.pc + 4) % 2 ^ 64

-- it does not stall, and says yes exactly if mip and mie share a bit; completed, it moves pc on by 4
unfoldable pub waited : Registers → Outcome
waited r =
    cond (may_wait r)
    (record {
      registers = with_pc r (next_pc r);
      answer = DoneFlag (not (bit_and (pending r) r.interrupts.mie == 0));
    })
    (illegal_instruction r)
