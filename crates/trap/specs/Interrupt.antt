-- 01, "Traps, returns, time": step 7, take interrupt, with the order of 02, [2]; and "Steps": lines.
use Rattle.std.specs.Prelude.{ℕ, Bool, true, false, cond, ◌&&◌, ◌||◌, List, [], ◌∷◌, ◌==◌, nat_lt, Option, Some, None}
use Rattle.bits.specs.Mask.{within, test_bit}
use Rattle.pmp.specs.declared.Refusal.{Refusal}
use Rattle.steps.specs.declared.Level.{Level}
use Rattle.steps.specs.declared.Level.TheVariants.{Supervisor, Machine}
use Rattle.steps.specs.declared.Trap.TheVariants.{Interrupt}
use Rattle.steps.specs.declared.Answer.TheVariants.{Done, DoneFlag}
use Rattle.steps.specs.Number.{level_number}
use Rattle.registers.specs.declared.Registers.{Registers}
use Rattle.registers.specs.Masks.{lines_mask}
use Rattle.registers.specs.Status.{enabled, pending}
use Rattle.registers.specs.Update.{with_interrupts}
use Rattle.trap.specs.declared.Outcome.{Outcome}
use Rattle.trap.specs.Refusal.{refused_step}
use Rattle.trap.specs.Enter.{destination, entered}

-- lines: outside 0xA88 is refusal 2; else they are replaced
unfoldable pub lines_step : Registers → ℕ → Outcome
lines_step r lines =
    cond (within lines_mask lines)
    (record {
      registers = with_interrupts r r.interrupts.mideleg r.interrupts.mie r.interrupts.mip lines;
      answer = Done;
    })
    (refused_step r Refusal.Argument)

-- not delegated (to M), mode is below M or MIE=1; delegated (to S), mode is U, or S with SIE=1
abbrev pub admits : Level → Registers → Bool
admits Machine r = nat_lt r.mode 3 || enabled Machine r.mstatus
admits Supervisor r = r.mode == 0 || (r.mode == 1 && enabled Supervisor r.mstatus)

-- interrupt i is takeable if mip and mie bit i are 1 and the level that it goes to admits it
unfoldable pub takeable : Registers → ℕ → Bool
takeable r i = test_bit (pending r) i && (test_bit r.interrupts.mie i && admits (destination r (Interrupt i)) r)

-- interrupt i is bound for the level, and takeable
abbrev pub takeable_to : Level → Registers → ℕ → Bool
takeable_to level r i = level_number (destination r (Interrupt i)) == level_number level && takeable r i

-- the first number of the list that passes the test
abbrev pub first_of : (ℕ → Bool) → List ℕ → Option ℕ
first_of test [] = None
first_of test (i ∷ l) = cond (test i) (Some i) (first_of test l)

-- the order 11, 3, 7, 9, 1, 5
abbrev pub priority : List ℕ
priority = 11 ∷ 3 ∷ 7 ∷ 9 ∷ 1 ∷ 5 ∷ []

-- the first choice, or the second where the first is none
abbrev pub or_else : Option ℕ → Option ℕ → Option ℕ
or_else (Some i) second = Some i
or_else None second = second

-- 02, [2]: first the takeable ones bound for M in 01's order, then those for S in that order
abbrev pub machine_bound_first : Registers → Option ℕ
machine_bound_first r = or_else (first_of (takeable_to Machine r) priority) (first_of (takeable_to Supervisor r) priority)

-- the first is taken, and the answer is yes; if there is none, it is no and nothing changes
abbrev pub taken_by : Registers → Option ℕ → Outcome
taken_by r (Some i) = record { registers = entered (destination r (Interrupt i)) (Interrupt i) 0 r; answer = DoneFlag true }
taken_by r None = record { registers = r; answer = DoneFlag false }

unfoldable pub interrupt_taken : Registers → Outcome
interrupt_taken r = taken_by r (machine_bound_first r)
