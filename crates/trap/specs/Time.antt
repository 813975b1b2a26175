-- 01, "Traps, returns, time": advance and elapsed.
use Rattle.std.specs.Prelude.{ℕ, ◌+◌, ◌%◌, ◌^◌, Bool, cond}
use Rattle.bits.specs.Mask.{test_bit}
use Rattle.steps.specs.declared.Answer.TheVariants.{Done}
use Rattle.registers.specs.declared.Registers.{Registers}
use Rattle.registers.specs.Hold.{aligned}
use Rattle.registers.specs.Update.{with_pc, with_counters}
use Rattle.trap.specs.declared.Outcome.{Outcome}
use Rattle.trap.specs.Enter.{raised}

-- advance sets pc, or raises cause 0 with tval the target if that is no multiple of 4
unfoldable pub advanced : Registers → ℕ → Outcome
advanced r target = cond (aligned target) (record { registers = with_pc r target; answer = Done }) (raised r 0 target)

-- a counter moves on unless inhibited, wrapping at 2^64
abbrev pub counted : Bool → ℕ → ℕ → ℕ
counted inhibited count more = cond inhibited count ((count + more) % 2 ^ 64)

-- elapsed adds a to mcycle unless inhibit bit 0, b to minstret unless bit 2
unfoldable pub elapsed : Registers → ℕ → ℕ → Outcome
elapsed r cycles retired =
    record {
      registers = with_counters r r.counters.mcountinhibit
          (counted (test_bit r.counters.mcountinhibit 0) r.counters.mcycle cycles)
          (counted (test_bit r.counters.mcountinhibit 2) r.counters.minstret retired);
      answer = Done;
    }
