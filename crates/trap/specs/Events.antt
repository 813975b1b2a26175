-- 01, "Steps": the steps of the registers alone, 5 to 13 and 17.
use Rattle.steps.specs.declared.Level.TheVariants.{Supervisor, Machine}
use Rattle.steps.specs.declared.Event.{Event}
use Rattle.steps.specs.declared.Event.TheVariants.{Raise, Lines, TakeInterrupt, Mret, Sret, Wfi, Ecall, Ebreak, Advance, Elapsed}
use Rattle.registers.specs.declared.Registers.{Registers}
use Rattle.trap.specs.declared.Outcome.{Outcome}
use Rattle.trap.specs.Enter.{raise_step, environment_call, breakpoint}
use Rattle.trap.specs.Interrupt.{lines_step, interrupt_taken}
use Rattle.trap.specs.Return.{return_step, waited}
use Rattle.trap.specs.Time.{advanced, elapsed}

-- what a step does to the registers, and its answer
abbrev pub event_step : Registers → Event → Outcome
event_step r (Raise cause tval) = raise_step r cause tval
event_step r (Lines lines) = lines_step r lines
event_step r TakeInterrupt = interrupt_taken r
event_step r Mret = return_step Machine r
event_step r Sret = return_step Supervisor r
event_step r Wfi = waited r
event_step r Ecall = environment_call r
event_step r Ebreak = breakpoint r
event_step r (Advance target) = advanced r target
event_step r (Elapsed cycles retired) = elapsed r cycles retired
