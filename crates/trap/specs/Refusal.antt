-- 01, "Steps": a refusal.
use Rattle.pmp.specs.declared.Refusal.{Refusal}
use Rattle.steps.specs.declared.Answer.TheVariants.{Refused}
use Rattle.registers.specs.declared.Registers.{Registers}
use Rattle.trap.specs.declared.Outcome.{Outcome}

-- a refusal is answered and changes nothing
abbrev pub refused_step : Registers → Refusal → Outcome
refused_step r refusal = record { registers = r; answer = Refused refusal }
