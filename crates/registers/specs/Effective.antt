-- 01, "Protection, byte by byte": the effective mode of an access.
use Rattle.std.specs.Prelude.{ℕ, cond}
use Rattle.pmp.specs.declared.Mode.{Mode}
use Rattle.pmp.specs.declared.Access.{Access}
use Rattle.pmp.specs.declared.Access.TheVariants.{Fetch, Load, Store}
use Rattle.pmp.specs.Number.{mode_of}
use Rattle.steps.specs.declared.Level.{Level}
use Rattle.registers.specs.declared.Registers.{Registers}
use Rattle.registers.specs.Status.{mprv, previous_mode}

-- a load or store uses MPP if MPRV=1, else mode
abbrev pub data_mode : Registers → ℕ
data_mode r = cond (mprv r.mstatus) (previous_mode Level.Machine r.mstatus) r.mode

-- a fetch uses mode
abbrev pub effective_mode : Registers → Access → Mode
effective_mode r Fetch = mode_of r.mode
effective_mode r Load = mode_of (data_mode r)
effective_mode r Store = mode_of (data_mode r)
