-- The registers of 01, "What a hart can hold", with one group replaced.
use Rattle.std.specs.Prelude.{ℕ}
use Rattle.steps.specs.declared.Level.{Level}
use Rattle.steps.specs.declared.Level.TheVariants.{Supervisor, Machine}
use Rattle.registers.specs.declared.LevelRegisters.{LevelRegisters}
use Rattle.registers.specs.declared.Registers.{Registers}

-- mode, pc and mstatus, which traps and returns change together
abbrev pub with_flow : Registers → ℕ → ℕ → ℕ → Registers
with_flow r mode pc mstatus =
    record {
      mode = mode;
      pc = pc;
      mstatus = mstatus;
      medeleg = r.medeleg;
      interrupts = r.interrupts;
      counters = r.counters;
      machine = r.machine;
      supervisor = r.supervisor;
    }

abbrev pub with_pc : Registers → ℕ → Registers
with_pc r pc = with_flow r r.mode pc r.mstatus

abbrev pub with_status : Registers → ℕ → Registers
with_status r mstatus = with_flow r r.mode r.pc mstatus

abbrev pub with_medeleg : Registers → ℕ → Registers
with_medeleg r medeleg =
    record {
      mode = r.mode;
      pc = r.pc;
      mstatus = r.mstatus;
      medeleg = medeleg;
      interrupts = r.interrupts;
      counters = r.counters;
      machine = r.machine;
      supervisor = r.supervisor;
    }

abbrev pub with_interrupts : Registers → ℕ → ℕ → ℕ → ℕ → Registers
with_interrupts r mideleg mie mip lines =
    record {
      mode = r.mode;
      pc = r.pc;
      mstatus = r.mstatus;
      medeleg = r.medeleg;
      interrupts = record { mideleg = mideleg; mie = mie; mip = mip; lines = lines };
      counters = r.counters;
      machine = r.machine;
      supervisor = r.supervisor;
    }

abbrev pub with_counters : Registers → ℕ → ℕ → ℕ → Registers
with_counters r mcountinhibit mcycle minstret =
    record {
      mode = r.mode;
      pc = r.pc;
      mstatus = r.mstatus;
      medeleg = r.medeleg;
      interrupts = r.interrupts;
      counters = record { mcountinhibit = mcountinhibit; mcycle = mcycle; minstret = minstret };
      machine = r.machine;
      supervisor = r.supervisor;
    }

-- the trap registers of a level
abbrev pub level_of : Level → Registers → LevelRegisters
level_of Supervisor r = r.supervisor
level_of Machine r = r.machine

abbrev pub with_level : Level → Registers → LevelRegisters → Registers
with_level Supervisor r l =
    record {
      mode = r.mode;
      pc = r.pc;
      mstatus = r.mstatus;
      medeleg = r.medeleg;
      interrupts = r.interrupts;
      counters = r.counters;
      machine = r.machine;
      supervisor = l;
    }
with_level Machine r l =
    record {
      mode = r.mode;
      pc = r.pc;
      mstatus = r.mstatus;
      medeleg = r.medeleg;
      interrupts = r.interrupts;
      counters = r.counters;
      machine = l;
      supervisor = r.supervisor;
    }
