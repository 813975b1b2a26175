-- The registers of 01, "What a hart can hold", with one register replaced.
use Rattle.std.specs.Prelude.{ℕ}
use Rattle.registers.specs.declared.LevelRegisters.{LevelRegisters}
use Rattle.registers.specs.declared.Registers.{Registers}
use Rattle.registers.specs.Update.{with_interrupts, with_counters}

abbrev pub with_mideleg : Registers → ℕ → Registers
with_mideleg r mideleg = with_interrupts r mideleg r.interrupts.mie r.interrupts.mip r.interrupts.lines

abbrev pub with_mie : Registers → ℕ → Registers
with_mie r mie = with_interrupts r r.interrupts.mideleg mie r.interrupts.mip r.interrupts.lines

-- the software bits of mip
abbrev pub with_mip : Registers → ℕ → Registers
with_mip r mip = with_interrupts r r.interrupts.mideleg r.interrupts.mie mip r.interrupts.lines

abbrev pub with_mcountinhibit : Registers → ℕ → Registers
with_mcountinhibit r mcountinhibit = with_counters r mcountinhibit r.counters.mcycle r.counters.minstret

abbrev pub with_mcycle : Registers → ℕ → Registers
with_mcycle r mcycle = with_counters r r.counters.mcountinhibit mcycle r.counters.minstret

abbrev pub with_minstret : Registers → ℕ → Registers
with_minstret r minstret = with_counters r r.counters.mcountinhibit r.counters.mcycle minstret

-- ---- the trap registers of a level

abbrev pub with_tvec : LevelRegisters → ℕ → LevelRegisters
with_tvec l tvec = record { tvec = tvec; counteren = l.counteren; scratch = l.scratch; epc = l.epc; cause = l.cause; tval = l.tval }

abbrev pub with_counteren : LevelRegisters → ℕ → LevelRegisters
with_counteren l counteren = record { tvec = l.tvec; counteren = counteren; scratch = l.scratch; epc = l.epc; cause = l.cause; tval = l.tval }

abbrev pub with_scratch : LevelRegisters → ℕ → LevelRegisters
with_scratch l scratch = record { tvec = l.tvec; counteren = l.counteren; scratch = scratch; epc = l.epc; cause = l.cause; tval = l.tval }

abbrev pub with_epc : LevelRegisters → ℕ → LevelRegisters
with_epc l epc = record { tvec = l.tvec; counteren = l.counteren; scratch = l.scratch; epc = epc; cause = l.cause; tval = l.tval }

abbrev pub with_cause : LevelRegisters → ℕ → LevelRegisters
with_cause l cause = record { tvec = l.tvec; counteren = l.counteren; scratch = l.scratch; epc = l.epc; cause = cause; tval = l.tval }

abbrev pub with_tval : LevelRegisters → ℕ → LevelRegisters
with_tval l tval = record { tvec = l.tvec; counteren = l.counteren; scratch = l.scratch; epc = l.epc; cause = l.cause; tval = tval }
