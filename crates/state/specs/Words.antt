-- 01, "Saved text": the registers as words, in the order of its keys; then satp and the grain, which only the second form of 02, [10] has.
use Rattle.std.specs.Prelude.{ℕ, List, [], ◌∷◌, ◌++◌, get_or, take, drop}
use Rattle.bits.specs.Lists.{elements}
use Rattle.pmp.specs.Entry.{entries}
use Rattle.registers.specs.declared.Registers.{Registers}
use Rattle.protection.specs.declared.Pmp.{Pmp}
use Rattle.protection.specs.Configs.{packed, configs_of}
use Rattle.state.specs.declared.State.{State}

-- mode pc mstatus medeleg mideleg mie mip lines mtvec mcounteren mcountinhibit mscratch mepc mcause mtval
-- stvec scounteren sscratch sepc scause stval mcycle minstret
abbrev pub register_words : Registers → List ℕ
register_words r =
    r.mode
    ∷ r.pc
    ∷ r.mstatus
    ∷ r.medeleg
    ∷ r.interrupts.mideleg
    ∷ r.interrupts.mie
    ∷ r.interrupts.mip
    ∷ r.interrupts.lines
    ∷ r.machine.tvec
    ∷ r.machine.counteren
    ∷ r.counters.mcountinhibit
    ∷ r.machine.scratch
    ∷ r.machine.epc
    ∷ r.machine.cause
    ∷ r.machine.tval
    ∷ r.supervisor.tvec
    ∷ r.supervisor.counteren
    ∷ r.supervisor.scratch
    ∷ r.supervisor.epc
    ∷ r.supervisor.cause
    ∷ r.supervisor.tval
    ∷ r.counters.mcycle
    ∷ r.counters.minstret
    ∷ []

-- pmpcfg0 pmpcfg2 pmpaddr0 to pmpaddr15
abbrev pub pmp_words : Pmp → List ℕ
pmp_words p = packed (take 8 p.cfgs) ∷ packed (drop 8 p.cfgs) ∷ elements entries 0 p.addrs

unfoldable pub words_of : State → List ℕ
words_of s = register_words s.registers ++ pmp_words s.pmp ++ s.satp ∷ s.pmp.grain ∷ []

-- ---- and back

abbrev pub registers_of : List ℕ → Registers
registers_of w =
    record {
      mode = get_or w 0 0;
      pc = get_or w 1 0;
      mstatus = get_or w 2 0;
      medeleg = get_or w 3 0;
      interrupts = record { mideleg = get_or w 4 0; mie = get_or w 5 0; mip = get_or w 6 0; lines = get_or w 7 0 };
      counters = record { mcountinhibit = get_or w 10 0; mcycle = get_or w 21 0; minstret = get_or w 22 0 };
      machine = record {
        tvec = get_or w 8 0;
        counteren = get_or w 9 0;
        scratch = get_or w 11 0;
        epc = get_or w 12 0;
        cause = get_or w 13 0;
        tval = get_or w 14 0;
      };
      supervisor = record {
        tvec = get_or w 15 0;
        counteren = get_or w 16 0;
        scratch = get_or w 17 0;
        epc = get_or w 18 0;
        cause = get_or w 19 0;
        tval = get_or w 20 0;
      };
    }

abbrev pub pmp_of : List ℕ → Pmp
pmp_of w = record { grain = get_or w 42 0; cfgs = configs_of (get_or w 23 0) (get_or w 24 0); addrs = elements entries 25 w }

abbrev pub state_of : List ℕ → State
state_of w = record { registers = registers_of w; pmp = pmp_of w; satp = get_or w 41 0 }
