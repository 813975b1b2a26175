-- 01, "Saved text", and 02, [10]: the lines of either form with their registers, and the reset state's texts. The laws that the saved texts are these stand in
-- Consequences.
use Rattle.std.specs.Prelude.{ℕ, List, [], ◌∷◌, ◌++◌, get_or, take, drop}
use Prim.Native.String.{String}
use Rattle.lines.specs.Lines.{bytes_of, line_of}
use Rattle.protection.specs.Configs.{packed}
use Rattle.state.specs.declared.State.{State}

-- each key with the register that it names
abbrev pub keyed : State → List (String × ℕ)
keyed s =
    let r = s.registers in
    let i = r.interrupts in
    let c = r.counters in
    let m = r.machine in
    let v = r.supervisor in
    let a = s.pmp.addrs in
    ("mode", r.mode) ∷ ("pc", r.pc) ∷ ("mstatus", r.mstatus) ∷ ("medeleg", r.medeleg) ∷ ("mideleg", i.mideleg) ∷ ("mie", i.mie)
    ∷ ("mip", i.mip) ∷ ("lines", i.lines) ∷ ("mtvec", m.tvec) ∷ ("mcounteren", m.counteren) ∷ ("mcountinhibit", c.mcountinhibit)
    ∷ ("mscratch", m.scratch) ∷ ("mepc", m.epc) ∷ ("mcause", m.cause) ∷ ("mtval", m.tval) ∷ ("stvec", v.tvec)
    ∷ ("scounteren", v.counteren) ∷ ("sscratch", v.scratch) ∷ ("sepc", v.epc) ∷ ("scause", v.cause) ∷ ("stval", v.tval)
    ∷ ("mcycle", c.mcycle) ∷ ("minstret", c.minstret) ∷ ("pmpcfg0", packed (take 8 s.pmp.cfgs)) ∷ ("pmpcfg2", packed (drop 8 s.pmp.cfgs))
    ∷ ("pmpaddr0", get_or a 0 0) ∷ ("pmpaddr1", get_or a 1 0) ∷ ("pmpaddr2", get_or a 2 0) ∷ ("pmpaddr3", get_or a 3 0) ∷ ("pmpaddr4", get_or a 4 0)
    ∷ ("pmpaddr5", get_or a 5 0) ∷ ("pmpaddr6", get_or a 6 0) ∷ ("pmpaddr7", get_or a 7 0) ∷ ("pmpaddr8", get_or a 8 0) ∷ ("pmpaddr9", get_or a 9 0)
    ∷ ("pmpaddr10", get_or a 10 0) ∷ ("pmpaddr11", get_or a 11 0) ∷ ("pmpaddr12", get_or a 12 0) ∷ ("pmpaddr13", get_or a 13 0)
    ∷ ("pmpaddr14", get_or a 14 0) ∷ ("pmpaddr15", get_or a 15 0) ∷ []

-- the second form has three lines more
abbrev pub keyed_second : State → List (String × ℕ)
keyed_second s = ("form", 2) ∷ keyed s ++ ("satp", s.satp) ∷ ("grain", s.pmp.grain) ∷ []

-- a line for each
abbrev pub keyed_text : List (String × ℕ) → List ℕ
keyed_text [] = []
keyed_text (l ∷ ls) = line_of l.0 l.1 ++ keyed_text ls

-- every value 0 except mode 3, pc 1000, mstatus a00000000
abbrev pub reset_lines : List String
reset_lines =
    "mode=0000000000000003"
    ∷ "pc=0000000000001000"
    ∷ "mstatus=0000000a00000000"
    ∷ "medeleg=0000000000000000"
    ∷ "mideleg=0000000000000000"
    ∷ "mie=0000000000000000"
    ∷ "mip=0000000000000000"
    ∷ "lines=0000000000000000"
    ∷ "mtvec=0000000000000000"
    ∷ "mcounteren=0000000000000000"
    ∷ "mcountinhibit=0000000000000000"
    ∷ "mscratch=0000000000000000"
    ∷ "mepc=0000000000000000"
    ∷ "mcause=0000000000000000"
    ∷ "mtval=0000000000000000"
    ∷ "stvec=0000000000000000"
    ∷ "scounteren=0000000000000000"
    ∷ "sscratch=0000000000000000"
    ∷ "sepc=0000000000000000"
    ∷ "scause=0000000000000000"
    ∷ "stval=0000000000000000"
    ∷ "mcycle=0000000000000000"
    ∷ "minstret=0000000000000000"
    ∷ "pmpcfg0=0000000000000000"
    ∷ "pmpcfg2=0000000000000000"
    ∷ "pmpaddr0=0000000000000000"
    ∷ "pmpaddr1=0000000000000000"
    ∷ "pmpaddr2=0000000000000000"
    ∷ "pmpaddr3=0000000000000000"
    ∷ "pmpaddr4=0000000000000000"
    ∷ "pmpaddr5=0000000000000000"
    ∷ "pmpaddr6=0000000000000000"
    ∷ "pmpaddr7=0000000000000000"
    ∷ "pmpaddr8=0000000000000000"
    ∷ "pmpaddr9=0000000000000000"
    ∷ "pmpaddr10=0000000000000000"
    ∷ "pmpaddr11=0000000000000000"
    ∷ "pmpaddr12=0000000000000000"
    ∷ "pmpaddr13=0000000000000000"
    ∷ "pmpaddr14=0000000000000000"
    ∷ "pmpaddr15=0000000000000000"
    ∷ []

abbrev pub reset_second : List String
reset_second = "form=0000000000000002" ∷ reset_lines ++ "satp=0000000000000000" ∷ "grain=0000000000000000" ∷ []

-- lines, each with its line feed
abbrev pub joined : List String → List ℕ
joined [] = []
joined (l ∷ ls) = bytes_of l ++ 10 ∷ joined ls
