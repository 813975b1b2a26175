-- 01, "Hand-checked settings", W1 to W12, the entries of [5] in W1 to W9, 02's own case of [2], writes to satp of [8], [9] with G of 1, 2 and 10, and what a hart and the first form can hold, as one table. Page tables have
-- their own, in paging/specs/Worked.
use Rattle.std.specs.Prelude.{ℕ, zero, suc, ◌+◌, ◌-◌, ◌*◌, ◌^◌, ◌≡◌, Bool, true, false, List, [], ◌∷◌, length, get_or, replicate}
use Rattle.pmp.specs.declared.Mode.{Mode}
use Rattle.pmp.specs.declared.Access.{Access}
use Rattle.pmp.specs.declared.Decision.{Decision}
use Rattle.pmp.specs.declared.Decision.TheVariants.{Granted, Fault, Refused}
use Rattle.pmp.specs.Number.{fault_cause}
use Rattle.pmp.specs.Entry.{entries, entry_span}
use Rattle.pmp.specs.Rule.{checked, none}
use Rattle.steps.specs.declared.Operation.{Operation}
use Rattle.steps.specs.declared.Operation.TheVariants.{Write, Set, Clear, Read}
use Rattle.steps.specs.declared.Event.TheVariants.{Mret, TakeInterrupt, Elapsed}
use Rattle.steps.specs.declared.Step.{Step}
use Rattle.steps.specs.declared.Step.TheVariants.{Event as EventStep}
use Rattle.registers.specs.declared.Registers.{Registers}
use Rattle.registers.specs.Hold.{reset_registers}
use Rattle.registers.specs.Update.{with_flow, with_status, with_medeleg, with_interrupts, with_counters}
use Rattle.protection.specs.declared.Pmp.{Pmp}
use Rattle.protection.specs.Configs.{configs_of}
use Rattle.protection.specs.Hold.{reset_pmp}
use Rattle.protection.specs.Read.{pmp_read}
use Rattle.paging.specs.Memory.{memory_at}
use Rattle.state.specs.declared.State.{State}
use Rattle.state.specs.Hold.{can_hold}
use Rattle.map.specs.declared.Range.{Range}
use Rattle.map.specs.Ranges.{range}
use Rattle.map.specs.Painting.{ranges_of}
use Rattle.text.specs.declared.Form.TheVariants.{First}
use Rattle.hart.specs.Saved.{form_holds}
use Rattle.engine.specs.Effects.{pmp_operated, satp_operated, step_rule}

pub data Setting : Type 0 where
  -- entry 0 alone: an access of `size` bytes faults in every mode, whatever its kind, by this entry
  faults : (cfg addr address size entry : ℕ) → Setting
  -- entry 0 alone matches the bytes from first to last
  covers : (cfg addr first last : ℕ) → Setting
  -- sixteen entries have this many ranges
  counted : (cfgs addrs : List ℕ) → ℕ → Setting
  -- this entry, or none, decides on an access of `size` bytes, in every mode and whatever its kind
  decided : (cfgs addrs : List ℕ) (address size entry : ℕ) → Setting
  -- 02, [8]: satp after an operation on the value held
  satp : (held : ℕ) → Operation → (operand value : ℕ) → Setting
  -- 02, [9]: by the grain, entry 1 behind entry 0 matches the bytes from first to last
  second : (grain cfg₀ addr₀ cfg addr first last : ℕ) → Setting
  -- sixteen entries have this map by the grain
  mapped_by : (grain : ℕ) (cfgs addrs : List ℕ) → List Range → Setting
  -- by the grain, pmpcfg0 after an operation on the value held
  configured : (grain held : ℕ) → Operation → (operand value : ℕ) → Setting
  -- by the grain and entry 0's byte, what pmpaddr0 reads, and what is stored after an operation
  addressed : (grain cfg held : ℕ) → Operation → (operand read stored : ℕ) → Setting
  -- 02, [8] to [10]: the reset state with these in place, and entry 0's byte: whether a hart can hold it, and whether the first form of a text can
  holdable : (mstatus medeleg translation grain cfg : ℕ) (hart first : Bool) → Setting
  -- after the step a register has this value
  leaves : Registers → Step → (Registers → ℕ) → ℕ → Setting

-- entry 0's register, and the others 0
abbrev pub alone : ℕ → List ℕ
alone x = x ∷ replicate 15 0

-- the entry of a decision; 17 for a refusal, which has none
abbrev pub decider : Decision → ℕ
decider (Granted entry) = entry
decider (Fault cause entry) = entry
decider (Refused refusal) = 17

-- protection registers with a grain, pmpcfg0 and pmpaddr0, and the others 0
abbrev pub registers_by : ℕ → ℕ → ℕ → Pmp
registers_by grain pmpcfg0 pmpaddr0 = record { grain = grain; cfgs = configs_of pmpcfg0 0; addrs = alone pmpaddr0 }

-- after an operation on one of them
abbrev pub operated_by : Pmp → Operation → ℕ → ℕ → Pmp
operated_by p op number operand = pmp_operated p op number operand (pmp_read p number)

-- the reset state with these in place, and entry 0's byte
abbrev pub state_with : ℕ → ℕ → ℕ → ℕ → ℕ → State
state_with mstatus medeleg translation grain cfg =
    record { registers = with_medeleg (with_status reset_registers mstatus) medeleg; pmp = registers_by grain cfg 0; satp = translation }

-- what a setting says
abbrev pub Right : Setting → Type 0
Right (faults cfg addr address size entry) =
    (mode : Mode) (access : Access) → checked 0 (alone cfg) (alone addr) mode access address size ≡ Fault (fault_cause access) entry
Right (covers cfg addr first last) = entry_span 0 (alone cfg) (alone addr) 0 ≡ record { low = first; high = last + 1 }
Right (counted cfgs addrs n) = length (ranges_of (entry_span 0 cfgs addrs)) ≡ n
Right (decided cfgs addrs address size entry) = (mode : Mode) (access : Access) → decider (checked 0 cfgs addrs mode access address size) ≡ entry
Right (satp held op operand value) = satp_operated held op operand ≡ value
Right (second grain cfg₀ addr₀ cfg addr first last) =
    entry_span grain (cfg₀ ∷ cfg ∷ replicate 14 0) (addr₀ ∷ addr ∷ replicate 14 0) 1 ≡ record { low = first; high = last + 1 }
Right (mapped_by grain cfgs addrs ranges) = ranges_of (entry_span grain cfgs addrs) ≡ ranges
Right (configured grain held op operand value) = pmp_read (operated_by (registers_by grain held 0) op 0x3A0 operand) 0x3A0 ≡ value
Right (addressed grain cfg held op operand read stored) =
    let p = registers_by grain cfg held in
    (pmp_read p 0x3B0 ≡ read) × (get_or (operated_by p op 0x3B0 operand).addrs 0 0 ≡ stored)
Right (holdable mstatus medeleg translation grain cfg hart first) =
    let s = state_with mstatus medeleg translation grain cfg in (can_hold s ≡ hart) × (form_holds First s ≡ first)
Right (leaves r step register value) = register (step_rule (record { registers = r; pmp = reset_pmp 0; satp = 0 }) (memory_at [] 0) step).state.registers ≡ value

abbrev pub AllRight : List Setting → Type 0
AllRight [] = Unit {0}
AllRight (s ∷ settings) = Right s × AllRight settings

-- with a grain of 4 bytes
abbrev pub mapped : List ℕ → List ℕ → List Range → Setting
mapped cfgs addrs ranges = mapped_by 0 cfgs addrs ranges

-- configuration bytes with R, W and X
abbrev pub tor : ℕ
tor = 0x0F

abbrev pub na4 : ℕ
na4 = 0x17

abbrev pub napot : ℕ
napot = 0x1F

-- 1, 3, .. 31
abbrev pub odd : List ℕ
odd = 1 ∷ 3 ∷ 5 ∷ 7 ∷ 9 ∷ 11 ∷ 13 ∷ 15 ∷ 17 ∷ 19 ∷ 21 ∷ 23 ∷ 25 ∷ 27 ∷ 29 ∷ 31 ∷ []

-- from entry i on, n times four bytes without an owner and four of an entry, and the rest of memory: 2 * n + 1 ranges
abbrev pub alternating : ℕ → ℕ → List Range
alternating zero i = range (8 * i) (2 ^ 56 - 1) none ∷ []
alternating (suc n) i = range (8 * i) (8 * i + 3) none ∷ range (8 * i + 4) (8 * i + 7) i ∷ alternating n (suc i)

-- in M with MIE=1, interrupt 7 pending and enabled
abbrev pub interrupted : ℕ → Registers
interrupted mtvec =
    record {
      mode = 3;
      pc = 0x1000;
      mstatus = 0xA00000008;
      medeleg = 0;
      interrupts = record { mideleg = 0; mie = 0x80; mip = 0; lines = 0x80 };
      counters = reset_registers.counters;
      machine = record { tvec = mtvec; counteren = 0; scratch = 0; epc = 0; cause = 0; tval = 0 };
      supervisor = reset_registers.supervisor;
    }

-- in S with SIE=1: SEI (9) delegated, STI (5) not, both pending and enabled
abbrev pub contested : Registers
contested = with_interrupts (with_flow reset_registers 1 0x1000 0xA00000002) 0x200 0x220 0x20 0x200

-- mcycle alone set
abbrev pub cycling : ℕ → Registers
cycling mcycle = with_counters reset_registers 0 mcycle 0

-- the table
abbrev pub settings : List Setting
settings =
    -- W1
    faults na4 3 0x8 8 0
    -- W2 to W6
    ∷ covers napot 0 0 7
    ∷ covers napot 0x20000FFF 0x80000000 0x80007FFF
    ∷ covers napot (2 ^ 52 - 1) 0 (2 ^ 55 - 1)
    ∷ covers napot (2 ^ 53 - 1) 0 (2 ^ 56 - 1)
    ∷ covers napot (2 ^ 54 - 1) 0 (2 ^ 56 - 1)
    ∷ covers tor (2 ^ 54 - 1) 0 (2 ^ 56 - 5)
    -- W7 to W9
    ∷ mapped (reset_pmp 0).cfgs (reset_pmp 0).addrs (range 0 (2 ^ 56 - 1) none ∷ [])
    ∷ mapped (na4 ∷ napot ∷ replicate 14 0) (3 ∷ 0x1FF ∷ replicate 14 0)
    (range 0 0xB 1 ∷ range 0xC 0xF 0 ∷ range 0x10 0xFFF 1 ∷ range 0x1000 (2 ^ 56 - 1) none ∷ [])
    ∷ mapped (replicate entries na4) odd (alternating entries 0)
    ∷ counted (replicate entries na4) odd 33
    -- [5]: the entries that decide in W1 to W9, on a part of their bytes, on all and past them
    ∷ decided (alone na4) (alone 3) 0xC 4 0
    ∷ decided (alone na4) (alone 3) 0x10 4 none
    ∷ decided (alone napot) (alone 0) 0 8 0
    ∷ decided (alone napot) (alone 0) 4 8 0
    ∷ decided (alone napot) (alone 0) 8 1 none
    ∷ decided (alone napot) (alone 0x20000FFF) 0x7FFFFFFC 8 0
    ∷ decided (alone napot) (alone 0x20000FFF) 0x80007FFF 1 0
    ∷ decided (alone napot) (alone 0x20000FFF) 0x80008000 1 none
    ∷ decided (alone napot) (alone (2 ^ 52 - 1)) (2 ^ 55 - 1) 2 0
    ∷ decided (alone napot) (alone (2 ^ 52 - 1)) (2 ^ 55) 1 none
    ∷ decided (alone napot) (alone (2 ^ 53 - 1)) (2 ^ 56 - 8) 8 0
    ∷ decided (alone napot) (alone (2 ^ 54 - 1)) (2 ^ 56 - 4) 8 none
    ∷ decided (alone tor) (alone (2 ^ 54 - 1)) (2 ^ 56 - 8) 8 0
    ∷ decided (alone tor) (alone (2 ^ 54 - 1)) (2 ^ 56 - 4) 4 none
    ∷ decided (reset_pmp 0).cfgs (reset_pmp 0).addrs 0 8 none
    ∷ decided (na4 ∷ napot ∷ replicate 14 0) (3 ∷ 0x1FF ∷ replicate 14 0) 8 4 1
    ∷ decided (na4 ∷ napot ∷ replicate 14 0) (3 ∷ 0x1FF ∷ replicate 14 0) 8 8 0
    ∷ decided (na4 ∷ napot ∷ replicate 14 0) (3 ∷ 0x1FF ∷ replicate 14 0) 0xFFC 8 1
    ∷ decided (na4 ∷ napot ∷ replicate 14 0) (3 ∷ 0x1FF ∷ replicate 14 0) 0x1000 1 none
    ∷ decided (replicate entries na4) odd 0x7C 4 15
    ∷ decided (replicate entries na4) odd 0x78 8 15
    ∷ decided (replicate entries na4) odd 0x80 4 none
    -- W10
    ∷ leaves (with_status reset_registers 0xA00020880) (EventStep Mret) (λ r. r.mstatus) 0xA00000088
    ∷ leaves (with_status reset_registers 0xA00020880) (EventStep Mret) (λ r. r.mode) 1
    -- W11
    ∷ leaves (interrupted 0x80000001) (EventStep TakeInterrupt) (λ r. r.pc) 0x8000001C
    ∷ leaves (interrupted (2 ^ 64 - 4 + 1)) (EventStep TakeInterrupt) (λ r. r.pc) 0x18
    -- W12
    ∷ leaves (cycling (2 ^ 64 - 1)) (EventStep (Elapsed 1 0)) (λ r. r.counters.mcycle) 0
    ∷ leaves (cycling 0) (EventStep (Elapsed 70000 0)) (λ r. r.counters.mcycle) 70000
    -- [2]: STI is taken, to M
    ∷ leaves contested (EventStep TakeInterrupt) (λ r. r.machine.cause) (2 ^ 63 + 5)
    ∷ leaves contested (EventStep TakeInterrupt) (λ r. r.mode) 3
    -- [8]: MODE 0 and 8 with ASID dropped; any other is ignored; judged after set and clear
    ∷ satp 0 Write 0x8FFFF23456789ABC 0x8000023456789ABC
    ∷ satp 0x8000000000000001 Write 0x0FFFFFFFFFFFFFFF 0x00000FFFFFFFFFFF
    ∷ satp 0x8000000000000001 Write 0x9000000000000002 0x8000000000000001
    ∷ satp 0x8000000000000001 Write 0x1000000000000002 0x8000000000000001
    ∷ satp 0x0000000000000001 Set 0x8000000000000002 0x8000000000000003
    ∷ satp 0x8000000000000001 Set 0x4000000000000002 0x8000000000000001
    ∷ satp 0x8000000000000003 Clear 0x8000000000000001 0x0000000000000002
    ∷ satp 0x8000000000000003 Read 0 0x8000000000000003
    -- [9], G of 1, a grain of 8 bytes: TOR's bounds without their lowest bit, whatever A is before; bounds that lie in one grain match nothing
    ∷ second 1 0 3 tor 5 8 15
    ∷ second 1 napot 3 tor 4 8 15
    ∷ mapped_by 1 (0 ∷ tor ∷ replicate 14 0) (2 ∷ 3 ∷ replicate 14 0) (range 0 (2 ^ 56 - 1) none ∷ [])
    ∷ second 1 0 0 napot 0 0 7
    ∷ addressed 1 0 0x7 Read 0 0x6 0x7
    ∷ addressed 1 tor 0x7 Read 0 0x6 0x7
    ∷ addressed 1 napot 0x6 Read 0 0x6 0x6
    -- A=2 leaves a whole byte, each for itself, as made by set or clear; with G of 0 it is taken; a locked byte stays as before
    ∷ configured 1 0x0F08 Write 0x1F17 0x1F08
    ∷ configured 1 0x08 Set 0x10 0x18
    ∷ configured 1 0x00 Set 0x17 0x00
    ∷ configured 1 0x1F Clear 0x08 0x1F
    ∷ configured 0 0x1F Clear 0x08 0x17
    ∷ configured 1 0x00 Write 0x97 0x00
    ∷ configured 1 0x98 Write 0x1F0F 0x1F98
    -- G of 2, 16 bytes: set and clear start from what is read, and a write stores all bits
    ∷ second 2 0 0 napot 0 0 15
    ∷ second 2 0 0 napot 6 0 63
    ∷ second 2 0 0 napot 4 16 31
    ∷ second 2 napot 7 tor 13 16 47
    ∷ mapped_by 2 (napot ∷ tor ∷ replicate 14 0) (4 ∷ 15 ∷ replicate 14 0)
    (range 0 15 none ∷ range 16 31 0 ∷ range 32 47 1 ∷ range 48 (2 ^ 56 - 1) none ∷ [])
    ∷ addressed 2 0 0x7 Read 0 0x4 0x7
    ∷ addressed 2 napot 0x6 Read 0 0x7 0x6
    ∷ addressed 2 tor 0x7 Set 0 0x4 0x4
    ∷ addressed 2 napot 0x4 Set 0x8 0x5 0xD
    ∷ addressed 2 napot 0x6 Clear 0x4 0x7 0x3
    ∷ addressed 2 tor 0x7 Write 0x3 0x4 0x3
    -- G of 10, 4,096 bytes, up to the end of memory; all ones, stored with A=0, read with bit G the lowest one set
    ∷ second 10 0 0 napot 0 0 0xFFF
    ∷ second 10 0 0 napot 0x240 0 0x1FFF
    ∷ second 10 napot 0x7FF tor 0xFFF 0x1000 0x2FFF
    ∷ second 10 0 0 tor (2 ^ 54 - 1) 0 (2 ^ 56 - 0x1001)
    ∷ second 10 0 0 napot (2 ^ 54 - 1) 0 (2 ^ 56 - 1)
    ∷ mapped_by 10 (alone tor) (alone 0x3FF) (range 0 (2 ^ 56 - 1) none ∷ [])
    ∷ addressed 10 0 0 Write (2 ^ 64 - 1) 0 (2 ^ 54 - 1)
    ∷ addressed 10 0 (2 ^ 54 - 1) Read 0 (2 ^ 54 - 2 ^ 10) (2 ^ 54 - 1)
    ∷ addressed 10 napot 0 Read 0 0x1FF 0
    ∷ configured 10 0x18 Clear 0x18 0x00
    -- reading and matching take a G above 10 as 0
    ∷ second 11 0 3 tor 5 12 19
    ∷ addressed 11 0 0x7 Read 0 0x7 0x7
    -- what a hart can hold of the longer state, and what of it the first form of a text can: mstatus within 0x7E19AA, of which SUM has no place in that form
    ∷ holdable 0xA00000000 0 0 0 0 true true
    ∷ holdable 0xA007A19AA 0 0 0 0 true true
    ∷ holdable 0xA007E19AA 0 0 0 0 true false
    ∷ holdable 0xA00040000 0 0 0 0 true false
    ∷ holdable 0xA00800000 0 0 0 0 false true
    -- medeleg within 0xB3FF, and there within 0x3FF
    ∷ holdable 0xA00000000 0x3FF 0 0 0 true true
    ∷ holdable 0xA00000000 0xB3FF 0 0 0 true false
    ∷ holdable 0xA00000000 0x1000 0 0 0 true false
    ∷ holdable 0xA00000000 0x400 0 0 0 false false
    ∷ holdable 0xA00000000 0x4000 0 0 0 false false
    ∷ holdable 0xA00000000 0x10000 0 0 0 false false
    -- satp: MODE 0 or 8, ASID 0, PPN of 44 bits
    ∷ holdable 0xA00000000 0 0x8000000000000000 0 0 true false
    ∷ holdable 0xA00000000 0 0x00000FFFFFFFFFFF 0 0 true false
    ∷ holdable 0xA00000000 0 0x80000FFFFFFFFFFF 0 0 true false
    ∷ holdable 0xA00000000 0 0x9000000000000000 0 0 false false
    ∷ holdable 0xA00000000 0 0x4000000000000000 0 0 false false
    ∷ holdable 0xA00000000 0 0x1000000000000000 0 0 false false
    ∷ holdable 0xA00000000 0 0x8000100000000000 0 0 false false
    ∷ holdable 0xA00000000 0 0x8800000000000000 0 0 false false
    -- a grain of 1 to 10, and with it no NA4
    ∷ holdable 0xA00000000 0 0 1 0 true false
    ∷ holdable 0xA00000000 0 0 10 napot true false
    ∷ holdable 0xA00000000 0 0 11 0 false false
    ∷ holdable 0xA00000000 0 0 0 na4 true true
    ∷ holdable 0xA00000000 0 0 1 na4 false false
    ∷ []
