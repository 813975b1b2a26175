-- 02, [8]: what an access comes to.
use Rattle.std.specs.Prelude.{ℕ, ◌+◌, ◌-◌, ◌%◌, ◌^◌, min, Bool, false, cond, ◌==◌, Result, Ok, Err}
use Rattle.pmp.specs.declared.Mode.{Mode}
use Rattle.pmp.specs.declared.Mode.TheVariants.{User, Supervisor, Machine}
use Rattle.pmp.specs.declared.Access.{Access}
use Rattle.pmp.specs.declared.Access.TheVariants.{Fetch, Load, Store}
use Rattle.pmp.specs.declared.Decision.{Decision}
use Rattle.pmp.specs.declared.Decision.TheVariants.{Granted as RuleGrants, Fault as RuleFaults, Refused as RuleRefuses}
use Rattle.pmp.specs.declared.Refusal.{Refusal}
use Rattle.pmp.specs.Number.{fault_cause}
use Rattle.protection.specs.Spans.{spans_of}
use Rattle.pmp.specs.Rule.{none, byte_rule, is_size}
use Rattle.protection.specs.declared.Pmp.{Pmp}
use Rattle.paging.specs.declared.Context.{Context}
use Rattle.paging.specs.declared.WalkFault.{WalkFault}
use Rattle.paging.specs.declared.WalkFault.TheVariants.{Page as PageFault, Denied}
use Rattle.paging.specs.declared.NotGranted.{NotGranted}
use Rattle.paging.specs.declared.NotGranted.TheVariants.{Fault, Refused}
use Rattle.paging.specs.Satp.{satp_mode}
use Rattle.paging.specs.Memory.{Memory, lawful}
use Rattle.paging.specs.Walk.{Walked, walked}

-- page faults: fetch 12, load 13, store 15
abbrev pub page_fault_cause : Access → ℕ
page_fault_cause Fetch = 12
page_fault_cause Load = 13
page_fault_cause Store = 15

-- MODE 8 of satp translates; effective mode M is untranslated
abbrev pub translates : ℕ → Mode → Bool
translates satp User = satp_mode satp == 8
translates satp Supervisor = satp_mode satp == 8
translates satp Machine = false

abbrev pub translated : Context → Bool
translated c = translates c.satp c.mode

-- what an access comes to: the entry that grants it, or why it is not granted
abbrev pub Reached : Type 0
Reached = Result ℕ NotGranted

-- what the byte rule decides, with the trap value of a fault
abbrev pub by_rule : ℕ → Decision → Reached
by_rule tval (RuleGrants entry) = Ok entry
by_rule tval (RuleFaults cause entry) = Err (Fault cause tval entry)
by_rule tval (RuleRefuses refusal) = Err (Refused refusal)

-- a walk that ends in a fault; tval is the virtual address
abbrev pub faulted : Access → ℕ → WalkFault → NotGranted
faulted access address PageFault = Fault (page_fault_cause access) address none
faulted access address (Denied entry) = Fault (fault_cause access) address entry

-- the first fault wins
abbrev pub and_then : Reached → Reached → Reached
and_then (Ok entry) next = next
and_then (Err why) next = Err why

-- the bytes from an address up to the next boundary
abbrev pub room : ℕ → ℕ
room address = 4096 - address % 4096

-- the bytes of an access that come before the boundary; one that is not translated heeds none
abbrev pub first_part : Context → ℕ → ℕ → ℕ
first_part c address size = cond (translated c) (min size (room address)) size

module _ (p : Pmp) (m : Memory) (c : Context) where
  -- the physical address, or a fault; untranslated the address is a physical one
  unfoldable pub located : ℕ → Walked
  located address = cond (translated c) (walked p m c address) (Ok address)

  -- what the byte rule decides of an access to physical memory, in the effective mode
  abbrev pub decided : ℕ → ℕ → Decision
  decided place size = byte_rule (spans_of p) p.cfgs c.mode c.access place size

  -- at a physical address the byte rule decides; tval is the virtual address
  abbrev pub arrived : ℕ → ℕ → Walked → Reached
  arrived address size (Ok place) = by_rule address (decided place size)
  arrived address size (Err fault) = Err (faulted c.access address fault)

  unfoldable pub part_reached : ℕ → ℕ → Reached
  part_reached address size = arrived address size (located address)

  -- two accesses in order where the first part is not all; addresses wrap at 2^64
  unfoldable pub parts_reached : ℕ → ℕ → ℕ → Reached
  parts_reached first address size =
      cond (first == size)
      (part_reached address size)
      (and_then (part_reached address first) (part_reached ((address + first) % 2 ^ 64) (size - first)))

  -- refusal 13, then refusal 1
  unfoldable pub reached : ℕ → ℕ → Reached
  reached address size =
      cond (lawful m) (cond (is_size size) (parts_reached (first_part c address size) address size) (Err (Refused Refusal.Size))) (Err (Refused Refusal.Memory))
