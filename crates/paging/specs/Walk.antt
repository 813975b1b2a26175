-- 02, [8]: the Sv39 walk, from level 2 down to level 0.
use Rattle.std.specs.Prelude.{ℕ, zero, suc, ◌+◌, ◌*◌, ◌/◌, ◌%◌, ◌^◌, Bool, cond, ◌||◌, ◌==◌, Result, Ok, Err}
use Rattle.pmp.specs.declared.Mode.{Mode}
use Rattle.pmp.specs.declared.Mode.TheVariants.{Supervisor}
use Rattle.pmp.specs.declared.Access.{Access}
use Rattle.pmp.specs.declared.Access.TheVariants.{Load}
use Rattle.pmp.specs.declared.Decision.{Decision}
use Rattle.pmp.specs.declared.Decision.TheVariants.{Granted, Fault, Refused}
use Rattle.protection.specs.Spans.{spans_of}
use Rattle.pmp.specs.Rule.{none, byte_rule}
use Rattle.protection.specs.declared.Pmp.{Pmp}
use Rattle.paging.specs.declared.Context.{Context}
use Rattle.paging.specs.declared.Check.{Check}
use Rattle.paging.specs.declared.WalkFault.{WalkFault}
use Rattle.paging.specs.declared.WalkFault.TheVariants.{Page as PageFault, Denied}
use Rattle.paging.specs.declared.Found.TheVariants.{Table, Page}
use Rattle.paging.specs.Memory.{Memory, Word, word_at}
use Rattle.paging.specs.Entry.{page_number, pages, Says, entry_says}

-- bits 63:39 are like bit 38
abbrev pub canonical : ℕ → Bool
canonical address = address / 2 ^ 38 == 0 || address / 2 ^ 38 == 0x3FFFFFF

-- VPN of a level: the nine bits of the address that index its table
abbrev pub vpn : ℕ → ℕ → ℕ
vpn level address = address / (4096 * pages level) % 512

-- a table is named by the low 44 bits of a number: the page of a pointer, or satp itself
abbrev pub entry_address : ℕ → ℕ → ℕ → ℕ
entry_address table level address = page_number table * 4096 + vpn level address * 8

-- a word is read where the byte rule grants it, and else denied by the entry that decided. The byte rule never refuses
abbrev pub read_by : Decision → Word → Word
read_by (Granted entry) word = word
read_by (Fault cause entry) word = Err (Denied entry)
read_by (Refused refusal) word = Err (Denied none)

-- a page-table read: the byte rule with mode S first, then the slice
unfoldable pub table_read : Pmp → Memory → ℕ → Word
table_read p m address = read_by (byte_rule (spans_of p) p.cfgs Supervisor Load address 8) (word_at m address)

abbrev pub word_says : Context → ℕ → ℕ → Word → Says
word_says c address level (Ok pte) = entry_says c address level pte
word_says c address level (Err fault) = Err fault

-- where a walk ends: at a physical address, or with a fault
abbrev pub Walked : Type 0
Walked = Result ℕ WalkFault

-- a pointer leads on to the next table
abbrev pub onward : (ℕ → Walked) → Says → Walked
onward next (Ok (Table table)) = next table
onward next (Ok (Page physical)) = Ok physical
onward next (Err fault) = Err fault

module _ (p : Pmp) (m : Memory) (c : Context) (address : ℕ) where
  -- what is found in the table of a level
  unfoldable pub found_at : ℕ → ℕ → Says
  found_at level table = word_says c address level (table_read p m (entry_address table level address))

  -- the walk through so many levels; a pointer at level 0 is a page fault
  unfoldable pub walk_from : ℕ → ℕ → Walked
  walk_from zero table = Err PageFault
  walk_from (suc level) table = onward (walk_from level) (found_at level table)

  unfoldable pub walked : Walked
  walked = cond (canonical address) (walk_from 3 c.satp) (Err PageFault)

-- what the byte rule is asked
abbrev pub asked : Mode → Access → ℕ → ℕ → Check
asked mode access place size = record { mode = mode; access = access; place = place; size = size }

-- and where so many levels are left: about the read of an entry in a table, with mode S, or about the access itself, at a physical address
abbrev pub next_check : Context → ℕ → ℕ → ℕ → ℕ → Check
next_check c address size zero place = asked c.mode c.access place size
next_check c address size (suc level) table = asked Supervisor Load (entry_address table level address) 8
