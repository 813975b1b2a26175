-- 02, [8]: the lent memory: words that stand one behind the other from a physical address on.
use Rattle.std.specs.Prelude.{ℕ, ◌+◌, ◌-◌, ◌*◌, ◌/◌, ◌%◌, Bool, cond, ◌&&◌, List, length, ◌==◌, nat_le, nat_lt, slice_index, Result, Ok, Err}
use Rattle.pmp.specs.Entry.{top}
use Rattle.pmp.specs.Rule.{none}
use Rattle.paging.specs.declared.Memory.{Memory as LentMemory}
use Rattle.paging.specs.declared.WalkFault.{WalkFault}
use Rattle.paging.specs.declared.WalkFault.TheVariants.{Denied}

pub record Memory : Type 0 where
  pub words : List ℕ
  pub base : ℕ

abbrev pub memory_at : List ℕ → ℕ → Memory
memory_at words base = record { words = words; base = base }

-- the memory that the code's struct lends
abbrev pub memory_of : LentMemory → Memory
memory_of m = memory_at m.words.now m.base

-- refusal 13 where not: the address is a multiple of 8, and with 8 added for each word it is not above 2^56
abbrev pub lawful : Memory → Bool
lawful m = m.base % 8 == 0 && nat_le (m.base + 8 * length m.words) top

-- the number of the word at an address, and whether the memory has it
abbrev pub word_number : Memory → ℕ → ℕ
word_number m address = (address - m.base) / 8

abbrev pub has_word : Memory → ℕ → Bool
has_word m address = nat_le m.base address && nat_lt (word_number m address) (length m.words)

-- a word of a page table, or why the walk can go no further
abbrev pub Word : Type 0
Word = Result ℕ WalkFault

-- the word at an address; one outside the slice is denied by no entry
abbrev pub word_at : Memory → ℕ → Word
word_at m address = cond (has_word m address) (Ok (slice_index m.words (word_number m address))) (Err (Denied none))
