-- Laws of entries, of the lent memory and of the walk. Assumes nothing.
use Rattle.std.proofs.Common.{◌≡◌, ℕ, ◌+◌, ◌-◌, ◌*◌, ◌/◌, ◌%◌, ◌^◌, ◌<◌, ◌≤◌, true, false, length, get_or, Ok, Err, arith, le-ltb, lt-ltb, le-leb}
use borrow.Author.Tests.{lt-leb}
use Rattle.pmp.specs.Rule.{none}
use Rattle.protection.specs.declared.Pmp.{Pmp}
use Rattle.paging.specs.declared.Context.{Context}
use Rattle.paging.specs.declared.WalkFault.TheVariants.{Page as PageFault, Denied}
use Rattle.paging.specs.Memory.{Memory, word_at}
use Rattle.paging.specs.Entry.{pages}
use Rattle.paging.specs.Walk.{canonical, entry_address, walk_from, walked}

-- ---- word k stands at base + 8k, and no address before or behind the words has one

module _ (m : Memory) where
  pub word_inside : (k : ℕ) → k < length m.words → word_at m (m.base + 8 * k) ≡ Ok (get_or m.words k 0)
  word_inside k h =
      let e : (m.base + 8 * k - m.base) / 8 ≡ k = omega arith in
      rw (le-leb m.base (m.base + 8 * k) (omega arith), e, lt-ltb k (length m.words) h)

  pub word_before : (address : ℕ) → address < m.base → word_at m address ≡ Err (Denied none)
  word_before address h = rw (lt-leb m.base address h)

  pub word_beyond : (address : ℕ) → m.base + 8 * length m.words ≤ address → word_at m address ≡ Err (Denied none)
  word_beyond address h =
      let l : length m.words ≤ (address - m.base) / 8 = omega arith in
      rw (le-leb m.base address (omega arith), le-ltb ((address - m.base) / 8) (length m.words) l)

-- an entry's address is a multiple of 8, as the base of a lawful memory is: these are all the cases
pub entry-aligned : (table level address : ℕ) → entry_address table level address % 8 ≡ 0
entry-aligned table level address = multiple (table % 2 ^ 44) (address / (4096 * pages level) % 512)
  where
    multiple : (a b : ℕ) → (a * 4096 + b * 8) % 8 ≡ 0
    multiple a b = omega arith

-- ---- where a walk goes

module _ (p : Pmp) (m : Memory) (c : Context) (address : ℕ) where
  pub walk_whole : canonical address ≡ true → walked p m c address ≡ walk_from p m c address 3 c.satp
  unfolding walked
  walk_whole e = rw e

  pub walk_stray : canonical address ≡ false → walked p m c address ≡ Err PageFault
  unfolding walked
  walk_stray e = rw e
