-- 02, [8]: what an entry of a page table (PTE) says: V, R, W, X, U, G, A, D are bits 0 to 7, RSW bits 9:8, PPN bits 53:10.
use Rattle.std.specs.Prelude.{ℕ, ◌+◌, ◌*◌, ◌/◌, ◌%◌, ◌^◌, Bool, true, false, cond, not, ◌&&◌, ◌||◌, ◌==◌, Result, Ok, Err}
use Rattle.bits.specs.Mask.{test_bit}
use Rattle.pmp.specs.declared.Mode.{Mode}
use Rattle.pmp.specs.declared.Mode.TheVariants.{User, Supervisor, Machine}
use Rattle.pmp.specs.declared.Access.{Access}
use Rattle.pmp.specs.declared.Access.TheVariants.{Fetch, Load, Store}
use Rattle.registers.specs.Status.{sum, mxr}
use Rattle.paging.specs.declared.Context.{Context}
use Rattle.paging.specs.declared.WalkFault.{WalkFault}
use Rattle.paging.specs.declared.WalkFault.TheVariants.{Page as PageFault}
use Rattle.paging.specs.declared.Found.{Found}
use Rattle.paging.specs.declared.Found.TheVariants.{Table, Page}

abbrev pub valid : ℕ → Bool
valid pte = test_bit pte 0

abbrev pub readable : ℕ → Bool
readable pte = test_bit pte 1

abbrev pub writable : ℕ → Bool
writable pte = test_bit pte 2

abbrev pub executable : ℕ → Bool
executable pte = test_bit pte 3

abbrev pub user : ℕ → Bool
user pte = test_bit pte 4

abbrev pub accessed : ℕ → Bool
accessed pte = test_bit pte 6

abbrev pub dirty : ℕ → Bool
dirty pte = test_bit pte 7

-- a page number, of an entry or of satp, has 44 bits
abbrev pub page_number : ℕ → ℕ
page_number word = word % 2 ^ 44

abbrev pub ppn : ℕ → ℕ
ppn pte = page_number (pte / 2 ^ 10)

-- a page fault where not: V=1, never R=0 with W=1, and bits 63:54 are 0
abbrev pub well_formed : ℕ → Bool
well_formed pte = valid pte && ((readable pte || not (writable pte)) && pte / 2 ^ 54 == 0)

-- a leaf has R or X, a pointer neither
abbrev pub leaf : ℕ → Bool
leaf pte = readable pte || executable pte

-- the page's own permission: X, R or W; with MXR a load may also read what may be executed
abbrev pub permits : Access → ℕ → ℕ → Bool
permits Fetch mstatus pte = executable pte
permits Load mstatus pte = readable pte || (mxr mstatus && executable pte)
permits Store mstatus pte = writable pte

-- SUM lets S load and store on a U page, and never execute
abbrev pub sum_allows : Access → ℕ → Bool
sum_allows Fetch mstatus = false
sum_allows Load mstatus = sum mstatus
sum_allows Store mstatus = sum mstatus

-- U uses U pages alone, S the others. M is never translated
abbrev pub usable : Mode → Access → ℕ → ℕ → Bool
usable User access mstatus pte = user pte
usable Supervisor access mstatus pte = not (user pte) || sum_allows access mstatus
usable Machine access mstatus pte = true

-- a page fault where not: A=1, and D=1 on a store
abbrev pub marked : Access → ℕ → Bool
marked Fetch pte = accessed pte
marked Load pte = accessed pte
marked Store pte = accessed pte && dirty pte

-- the pages below an entry of this level: 1, 2^9, 2^18
abbrev pub pages : ℕ → ℕ
pages level = 512 ^ level

-- a superpage starts at a multiple of its size
abbrev pub aligned : ℕ → ℕ → Bool
aligned level pte = ppn pte % pages level == 0

-- the physical address: the page, then the low bits of the virtual address
abbrev pub physical : ℕ → ℕ → ℕ → ℕ
physical level pte address = ppn pte * 4096 + address % (4096 * pages level)

abbrev pub allows : Context → ℕ → ℕ → Bool
allows c level pte =
    permits c.access c.mstatus pte && (usable c.mode c.access c.mstatus pte && (aligned level pte && marked c.access pte))

-- what an entry says, or why the walk ends at it
abbrev pub Says : Type 0
Says = Result Found WalkFault

abbrev pub leaf_says : Context → ℕ → ℕ → ℕ → Says
leaf_says c address level pte = cond (allows c level pte) (Ok (Page (physical level pte address))) (Err PageFault)

-- U, A and D of a pointer are reserved: a page fault where one is set
abbrev pub reserved : ℕ → Bool
reserved pte = user pte || (accessed pte || dirty pte)

abbrev pub pointer_says : ℕ → Says
pointer_says pte = cond (reserved pte) (Err PageFault) (Ok (Table (ppn pte)))

unfoldable pub entry_says : Context → ℕ → ℕ → ℕ → Says
entry_says c address level pte =
    cond (well_formed pte) (cond (leaf pte) (leaf_says c address level pte) (pointer_says pte)) (Err PageFault)
