-- 02, [8]: worked page tables, as one table.
use Rattle.std.specs.Prelude.{◌≡◌, ℕ, zero, suc, ◌+◌, ◌-◌, ◌*◌, ◌^◌, List, [], ◌∷◌, replicate, Ok, Err}
use Rattle.pmp.specs.declared.Mode.{Mode}
use Rattle.pmp.specs.declared.Mode.TheVariants.{User, Supervisor, Machine}
use Rattle.pmp.specs.declared.Access.{Access}
use Rattle.pmp.specs.declared.Access.TheVariants.{Fetch, Load, Store}
use Rattle.pmp.specs.declared.Refusal.{Refusal}
use Rattle.pmp.specs.Rule.{none}
use Rattle.protection.specs.declared.Pmp.{Pmp}
use Rattle.paging.specs.declared.Context.{Context}
use Rattle.paging.specs.declared.WalkFault.TheVariants.{Page as PageFault, Denied}
use Rattle.paging.specs.declared.NotGranted.TheVariants.{Fault, Refused}
use Rattle.paging.specs.Memory.{Memory, memory_at}
use Rattle.paging.specs.Walk.{Walked, walked}
use Rattle.paging.specs.Access.{Reached, reached}

-- an entry: a page number and flags
abbrev pub entry : ℕ → ℕ → ℕ
entry page flags = page * 2 ^ 10 + flags

-- the page of the tables, and of satp
abbrev pub home : ℕ
home = 0x80000

abbrev pub rooted : ℕ
rooted = 8 * 2 ^ 60 + home

-- one page is the table of all three levels: word 0 points to the page itself, word 1 is the entry in question, word 2 a page with R W X A D
abbrev pub tables : ℕ → Memory
tables pte = memory_at (entry home 0x01 ∷ pte ∷ entry 0x12345 0xCF ∷ []) (home * 4096)

-- only the last word of that page: a leaf
abbrev pub last_word : Memory
last_word = memory_at (entry 0x40000 0xCF ∷ []) (home * 4096 + 511 * 8)

-- an address with these VPNs, from level 2 down, and this offset
abbrev pub va : ℕ → ℕ → ℕ → ℕ → ℕ
va two one last offset = two * 2 ^ 30 + one * 2 ^ 21 + last * 2 ^ 12 + offset

abbrev pub sum_bit : ℕ
sum_bit = 0x40000

abbrev pub mxr_bit : ℕ
mxr_bit = 0x80000

-- entry 3 grants all memory to all; before it nothing is granted by entry 0, four bytes from 0x40001000 on, entry 1, page 0x90000, and
-- entry 2, eight bytes from 0x12345800 on
abbrev pub pmp : Pmp
pmp =
    record {
      grain = 0;
      cfgs = 0x10 ∷ 0x18 ∷ 0x18 ∷ 0x1F ∷ replicate 12 0;
      addrs = 0x10000400 ∷ 0x240001FF ∷ 0x48D1600 ∷ (2 ^ 54 - 1) ∷ replicate 12 0;
    }

abbrev pub asking : ℕ → ℕ → Mode → Access → Context
asking satp mstatus mode access = record { satp = satp; mstatus = mstatus; mode = mode; access = access }

pub data Setting : Type 0 where
  -- with this entry as word 1 the walk to an address ends so
  walks : (pte : ℕ) → Mode → Access → (mstatus address : ℕ) → Walked → Setting
  -- and an access comes to this
  reaches : (pte : ℕ) → Mode → Access → (mstatus address size : ℕ) → Reached → Setting
  -- with this memory and satp a load comes to this
  loads : Memory → (satp : ℕ) → Mode → (address size : ℕ) → Reached → Setting

-- what a setting says
abbrev pub Right : Setting → Type 0
Right (walks pte mode access mstatus address w) = walked pmp (tables pte) (asking rooted mstatus mode access) address ≡ w
Right (reaches pte mode access mstatus address size r) = reached pmp (tables pte) (asking rooted mstatus mode access) address size ≡ r
Right (loads memory satp mode address size r) = reached pmp memory (asking satp 0 mode Load) address size ≡ r

abbrev pub AllRight : List Setting → Type 0
AllRight [] = Unit {0}
AllRight (s ∷ settings) = Right s × AllRight settings

-- a page fault for each of the n bits from 54 on
abbrev pub reserved_bits : ℕ → List Setting → List Setting
reserved_bits zero settings = settings
reserved_bits (suc n) settings =
    walks (entry 0x12345 0xCF + 2 ^ (54 + n)) Supervisor Load 0 (va 0 0 1 0) (Err PageFault) ∷ reserved_bits n settings

-- the table
abbrev pub settings : List Setting
settings =
    -- pages of 4 KiB, 2 MiB and 1 GiB; G and RSW do not matter
    walks (entry 0x12345 0xCF) Supervisor Load 0 (va 0 0 1 0x234) (Ok 0x12345234)
    ∷ walks (entry 0x40200 0xCF) Supervisor Store 0 (va 0 1 0x1FF 0x234) (Ok 0x403FF234)
    ∷ walks (entry 0x40000 0xCF) Supervisor Fetch 0 (va 1 0x1FF 0x1FF 0x234) (Ok 0x7FFFF234)
    ∷ walks (entry (2 ^ 44 - 1) 0x3EF) Supervisor Load 0 (va 0 0 1 0x234) (Ok (2 ^ 56 - 0xDCC))
    -- a superpage that is misaligned
    ∷ walks (entry 0x40201 0xCF) Supervisor Load 0 (va 0 1 0 0) (Err PageFault)
    ∷ walks (entry 0x40001 0xCF) Supervisor Load 0 (va 1 0 0 0) (Err PageFault)
    ∷ walks (entry 0x40200 0xCF) Supervisor Load 0 (va 1 0 0 0) (Err PageFault)
    -- V=0; R=0 with W=1; bits 63:54
    ∷ walks (entry 0x12345 0xCE) Supervisor Load 0 (va 0 0 1 0) (Err PageFault)
    ∷ walks (entry 0x12345 0xC5) Supervisor Store 0 (va 0 0 1 0) (Err PageFault)
    ∷ walks (entry 0x12345 0xCD) Supervisor Fetch 0 (va 0 0 1 0) (Err PageFault)
    ∷ reserved_bits 10
    -- a pointer, at level 0 too; G and RSW do not matter; U, A and D are reserved
    (walks (entry home 0x01) Supervisor Load 0 (va 1 0 2 0) (Ok 0x12345000)
    ∷ walks (entry home 0x01) Supervisor Load 0 (va 0 0 1 0) (Err PageFault)
    ∷ walks (entry home 0x321) Supervisor Load 0 (va 1 1 2 0) (Ok 0x12345000)
    ∷ walks (entry home 0x11) Supervisor Load 0 (va 1 0 2 0) (Err PageFault)
    ∷ walks (entry home 0x41) Supervisor Load 0 (va 0 1 2 0) (Err PageFault)
    ∷ walks (entry home 0x81) Supervisor Load 0 (va 1 0 2 0) (Err PageFault)
    -- bits 63:39 unlike bit 38; where all are 1, the read is of word 256, which is outside the slice
    ∷ walks 0 Supervisor Load 0 (va 0 0 2 0 + 2 ^ 39) (Err PageFault)
    ∷ walks 0 Supervisor Load 0 (va 0 0 2 0 + 2 ^ 63) (Err PageFault)
    ∷ walks 0 Supervisor Load 0 (2 ^ 38) (Err PageFault)
    ∷ walks 0 Supervisor Load 0 (2 ^ 64 - 2 ^ 38) (Err (Denied none))
    -- the page's own permission, and MXR
    ∷ walks (entry 0x12345 0x49) Supervisor Fetch 0 (va 0 0 1 0) (Ok 0x12345000)
    ∷ walks (entry 0x12345 0xC7) Supervisor Fetch 0 (va 0 0 1 0) (Err PageFault)
    ∷ walks (entry 0x12345 0xCB) Supervisor Store 0 (va 0 0 1 0) (Err PageFault)
    ∷ walks (entry 0x12345 0xC9) Supervisor Load 0 (va 0 0 1 0) (Err PageFault)
    ∷ walks (entry 0x12345 0xC9) Supervisor Load mxr_bit (va 0 0 1 0) (Ok 0x12345000)
    ∷ walks (entry 0x12345 0xC9) Supervisor Store mxr_bit (va 0 0 1 0) (Err PageFault)
    -- U pages, and SUM, which never lets S execute
    ∷ walks (entry 0x12345 0xDF) User Fetch 0 (va 0 0 1 0) (Ok 0x12345000)
    ∷ walks (entry 0x12345 0xCF) User Load sum_bit (va 0 0 1 0) (Err PageFault)
    ∷ walks (entry 0x12345 0xDF) Supervisor Load 0 (va 0 0 1 0) (Err PageFault)
    ∷ walks (entry 0x12345 0xDF) Supervisor Load sum_bit (va 0 0 1 0) (Ok 0x12345000)
    ∷ walks (entry 0x12345 0xDF) Supervisor Store sum_bit (va 0 0 1 0) (Ok 0x12345000)
    ∷ walks (entry 0x12345 0xDF) Supervisor Fetch sum_bit (va 0 0 1 0) (Err PageFault)
    -- A=0; D=0 on a store
    ∷ walks (entry 0x12345 0x8F) Supervisor Load 0 (va 0 0 1 0) (Err PageFault)
    ∷ walks (entry 0x12345 0x8F) Supervisor Store 0 (va 0 0 1 0) (Err PageFault)
    ∷ walks (entry 0x12345 0x4F) Supervisor Fetch 0 (va 0 0 1 0) (Ok 0x12345000)
    ∷ walks (entry 0x12345 0x4F) Supervisor Store 0 (va 0 0 1 0) (Err PageFault)
    -- a table before the slice and one behind it; one that entry 1 denies, which is judged first
    ∷ walks (entry 0x7FFFF 0x01) Supervisor Load 0 (va 1 0 2 0) (Err (Denied none))
    ∷ walks (entry 0x80001 0x01) Supervisor Load 0 (va 1 0 2 0) (Err (Denied none))
    ∷ walks (entry 0x90000 0x01) Supervisor Load 0 (va 1 0 2 0) (Err (Denied 1))
    -- accesses: a grant, a page fault, a table that is denied, a page that is denied
    ∷ reaches (entry 0x12345 0xCF) Supervisor Load 0 (va 0 0 1 0x234) 8 (Ok 3)
    ∷ reaches (entry 0x12345 0xCF) User Store 0 (va 0 0 1 0x234) 8 (Err (Fault 15 (va 0 0 1 0x234) none))
    ∷ reaches (entry 0x12345 0xC7) Supervisor Fetch 0 (va 0 0 1 0) 4 (Err (Fault 12 (va 0 0 1 0) none))
    ∷ reaches (entry 0x90000 0x01) User Fetch 0 (va 1 0 2 4) 4 (Err (Fault 1 (va 1 0 2 4) 1))
    ∷ reaches (entry 0x12345 0xCF) Supervisor Store 0 (va 0 0 1 0x7FC) 8 (Err (Fault 7 (va 0 0 1 0x7FC) 2))
    -- across a boundary each part keeps its own size: eight bytes would reach entry 0's. A boundary within a superpage counts
    ∷ reaches (entry 0x40000 0xCF) Supervisor Store 0 (va 0 0 1 0xFFC) 8 (Ok 3)
    ∷ reaches (entry 0x40000 0xCF) Supervisor Store 0 (va 0 1 0 0xFFC) 8 (Err (Fault 7 (va 0 1 1 0) 0))
    ∷ reaches (entry 0x40000 0xDF) User Load 0 (va 0 0 1 0xFFF) 2 (Err (Fault 13 (va 0 0 2 0) none))
    ∷ reaches (entry 0x40000 0x4F) Supervisor Store 0 (va 0 0 1 0xFFC) 8 (Err (Fault 15 (va 0 0 1 0xFFC) none))
    ∷ reaches 0 Supervisor Load 0 (va 0 0 2 0xFFC) 8 (Err (Fault 5 (va 0 0 3 0) none))
    -- round the end of the addresses: the second part starts at 0
    ∷ loads last_word rooted Supervisor (2 ^ 64 - 1) 1 (Ok 3)
    ∷ loads last_word rooted Supervisor (2 ^ 64 - 1) 2 (Err (Fault 5 0 none))
    -- mode M and MODE 0 are untranslated, and have no parts
    ∷ reaches 0 Machine Store 0 0x40000FFC 8 (Err (Fault 7 0x40000FFC 0))
    ∷ loads (memory_at [] 0) home Supervisor 0x12345000 8 (Ok 3)
    ∷ loads (memory_at [] 0) rooted Supervisor 0x12345000 8 (Err (Fault 5 0x12345000 none))
    -- refusal 13, before 1
    ∷ loads (memory_at [] 4) 0 Supervisor 0x1000 3 (Err (Refused Refusal.Memory))
    ∷ loads (memory_at [] (2 ^ 56)) 0 Supervisor 0x1000 8 (Ok 3)
    ∷ loads (memory_at (0 ∷ []) (2 ^ 56)) 0 Supervisor 0x1000 8 (Err (Refused Refusal.Memory))
    ∷ loads (memory_at [] (2 ^ 56 + 8)) rooted Supervisor 0x1000 8 (Err (Refused Refusal.Memory))
    ∷ loads (memory_at [] 0) rooted Supervisor 0x1000 3 (Err (Refused Refusal.Size))
    ∷ [])
