-- 01, "Protection, byte by byte", and 02, [5]: which access the entries grant, and the entry that decides. `spans` gives the bytes of each entry.
use Rattle.std.specs.Prelude.{ℕ, ◌/◌, ◌%◌, Bool, cond, ◌||◌, List, leb, ltb, eqb, get_or}
use Rattle.pmp.specs.declared.Mode.{Mode}
use Rattle.pmp.specs.declared.Mode.TheVariants.{User, Supervisor, Machine}
use Rattle.pmp.specs.declared.Access.{Access}
use Rattle.pmp.specs.declared.Access.TheVariants.{Fetch, Load, Store}
use Rattle.pmp.specs.declared.Decision.{Decision}
use Rattle.pmp.specs.declared.Decision.TheVariants.{Granted, Fault, Refused}
use Rattle.pmp.specs.declared.Refusal.TheVariants.{Size}
use Rattle.pmp.specs.declared.Span.{Span}
use Rattle.pmp.specs.Number.{fault_cause}
use Rattle.pmp.specs.Search.{lowest, any_byte, every_byte, least}
use Rattle.pmp.specs.Entry.{top, entries, locked, entry_span, matches}

-- what stands for an entry where none matches: the number after the last entry's
abbrev pub none : ℕ
none = entries

-- the entry's bit for the access: X, R or W
abbrev pub permission : Access → ℕ → ℕ
permission Fetch cfg = cfg / 4 % 2
permission Load cfg = cfg % 2
permission Store cfg = cfg / 2 % 2

-- what entry number i decides by its bit
abbrev pub by_permission : Access → ℕ → ℕ → Decision
by_permission access cfg i = cond (eqb (permission access cfg) 1) (Granted i) (Fault (fault_cause access) i)

-- entry number i, which matches every byte: unlocked in M is granted; otherwise its R, W or X bit
abbrev pub entry_decides : Mode → Access → ℕ → ℕ → Decision
entry_decides User access cfg i = by_permission access cfg i
entry_decides Supervisor access cfg i = by_permission access cfg i
entry_decides Machine access cfg i = cond (locked cfg) (by_permission access cfg i) (Granted i)

-- no matching entry: granted in M, fault in S and U
abbrev pub none_decides : Mode → Access → Decision
none_decides User access = Fault (fault_cause access) none
none_decides Supervisor access = Fault (fault_cause access) none
none_decides Machine access = Granted none

-- what a deciding entry that matches every byte says, or none
abbrev pub owner_decides : List ℕ → Mode → Access → ℕ → Decision
owner_decides cfgs mode access owner = cond (ltb owner entries) (entry_decides mode access (get_or cfgs owner 0) owner) (none_decides mode access)

-- the lowest entry that matches any byte of the access, or none
unfoldable pub lowest_match : (ℕ → Span) → ℕ → ℕ → ℕ
lowest_match spans address size = lowest (λ i. any_byte (matches spans i) size address) entries 0

-- entry i decides: it must match all bytes, or fault, even in M with L=0
abbrev pub match_decides : (ℕ → Span) → List ℕ → Mode → Access → ℕ → ℕ → ℕ → Decision
match_decides spans cfgs mode access address size i =
    cond (ltb i entries)
    (cond (every_byte (matches spans i) size address) (entry_decides mode access (get_or cfgs i 0) i) (Fault (fault_cause access) i))
    (none_decides mode access)

-- any byte at or above 2^56: access fault in every mode, by no entry; else the lowest matching entry decides
unfoldable pub byte_rule : (ℕ → Span) → List ℕ → Mode → Access → ℕ → ℕ → Decision
byte_rule spans cfgs mode access address size =
    cond (any_byte (leb top) size address)
    (Fault (fault_cause access) none)
    (match_decides spans cfgs mode access address size (lowest_match spans address size))

-- 01, "Steps", refusal 1: a size other than 1, 2, 4, 8
abbrev pub is_size : ℕ → Bool
is_size size = eqb size 1 || (eqb size 2 || (eqb size 4 || eqb size 8))

-- the decision on an access as a step asks for it: refusal 1, then the byte rule on the registers
unfoldable pub checked : ℕ → List ℕ → List ℕ → Mode → Access → ℕ → ℕ → Decision
checked g cfgs addrs mode access address size =
    cond (is_size size) (byte_rule (entry_span g cfgs addrs) cfgs mode access address size) (Refused Size)

-- ---- by the owners of the bytes

-- the owner of a byte: the lowest entry that matches it, or none
unfoldable pub owner_of : (ℕ → Span) → ℕ → ℕ
owner_of spans byte = lowest (λ i. matches spans i byte) entries 0

-- the lowest owner of the bytes; none is above every entry
abbrev pub lowest_owner : (ℕ → ℕ) → ℕ → ℕ → ℕ
lowest_owner owner address size = least none owner size address

-- owner number i decides: it must be every byte's, or fault
abbrev pub least_decides : List ℕ → Mode → Access → (ℕ → ℕ) → ℕ → ℕ → ℕ → Decision
least_decides cfgs mode access owner address size i =
    cond (every_byte (λ b. eqb (owner b) i) size address) (owner_decides cfgs mode access i) (Fault (fault_cause access) i)

-- 02, [5]: "the lowest owner read decides and must be every byte's, or fault"
unfoldable pub owners_decide : List ℕ → Mode → Access → (ℕ → ℕ) → ℕ → ℕ → Decision
owners_decide cfgs mode access owner address size = least_decides cfgs mode access owner address size (lowest_owner owner address size)
