-- 02, [5], and 01, "Protection, byte by byte": "An access query on it takes a state, a map of up to 33 ranges, an effective mode, kind, address and
-- size".
use Rattle.std.specs.Prelude.{ℕ, Bool, cond, not, ◌&&◌, List, leb, ltb}
use Rattle.pmp.specs.declared.Mode.{Mode}
use Rattle.pmp.specs.declared.Access.{Access}
use Rattle.pmp.specs.declared.Decision.{Decision}
use Rattle.pmp.specs.declared.Decision.TheVariants.{Fault, Refused}
use Rattle.pmp.specs.declared.Refusal.{Refusal}
use Rattle.pmp.specs.Number.{fault_cause}
use Rattle.pmp.specs.Search.{any_byte}
use Rattle.pmp.specs.Entry.{top}
use Rattle.pmp.specs.Rule.{none, owners_decide, is_size}
use Rattle.map.specs.declared.Range.{Range}
use Rattle.map.specs.declared.Map.{Map}
use Rattle.map.specs.Lookup.{ranges_in, owner_in}

-- refusal 7: for any byte there is no range, or its owner is not 0 to 15 or "none"; else the lowest owner read decides and must be every byte's
unfoldable pub ranges_decide : List ℕ → Mode → Access → (ℕ → ℕ) → ℕ → ℕ → Decision
ranges_decide cfgs mode access owner address size =
    cond (any_byte (λ b. ltb none (owner b)) size address) (Refused Refusal.Map) (owners_decide cfgs mode access owner address size)

-- the map is read where the size is right and no byte is at or above 2^56
abbrev pub readable : ℕ → ℕ → Bool
readable address size = is_size size && not (any_byte (leb top) size address)

-- else refusal 1, or a fault by no entry
abbrev pub unread_decides : Access → ℕ → Decision
unread_decides access size = cond (is_size size) (Fault (fault_cause access) none) (Refused Refusal.Size)

-- for each byte of the access the owner of the lowest-numbered range that holds it is read
abbrev pub ranges_queried : List ℕ → List Range → Mode → Access → ℕ → ℕ → Decision
ranges_queried cfgs ranges mode access address size =
    cond (readable address size) (ranges_decide cfgs mode access (owner_in ranges) address size) (unread_decides access size)

-- the ranges are those that the map is read by
unfoldable pub queried : List ℕ → Map → Mode → Access → ℕ → ℕ → Decision
queried cfgs map mode access address size = ranges_queried cfgs (ranges_in map) mode access address size
