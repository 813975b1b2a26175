-- How the owners of an access's bytes are read in one pass over a map's ranges, and no rule of 01 or 02. A byte of the access is a bit: the first
-- byte is bit 0, and there are at most eight.
use Rattle.std.specs.Prelude.{ℕ, suc, ◌-◌, ◌^◌, min, max, cond, ◌||◌, List, ltb, eqb}
use Rattle.std.specs.Int.Bits.{bit_and}
use Rattle.bits.specs.Mask.{cleared}
use Rattle.bits.specs.Fold.{fold}
use Rattle.pmp.specs.declared.Mode.{Mode}
use Rattle.pmp.specs.declared.Access.{Access}
use Rattle.pmp.specs.declared.Decision.{Decision}
use Rattle.pmp.specs.declared.Decision.TheVariants.{Fault, Refused}
use Rattle.pmp.specs.declared.Refusal.{Refusal}
use Rattle.pmp.specs.Number.{fault_cause}
use Rattle.pmp.specs.Rule.{none, owner_decides}
use Rattle.map.specs.declared.Range.{Range}
use Rattle.map.specs.declared.Reading.{Reading}

-- the first n bytes, of eight
abbrev pub first_bytes : ℕ → ℕ
first_bytes n = 2 ^ min n 8 - 1

-- the bytes of an access from `address` on that a range holds: those up to its last byte without those before its first
unfoldable pub bytes_held : ℕ → Range → ℕ
bytes_held address r =
    cond (ltb r.last address) 0 (cleared (first_bytes (r.first - address)) (first_bytes (suc (min (r.last - address) 7))))

-- nothing is read yet of an access of n bytes
abbrev pub unread : ℕ → Reading
unread n = record { unread = first_bytes n; low = none; high = 0 }

-- the bytes that are still unread and held get the range's owner
abbrev pub taken : Reading → ℕ → ℕ → Reading
taken reading held owner =
    cond (eqb held 0) reading (record { unread = cleared held reading.unread; low = min reading.low owner; high = max reading.high owner })

unfoldable pub read_range : ℕ → Reading → Range → Reading
read_range address reading r = taken reading (bit_and reading.unread (bytes_held address r)) r.owner

-- what is read of an access once the ranges have been gone through
abbrev pub read_ranges : ℕ → ℕ → List Range → Reading
read_ranges address size ranges = fold (read_range address) (unread size) ranges

-- by the lowest and the highest owner read
unfoldable pub reading_decides : List ℕ → Mode → Access → Reading → Decision
reading_decides cfgs mode access reading =
    cond (ltb 0 reading.unread || ltb none reading.high)
    (Refused Refusal.Map)
    (cond (eqb reading.low reading.high) (owner_decides cfgs mode access reading.low) (Fault (fault_cause access) reading.low))
