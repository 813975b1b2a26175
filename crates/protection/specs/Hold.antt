-- 01, "What a hart can hold", and 02, [9]: the protection registers.
use Rattle.std.specs.Prelude.{ℕ, ◌^◌, Bool, not, ◌&&◌, ◌||◌, eqb, ltb, replicate}
use Rattle.std.specs.Int.Bits.{bit_and}
use Rattle.bits.specs.Lists.{all}
use Rattle.pmp.specs.Entry.{entries, field_a, grain_holdable, legal_grain}
use Rattle.protection.specs.declared.Pmp.{Pmp}

-- A=2 with G of 1 or more (002: NA4 is not selectable)
abbrev pub na4_unselectable : ℕ → ℕ → Bool
na4_unselectable g cfg = eqb (field_a cfg) 2 && not (eqb g 0)

-- each PMP byte with bits 5 and 6 zero, never R=0, W=1, and never A=2 unless NA4 can be selected
abbrev pub config_allowed : Bool → ℕ → Bool
config_allowed na4 cfg = eqb (bit_and cfg 0x60) 0 && (not (eqb (bit_and cfg 3) 2) && (not (eqb (field_a cfg) 2) || na4))

-- with G of 1 or more it cannot
abbrev pub config_holdable : ℕ → ℕ → Bool
config_holdable g cfg = config_allowed (eqb g 0) cfg

-- each pmpaddr below 2^54
abbrev pub address_holdable : ℕ → Bool
address_holdable addr = ltb addr (2 ^ 54)

unfoldable pub pmp_holdable : Pmp → Bool
pmp_holdable p = grain_holdable p.grain && (all (config_holdable p.grain) p.cfgs && all address_holdable p.addrs)

-- reset: all 0; the grain is that of the hart, and one above 10 turns into 0
abbrev pub reset_pmp : ℕ → Pmp
reset_pmp g = record { grain = legal_grain g; cfgs = replicate entries 0; addrs = replicate entries 0 }
