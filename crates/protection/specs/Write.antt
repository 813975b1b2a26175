-- 01, "Registers and access to them", and 02, [9]: what a write to a protection register stores, and the locks (002), which are judged before it.
use Rattle.std.specs.Prelude.{ℕ, zero, suc, ◌+◌, ◌-◌, ◌/◌, ◌%◌, ◌^◌, Bool, cond, ◌&&◌, ◌||◌, List, eqb, get_or, set}
use Rattle.std.specs.Int.Bits.{bit_and}
use Rattle.pmp.specs.Entry.{field_a, locked}
use Rattle.protection.specs.declared.Pmp.{Pmp}
use Rattle.protection.specs.Hold.{na4_unselectable}
use Rattle.protection.specs.Read.{is_address}

-- bits 5 and 6 are dropped; W is stored 0 where R is 0 (house)
abbrev pub config_kept : ℕ → ℕ
config_kept value = cond (eqb (value % 2) 0) (bit_and value 0x9D) (bit_and value 0x9F)

-- a locked entry's byte ignores writes, and any byte one of A=2 where no hart can hold that (house)
abbrev pub config_written : ℕ → ℕ → ℕ → ℕ
config_written g old value = cond (locked old || na4_unselectable g value) old (config_kept value)

-- n bytes from entry `at` on, each judged for itself, the lowest byte of the value first
unfoldable pub configs_written : ℕ → ℕ → ℕ → ℕ → List ℕ → List ℕ
configs_written g zero at value cfgs = cfgs
configs_written g (suc n) at value cfgs =
    configs_written g n (at + 1) (value / 256) (set cfgs at (config_written g (get_or cfgs at 0) (value % 256)))

-- pmpaddr i ignores writes if entry i is locked, or if entry i+1 is locked with A=TOR. Entry 15 has no next
abbrev pub address_frozen : List ℕ → ℕ → Bool
address_frozen cfgs i =
    locked (get_or cfgs i 0) || (locked (get_or cfgs (i + 1) 0) && eqb (field_a (get_or cfgs (i + 1) 0)) 1)

-- 54 bits are kept, whatever A and the grain are
abbrev pub address_written : List ℕ → ℕ → ℕ → ℕ → ℕ
address_written cfgs i old value = cond (address_frozen cfgs i) old (value % 2 ^ 54)

-- a write to any number; one that is not of protection changes nothing
unfoldable pub pmp_written : Pmp → ℕ → ℕ → Pmp
pmp_written p n value =
    cond (eqb n 0x3A0) (record { grain = p.grain; cfgs = configs_written p.grain 8 0 value p.cfgs; addrs = p.addrs })
    (cond (eqb n 0x3A2) (record { grain = p.grain; cfgs = configs_written p.grain 8 8 value p.cfgs; addrs = p.addrs })
    (cond (is_address n)
    (record {
      grain = p.grain;
      cfgs = p.cfgs;
      addrs = set p.addrs (n - 0x3B0) (address_written p.cfgs (n - 0x3B0) (get_or p.addrs (n - 0x3B0) 0) value);
    })
    p))
