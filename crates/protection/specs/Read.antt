-- 01, "Registers and access to them", and 02, [9]: what a read of a protection register gives.
use Rattle.std.specs.Prelude.{ℕ, ◌-◌, Bool, cond, ◌&&◌, ◌||◌, eqb, leb, get_or, take, drop}
use Rattle.pmp.specs.Entry.{field_a, address_read}
use Rattle.protection.specs.declared.Pmp.{Pmp}
use Rattle.protection.specs.Configs.{packed}

-- pmpaddr0 to pmpaddr15 are 3B0 to 3BF
abbrev pub is_address : ℕ → Bool
is_address n = leb 0x3B0 n && leb n 0x3BF

-- 3A0 and 3A2 are pmpcfg0 and pmpcfg2
abbrev pub is_pmp : ℕ → Bool
is_pmp n = eqb n 0x3A0 || (eqb n 0x3A2 || is_address n)

-- what pmpaddr i reads, by the grain and the A field of entry i
abbrev pub address_shown : Pmp → ℕ → ℕ
address_shown p i = address_read p.grain (field_a (get_or p.cfgs i 0)) (get_or p.addrs i 0)

-- entry 0 in the lowest byte of pmpcfg0; any other number shows 0
abbrev pub pmp_read : Pmp → ℕ → ℕ
pmp_read p n =
    cond (eqb n 0x3A0) (packed (take 8 p.cfgs))
    (cond (eqb n 0x3A2) (packed (drop 8 p.cfgs))
    (cond (is_address n) (address_shown p (n - 0x3B0)) 0))
