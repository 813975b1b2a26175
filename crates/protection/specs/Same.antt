-- 01, "Steps": whether a PMP byte or pmpaddr differs.
use Rattle.std.specs.Prelude.{Bool, ◌&&◌}
use Rattle.bits.specs.Same.{same_list}
use Rattle.protection.specs.declared.Pmp.{Pmp}

-- no PMP byte and no pmpaddr, as stored, differs
unfoldable pub same_pmp : Pmp → Pmp → Bool
same_pmp a b = same_list a.cfgs b.cfgs && same_list a.addrs b.addrs
