-- What every value of the type Pmp has, and a list of numbers does not say.
use Rattle.std.specs.Prelude.{ℕ, ◌<◌, ◌≡◌, length, get_or}
use Rattle.pmp.specs.Entry.{entries}
use Rattle.protection.specs.declared.Pmp.{Pmp}

pub record Arrays (p : Pmp) : Type 0 where
  pub cfgs : length p.cfgs ≡ entries
  pub addrs : length p.addrs ≡ entries
  pub bytes : (i : ℕ) → get_or p.cfgs i 0 < 256
