-- The numbers of the parts in which a scrap is read. Assumes nothing.
use Rattle.std.proofs.Common.{◌≡◌, ℕ, ◌+◌, ◌-◌, ◌*◌, ◌/◌, ◌≤◌, min, Bool, true, false, cond, eqb, arith}
use Rattle.trace.specs.Parts.{wholes_in, further_in}

pub wholes_fit : (room rest kept : ℕ) → (wholes_in room rest kept ≤ room) × (60 * wholes_in room rest kept ≤ rest)
wholes_fit room rest kept = go (eqb kept 0)
  where
    go : (a : Bool) → (cond a (min (rest / 60) room) 0 ≤ room) × (60 * cond a (min (rest / 60) room) 0 ≤ rest)
    go true = (omega arith, omega arith)
    go false = (omega arith, omega arith)

-- ---- how many bytes a feed takes

-- from a place where no byte is carried: whole records, and what comes behind them
pub record Body (rest room n t : ℕ) : Type 0 where
  pub sum : 60 * n + t ≡ min (60 * room + 59) rest
  pub tail : t ≤ 59
  pub fits : n ≤ room

pub body_numbers : (rest room : ℕ) → Body rest room (wholes_in room rest 0) (further_in (rest - 60 * wholes_in room rest 0) 0)
body_numbers rest room = record { sum = omega arith; tail = omega arith; fits = omega arith }
