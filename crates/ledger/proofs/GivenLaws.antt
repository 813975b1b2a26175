-- The step that three numbers name, with a ledger lent and with none. Assumes nothing.
use Prim.Native.Nat.{ℕ, ◌≤◌, ◌<◌}
use mathlib.Core.Path.{◌≡◌, refl, ap}
use mathlib.Core.Bool.{Bool, true, false, cond}
use native.Mathlib.Omega.{arith}
use lib.Dec.{eqb}
use borrow.Author.Tests.{eqb-false, ne_eqb}
use Rattle.std.specs.Prelude.{Option, Some, None}
use Rattle.steps.specs.declared.Step.{Step}
use Rattle.steps.specs.Decode.{decoded}
use Rattle.steps.proofs.NumberLaws.{number-formed, none-formed}
use Rattle.ledger.specs.declared.Ledger.{Ledger}
use Rattle.ledger.specs.declared.MeteredStep.TheVariants.{Step as Plain, Tenant}
use Rattle.ledger.specs.Given.{Given, Metered, Unmetered, unmetered, metered, asked, last_step}

pub asked-plain : (l : Ledger) (n a b : ℕ) (s : Step) → (n ≡ 18 → ⊥) → decoded n a b ≡ Some s → asked (Some l) n a b ≡ Some (Metered (Plain s) l)
asked-plain l n a b s other e = rw (ne_eqb n 18 other, e)

pub asked-tenant : (l : Ledger) (a b : ℕ) → asked (Some l) 18 a b ≡ Some (Metered (Tenant a b) l)
asked-tenant l a b = refl

-- three numbers form a step
pub record IsAsked (o : Option Given) : Type 0 where
  pub given : Given
  pub formed : o ≡ Some given

pub asked-formed : (l : Option Ledger) (n a b : ℕ) → n ≤ last_step l → IsAsked (asked l n a b)
asked-formed None n a b h =
    let d = number-formed n a b h in
    record { given = Unmetered d.step; formed = ap unmetered d.formed }
asked-formed (Some l) n a b h = go (eqb n 18) refl
  where
    go : (t : Bool) → eqb n 18 ≡ t → IsAsked (cond t (Some (Metered (Tenant a b) l)) (metered l (decoded n a b)))
    go true e = record { given = Metered (Tenant a b) l; formed = refl }
    go false e =
        let other = eqb-false n 18 e in
        let d = number-formed n a b (omega arith) in
        record { given = Metered (Plain d.step) l; formed = ap (metered l) d.formed }

-- ---- past the last step's number nothing is formed

pub asked-none : (l : Option Ledger) (n a b : ℕ) → last_step l < n → asked l n a b ≡ None
asked-none None n a b h = rw (none-formed n a b h)
asked-none (Some l) n a b h = rw (ne_eqb n 18 (omega arith), none-formed n a b (omega arith))
