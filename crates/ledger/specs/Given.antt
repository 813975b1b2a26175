-- 02, [4]: a step with the ledger lent at it, or with none. Step 18 can be formed with a ledger alone.
use Rattle.std.specs.Prelude.{ℕ, Bool, false, cond, List, [], ◌∷◌, eqb, get_or, Option, Some, None}
use Rattle.steps.specs.declared.Step.{Step}
use Rattle.steps.specs.Decode.{decoded, is_access}
use Rattle.ledger.specs.Numbers.{numbers_of}
use Rattle.ledger.specs.declared.Ledger.{Ledger}
use Rattle.ledger.specs.declared.MeteredStep.{MeteredStep}
use Rattle.ledger.specs.declared.MeteredStep.TheVariants.{Step as Plain, Tenant}

pub data Given : Type 0 where
  Unmetered : Step → Given
  Metered : MeteredStep → Ledger → Given

-- the three numbers of a step
abbrev pub metered_numbers : MeteredStep → List ℕ
metered_numbers (Plain step) = numbers_of step
metered_numbers (Tenant a b) = 18 ∷ a ∷ b ∷ []

abbrev pub number_of : MeteredStep → ℕ
number_of step = get_or (metered_numbers step) 0 0

abbrev pub first_of : MeteredStep → ℕ
first_of step = get_or (metered_numbers step) 1 0

abbrev pub second_of : MeteredStep → ℕ
second_of step = get_or (metered_numbers step) 2 0

-- steps 14 to 16
abbrev pub accesses : Given → Bool
accesses (Unmetered step) = is_access step
accesses (Metered (Plain step) l) = is_access step
accesses (Metered (Tenant a b) l) = false

-- ---- the step that three numbers name, by the ledger that is lent, if any

abbrev pub unmetered : Option Step → Option Given
unmetered (Some step) = Some (Unmetered step)
unmetered None = None

abbrev pub metered : Ledger → Option Step → Option Given
metered l (Some step) = Some (Metered (Plain step) l)
metered l None = None

abbrev pub asked : Option Ledger → (step a b : ℕ) → Option Given
asked None step a b = unmetered (decoded step a b)
asked (Some l) step a b = cond (eqb step 18) (Some (Metered (Tenant a b) l)) (metered l (decoded step a b))

-- the highest step number
abbrev pub last_step : Option Ledger → ℕ
last_step None = 17
last_step (Some l) = 18
