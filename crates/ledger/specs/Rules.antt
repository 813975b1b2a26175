-- 02, [4]: what a step comes to in a ledger that is lent to it. A step is told by its number and arguments, an answer by its first two numbers.
use Rattle.std.specs.Prelude.{ℕ, ◌+◌, ◌^◌, ◌<◌, ◌≡◌, Bool, false, cond, not, ◌&&◌, ◌||◌, get_or, set, replicate, leb, ltb, eqb, Option, Some, None, Result, Ok, Err}
use Rattle.ledger.specs.declared.Ledger.{Ledger}
use Rattle.ledger.specs.declared.Posting.{Posting}
use Rattle.ledger.specs.declared.Refusal.{Refusal}
use Rattle.ledger.specs.declared.Refusal.TheVariants.{Tenant, Total}

abbrev pub ledger_with : Ledger → ℕ → Bool → Ledger
ledger_with l tenant idle = record { totals = l.totals; tenant = tenant; idle = idle }

-- "A new ledger has ten zero totals, tenant 0, and is not idle"
abbrev pub new_ledger : Ledger
new_ledger = record { totals = replicate 10 0; tenant = 0; idle = false }

-- the accounts are tenants 0 to 7, house 8, idle 9
abbrev pub total_of : Ledger → ℕ → ℕ
total_of l account = get_or l.totals account 0

-- "idle, if ..; else house, if mode is M; else the current tenant"
abbrev pub account_of : Ledger → ℕ → ℕ
account_of l mode = cond l.idle 9 (cond (eqb mode 3) 8 l.tenant)

-- ---- refusals 9 and 10

-- step 18 "names the tenant, a from 0 to 7, b=0"
abbrev pub names_tenant : ℕ → ℕ → Bool
names_tenant a b = leb a 7 && eqb b 0

-- "if the account's total would pass 2^64-1"
abbrev pub overfull : Ledger → ℕ → ℕ → Bool
overfull l mode cycles = not (leb (total_of l (account_of l mode) + cycles) 18446744073709551615)

-- "9" and "10"
abbrev pub refusal_number : Refusal → ℕ
refusal_number Tenant = 9
refusal_number Total = 10

-- 9: step 18 names no tenant, or the current tenant is above 7, but not at step 0; then 10, at step 17
unfoldable pub refusal_by : Ledger → (step a b mode : ℕ) → Option Refusal
refusal_by l step a b mode =
    cond (eqb step 0) None
    (cond (ltb 7 l.tenant) (Some Tenant)
    (cond (eqb step 18) (cond (names_tenant a b) None (Some Tenant))
    (cond (eqb step 17 && overfull l mode a) (Some Total) None)))

-- ---- accepted steps

-- "each elapsed step's cycles go, whole, to one of ten accounts"
abbrev pub credited : Ledger → ℕ → ℕ → Ledger
credited l account cycles = record { totals = set l.totals account (total_of l account + cycles); tenant = l.tenant; idle = l.idle }

-- a step 7 answering no: an answer with a flag has the number 2, and its value is 1 or 0
abbrev pub answers_no : ℕ → ℕ → ℕ → Bool
answers_no step kind value = eqb step 7 && (eqb kind 2 && eqb value 0)

-- a reset keeps totals, ends idle and makes tenant 0 current; a WFI that completes, so that it answers with a flag, begins idle time; an elapsed step is
-- credited; step 18 makes its tenant current; step 6 and a step 7 answering no leave all as it is, and any other ends idle time
unfoldable pub changed : Ledger → (step a mode kind value : ℕ) → Ledger
changed l step a mode kind value =
    cond (eqb step 0) (ledger_with l 0 false)
    (cond (eqb step 10) (ledger_with l l.tenant (eqb kind 2))
    (cond (eqb step 17) (credited l (account_of l mode) a)
    (cond (eqb step 18) (ledger_with l a l.idle)
    (cond (eqb step 6 || answers_no step kind value) l
    (ledger_with l l.tenant false)))))

-- a refused step leaves the ledger: its answer has the number 5
abbrev pub posted : Ledger → (step a mode kind value : ℕ) → Ledger
posted l step a mode kind value = cond (eqb kind 5) l (changed l step a mode kind value)

-- what comes about but for a refusal
abbrev pub unless : Option Refusal → Ledger → Result Ledger Refusal
unless None after = Ok after
unless (Some refusal) after = Err refusal

-- a posting: a refusal, or what the answered step makes of the ledger
unfoldable pub settled : Ledger → Posting → Result Ledger Refusal
settled l p = unless (refusal_by l p.step p.a p.b p.mode) (posted l p.step p.a p.mode p.kind p.value)

-- ---- what the parts of the code are given

-- there is such an account, and its total takes the cycles
abbrev pub Room : Ledger → ℕ → ℕ → Type 0
Room l account cycles = (account < 10) × (total_of l account + cycles < 2 ^ 64)

abbrev pub Fits : Ledger → (step a mode : ℕ) → Type 0
Fits l step a mode = step ≡ 17 → Room l (account_of l mode) a
