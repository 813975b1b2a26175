-- What the form is: texts and ledgers turn into each other without loss, and no second text stands for the same ledger.
use Rattle.std.specs.Prelude.{ℕ, ◌^◌, ◌<◌, ◌≡◌, true, List, length}
use Rattle.bits.specs.Lists.{Words}
use Rattle.ledger.specs.declared.Ledger.{Ledger}
use Rattle.ledger_text.specs.LedgerText.{text_of, is_ledger_text, ledger_of_text}

-- ten totals and a tenant, all of 64 bits
pub record IsLedger (l : Ledger) : Type 0 where
  pub ten : Words 10 l.totals
  pub below : l.tenant < 2 ^ 64

pub record RoundTrip : Type 0 where
  -- each ledger has its text, which is in the form and reads back as it
  pub ledger-back : (l : Ledger) → IsLedger l → (is_ledger_text (text_of l) ≡ true) × (ledger_of_text (text_of l) ≡ l)
  -- each text in the form is that of the ledger in it
  pub text-back : (t : List ℕ) → is_ledger_text t ≡ true → IsLedger (ledger_of_text t) × (t ≡ text_of (ledger_of_text t))
  -- no two texts stand for the same ledger
  pub one_text : (t u : List ℕ) → is_ledger_text t ≡ true → is_ledger_text u ≡ true → ledger_of_text t ≡ ledger_of_text u → t ≡ u
  -- every text has 295 bytes
  pub sized : (l : Ledger) → length (text_of l) ≡ 295
