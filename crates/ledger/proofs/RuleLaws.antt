-- The rules of a posting: what was refused leaves the ledger, there stay ten totals, and of a step's arguments only those that the rules name count.
-- Assumes nothing.
use Prim.Native.Nat.{ℕ, ◌+◌, ◌≤◌, ◌<◌}
use mathlib.Core.Path.{◌≡◌, refl, sym, ap, ◌∙◌}
use mathlib.Core.Bool.{Bool, true, false, cond, not, ◌&&◌, ◌||◌}
use native.Mathlib.Omega.{arith}
use lib.Dec.{eqb, leb, ltb}
use lib.ListN.{length, get_or, length-set}
use borrow.Author.Tests.{eqb-true, leb-true, ltb-false, lt-ltb, le-ltb, eq-eqb, ne_eqb}
use Rattle.bits.proofs.Conjunction.{by_test}
use Rattle.steps.specs.declared.Step.{Step}
use Rattle.ledger.specs.Numbers.{numbers_of}
use Rattle.ledger.proofs.NumberedLaws.{FormedBy}
use Rattle.ledger.specs.declared.Ledger.{Ledger}
use Rattle.std.specs.Prelude.{Option, Some, None, Ok, Err}
use Rattle.std.specs.Result.{result_err, result_unwrap_or}
use Rattle.ledger.specs.declared.Posting.{Posting}
use Rattle.ledger.specs.declared.Refusal.{Refusal}
use Rattle.ledger.specs.declared.Refusal.TheVariants.{Tenant, Total}
use Rattle.ledger.specs.Rules.{ledger_with, total_of, account_of, overfull, names_tenant, refusal_by, credited, answers_no, changed, posted, unless, settled, Room, Fits}

-- ---- the refusals: none at a reset; 9 by the ledger; then 9 by step 18's arguments, or 10 at an elapsed step; none at any other

module _ (l : Ledger) (step a b mode : ℕ) where
  pub refusal_reset : step ≡ 0 → refusal_by l step a b mode ≡ None
  unfolding refusal_by
  refusal_reset z = rw (eq-eqb step 0 z)

  pub refusal_above : (step ≡ 0 → ⊥) → 7 < l.tenant → refusal_by l step a b mode ≡ Some Tenant
  unfolding refusal_by
  refusal_above later h = rw (ne_eqb step 0 later, lt-ltb 7 l.tenant h)

module _ (l : Ledger) (step a b mode : ℕ) (later : step ≡ 0 → ⊥) (small : l.tenant ≤ 7) where
  pub refusal_named : step ≡ 18 → refusal_by l step a b mode ≡ cond (names_tenant a b) None (Some Tenant)
  unfolding refusal_by
  refusal_named e = rw (ne_eqb step 0 later, le-ltb 7 l.tenant small, eq-eqb step 18 e)

  pub refusal_elapsed : step ≡ 17 → refusal_by l step a b mode ≡ cond (overfull l mode a) (Some Total) None
  unfolding refusal_by
  refusal_elapsed e = rw (ne_eqb step 0 later, le-ltb 7 l.tenant small, ne_eqb step 18 (omega arith), eq-eqb step 17 e)

  pub refusal_other : (step ≡ 18 → ⊥) → (step ≡ 17 → ⊥) → refusal_by l step a b mode ≡ None
  unfolding refusal_by
  refusal_other h k = rw (ne_eqb step 0 later, le-ltb 7 l.tenant small, ne_eqb step 18 h, ne_eqb step 17 k)

-- ---- a posting is the ledger's refusal, or what the answered step makes of it

module _ (l : Ledger) (p : Posting) where
  abbrev by : Option Refusal
  by = refusal_by l p.step p.a p.b p.mode

  told : (o : Option Refusal) (after : Ledger) → result_err (unless o after) ≡ o
  told None after = refl
  told (Some refusal) after = refl

  pub settled_refusal : result_err (settled l p) ≡ by
  unfolding settled
  settled_refusal = told by (posted l p.step p.a p.mode p.kind p.value)

  pub settled-refused : (refusal : Refusal) → by ≡ Some refusal → settled l p ≡ Err refusal
  unfolding settled
  settled-refused refusal h = rw h

  pub settled-taken : by ≡ None → settled l p ≡ Ok (posted l p.step p.a p.mode p.kind p.value)
  unfolding settled
  settled-taken h = rw h

-- ---- an elapsed step that is not refused has its account, and room there

pub account_below : (l : Ledger) (mode : ℕ) → l.tenant ≤ 7 → account_of l mode < 10
account_below l mode h =
    by_test (λ (i : ℕ). i < 10) l.idle 9 _ (λ e. omega arith)
    (λ e. by_test (λ (i : ℕ). i < 10) (eqb mode 3) 8 l.tenant (λ e. omega arith) (λ e. omega arith))

elapsed-room : (l : Ledger) (a b mode : ℕ) → refusal_by l 17 a b mode ≡ None → Room l (account_of l mode) a
unfolding refusal_by
elapsed-room l a b mode = go (ltb 7 l.tenant) (leb (total_of l (account_of l mode) + a) 18446744073709551615) refl refl
  where
    go : (above fits : Bool) → ltb 7 l.tenant ≡ above → leb (total_of l (account_of l mode) + a) 18446744073709551615 ≡ fits
        → ◌≡◌ {A = Option Refusal} (cond above (Some Tenant) (cond (not fits) (Some Total) None)) None → Room l (account_of l mode) a
    go true fits p q z = cc
    go false true p q z =
        let small = ltb-false 7 l.tenant p in
        let sum = leb-true (total_of l (account_of l mode) + a) 18446744073709551615 q in
        (account_below l mode small, omega arith)
    go false false p q z = cc

pub taken_fits : (l : Ledger) (step a b mode : ℕ) → refusal_by l step a b mode ≡ None → Fits l step a mode
taken_fits l step a b mode z e = elapsed-room l a b mode (rw e at z)

-- ---- there stay ten totals

abbrev Ten : Ledger → Type 0
Ten l = length l.totals ≡ 10

either : (t : Bool) (m n : Ledger) → Ten m → Ten n → Ten (cond t m n)
either true m n p q = p
either false m n p q = q

changed-ten : (l : Ledger) (step a mode kind value : ℕ) → Ten l → Ten (changed l step a mode kind value)
unfolding changed
changed-ten l step a mode kind value ten =
    either (eqb step 0) _ _ ten (either (eqb step 10) _ _ ten (
    either (eqb step 17) _ _ (length-set l.totals (account_of l mode) (total_of l (account_of l mode) + a) ∙ ten)
    (either (eqb step 18) _ _ ten (either (eqb step 6 || answers_no step kind value) _ _ ten ten))))

unless-ten : (o : Option Refusal) (l after : Ledger) → Ten l → Ten after → Ten (result_unwrap_or (unless o after) l)
unless-ten None l after p q = q
unless-ten (Some refusal) l after p q = p

pub settled-ten : (l : Ledger) (p : Posting) → length l.totals ≡ 10 → length (result_unwrap_or (settled l p) l).totals ≡ 10
unfolding settled
settled-ten l p ten =
    unless-ten (refusal_by l p.step p.a p.b p.mode) l (posted l p.step p.a p.mode p.kind p.value) ten
    (either (eqb p.kind 5) _ _ ten (changed-ten l p.step p.a p.mode p.kind p.value ten))

abbrev pub posting : (step a b mode kind value : ℕ) → Posting
posting step a b mode kind value = record { step = step; a = a; b = b; mode = mode; kind = kind; value = value }

-- ---- step 17 has its cycles and step 18 its tenant; the rules look at no other argument

module _ (l : Ledger) (n a b c d mode : ℕ) (named : n ≡ 18 → ⊥) (cycles : n ≡ 17 → c ≡ a) where
  refusal_alike : refusal_by l n a b mode ≡ refusal_by l n c d mode
  unfolding refusal_by
  refusal_alike = rw (ne_eqb n 18 named) (go (eqb n 17) refl)
    where
      rest : Bool → ℕ → Option Refusal
      rest t x = cond (eqb n 0) None (cond (ltb 7 l.tenant) (Some Tenant) (cond (t && overfull l mode x) (Some Total) None))

      go : (t : Bool) → eqb n 17 ≡ t → rest t a ≡ rest t c
      go true e = ap (rest true) (sym (cycles (eqb-true n 17 e)))
      go false e = refl

  changed-alike : (kind value : ℕ) → changed l n a mode kind value ≡ changed l n c mode kind value
  unfolding changed
  changed-alike kind value = rw (ne_eqb n 18 named) (go (eqb n 17) refl)
    where
      rest : Bool → ℕ → Ledger
      rest t x =
          cond (eqb n 0) (ledger_with l 0 false)
          (cond (eqb n 10) (ledger_with l l.tenant (eqb kind 2))
          (cond t (credited l (account_of l mode) x)
          (cond (eqb n 6 || answers_no n kind value) l (ledger_with l l.tenant false))))

      go : (t : Bool) → eqb n 17 ≡ t → rest t a ≡ rest t c
      go true e = ap (rest true) (sym (cycles (eqb-true n 17 e)))
      go false e = refl

  settled-alike : (kind value : ℕ) → settled l (posting n a b mode kind value) ≡ settled l (posting n c d mode kind value)
  unfolding settled
  settled-alike kind value = λ j. unless (refusal_alike j) (cond (eqb kind 5) l (changed-alike kind value j))

-- so a step's own numbers serve in place of those that formed it
module _ (l : Ledger) (n a b mode : ℕ) (s : Step) (formed : FormedBy n a s) (named : n ≡ 18 → ⊥) where
  pub refusal_same : refusal_by l n a b mode ≡ refusal_by l (get_or (numbers_of s) 0 0) (get_or (numbers_of s) 1 0) (get_or (numbers_of s) 2 0) mode
  refusal_same =
      refusal_alike l n a b (get_or (numbers_of s) 1 0) (get_or (numbers_of s) 2 0) mode named formed.cycles
      ∙ ap (λ (m : ℕ). refusal_by l m (get_or (numbers_of s) 1 0) (get_or (numbers_of s) 2 0) mode) (sym formed.number)

  pub settled_same : (kind value : ℕ)
      → settled l (posting n a b mode kind value) ≡ settled l (posting (get_or (numbers_of s) 0 0) (get_or (numbers_of s) 1 0) (get_or (numbers_of s) 2 0) mode kind value)
  settled_same kind value =
      settled-alike l n a b (get_or (numbers_of s) 1 0) (get_or (numbers_of s) 2 0) mode named formed.cycles kind value
      ∙ ap (λ (m : ℕ). settled l (posting m (get_or (numbers_of s) 1 0) (get_or (numbers_of s) 2 0) mode kind value)) (sym formed.number)
