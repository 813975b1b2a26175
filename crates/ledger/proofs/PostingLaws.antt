-- Steps and the ledger that words lend. Assumes nothing.
use Prim.Native.Nat.{ℕ, ◌≤◌, ◌<◌}
use mathlib.Core.Path.{◌≡◌, refl, sym, ap, ◌∙◌}
use mathlib.Core.Bool.{Bool, true, false, ◌||◌}
use mathlib.Core.List.{List}
use native.Mathlib.Omega.{arith}
use lib.Dec.{eqb, leb}
use lib.ListN.{get_or}
use borrow.Author.Tests.{eqb-true, eqb-false, ne_eqb}
use Rattle.bits.proofs.Conjunction.{both, by_test}
use Rattle.ledger.specs.declared.Ledger.{Ledger}
use Rattle.std.specs.Prelude.{Option, Some, None, Ok, Err}
use Rattle.std.specs.Result.{result_unwrap_or}
use Rattle.ledger.specs.declared.Posting.{Posting}
use Rattle.ledger.specs.declared.Refusal.{Refusal}
use Rattle.ledger.specs.Rules.{ledger_with, refusal_by, answers_no, changed, posted, unless, settled}
use Rattle.ledger.specs.Words.{is_ledger, ledger_of, ledger_in, ledger_words, stored_in, lends_for, refusal_in, posted_in}
use Rattle.ledger.proofs.RuleLaws.{refusal_reset, refusal_other}
use Rattle.ledger.proofs.WordLaws.{ledger-length, read_twelve, words_back, stored}

-- a step below 17 is refused by no ledger whose tenant is not above 7
refusal_low : (l : Ledger) (step a b mode : ℕ) → l.tenant ≤ 7 → step < 17 → refusal_by l step a b mode ≡ None
refusal_low l step a b mode t h = go (eqb step 0) refl
  where
    go : (c : Bool) → eqb step 0 ≡ c → refusal_by l step a b mode ≡ None
    go true e = refusal_reset l step a b mode (eqb-true step 0 e)
    go false e = refusal_other l step a b mode (eqb-false step 0 e) t (λ q. omega (arith, h, q)) (λ q. omega (arith, h, q))

-- where no idle time runs, a step other than 0, 10, 17 and 18 changes nothing
changed_still : (l : Ledger) (step a mode kind value : ℕ) → l.idle ≡ false → (step ≡ 0 → ⊥) → (step ≡ 10 → ⊥) → step < 17 → changed l step a mode kind value ≡ l
unfolding changed
changed_still l step a mode kind value i z w h =
    rw (ne_eqb step 0 z, ne_eqb step 10 w, ne_eqb step 17 (λ q. omega (arith, h, q)), ne_eqb step 18 (λ q. omega (arith, h, q)))
    (by_test (λ (k : Ledger). k ≡ l) (eqb step 6 || answers_no step kind value) l (ledger_with l l.tenant false) (λ t. refl)
    (λ t. λ j. record { totals = l.totals; tenant = l.tenant; idle = sym i j }))

settled_still : (l : Ledger) (p : Posting) → l.idle ≡ false → (p.step ≡ 0 → ⊥) → (p.step ≡ 10 → ⊥) → p.step < 17 → result_unwrap_or (settled l p) l ≡ l
unfolding settled
settled_still l p i z w h = go (refusal_by l p.step p.a p.b p.mode)
  where
    go : (o : Option Refusal) → result_unwrap_or (unless o (posted l p.step p.a p.mode p.kind p.value)) l ≡ l
    go None =
        by_test (λ (k : Ledger). k ≡ l) (eqb p.kind 5) l (changed l p.step p.a p.mode p.kind p.value) (λ t. refl)
        (λ t. changed_still l p.step p.a p.mode p.kind p.value i z w h)
    go (Some refusal) = refl

module _ (w : List ℕ) (step a b mode : ℕ) where
  pub unlent_refusal : lends_for w step ≡ false → None ≡ refusal_in w step a b mode
  unfolding refusal_in
  unlent_refusal e = rw e

  pub lent_refusal : lends_for w step ≡ true → refusal_by (ledger_of w) step a b mode ≡ refusal_in w step a b mode
  unfolding refusal_in
  lent_refusal e = rw e

  -- by the words themselves
  pub low_refusal : lends_for w step ≡ true → get_or w 10 0 ≤ 7 → step < 17 → None ≡ refusal_in w step a b mode
  low_refusal e t h =
      let is = (both (is_ledger w) (leb step 18) e).0 in
      let l : ledger_of w ≡ ledger_in w = read_twelve w (ledger-length w is) in
      sym (refusal_low (ledger_of w) step a b mode (rw l t) h) ∙ lent_refusal e

module _ (w : List ℕ) (p : Posting) where
  pub unlent_posted : lends_for w p.step ≡ false → w ≡ posted_in w p
  unfolding posted_in
  unlent_posted e = rw e

  pub still_posted : lends_for w p.step ≡ true → get_or w 11 0 ≡ 0 → (p.step ≡ 0 → ⊥) → (p.step ≡ 10 → ⊥) → p.step < 17 → w ≡ posted_in w p
  unfolding posted_in
  still_posted e i z x h =
      let is = (both (is_ledger w) (leb p.step 18) e).0 in
      let l : ledger_of w ≡ ledger_in w = read_twelve w (ledger-length w is) in
      let idle : (ledger_of w).idle ≡ false = ap (λ (k : Ledger). k.idle) l ∙ ne_eqb (get_or w 11 0) 1 (λ q. omega (arith, i, q)) in
      rw e (sym (ap ledger_words (settled_still (ledger_of w) p idle z x h) ∙ words_back w is))

  pub refused_posted : lends_for w p.step ≡ true → {l : Ledger} {refusal : Refusal} → l ≡ ledger_of w → settled l p ≡ Err refusal → w ≡ posted_in w p
  unfolding posted_in
  refused_posted e {l} {refusal} el ep =
      let is = (both (is_ledger w) (leb p.step 18) e).0 in
      let r : settled (ledger_of w) p ≡ Err refusal = ap (λ (k : Ledger). settled k p) (sym el) ∙ ep in
      rw (e, r) (sym (words_back w is))

  pub lent_posted : lends_for w p.step ≡ true → {l after : Ledger} {left : List ℕ} → l ≡ ledger_of w → settled l p ≡ Ok after → left ≡ stored_in after w → left ≡ posted_in w p
  unfolding posted_in
  lent_posted e {l} {after} {left} el ep ea =
      let is = (both (is_ledger w) (leb p.step 18) e).0 in
      let r : settled (ledger_of w) p ≡ Ok after = ap (λ (k : Ledger). settled k p) (sym el) ∙ ep in
      rw (e, r) (ea ∙ stored after w is)
