use mathlib.Core.Path.{sym, ap, ◌∙◌}
use mathlib.Core.Bool.{Bool, not, ◌&&◌}
use native.Mathlib.Omega.{arith}
use lib.Dec.{eqb, leb, ltb}
use lib.ListN.{get_or}
use borrow.Author.Tests.{not-true, eqb-true, eqb-false, ltb-true}
use Rattle.bits.proofs.Conjunction.{both}
use Rattle.ledger.specs.Words.{is_ledger}
use Rattle.ledger.proofs.WordLaws.{ledger-length}
use Rattle.ledger.proofs.PostingLaws.{unlent_posted, still_posted, refused_posted, lent_posted}
use Rattle.ledger.proofs.words.post_in.Goals as goal

pub returns-then-not-is_ledger-step : goal.returns-then-not-is_ledger-step
returns-then-not-is_ledger-step c =
    let a = c.args in
    let lends = sym (ap (λ (b : Bool). b && leb a.posting.step 18) c.is_ledger.ensures) ∙ c.if-not-is_ledger-step.true in
    unlent_posted a.words.now a.posting lends

pub bounds-words-11 : goal.bounds-words-11
bounds-words-11 c =
    let a = c.args in
    let lends = sym (ap (λ (b : Bool). b && leb a.posting.step 18) c.is_ledger.ensures) ∙ c.if-not-is_ledger-step.false in
    omega (arith, ledger-length a.words.now (both (is_ledger a.words.now) (leb a.posting.step 18) lends).0)

pub returns-then-words-step : goal.returns-then-words-step
returns-then-words-step c =
    let a = c.args in
    let lends = sym (ap (λ (b : Bool). b && leb a.posting.step 18) c.is_ledger.ensures) ∙ c.if-not-is_ledger-step.false in
    let w = a.words.now in
    let k = both (eqb (get_or w 11 0) 0) (not (eqb a.posting.step 0) && (not (eqb a.posting.step 10) && ltb a.posting.step 17)) c.if-words-step.true in
    let r = both (not (eqb a.posting.step 0)) (not (eqb a.posting.step 10) && ltb a.posting.step 17) k.1 in
    let q = both (not (eqb a.posting.step 10)) (ltb a.posting.step 17) r.1 in
    still_posted w a.posting lends (eqb-true (get_or w 11 0) 0 k.0)
    (eqb-false a.posting.step 0 (not-true (eqb a.posting.step 0) r.0)) (eqb-false a.posting.step 10 (not-true (eqb a.posting.step 10) q.0)) (ltb-true a.posting.step 17 q.1)

pub returns-in-Ok : goal.returns-in-Ok
returns-in-Ok c =
    let a = c.args in
    let lends = sym (ap (λ (b : Bool). b && leb a.posting.step 18) c.is_ledger.ensures) ∙ c.if-not-is_ledger-step.false in
    lent_posted a.words.now a.posting lends c.load.ensures (sym c.post_own.ensures ∙ c.in-Ok.is) c.store.ensures

pub returns-in_default : goal.returns-in_default
returns-in_default c =
    let a = c.args in
    let lends = sym (ap (λ (b : Bool). b && leb a.posting.step 18) c.is_ledger.ensures) ∙ c.if-not-is_ledger-step.false in
    refused_posted a.words.now a.posting lends c.load.ensures (sym c.post_own.ensures ∙ c.in_default.is)
