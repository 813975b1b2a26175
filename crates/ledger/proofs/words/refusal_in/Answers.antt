use mathlib.Core.Path.{sym, ap, ◌∙◌}
use mathlib.Core.Bool.{Bool, ◌&&◌}
use native.Mathlib.Omega.{arith}
use lib.Dec.{leb, ltb}
use lib.ListN.{get_or}
use borrow.Author.Tests.{leb-true, ltb-true}
use Rattle.bits.proofs.Conjunction.{both}
use Rattle.ledger.specs.declared.Ledger.{Ledger}
use Rattle.ledger.specs.Rules.{refusal_by}
use Rattle.ledger.specs.Words.{is_ledger}
use Rattle.ledger.proofs.WordLaws.{ledger-length}
use Rattle.ledger.proofs.PostingLaws.{unlent_refusal, lent_refusal, low_refusal}
use Rattle.ledger.proofs.words.refusal_in.Goals as goal

pub returns-then-not-is_ledger-step : goal.returns-then-not-is_ledger-step
returns-then-not-is_ledger-step c =
    let a = c.args in
    let lends = sym (ap (λ (b : Bool). b && leb a.step 18) c.is_ledger.ensures) ∙ c.if-not-is_ledger-step.true in
    unlent_refusal a.words.now a.step a.a a.b a.mode lends

pub bounds-words-10 : goal.bounds-words-10
bounds-words-10 c =
    let a = c.args in
    let lends = sym (ap (λ (b : Bool). b && leb a.step 18) c.is_ledger.ensures) ∙ c.if-not-is_ledger-step.false in
    omega (arith, ledger-length a.words.now (both (is_ledger a.words.now) (leb a.step 18) lends).0)

pub returns-then-words-step : goal.returns-then-words-step
returns-then-words-step c =
    let a = c.args in
    let lends = sym (ap (λ (b : Bool). b && leb a.step 18) c.is_ledger.ensures) ∙ c.if-not-is_ledger-step.false in
    let k = both (leb (get_or a.words.now 10 0) 7) (ltb a.step 17) c.if-words-step.true in
    low_refusal a.words.now a.step a.a a.b a.mode lends (leb-true (get_or a.words.now 10 0) 7 k.0) (ltb-true a.step 17 k.1)

pub returns : goal.returns
returns c =
    let a = c.args in
    let lends = sym (ap (λ (b : Bool). b && leb a.step 18) c.is_ledger.ensures) ∙ c.if-not-is_ledger-step.false in
    c.refusal.ensures ∙ ap (λ (k : Ledger). refusal_by k a.step a.a a.b a.mode) c.load.ensures
    ∙ lent_refusal a.words.now a.step a.a a.b a.mode lends
