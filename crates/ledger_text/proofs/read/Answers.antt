-- `ledger_text::read` meets its contract. Assumes nothing.
use Rattle.std.proofs.lemmas.Slice.Eq.{slice_eq-Decides}
use Rattle.std.proofs.lemmas.Bool.Decides.{Decides-eqb}
use Rattle.std.specs.Cmp.Lexicographic.{pointwise}
use Rattle.std.proofs.Common.{eqb, sym, refl, ap, ◌∙◌, Some}
use Rattle.ledger_text.proofs.Form.{length-unread, form_unread, other-unread, resting_unread, text-read}
use borrow.Author.Tests.{not-true, not-false}
use Rattle.bits.proofs.Conjunction.{contradiction}
use Rattle.ledger_text.proofs.read.Goals as goal

pub returns-then-text-ne-LENGTH : goal.returns-then-text-ne-LENGTH
returns-then-text-ne-LENGTH c = length-unread c.args.text.now c.if-text-ne-LENGTH.true

pub returns-in_err-words : goal.returns-in_err-words
returns-in_err-words c = c.from_residual.ensures ∙ form_unread c.args.text.now (c.in_err-words.ensures.broken refl)

pub returns-then-ne : goal.returns-then-ne
returns-then-ne c =
    let t = c.args.text.now in
    let u = c.text_of-again.result in
    let same = pointwise eqb t u in
    other-unread t c.in_ok-words.words u c.in_ok-words.ensures.read c.text_of-again.ensures
    (λ e. contradiction ((slice_eq-Decides Decides-eqb t u same refl).1 e) (not-true same (sym c.ne.ensures ∙ c.if-ne.true)))

pub returns-then-not-is_ledger : goal.returns-then-not-is_ledger
returns-then-not-is_ledger c =
    resting_unread c.args.text.now c.in_ok-words.words c.text_of-again.result c.in_ok-words.ensures.read c.text_of-again.ensures
    (sym c.is_ledger.ensures ∙ c.if-not-is_ledger.true)

pub returns : goal.returns
returns c =
    let t = c.args.text.now in
    let u = c.text_of-again.result in
    let same = pointwise eqb t u in
    ap Some c.load.ensures
    ∙ text-read t c.in_ok-words.words u c.in_ok-words.ensures.read c.text_of-again.ensures
    ((slice_eq-Decides Decides-eqb t u same refl).0 (not-false same (sym c.ne.ensures ∙ c.if-ne.false)))
    (sym c.is_ledger.ensures ∙ c.if-not-is_ledger.false)
