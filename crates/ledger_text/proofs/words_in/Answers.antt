-- `ledger_text::words_in` meets its contract. Assumes nothing.
use Rattle.ledger_text.proofs.Form.{words-start, words_more, words-all, word_broken}
use Rattle.ledger_text.specs.LedgerText.{keys}
use Rattle.lines.proofs.Reading.{word_read}
use Rattle.lines.specs.Lines.{bytes_of, places_of}
use Rattle.std.proofs.Common.{sym, ◌∙◌}
use Rattle.ledger_text.proofs.words_in.Goals as goal

pub loop-i-init : goal.loop-i-init
loop-i-init c = words-start c.args.text.now

pub returns-in_err-words-clause-broken : goal.returns-in_err-words-clause-broken
unfolding bytes_of keys places_of
returns-in_err-words-clause-broken c h =
    word_broken c.args.text.now c.loop-i.i c.loop-i-test.true c.requires (sym c.read_word.ensures ∙ c.in_err-words.was)

pub loop-i-preserved : goal.loop-i-preserved
unfolding bytes_of keys places_of
loop-i-preserved c =
    let t = c.args.text.now in
    let l = c.loop-i in
    l.invariant ∙ words_more t l.words l.i c.in_ok-words.field-0 c.loop-i-test.true (word_read t _ _ (sym c.read_word.ensures ∙ c.in_ok-words.was))

pub returns-clause-read : goal.returns-clause-read
returns-clause-read c =
    let l = c.loop-i in
    sym (l.invariant ∙ words-all c.args.text.now l.words l.i c.loop-i-test.false)
