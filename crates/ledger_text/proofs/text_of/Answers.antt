-- `ledger_text::text_of` meets its contract. Assumes nothing.
use Rattle.ledger_text.proofs.Form.{lines_filled}
use Rattle.ledger_text.specs.LedgerText.{keys}
use Rattle.lines.specs.Lines.{bytes_of, hex_digits, line_of, lines_of, places_of}
use mathlib.Core.Path.{◌∙◌}
use Rattle.ledger_text.proofs.text_of.Goals as goal

pub returns : goal.returns
unfolding bytes_of keys hex_digits line_of lines_of places_of
returns c = c.write_words.ensures ∙ lines_filled c.args.words.now
