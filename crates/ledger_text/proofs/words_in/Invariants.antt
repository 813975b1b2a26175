-- `ledger_text::words_in` meets its contract. Assumes nothing.
use Rattle.ledger_text.proofs.Form.{places}
use Rattle.ledger_text.specs.LedgerText.{keys}
use Rattle.lines.specs.Lines.{number_at, words_in}
use Rattle.std.proofs.Common.{◌≡◌, map, drop}
use lib.Seq.{sets}
use Rattle.ledger_text.proofs.words_in.Given as goal

abbrev pub invariant-loop-i : goal.invariant-loop-i
invariant-loop-i l = words_in keys l.text ≡ sets l.words l.i (map (number_at 16 0 l.text) (drop l.i places))
