use Rattle.lines.specs.Places.{with_words}
use lib.ListN.{drop}
use mathlib.Core.Path.{◌≡◌}
use Rattle.lines.proofs.write_words.Given as goal

abbrev pub invariant-loop-i : goal.invariant-loop-i
invariant-loop-i l = with_words l.places 0 l.words l.initial.text ≡ with_words (drop l.i l.places) l.i l.words l.text
