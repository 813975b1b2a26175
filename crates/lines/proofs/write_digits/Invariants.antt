-- `lines::write_digits` meets its contract: the digits that are left are still to be written. Assumes nothing.
use Rattle.lines.specs.Lines.{hex_digits}
use lib.Seq.{sets}
use Prim.Native.Nat.{◌+◌, ◌-◌}
use mathlib.Core.Path.{◌≡◌}
use Rattle.lines.proofs.write_digits.Given as goal

abbrev pub invariant-loop-j : goal.invariant-loop-j
invariant-loop-j l =
    sets l.initial.text l.place (hex_digits 16 l.word) ≡ sets l.text (l.place + l.j) (hex_digits (16 - l.j) l.word)
