use Rattle.lines.specs.Lines.{number_at}
use Rattle.lines.specs.Fields.{are_digits}
use Prim.Native.Nat.{◌+◌, ◌-◌, ◌*◌, ◌^◌, ◌<◌}
use mathlib.Core.Bool.{◌&&◌}
use mathlib.Core.Path.{◌≡◌}
use Rattle.lines.proofs.digits_at.Given as goal

abbrev pub invariant-loop-j : goal.invariant-loop-j
invariant-loop-j l = record {
  below : l.word < 2 ^ (4 * l.j);
  number : number_at 16 0 l.text l.place ≡ number_at (16 - l.j) l.word l.text (l.place + l.j);
  digits : are_digits 16 l.text l.place ≡ (l.ok && are_digits (16 - l.j) l.text (l.place + l.j));
}
