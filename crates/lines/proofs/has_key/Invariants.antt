use Rattle.lines.specs.Fields.{are_key, has_key}
use lib.ListN.{drop}
use Prim.Native.Nat.{◌+◌}
use mathlib.Core.Bool.{◌&&◌}
use mathlib.Core.Path.{◌≡◌}
use Rattle.lines.proofs.has_key.Given as goal

abbrev pub invariant-loop-i : goal.invariant-loop-i
invariant-loop-i l = has_key l.text l.place l.key ≡ (l.same && are_key l.text (l.place + l.i) (drop l.i l.key))
