use Prim.Native.Nat.{◌+◌, ◌-◌}
use mathlib.Core.Path.{◌≡◌}
use lib.Seq.{sets}
use Rattle.bits.specs.Lists.{elements}
use Rattle.state.proofs.words.put_pmp.Given as goal

abbrev pub invariant-loop-i : goal.invariant-loop-i
invariant-loop-i l = sets l.words (25 + l.i) (elements (16 - l.i) l.i l.addrs) ≡ sets l.initial.words 25 (elements 16 0 l.addrs)
