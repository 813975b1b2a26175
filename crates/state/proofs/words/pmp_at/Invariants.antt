use Prim.Native.Nat.{◌+◌, ◌-◌}
use mathlib.Core.Path.{◌≡◌}
use lib.Seq.{sets}
use Rattle.bits.specs.Lists.{elements}
use Rattle.state.proofs.words.pmp_at.Given as goal

abbrev pub invariant-loop-i : goal.invariant-loop-i
invariant-loop-i l = sets l.addrs l.i (elements (16 - l.i) (25 + l.i) l.words) ≡ elements 16 25 l.words
