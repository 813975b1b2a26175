use Prim.Native.Nat.{◌+◌, ◌-◌, ◌/◌, ◌^◌}
use mathlib.Core.Path.{◌≡◌}
use lib.Seq.{sets}
use Rattle.protection.specs.Configs.{unpacked}
use Rattle.protection.proofs.configs.unpack.Given as goal

abbrev pub invariant-loop-i : goal.invariant-loop-i
invariant-loop-i l = sets l.cfgs (l.start + l.i) (unpacked (8 - l.i) (l.word / 256 ^ l.i)) ≡ sets l.initial.cfgs l.start (unpacked 8 l.word)
