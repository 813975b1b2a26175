use Prim.Native.Nat.{◌+◌, ◌-◌, ◌/◌, ◌^◌}
use mathlib.Core.Path.{◌≡◌}
use Rattle.protection.specs.Write.{configs_written}
use Rattle.protection.proofs.write.configs_written.Given as goal

abbrev pub invariant-loop-i : goal.invariant-loop-i
invariant-loop-i l =
    configs_written l.grain (8 - l.i) (l.first + l.i) (l.value / 256 ^ l.i) l.cfgs ≡ configs_written l.grain 8 l.first l.value l.initial.cfgs
