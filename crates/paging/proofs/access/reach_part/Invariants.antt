-- `paging::access::reach_part` meets its contract: what the checks that are left come to is what the part comes to. Assumes nothing.
use Rattle.std.proofs.Common.{◌≡◌, ◌≤◌}
use Rattle.protection.specs.declared.Pmp.{Pmp}
use Rattle.paging.specs.Memory.{memory_of}
use Rattle.paging.specs.Access.{part_reached}
use Rattle.paging.proofs.AccessLaws.{stage}
use Rattle.paging.proofs.access.reach_part.Given as goal

abbrev pub invariant-loop-entry : goal.invariant-loop-entry
invariant-loop-entry l =
    let pmp : Pmp = record { grain = l.grain; cfgs = l.cfgs; addrs = l.addrs } in
    (l.levels ≤ 3) × (stage pmp (memory_of l.memory) l.context l.address l.size l.levels l.place ≡ part_reached pmp (memory_of l.memory) l.context l.address l.size)

abbrev pub decreases-loop-entry : goal.decreases-loop-entry
decreases-loop-entry l = l.levels
