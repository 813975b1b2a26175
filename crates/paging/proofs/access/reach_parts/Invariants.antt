-- `paging::access::reach_parts` meets its contract: what is left of the access decides as the whole does. Assumes nothing.
use Rattle.std.proofs.Common.{◌≡◌, ◌-◌, ◌≤◌}
use Rattle.paging.specs.Memory.{memory_of}
use Rattle.paging.specs.Access.{parts_reached}
use Rattle.paging.proofs.access.reach_parts.Given as goal

abbrev pub invariant-loop-entry : goal.invariant-loop-entry
invariant-loop-entry l =
    (l.part ≤ l.left) × (parts_reached l.pmp (memory_of l.memory) l.context l.part l.start l.left ≡ parts_reached l.pmp (memory_of l.memory) l.context l.first l.address l.size)

abbrev pub decreases-loop-entry : goal.decreases-loop-entry
decreases-loop-entry l = l.left - l.part
