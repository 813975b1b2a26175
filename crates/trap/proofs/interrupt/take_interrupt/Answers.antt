use Rattle.std.proofs.Common.{sym, ◌∙◌}
use Rattle.trap.proofs.First.{chosen}
use Rattle.trap.proofs.interrupt.take_interrupt.Goals as goal

pub enter_level-requires : goal.enter_level-requires
enter_level-requires c = chosen c.args.r c.in-Some.number (sym c.machine_bound_first.ensures ∙ c.in-Some.is)
