use mathlib.Core.Path.{sym, ap, ◌∙◌}
use Rattle.steps.specs.Number.{decision_numbers}
use Rattle.hart.specs.Queries.{query_answer}
use Rattle.hart.proofs.Hart.query.Goals as goal

pub returns-then-can_hold : goal.returns-then-can_hold
unfolding query_answer
returns-then-can_hold c = let held = sym c.can_hold.ensures ∙ c.if-can_hold.true in
    record {
      value = rw held c.query.ensures;
      result_value = rw held (ap decision_numbers c.query.ensures);
    }

pub returns-else-can_hold : goal.returns-else-can_hold
unfolding query_answer
returns-else-can_hold c = let unheld = sym c.can_hold.ensures ∙ c.if-can_hold.false in
    record {
      value = rw unheld;
      result_value = rw unheld;
    }
