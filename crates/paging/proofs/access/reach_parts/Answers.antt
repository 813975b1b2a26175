-- `paging::access::reach_parts` meets its contract: what is left of the access decides as the whole does. Assumes nothing.
use Rattle.std.proofs.Common.{sym, refl, ◌∙◌, arith}
use Rattle.std.proofs.lemmas.Result.{err_from_is_err_and}
use Rattle.paging.proofs.AccessLaws.{parts_last, parts_stop, parts_next}
use Rattle.paging.proofs.access.reach_parts.Goals as goal

pub returns-in_err-entry : goal.returns-in_err-entry
returns-in_err-entry c =
    let p = err_from_is_err_and c.from_residual.result c.from_residual.ensures.1 in
    rw (p.1, p.2) (parts_stop _ _ _ _ _ _ _ c.loop-entry.invariant.1 _ (λ y. refl) (sym c.reach_part.ensures ∙ c.in_err-entry.was))

pub returns-then-part-left : goal.returns-then-part-left
returns-then-part-left c = parts_last _ _ _ _ _ _ _ c.loop-entry.invariant.1 _ c.if-part-left.true (sym c.reach_part.ensures ∙ c.in_ok-entry.was)

pub loop-entry-preserved : goal.loop-entry-preserved
loop-entry-preserved c =
    (omega arith, parts_next _ _ _ _ _ _ _ c.loop-entry.invariant.1 _ c.if-part-left.false (sym c.reach_part.ensures ∙ c.in_ok-entry.was))
