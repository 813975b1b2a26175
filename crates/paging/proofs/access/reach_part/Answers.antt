-- `paging::access::reach_part` meets its contract: what the checks that are left come to is what the part comes to. Assumes nothing.
use Rattle.std.proofs.Common.{◌-◌, sym, refl, ap, ◌∙◌, Ok, arith}
use Rattle.paging.specs.Memory.{memory_of}
use Rattle.paging.proofs.AccessLaws.{stage_physical, stage_walk, stage_stray, check_says, check_denies, stage_on, stage_out}
use Rattle.paging.proofs.access.reach_part.Goals as goal
use Rattle.paging.proofs.access.reach_part.Goals.{then-is_translated+else-not-is_canonical, else-is_translated}

pub returns-then-not-is_canonical : goal.returns-then-not-is_canonical
returns-then-not-is_canonical c =
    let a = c.args in
    rw c.fault.ensures
    (stage_stray a.pmp (memory_of a.memory) a.context a.address a.size (sym c.is_translated.ensures ∙ c.if-is_translated.true)
    (sym c.is_canonical.ensures ∙ c.if-not-is_canonical.true))

pub loop-entry-init : goal.loop-entry-init
loop-entry-init c =
    let a = c.args in
    let m = memory_of a.memory in
    elim c.if-is_translated.branch [
      | then-is_translated+else-not-is_canonical w ↦ (
        omega (arith, w.levels-is),
        rw (w.levels-is, w.place-is) (stage_walk a.pmp m a.context a.address a.size (sym c.is_translated.ensures ∙ w.if-is_translated.true)
            (sym w.is_canonical.ensures ∙ w.if-not-is_canonical.false)),
      )
      | else-is_translated w ↦ (
        omega (arith, w.levels-is),
        rw (w.levels-is, w.place-is) (stage_physical a.pmp m a.context a.address a.size (sym c.is_translated.ensures ∙ w.if-is_translated.false)),
      )
    ]

pub returns-then-levels-eq0-2 : goal.returns-then-levels-eq0-2
returns-then-levels-eq0-2 c =
    let a = c.args in
    let l = c.loop-entry in
    rw c.fault-then-levels-eq0-2.ensures (sym (stage_out a.pmp (memory_of a.memory) a.context a.address a.size (l.levels - 1) c.in-Ok-Table.next c.if-levels-eq0-2.true)
    ∙ check_says a.pmp (memory_of a.memory) a.context a.address a.size l.levels l.place c.next_check-check.result c.byte_rule.result _ _ l.invariant.1
    c.next_check-check.ensures c.byte_rule.ensures c.in-Granted.is _ (l.levels - 1) _ refl (omega arith) (sym c.word_says.ensures ∙ c.in-Ok-Table.is ∙ ap Ok c.in-Ok-Table.field-0-is))

pub loop-entry-preserved-in-Ok-Table : goal.loop-entry-preserved-in-Ok-Table
loop-entry-preserved-in-Ok-Table c =
    let a = c.args in
    let l = c.loop-entry in (
      omega arith,
      sym (stage_on a.pmp (memory_of a.memory) a.context a.address a.size (l.levels - 1) c.in-Ok-Table.next c.if-levels-eq0-2.false)
          ∙ check_says a.pmp (memory_of a.memory) a.context a.address a.size l.levels l.place c.next_check-check.result c.byte_rule.result _ _ l.invariant.1
          c.next_check-check.ensures c.byte_rule.ensures c.in-Granted.is _ (l.levels - 1) _ refl (omega arith) (sym c.word_says.ensures ∙ c.in-Ok-Table.is ∙ ap Ok c.in-Ok-Table.field-0-is),
    )

pub loop-entry-preserved : goal.loop-entry-preserved
loop-entry-preserved c =
    let a = c.args in
    let l = c.loop-entry in (
      omega arith,
      check_says a.pmp (memory_of a.memory) a.context a.address a.size l.levels l.place c.next_check-check.result c.byte_rule.result _ _ l.invariant.1
          c.next_check-check.ensures c.byte_rule.ensures c.in-Granted.is _ (l.levels - 1) _ refl (omega arith) (sym c.word_says.ensures ∙ c.in-Ok-Page.is ∙ ap Ok c.in-Ok-Page.field-0-is),
    )

pub returns-in-Err : goal.returns-in-Err
returns-in-Err c =
    let a = c.args in
    let l = c.loop-entry in
    rw c.fault-in-Err.ensures
    (check_says a.pmp (memory_of a.memory) a.context a.address a.size l.levels l.place c.next_check-check.result c.byte_rule.result _ _ l.invariant.1
    c.next_check-check.ensures c.byte_rule.ensures c.in-Granted.is _ (l.levels - 1) _ refl (omega arith) (sym c.word_says.ensures ∙ c.in-Err.is))

pub returns-in-Fault : goal.returns-in-Fault
returns-in-Fault c =
    let a = c.args in
    let l = c.loop-entry in
    rw c.fault-in-Fault.ensures
    (check_denies a.pmp (memory_of a.memory) a.context a.address a.size l.levels l.place c.next_check-check.result c.byte_rule.result _ _ l.invariant.1
    c.next_check-check.ensures c.byte_rule.ensures c.in-Fault.is _ (λ w. refl) refl)

pub returns-in-Refused : goal.returns-in-Refused
returns-in-Refused c =
    let a = c.args in
    let l = c.loop-entry in
    rw c.fault-in-Refused.ensures
    (check_denies a.pmp (memory_of a.memory) a.context a.address a.size l.levels l.place c.next_check-check.result c.byte_rule.result _ _ l.invariant.1
    c.next_check-check.ensures c.byte_rule.ensures c.in-Refused.is _ (λ w. refl) refl)
