use Rattle.capi.proofs.QueryLaws.{asked}
use Rattle.capi.proofs.tegrwyllt_query.Goals as goal

pub returns-clause-answer_after : goal.returns-clause-answer_after
returns-clause-answer_after c =
    let a = c.args in
    asked a.hart.now a.map.now a.mode a.kind a.address a.size a.answer.now _ c.in-Some.ensures.cases.long c.if-map-ne100.false
    c.in-Some-as_mut_array.ensures.cases.long c.in-Some.ensures.cases.same c.in-Ok.ensures c.in-Some-access_of.ensures c.ask.ensures c.decision_words.ensures
