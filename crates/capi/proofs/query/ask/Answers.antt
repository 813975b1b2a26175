use borrow.Author.Rules.{rules}
use Rattle.capi.proofs.QueryLaws.{not-held, answered}
use Rattle.capi.proofs.query.ask.Goals as goal

pub returns-then-not-words_can_hold : goal.returns-then-not-words_can_hold
returns-then-not-words_can_hold c =
    let a = c.args in
    not-held a.hart.now a.map.now (search rules) a.mode a.access a.address a.size c.words_can_hold.ensures (c.if-not-words_can_hold.true)

pub returns : goal.returns
returns c =
    let a = c.args in
    answered a.hart.now a.map.now (search rules) a.mode a.access a.address a.size c.words_can_hold.ensures (c.if-not-words_can_hold.false)
    c.configs_of-cfgs.ensures c.query_words.ensures
