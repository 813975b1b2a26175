use Rattle.std.proofs.Common.{sym, ◌∙◌}
use Rattle.std.proofs.lemmas.Bool.{not-true}
use Rattle.replay_stream.proofs.Streaming.{ended-lent, none_lent, named-lent}
use Rattle.replay_stream.proofs.lend.Goals as goal
use Rattle.replay_stream.proofs.lend.Goals.{then-not-start-via-then-not-start, then-not-start-via-else-not-start+then-is_none}

pub returns-then-not-start : goal.returns-then-not-start
returns-then-not-start g c = elim c.then-not-start.branch [
  | then-not-start-via-then-not-start w ↦ ended-lent _ _ (not-true _ w.if-not-start.true) c.replay.ensures
  | then-not-start-via-else-not-start+then-is_none w ↦ none_lent _ (sym w.if-is_none.true ∙ w.is_none.ensures) c.replay.ensures
]

pub returns : goal.returns
returns g c = named-lent _ (sym c.if-is_none.false ∙ c.is_none.ensures) c.lend_file.ensures
