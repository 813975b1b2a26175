use Rattle.std.proofs.Common.{ap, ◌∙◌, None}
use Rattle.hart.specs.declared.Mapped.{Mapped}
use Rattle.trace.specs.Sessions.{session_from, reset_session}
use Rattle.trace.proofs.Session.from_reset.Goals as goal

pub returns : goal.returns
unfolding reset_session
returns c = c.session_from.ensures ∙ ap (λ (m : Mapped). session_from m.hart m.map None) c.reset-reset.ensures
