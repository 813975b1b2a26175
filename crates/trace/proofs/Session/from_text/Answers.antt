use Rattle.std.proofs.Common.{ap, ◌∙◌}
use Rattle.hart.specs.Saved.{restored}
use Rattle.trace.specs.Sessions.{session_from, read_session, text_session}
use Rattle.trace.proofs.Session.from_text.Goals as goal

pub returns : goal.returns
unfolding text_session
returns c =
    let a = c.args in
    c.session_from.ensures ∙ (λ j. session_from c.restore-read.result.hart c.restore-read.result.map (c.refusal_number-refusal.ensures j))
    ∙ ap read_session c.restore-read.ensures.value
    ∙ (λ j. read_session (restored (c.form_by_length-form.ensures j) (c.reset-reset.ensures j).hart (c.reset-reset.ensures j).map a.text.now))
