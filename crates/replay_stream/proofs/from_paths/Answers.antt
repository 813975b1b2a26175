use Rattle.std.proofs.Common.{◌≡◌, Err, rules}
use Rattle.replay_stream.proofs.Streaming.{start-unread, start-read}
use Rattle.replay_stream.proofs.from_paths.Goals as goal

pub returns-in_err-session : goal.returns-in_err-session
returns-in_err-session g c =
    let e : c.from_residual.result ≡ Err c.in_err-session.field-0.0 = search rules in
    start-unread _ _ c.in_err-session.ensures e

pub returns : goal.returns
returns g c = start-read _ _ c.begin_named.ensures c.in_ok-session.was c.lend.ensures
