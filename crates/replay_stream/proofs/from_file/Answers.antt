use Rattle.std.proofs.Common.{◌≡◌, Err, rules}
use Rattle.replay_stream.proofs.Streaming.{file_unfed, file_fed}
use Rattle.replay_stream.proofs.from_file.Goals as goal

pub returns-in_err-start : goal.returns-in_err-start
returns-in_err-start g c =
    let e : c.from_residual.result ≡ Err c.in_err-start.field-0.0 = search rules in
    file_unfed _ c.in_err-start.ensures e

pub returns : goal.returns
returns g c = file_fed _ c.begin.ensures c.in_ok-start.was c.replay.ensures
