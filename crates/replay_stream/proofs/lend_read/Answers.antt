use Rattle.std.proofs.Common.{◌≡◌, Err, refl, rules}
use Rattle.replay_stream.specs.Streams.{memory_of}
use Rattle.replay_stream.proofs.Streaming.{unlent, text-lent}
use Rattle.replay_stream.proofs.lend_read.Goals as goal

pub returns-in_err-count : goal.returns-in_err-count
returns-in_err-count g c =
    let e : c.from_residual.result ≡ Err c.in_err-count.field-0.0 = search rules in
    let f : c.in_err-count.field-0.0.session ≡ c.args.start = search rules in
    unlent memory_of f e

pub returns-in_default : goal.returns-in_default
returns-in_default g c = unlent memory_of refl refl

pub returns : goal.returns
returns g c = text-lent _ _ c.in-Some.ensures.value c.in-Some.ensures.words_after c.replay.ensures
