use Prim.Native.Nat.{ℕ, ◌<◌, ◌^◌}
use mathlib.Core.Path.{ap, ◌∙◌}
use Rattle.std.specs.Prelude.{is_some}
use borrow.Author.Rules.{rules}
use mir.Syntax.{w64}
use mir.Val.{Fits}
use lib.ListN.{get_or}
use Rattle.text.proofs.Template.{longest}
use Rattle.claims.proofs.Texts.{resaved-refused, resaved-done}
use Rattle.claims.proofs.saved.resaved.Goals as goal

pub returns-then-is_some : goal.returns-then-is_some
returns-then-is_some c =
    let a = c.args in
    resaved-refused a.form a.hart a.map _ ((let ws = c.from-words.result in
    let below : (i : ℕ) → get_or ws i 0 < 2 ^ 64 = λ i. (let f : Fits w64 (get_or ws i 0) = search rules in f.fits) in
    record { arrays = search rules; words = rw c.from-words.ensures.0 at below })) (longest a.form) c.save-answer.ensures.value (c.is_some.ensures ∙ ap is_some c.refusal.ensures) c.if-is_some.true

pub returns : goal.returns
returns c =
    let a = c.args in
    resaved-done a.form a.hart a.map _ ((let ws = c.from-words.result in
    let below : (i : ℕ) → get_or ws i 0 < 2 ^ 64 = λ i. (let f : Fits w64 (get_or ws i 0) = search rules in f.fits) in
    record { arrays = search rules; words = rw c.from-words.ensures.0 at below })) (longest a.form) c.save-answer.ensures.value (c.is_some.ensures ∙ ap is_some c.refusal.ensures) c.if-is_some.false
    c.text_length-size.ensures.value c.save-answer.ensures.buffer_after c.restore.ensures.value
