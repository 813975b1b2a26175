use mathlib.Core.Path.{◌∙◌}
use mathlib.Core.Bool.{true, false}
use Rattle.std.specs.Prelude.{Ok, Err}
use Rattle.bits.proofs.Conjunction.{both}
use Rattle.state.specs.Hold.{can_hold}
use Rattle.hart.specs.Saved.{form_holds}
use Rattle.hart.proofs.SavedLaws.{read_as_lem, text_judged, words_are, words_judged}
use Rattle.hart.proofs.saved.read_state.Goals as goal

pub returns-then-not-words_can_hold-form_holds-clause-value : goal.returns-then-not-words_can_hold-form_holds-clause-value
returns-then-not-words_can_hold-form_holds-clause-value c =
    let a = c.args in
    let e = read_as_lem a.form a.text.now c.read.ensures.value c.read.ensures.words_after in
    let o = c.if-not-read.false in
    let d = c.from-state.ensures in
    text_judged a.form a.text.now Err Ok e false o d (words_judged a.form a.text.now e o d c.words_can_hold.ensures c.form_holds.ensures ∙ c.if-not-words_can_hold-form_holds.true)

pub returns : goal.returns
returns c =
    let a = c.args in
    let s = c.from-state.result in
    let e = read_as_lem a.form a.text.now c.read.ensures.value c.read.ensures.words_after in
    let o = c.if-not-read.false in
    let d = c.from-state.ensures in
    let held = words_judged a.form a.text.now e o d c.words_can_hold.ensures c.form_holds.ensures ∙ c.if-not-words_can_hold-form_holds.false in
    record {
      value = text_judged a.form a.text.now Err Ok e true o d held;
      words_after = (words_are a.form a.text.now e o d, (both (can_hold s) (form_holds a.form s) held).0);
    }
