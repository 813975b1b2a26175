use Rattle.text.proofs.Template.{key_broken, word_broken, line_read, lines_passed, lines_left}
use Rattle.lines.specs.Fields.{all_ok, words_read}
use Rattle.std.proofs.Common.{length, sym, ◌∙◌, add-one}
use Rattle.text.proofs.read_lines.Goals as goal

pub returns-then-not-has_key-clause-value : goal.returns-then-not-has_key-clause-value
returns-then-not-has_key-clause-value c =
    let l = c.loop-i in
    let a = c.args in
    sym (l.invariant.judged ∙ key_broken a.places.now l.i l.start a.template.now a.text.now c.loop-i-test.true (sym c.has_key.ensures ∙ c.if-not-has_key.true))

pub returns-in_default-clause-value : goal.returns-in_default-clause-value
returns-in_default-clause-value c =
    let l = c.loop-i in
    let a = c.args in
    let keyed = sym c.has_key.ensures ∙ c.if-not-has_key.false in
    sym (l.invariant.judged ∙ word_broken a.places.now l.i l.start a.template.now a.text.now c.loop-i-test.true keyed (sym c.read_word.ensures ∙ c.in_default.is))

pub loop-i-preserved : goal.loop-i-preserved
unfolding all_ok words_read
loop-i-preserved c =
    let l = c.loop-i in
    let a = c.args in
    let keyed = sym c.has_key.ensures ∙ c.if-not-has_key.false in
    let next = line_read a.places.now l.i l.start a.template.now a.text.now c.in-Some.word c.loop-i-test.true keyed (sym c.read_word.ensures ∙ c.in-Some.is) in
    record {
      ordered = lines_left a.places.now l.i l.start (length a.template.now) c.loop-i-test.true l.invariant.ordered;
      judged = l.invariant.judged ∙ rw next;
      read = l.invariant.read ∙ rw (next, add-one l.i);
    }

pub returns-clause-value : goal.returns-clause-value
unfolding all_ok
returns-clause-value c =
    let l = c.loop-i in
    let a = c.args in
    sym (l.invariant.judged ∙ rw (lines_passed a.places.now l.i l.start a.template.now a.text.now c.loop-i-test.false))

pub returns-clause-words_after : goal.returns-clause-words_after
unfolding words_read
returns-clause-words_after c e =
    let l = c.loop-i in
    let a = c.args in
    sym (l.invariant.read ∙ rw (lines_passed a.places.now l.i l.start a.template.now a.text.now c.loop-i-test.false))
