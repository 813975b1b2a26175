use Rattle.records.proofs.Reading.{record_judged, record_short}
use Rattle.lines.specs.Lines.{bytes_of}
use Rattle.std.proofs.Common.{sym, ◌∙◌}
use Rattle.records.proofs.read_record.Goals as goal

pub returns-then-text-ne60 : goal.returns-then-text-ne60
returns-then-text-ne60 c = record_short c.args.text.now c.if-text-ne60.true

pub returns-in-Some-Some-Some : goal.returns-in-Some-Some-Some
unfolding bytes_of
returns-in-Some-Some-Some c =
    let l = c.in-Some-Some-Some in
    sym (record_judged c.args.text.now c.if-text-ne60.false ∙ rw (← c.read_line-step.ensures, ← c.read_line-a.ensures, ← c.read_line-b.ensures, l.is-0, l.is-1, l.is-2))

pub returns-in_default : goal.returns-in_default
unfolding bytes_of
returns-in_default c =
    let l = c.in_default in
    sym (record_judged c.args.text.now c.if-text-ne60.false ∙ rw (← c.read_line-step.ensures, ← c.read_line-a.ensures, ← c.read_line-b.ensures, l.is-0, l.is-1, l.is-2))

pub returns-in_default-2 : goal.returns-in_default-2
unfolding bytes_of
returns-in_default-2 c =
    let l = c.in_default in
    sym (record_judged c.args.text.now c.if-text-ne60.false ∙ rw (← c.read_line-step.ensures, ← c.read_line-a.ensures, l.is-0, l.is-1))

pub returns-in_default-3 : goal.returns-in_default-3
unfolding bytes_of
returns-in_default-3 c = sym (record_judged c.args.text.now c.if-text-ne60.false ∙ rw (← c.read_line-step.ensures, c.in_default.is-0))
