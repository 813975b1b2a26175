-- `memory_text::is_memory_text` meets its contract. Assumes nothing.
use Rattle.memory_text.proofs.Form.{length-refused, more_refused, lines_start, lines_more, lines_passed}
use Rattle.lines.specs.Lines.{bytes_of}
use Rattle.std.proofs.Common.{◌+◌, ◌-◌, ◌*◌, ◌/◌, not, length, sym, ap, ◌∙◌, arith}
use Rattle.memory_text.proofs.is_memory_text.Goals as goal

pub returns-then-text-total : goal.returns-then-text-total
returns-then-text-total c = length-refused c.args.text.now (λ e. c.if-text-total.true (omega arith))

pub returns-then-total-eq0 : goal.returns-then-total-eq0
returns-then-total-eq0 c = length-refused c.args.text.now (λ e. absurd (omega arith))

pub returns-then-total-gt65537 : goal.returns-then-total-gt65537
returns-then-total-gt65537 c = more_refused c.args.text.now (omega arith)

pub returns-then-is_none : goal.returns-then-is_none
unfolding bytes_of
returns-then-is_none c =
    let gone = c.is_none.ensures ∙ ap not c.if-is_none.true in
    sym (lines_start c.args.text.now (omega arith) (omega arith) ∙ rw (← c.read_line.ensures, gone))

pub loop-i-init : goal.loop-i-init
unfolding bytes_of
loop-i-init c =
    let found = c.is_none.ensures ∙ ap not c.if-is_none.false in
    lines_start c.args.text.now (omega arith) (omega arith) ∙ rw (← c.read_line.ensures, found)

pub returns-then-is_none-2 : goal.returns-then-is_none-2
unfolding bytes_of
returns-then-is_none-2 c =
    let i = c.loop-i.i in
    let n = length c.args.text.now / 22 in
    let gone = c.is_none-in-loop-i.ensures ∙ ap not c.if-is_none-2.true in
    sym (c.loop-i.invariant ∙ lines_more c.args.text.now (n - i) (n - (i + 1)) (22 * i) (22 * (i + 1)) (omega arith) (omega arith)
    ∙ rw (← c.read_line-in-loop-i.ensures, gone))

pub loop-i-preserved : goal.loop-i-preserved
unfolding bytes_of
loop-i-preserved c =
    let i = c.loop-i.i in
    let n = length c.args.text.now / 22 in
    let found = c.is_none-in-loop-i.ensures ∙ ap not c.if-is_none-2.false in
    c.loop-i.invariant ∙ lines_more c.args.text.now (n - i) (n - (i + 1)) (22 * i) (22 * (i + 1)) (omega arith) (omega arith)
    ∙ rw (← c.read_line-in-loop-i.ensures, found)

pub returns : goal.returns
returns c = let l = c.loop-i in sym (l.invariant ∙ lines_passed c.args.text.now _ (22 * l.i) (omega arith))
