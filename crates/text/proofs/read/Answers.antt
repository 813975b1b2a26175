use Rattle.text.proofs.Template.{places_taken, lines-within, length-unread, text-unread, text-found}
use Rattle.text.specs.Text.{Reading, first_keys, keys_of, head_of, text_of}
use Rattle.lines.specs.Lines.{bytes_of, hex_digits, line_of, lines_of, places_of}
use Rattle.std.proofs.Common.{sym, ap, ◌∙◌}
use Rattle.text.proofs.read.Goals as goal

pub returns-then-text-text_length : goal.returns-then-text-text_length
returns-then-text-text_length c =
    let a = c.args in
    let e = length-unread a.form a.text.now (λ e. c.if-text-text_length.true (e ∙ sym c.text_length.ensures.value)) in
    record { value = ap (λ (r : Reading). r.ok) e; words_after = ap (λ (r : Reading). r.words) e }

pub read_lines-lined-requires : goal.read_lines-lined-requires
unfolding bytes_of first_keys keys_of places_of
read_lines-lined-requires c = lines-within c.args.form c.line_count-count.ensures.value

pub returns-then-headed-lined : goal.returns-then-headed-lined
unfolding bytes_of first_keys keys_of head_of hex_digits line_of lines_of text_of places_of
returns-then-headed-lined c =
    let a = c.args in
    let l = c.read_lines-lined in
    let e = text-found a.form a.text.now (c.if-text-text_length.false ∙ c.text_length.ensures.value) c.head_length-head.ensures.value
    (places_taken a.form c.line_count-count.ensures.value) c.has_key-headed.result l.result c.has_key-headed.ensures l.ensures.value
    l.new.words c.if-headed-lined.true l.ensures.words_after in
    record { value = ap (λ (r : Reading). r.ok) e; words_after = ap (λ (r : Reading). r.words) e }

pub returns : goal.returns
unfolding bytes_of first_keys keys_of head_of hex_digits line_of lines_of text_of places_of
returns c =
    let a = c.args in
    let l = c.read_lines-lined in
    let e = text-unread a.form a.text.now (c.if-text-text_length.false ∙ c.text_length.ensures.value) c.head_length-head.ensures.value
    (places_taken a.form c.line_count-count.ensures.value) c.has_key-headed.result l.result c.has_key-headed.ensures l.ensures.value
    c.if-headed-lined.false in
    record { value = ap (λ (r : Reading). r.ok) e; words_after = ap (λ (r : Reading). r.words) e }
