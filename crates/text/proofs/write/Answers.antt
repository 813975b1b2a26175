use Rattle.text.proofs.Template.{text-written}
use Rattle.text.specs.Text.{first_keys, keys_of, head_of, text_of, length_of}
use Rattle.lines.specs.Lines.{bytes_of, hex_digits, line_of, lines_of, places_of}
use Prim.Native.Nat.{ℕ, ◌≤◌}
use mathlib.Core.Path.{ap}
use mathlib.Core.List.{List, ◌++◌}
use lib.ListN.{length, drop}
use Rattle.text.proofs.write.Goals as goal

pub returns-clause-buffer_after : goal.returns-clause-buffer_after
unfolding bytes_of first_keys keys_of head_of hex_digits line_of lines_of text_of places_of
returns-clause-buffer_after c =
    let a = c.args in
    let n = c.text_length-size.ensures.value in
    let y = c.copy_from_slice in
    let room : length_of a.form ≤ length a.buffer.now = rw n at c.if-buffer-size.false in
    text-written a.form a.words.now a.buffer.now (y.new.self ++ drop c.text_length-size.result a.buffer.now) c.write_words.new.text
    c.head_length-head.ensures.value n (ap (λ (z : List ℕ). z ++ drop c.text_length-size.result a.buffer.now) y.ensures.after)
    c.line_count-count.ensures.value room c.write_words.ensures
