-- `memory_text::read` meets its contract. Assumes nothing.
use Rattle.memory_text.proofs.Form.{text_sized, lines_formed, word_left, words-start, words_more, words-all, is_taken_lem, all-stored}
use Rattle.memory_text.proofs.read.Goals as goal
use Rattle.memory_text.specs.MemoryText.{word_count}
use Rattle.lines.proofs.Reading.{line_found}
use Rattle.lines.specs.Lines.{bytes_of, key_of, number_at}
use Rattle.std.specs.Prelude.{Option, unwrap_or}
use Rattle.std.proofs.Common.{◌≡◌, ℕ, ◌+◌, ◌-◌, ◌*◌, ap, sym, ◌∙◌, arith}

pub overflow_sub-count : goal.overflow_sub-count
overflow_sub-count c = omega (arith, text_sized c.args.text.now (sym c.is_memory_text.ensures ∙ c.if-not-is_memory_text.false))

pub loop-i-init : goal.loop-i-init
loop-i-init c =
    let t = c.args.text.now in
    let l = lines_formed t (sym c.is_memory_text.ensures ∙ c.if-not-is_memory_text.false) in
    let z : word_count t - 0 ≡ word_count t = omega arith in
    record { formed = rw z l.1; stored = words-start t c.args.words.now }

pub loop-i-preserved : goal.loop-i-preserved
loop-i-preserved c =
    let t = c.args.text.now in
    let l = c.loop-i in
    let n = word_count t in
    let next = word_left t n l.i c.loop-i-test.true l.invariant.formed in
    let w : c.unwrap_or.result ≡ number_at 16 0 t (22 * l.i + 27) = c.unwrap_or.ensures ∙ ap (λ (o : Option ℕ). unwrap_or o 0) (c.read_word.ensures ∙ next.0) in
    record { formed = next.1; stored = l.invariant.stored ∙ words_more t n l.i l.words c.loop-i-test.true ∙ rw (← w) }

pub returns : goal.returns
unfolding bytes_of
returns c =
    let t = c.args.text.now in
    let s = c.args.words.now in
    let l = c.loop-i in
    let e = sym c.is_memory_text.ensures ∙ c.if-not-is_memory_text.false in
    let f = (line_found t (key_of "base") 0 (lines_formed t e).0).1 in
    let b : c.unwrap_or-base.result ≡ number_at 16 0 t 5 = c.unwrap_or-base.ensures ∙ ap (λ (o : Option ℕ). unwrap_or o 0) (c.read_word-2.ensures ∙ f) in
    let w = l.invariant.stored ∙ words-all t (word_count t) l.i l.words c.loop-i-test.false in
    let r = all-stored t s c.unwrap_or-base.result l.words (is_taken_lem t s e c.if-words-count.false) c.if-words-count.false b w in
    record { value = r.0; words_after = r.1; count_in_bounds = c.if-words-count.false }
