-- Reading a record line by line is reading its form. Assumes nothing.
use Rattle.std.proofs.Common.{◌≡◌, ℕ, true, cond, List, [], ◌∷◌, length, refl, sym, ap, ◌∙◌, Option, Some, None}
use Rattle.lines.specs.Lines.{bytes_of, key_of, lines_length, words_in}
use Rattle.lines.specs.Fields.{line_at, lines_at, all_ok, words_read}
use Rattle.lines.proofs.Reading.{text_judged, words_judged, not-text}
use Rattle.steps.specs.declared.from_numbers.Numbers.{Numbers}
use Rattle.records.specs.Records.{keys, three, read_record, record_step, read_step}

record_length : lines_length keys ≡ 60
unfolding keys bytes_of lines_length
record_length = refl

-- three lines are a record if each has its word
abbrev pub of_lines : (step a b : Option ℕ) → Option Numbers
of_lines (Some step) (Some a) (Some b) = Some (record { step = step; a = a; b = b })
of_lines (Some step) (Some a) None = None
of_lines (Some step) None b = None
of_lines None a b = None

all_or_none : (step a b : Option ℕ) (ws : List ℕ) → (all_ok (step ∷ a ∷ b ∷ []) ≡ true → ws ≡ words_read (step ∷ a ∷ b ∷ []))
    → cond (all_ok (step ∷ a ∷ b ∷ [])) (Some (three ws)) None ≡ of_lines step a b
unfolding all_ok words_read
all_or_none (Some step) (Some a) (Some b) ws h = ap (λ ws. Some (three ws)) (h refl)
all_or_none (Some step) (Some a) None ws h = refl
all_or_none (Some step) None b ws h = refl
all_or_none None a b ws h = refl

pub record_judged : (t : List ℕ) → length t ≡ 60 → read_record t ≡ of_lines (line_at t 0 (key_of "step")) (line_at t 22 (key_of "a")) (line_at t 41 (key_of "b"))
unfolding keys bytes_of read_record lines_at
record_judged t h =
    let step = line_at t 0 (key_of "step") in
    let a = line_at t 22 (key_of "a") in
    let b = line_at t 41 (key_of "b") in
    rw (text_judged t keys (h ∙ sym record_length)) (all_or_none step a b (words_in keys t) (words_judged t keys))

-- a text that is longer or shorter is no record
pub record_short : (t : List ℕ) → (length t ≡ 60 → ⊥) → None ≡ read_record t
unfolding read_record
record_short t h = rw (not-text t keys (λ e. h (e ∙ record_length)))

-- and names no step
pub step-short : (t : List ℕ) → (length t ≡ 60 → ⊥) → None ≡ read_step t
unfolding read_step record_step
step-short t h = ap record_step (record_short t h)
