-- A record is the text of its words and of no others. Assumes nothing.
use Prim.Native.Nat.{ℕ}
use mathlib.Core.Path.{◌≡◌, refl, ap, ◌∙◌}
use mathlib.Core.Bool.{Bool, true, false, cond}
use mathlib.Core.List.{List, [], ◌∷◌}
use Rattle.std.specs.Prelude.{Some, None}
use lib.ListN.{get_or}
use Rattle.bits.specs.Lists.{Words}
use Rattle.lines.specs.Lines.{lines_of, words_in, is_text}
use Rattle.lines.proofs.Back.{text-only, words_back, is_text_lem}
use Rattle.steps.specs.declared.from_numbers.Numbers.{Numbers}
use Rattle.records.specs.Records.{keys, record_of, three, read_record}

-- the record of three words of 64 bits gives the words
pub record_back : (step a b : ℕ) → Words 3 (step ∷ a ∷ b ∷ []) → read_record (record_of step a b) ≡ Some (record { step = step; a = a; b = b })
unfolding keys record_of read_record
record_back step a b w =
    let ws = step ∷ a ∷ b ∷ [] in
    rw (is_text_lem keys ws w, words_back keys ws w)

lines-three : (ws : List ℕ) → lines_of keys 0 ws ≡ lines_of keys 0 (get_or ws 0 0 ∷ get_or ws 1 0 ∷ get_or ws 2 0 ∷ [])
unfolding keys lines_of
lines-three ws = refl

-- a text that gives three words is their record
pub record_only : (t : List ℕ) (step a b : ℕ) → read_record t ≡ Some (record { step = step; a = a; b = b }) → t ≡ record_of step a b
unfolding record_of read_record
record_only t step a b e = go (is_text keys t) refl e
  where
    go : (r : Bool) → is_text keys t ≡ r → cond r (Some (three (words_in keys t))) None ≡ Some (record { step = step; a = a; b = b }) → t ≡ lines_of keys 0 (step ∷ a ∷ b ∷ [])
    go true p q =
        let ws = words_in keys t in
        let n : three ws ≡ record { step = step; a = a; b = b } = cc in
        let x : get_or ws 0 0 ≡ step = ap (λ (r : Numbers). r.step) n in
        let y : get_or ws 1 0 ≡ a = ap (λ (r : Numbers). r.a) n in
        let z : get_or ws 2 0 ≡ b = ap (λ (r : Numbers). r.b) n in
        text-only keys t p ∙ lines-three ws ∙ (λ j. lines_of keys 0 (x j ∷ y j ∷ z j ∷ []))
    go false p q = let none : ⊥ = cc in absurd none
