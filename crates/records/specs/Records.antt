-- A trace's records: three lines, `step=`, `a=`, `b=`, each with 16 lower-case hexadecimal digits and a line feed; unused arguments are 0.
use Rattle.std.specs.Prelude.{ℕ, Bool, cond, ◌&&◌, ◌||◌, not, List, [], ◌∷◌, leb, eqb, get_or, Option, Some, None}
use Prim.Native.String.{String}
use Rattle.lines.specs.Lines.{lines_of, words_in, is_text}
use Rattle.steps.specs.declared.Step.{Step}
use Rattle.steps.specs.declared.from_numbers.Numbers.{Numbers}
use Rattle.steps.specs.Decode.{decoded}

unfoldable pub keys : List String
keys = "step" ∷ "a" ∷ "b" ∷ []

-- the record of three words
unfoldable pub record_of : ℕ → ℕ → ℕ → List ℕ
record_of step a b = lines_of keys 0 (step ∷ a ∷ b ∷ [])

-- the three words of a list of words
abbrev pub three : List ℕ → Numbers
three ws = record { step = get_or ws 0 0; a = get_or ws 1 0; b = get_or ws 2 0 }

-- the words of a record, or none where a line is broken
unfoldable pub read_record : List ℕ → Option Numbers
read_record t = cond (is_text keys t) (Some (three (words_in keys t))) None

-- a is unused by steps 0, 7 to 12 and 14
abbrev pub ignores_first : ℕ → Bool
ignores_first step = (eqb step 0 || (leb 7 step && leb step 12)) || eqb step 14

-- b by these and by steps 4, 6 and 13
abbrev pub ignores_second : ℕ → Bool
ignores_second step = ((ignores_first step || eqb step 4) || eqb step 6) || eqb step 13

unfoldable pub unused_are_zero : ℕ → ℕ → ℕ → Bool
unused_are_zero step a b = (not (ignores_first step) || eqb a 0) && (not (ignores_second step) || eqb b 0)

-- the step that a record names; a number above 17 names none
unfoldable pub record_step : Option Numbers → Option Step
record_step (Some n) = cond (unused_are_zero n.step n.a n.b) (decoded n.step n.a n.b) None
record_step None = None

-- the step of a record's text; none is refusal 8
unfoldable pub read_step : List ℕ → Option Step
read_step t = record_step (read_record t)

-- the record again, if it names a step
abbrev pub naming : Option Numbers → Option Step → Option Numbers
naming r (Some step) = r
naming r None = None

-- the numbers of a record that names a step
unfoldable pub read_numbers : List ℕ → Option Numbers
read_numbers t = naming (read_record t) (read_step t)
