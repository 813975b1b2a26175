-- Answers: what is handed back as its definition says has the numbers of the definition's answer, and done is no other answer. Assumes nothing.
use mathlib.Core.Path.{◌≡◌, ap}
use mathlib.Core.Bool.{Bool, true, false}
use Rattle.steps.specs.declared.Answer.{Answer}
use Rattle.steps.specs.declared.Answer.TheVariants.{Done, DoneValue, DoneFlag, Granted, Trapped, Refused}
use Rattle.steps.specs.Number.{answer_numbers}
use Rattle.hart.specs.declared.Stepped.{Stepped}

pub numbered : {r d : Stepped} → r ≡ d → (r ≡ d) × (answer_numbers r.answer ≡ answer_numbers d.answer)
numbered e = (e, ap (λ (s : Stepped). answer_numbers s.answer) e)

abbrev pub is_done : Answer → Bool
is_done Done = true
is_done (DoneValue value) = false
is_done (DoneFlag flag) = false
is_done (Granted entry) = false
is_done (Trapped trap level entry) = false
is_done (Refused refusal) = false
