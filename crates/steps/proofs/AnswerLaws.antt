-- The words of an answer are its numbers, where it tells no interrupt. Assumes nothing.
use Rattle.std.proofs.Common.{◌≡◌, ℕ, [], ◌∷◌, refl, ap}
use Rattle.steps.specs.declared.Trap.{Trap}
use Rattle.steps.specs.declared.Trap.TheVariants.{Exception, Interrupt}
use Rattle.steps.specs.declared.Answer.{Answer}
use Rattle.steps.specs.declared.Answer.TheVariants.{Done, DoneValue, DoneFlag, Granted, Trapped, Refused}
use Rattle.steps.specs.Number.{level_number, cause_number, interrupt_number, cause_word, answer_interrupt, answer_numbers, answer_words}

cause_is : (trap : Trap) → interrupt_number trap ≡ 0 → cause_word trap ≡ cause_number trap
cause_is (Exception c) h = refl
cause_is (Interrupt i) h = rw h

pub words_are_numbers : (a : Answer) → answer_interrupt a ≡ 0 → answer_words a ≡ answer_numbers a
words_are_numbers Done h = refl
words_are_numbers (DoneValue v) h = refl
words_are_numbers (DoneFlag b) h = refl
words_are_numbers (Granted entry) h = refl
words_are_numbers (Trapped trap level entry) h = ap (λ (n : ℕ). 4 ∷ n ∷ level_number level ∷ entry ∷ []) (cause_is trap h)
words_are_numbers (Refused refusal) h = refl
