-- 01, "Steps", and back: the numbers of a step. An argument that it does not name is 0.
use Rattle.std.specs.Prelude.{ℕ, List, [], ◌∷◌}
use Rattle.pmp.specs.declared.Access.{Access}
use Rattle.pmp.specs.declared.Access.TheVariants.{Fetch, Load, Store}
use Rattle.steps.specs.declared.Operation.{Operation}
use Rattle.steps.specs.declared.Operation.TheVariants.{Write, Set, Clear, Read}
use Rattle.steps.specs.declared.Step.{Step}
use Rattle.steps.specs.declared.Step.TheVariants.{Reset, Csr, Access as AccessStep, Event as EventStep}
use Rattle.steps.specs.declared.Event.{Event}
use Rattle.steps.specs.declared.Event.TheVariants.{Raise, Lines, TakeInterrupt, Mret, Sret, Wfi, Ecall, Ebreak, Advance, Elapsed}

abbrev pub event_numbers : Event → List ℕ
event_numbers (Raise cause tval) = 5 ∷ cause ∷ tval ∷ []
event_numbers (Lines lines) = 6 ∷ lines ∷ 0 ∷ []
event_numbers TakeInterrupt = 7 ∷ 0 ∷ 0 ∷ []
event_numbers Mret = 8 ∷ 0 ∷ 0 ∷ []
event_numbers Sret = 9 ∷ 0 ∷ 0 ∷ []
event_numbers Wfi = 10 ∷ 0 ∷ 0 ∷ []
event_numbers Ecall = 11 ∷ 0 ∷ 0 ∷ []
event_numbers Ebreak = 12 ∷ 0 ∷ 0 ∷ []
event_numbers (Advance target) = 13 ∷ target ∷ 0 ∷ []
event_numbers (Elapsed cycles retired) = 17 ∷ cycles ∷ retired ∷ []

abbrev pub operation_number : Operation → ℕ
operation_number Write = 1
operation_number Set = 2
operation_number Clear = 3
operation_number Read = 4

abbrev pub access_number : Access → ℕ
access_number Fetch = 14
access_number Load = 15
access_number Store = 16

abbrev pub numbers_of : Step → List ℕ
numbers_of Reset = 0 ∷ 0 ∷ 0 ∷ []
numbers_of (Csr op number operand) = operation_number op ∷ number ∷ operand ∷ []
numbers_of (AccessStep access address size) = access_number access ∷ address ∷ size ∷ []
numbers_of (EventStep event) = event_numbers event
