-- 01, "Steps": the step that a number and its arguments a, b name.
use Rattle.std.specs.Prelude.{ℕ, Bool, true, false, cond, ◌&&◌, List, [], ◌∷◌, ◌==◌, nat_le, Option, Some, None}
use Rattle.pmp.specs.declared.Access.TheVariants.{Fetch, Load, Store}
use Rattle.steps.specs.declared.Operation.TheVariants.{Write, Set, Clear, Read}
use Rattle.steps.specs.declared.Step.{Step}
use Rattle.steps.specs.declared.Step.TheVariants.{Reset, Csr, Access as AccessStep, Event as EventStep}
use Rattle.steps.specs.declared.Event.TheVariants.{Raise, Lines, TakeInterrupt, Mret, Sret, Wfi, Ecall, Ebreak, Advance, Elapsed}

-- 0 reset; 1 CSR write, 2 set, 3 clear, 4 read; 5 raise; 6 lines; 7 take interrupt; 8 MRET; 9 SRET; 10 WFI; 11 ECALL; 12 EBREAK;
-- 13 advance; 14 fetch, 15 load, 16 store; 17 elapsed; no step but these eighteen can be formed
unfoldable pub decoded : ℕ → ℕ → ℕ → Option Step
decoded number a b =
    cond (number == 0) (Some Reset)
    (cond (number == 1) (Some (Csr Write a b))
    (cond (number == 2) (Some (Csr Set a b))
    (cond (number == 3) (Some (Csr Clear a b))
    (cond (number == 4) (Some (Csr Read a b))
    (cond (number == 5) (Some (EventStep (Raise a b)))
    (cond (number == 6) (Some (EventStep (Lines a)))
    (cond (number == 7) (Some (EventStep TakeInterrupt))
    (cond (number == 8) (Some (EventStep Mret))
    (cond (number == 9) (Some (EventStep Sret))
    (cond (number == 10) (Some (EventStep Wfi))
    (cond (number == 11) (Some (EventStep Ecall))
    (cond (number == 12) (Some (EventStep Ebreak))
    (cond (number == 13) (Some (EventStep (Advance a)))
    (cond (number == 14) (Some (AccessStep Fetch a b))
    (cond (number == 15) (Some (AccessStep Load a b))
    (cond (number == 16) (Some (AccessStep Store a b))
    (cond (number == 17) (Some (EventStep (Elapsed a b)))
    None)))))))))))))))))

-- steps 14 to 16
abbrev pub is_access : Step → Bool
is_access Reset = false
is_access (Csr op number operand) = false
is_access (AccessStep access address size) = true
is_access (EventStep event) = false

-- by their numbers
abbrev pub names_access : ℕ → Bool
names_access number = nat_le 14 number && nat_le number 16

-- a list with the step in front, where there is one
abbrev pub prepended : Option Step → List Step → List Step
prepended (Some s) steps = s ∷ steps
prepended None steps = steps

-- three numbers a step; three that form no step, and one or two left over, are passed over
unfoldable pub steps_of : List ℕ → List Step
steps_of [] = []
steps_of (number ∷ []) = []
steps_of (number ∷ a ∷ []) = []
steps_of (number ∷ a ∷ b ∷ rest) = prepended (decoded number a b) (steps_of rest)

-- three numbers for each step, and the first names one
unfoldable pub name_steps : List ℕ → Bool
name_steps [] = true
name_steps (number ∷ []) = false
name_steps (number ∷ a ∷ []) = false
name_steps (number ∷ a ∷ b ∷ rest) = nat_le number 17 && name_steps rest
