-- 01, "The hart we lease", "Protection, byte by byte" and "Steps": the numbers of modes, of faults and of refusals.
use Rattle.std.specs.Prelude.{◌≡◌, ℕ, Bool, cond, ◌||◌, eqb, Result, Ok, Err}
use Rattle.pmp.specs.declared.Mode.{Mode}
use Rattle.pmp.specs.declared.Mode.TheVariants.{User, Supervisor, Machine}
use Rattle.pmp.specs.declared.modes.UnknownMode.{UnknownMode}
use Rattle.pmp.specs.declared.Access.{Access}
use Rattle.pmp.specs.declared.Access.TheVariants.{Fetch, Load, Store}
use Rattle.pmp.specs.declared.Refusal.{Refusal}
use Rattle.pmp.specs.declared.Refusal.TheVariants.{Size, Argument, State, Text, TextState, Buffer, Map, Record, Form, Memory}

-- mode 0, 1 or 3
abbrev pub is_mode : ℕ → Bool
is_mode mode = eqb mode 0 || (eqb mode 1 || eqb mode 3)

-- modes U=0, S=1, M=3; any other number stands for M
abbrev pub mode_of : ℕ → Mode
mode_of number = cond (eqb number 0) User (cond (eqb number 1) Supervisor Machine)

-- a number is read as the mode that has it, and one that no mode has comes back
abbrev pub ReadsMode : ℕ → Result Mode UnknownMode → Type 0
ReadsMode number r = r ≡ cond (is_mode number) (Ok (mode_of number)) (Err (record { 0 = number }))

-- faults: fetch 1, load 5, store 7
abbrev pub fault_cause : Access → ℕ
fault_cause Fetch = 1
fault_cause Load = 5
fault_cause Store = 7

-- 01, "Steps": refusals 1 to 8; 02, [8] and [9]: 13 and 12
abbrev pub refusal_number : Refusal → ℕ
refusal_number Size = 1
refusal_number Argument = 2
refusal_number State = 3
refusal_number Text = 4
refusal_number TextState = 5
refusal_number Buffer = 6
refusal_number Map = 7
refusal_number Record = 8
refusal_number Form = 12
refusal_number Memory = 13
