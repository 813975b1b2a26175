-- The words of a state in a slice: 43 of them. A slice of another length reads as the reset state with grain 0, and stays as it is.
use Rattle.std.specs.Prelude.{ℕ, cond, List, eqb, length, get_or, set}
use Rattle.std.proofs.lemmas.List.Edits.{sets}
use Rattle.registers.specs.declared.Registers.{Registers}
use Rattle.registers.specs.Hold.{reset_registers}
use Rattle.protection.specs.declared.Pmp.{Pmp}
use Rattle.protection.specs.Hold.{reset_pmp}
use Rattle.state.specs.declared.State.{State}
use Rattle.state.specs.Words.{register_words, pmp_words, registers_of, pmp_of}

-- one for a slice of 43 words, and the other for any other
abbrev pub by_length : {A : Type 0} → List ℕ → A → A → A
by_length w x y = cond (eqb (length w) 43) x y

unfoldable pub loaded_registers : List ℕ → Registers
loaded_registers w = by_length w (registers_of w) reset_registers

unfoldable pub loaded_pmp : List ℕ → Pmp
loaded_pmp w = by_length w (pmp_of w) (reset_pmp 0)

unfoldable pub loaded_satp : List ℕ → ℕ
loaded_satp w = by_length w (get_or w 41 0) 0

abbrev pub loaded : List ℕ → State
loaded w = record { registers = loaded_registers w; pmp = loaded_pmp w; satp = loaded_satp w }

unfoldable pub stored_registers : Registers → List ℕ → List ℕ
stored_registers r w = by_length w (sets w 0 (register_words r)) w

unfoldable pub stored_pmp : Pmp → List ℕ → List ℕ
stored_pmp p w = by_length w (sets (set w 42 p.grain) 23 (pmp_words p)) w

unfoldable pub stored_satp : ℕ → List ℕ → List ℕ
stored_satp satp w = by_length w (set w 41 satp) w

abbrev pub stored : State → List ℕ → List ℕ
stored s w = stored_satp s.satp (stored_pmp s.pmp (stored_registers s.registers w))
