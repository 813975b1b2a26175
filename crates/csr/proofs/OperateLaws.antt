-- An operation on words, from what was stored in them. Assumes nothing.
use Prim.Native.Nat.{ℕ}
use mathlib.Core.Path.{◌≡◌, sym, ◌∙◌}
use mathlib.Core.Bool.{Bool, true, false}
use mathlib.Core.List.{List}
use lib.ListN.{length}
use Rattle.steps.specs.declared.Operation.{Operation}
use Rattle.state.specs.Words.{registers_of}
use Rattle.state.specs.Slices.{loaded_registers, stored_registers}
use Rattle.state.proofs.SliceLaws.{registers_loaded, none-stored}
use Rattle.csr.specs.Permit.{attempts_write}
use Rattle.csr.specs.Store.{registers_written}
use Rattle.csr.specs.Operate.{operated, modified_from, registers_operated}

module _ (w : List ℕ) (fit : length w ≡ 43) (op : Operation) (n operand old : ℕ) {b : Bool} (eb : b ≡ attempts_write op) where
  pub stores : b ≡ true → {from value : ℕ} → from ≡ modified_from (registers_of w) n old → value ≡ operated op from operand → {x : List ℕ}
      → x ≡ stored_registers (registers_written (registers_of w) n value) w
      → x ≡ stored_registers (registers_operated (loaded_registers w) op n operand old) w
  stores t ef ev ex = ex ∙ rw (registers_loaded w fit, sym eb ∙ t, ev, ef)

  pub reads : b ≡ false → w ≡ stored_registers (registers_operated (loaded_registers w) op n operand old) w
  reads t = rw (registers_loaded w fit, sym eb ∙ t) (none-stored w fit)
