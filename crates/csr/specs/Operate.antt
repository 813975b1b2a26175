-- 01, "Registers and access to them": a write, a set or a clear of any register.
use Rattle.std.specs.Prelude.{ℕ, cond, eqb}
use Rattle.std.specs.Int.Bits.{bit_or}
use Rattle.bits.specs.Mask.{cleared}
use Rattle.steps.specs.declared.Operation.{Operation}
use Rattle.steps.specs.declared.Operation.TheVariants.{Write, Set, Clear, Read}
use Rattle.registers.specs.declared.Registers.{Registers}
use Rattle.csr.specs.Permit.{attempts_write}
use Rattle.csr.specs.Store.{registers_written}

-- the value that an operation hands to the write rule
abbrev pub operated : Operation → ℕ → ℕ → ℕ
operated Write old operand = operand
operated Set old operand = bit_or old operand
operated Clear old operand = cleared operand old
operated Read old operand = old

-- set and clear start from what a read gives, those of mip from the software bits alone
abbrev pub modified_from : Registers → ℕ → ℕ → ℕ
modified_from r n old = cond (eqb n 0x344) r.interrupts.mip old

-- the registers after a CSR step that is not illegal; `old` is what a read gives, and a read stores nothing
abbrev pub registers_operated : Registers → Operation → ℕ → ℕ → ℕ → Registers
registers_operated r operation n operand old =
    cond (attempts_write operation) (registers_written r n (operated operation (modified_from r n old) operand)) r
