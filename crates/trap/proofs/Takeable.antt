-- The takeable interrupts bound for a level, as the bits of a word: those pending and enabled in mie, within mideleg for S and outside it for M,
-- where the level admits them. Assumes nothing.
use Rattle.std.proofs.Common.{◌≡◌, ℕ, ◌-◌, ◌^◌, ◌<◌, Bool, true, false, cond, not, ◌&&◌, eqb, refl}
use mathlib.Core.Bool.{and-true, and-false}
use native.Mathlib.Nat.{zero-div}
use lib.Bits.{bit_and}
use Rattle.bits.specs.Mask.{test_bit}
use Rattle.bits.proofs.TestLaws.{test_and, test_complement}
use Rattle.steps.specs.declared.Level.{Level}
use Rattle.steps.specs.declared.Level.TheVariants.{Supervisor, Machine}
use Rattle.steps.specs.Number.{level_number}
use Rattle.registers.specs.declared.Registers.{Registers}
use Rattle.registers.specs.Status.{pending}
use Rattle.trap.specs.Interrupt.{admits, takeable, takeable_to}

-- what mideleg says of an interrupt bound for the level
abbrev delegation : Level → Bool → Bool
delegation Machine delegated = not delegated
delegation Supervisor delegated = delegated

module _ (r : Registers) where
  -- `takeable_to`, by the bits of mideleg, mip and mie
  abbrev by_bits : Level → (delegated pends enabled : Bool) → Bool
  by_bits level delegated pends enabled =
      let to = cond delegated Supervisor Machine in
      eqb (level_number to) (level_number level) && (pends && (enabled && admits to r))

  admitted : (level : Level) (delegated pends enabled : Bool) → admits level r ≡ true
      → ((pends && enabled) && delegation level delegated) ≡ by_bits level delegated pends enabled
  admitted Machine true pends enabled a = and-false (pends && enabled)
  admitted Machine false pends enabled a = rw (a, and-true (pends && enabled), and-true enabled)
  admitted Supervisor true pends enabled a = rw (a, and-true (pends && enabled), and-true enabled)
  admitted Supervisor false pends enabled a = and-false (pends && enabled)

  kept_out : (level : Level) (delegated pends enabled : Bool) → admits level r ≡ false → false ≡ by_bits level delegated pends enabled
  kept_out Machine true pends enabled a = refl
  kept_out Machine false pends enabled a = rw (a, and-false enabled, and-false pends)
  kept_out Supervisor true pends enabled a = rw (a, and-false enabled, and-false pends)
  kept_out Supervisor false pends enabled a = refl

  pub machine_set : admits Machine r ≡ true → r.interrupts.mideleg < 2 ^ 64 → (i : ℕ) → i < 64
      → test_bit (bit_and (bit_and (pending r) r.interrupts.mie) (2 ^ 64 - 1 - r.interrupts.mideleg)) i ≡ takeable_to Machine r i
  unfolding takeable
  machine_set a h i l =
      rw (test_and, test_and, test_complement r.interrupts.mideleg i h l)
      (admitted Machine (test_bit r.interrupts.mideleg i) (test_bit (pending r) i) (test_bit r.interrupts.mie i) a)

  pub supervisor_set : admits Supervisor r ≡ true → (i : ℕ) → i < 64
      → test_bit (bit_and (bit_and (pending r) r.interrupts.mie) r.interrupts.mideleg) i ≡ takeable_to Supervisor r i
  unfolding takeable
  supervisor_set a i l =
      rw (test_and, test_and)
      (admitted Supervisor (test_bit r.interrupts.mideleg i) (test_bit (pending r) i) (test_bit r.interrupts.mie i) a)

  pub empty-set : (level : Level) → admits level r ≡ false → (i : ℕ) → i < 64 → test_bit 0 i ≡ takeable_to level r i
  unfolding takeable
  empty-set level a i l =
      rw (zero-div) (kept_out level (test_bit r.interrupts.mideleg i) (test_bit (pending r) i) (test_bit r.interrupts.mie i) a)
