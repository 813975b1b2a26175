-- What an entry or none decides, and in which mode, bit by bit. Assumes nothing.
use Prim.Native.Nat.{ℕ, ◌/◌, ◌%◌, ◌^◌, ◌<◌}
use mathlib.Core.Path.{◌≡◌, refl}
use mathlib.Core.Bool.{Bool, true, false, cond, not, ◌&&◌, ◌||◌}
use mathlib.Core.List.{List}
use native.Mathlib.Omega.{arith}
use lib.Bits.{and_high}
use lib.ListN.{get_or}
use borrow.Author.Tests.{lt-ltb}
use Rattle.bits.specs.Mask.{test_bit}
use Rattle.pmp.specs.declared.Mode.{Mode}
use Rattle.pmp.specs.declared.Mode.TheVariants.{User, Supervisor, Machine}
use Rattle.pmp.specs.declared.Access.{Access}
use Rattle.pmp.specs.declared.Access.TheVariants.{Fetch, Load, Store}
use Rattle.pmp.specs.declared.Decision.{Decision}
use Rattle.pmp.specs.Entry.{locked}
use Rattle.pmp.specs.Number.{mode_of, fault_cause}
use Rattle.pmp.specs.Rule.{by_permission, entry_decides, owner_decides}
use Rattle.steps.specs.declared.Level.{Level}
use Rattle.registers.specs.declared.Registers.{Registers}
use Rattle.registers.specs.Status.{previous_mode}
use Rattle.registers.specs.Effective.{effective_mode}
use Rattle.claims.specs.Consequences.{bit_for, cause_for, is_machine, granted_if, load_mode}

-- ---- an entry

by_bit : (access : Access) (cfg i : ℕ) → by_permission access cfg i ≡ granted_if (test_bit cfg (bit_for access)) access i
by_bit Fetch cfg i = refl
by_bit Load cfg i = let e : cfg / 1 ≡ cfg = omega arith in rw e
by_bit Store cfg i = refl

-- L of a byte is its bit 7
lock_bit : (cfg : ℕ) → cfg < 256 → locked cfg ≡ test_bit cfg 7
lock_bit cfg h = let e : cfg / 128 % 2 ≡ cfg / 128 = omega arith in rw e

unlocked : (l b : Bool) (access : Access) (i : ℕ) → cond l (granted_if b access i) (Decision.Granted i) ≡ granted_if (not l || b) access i
unlocked true b access i = refl
unlocked false b access i = refl

entry_bits : (mode : Mode) (access : Access) (cfg i : ℕ) → cfg < 256
    → entry_decides mode access cfg i ≡ granted_if ((is_machine mode && not (test_bit cfg 7)) || test_bit cfg (bit_for access)) access i
entry_bits User access cfg i h = by_bit access cfg i
entry_bits Supervisor access cfg i h = by_bit access cfg i
entry_bits Machine access cfg i h =
    rw (lock_bit cfg h, by_bit access cfg i) (unlocked (test_bit cfg 7) (test_bit cfg (bit_for access)) access i)

pub entry_decides_lem : (cfgs : List ℕ) (mode : Mode) (access : Access) (owner : ℕ) → owner < 16 → get_or cfgs owner 0 < 256
    → owner_decides cfgs mode access owner
    ≡ granted_if ((is_machine mode && not (test_bit (get_or cfgs owner 0) 7)) || test_bit (get_or cfgs owner 0) (bit_for access)) access owner
entry_decides_lem cfgs mode access owner o h = rw (lt-ltb owner 16 o) (entry_bits mode access (get_or cfgs owner 0) owner h)

-- ---- a fault

pub cause_for_lem : (access : Access) (entry : ℕ) → Decision.Fault (fault_cause access) entry ≡ Decision.Fault (cause_for access) entry
cause_for_lem Fetch entry = refl
cause_for_lem Load entry = refl
cause_for_lem Store entry = refl

-- ---- none

pub none_decides_lem : (cfgs : List ℕ) (mode : Mode) (access : Access) → owner_decides cfgs mode access 16 ≡ granted_if (is_machine mode) access 16
none_decides_lem cfgs User access = cause_for_lem access 16
none_decides_lem cfgs Supervisor access = cause_for_lem access 16
none_decides_lem cfgs Machine access = refl

-- ---- the effective mode

load_mode_lem : (r : Registers) → effective_mode r Load ≡ load_mode r
load_mode_lem r =
    let x = r.mstatus in
    let e : previous_mode Level.Machine x ≡ x / 2 ^ 11 % 4 = rw (and_high x 2 11) (omega arith) in
    rw e

pub effective_mode_lem : (r : Registers)
    → (effective_mode r Fetch ≡ mode_of r.mode) × (effective_mode r Load ≡ load_mode r) × (effective_mode r Store ≡ load_mode r)
effective_mode_lem r = (refl, load_mode_lem r, load_mode_lem r)
