-- 01, "Registers and access to them": which accesses are an illegal instruction.
use Rattle.std.specs.Prelude.{ℕ, ◌-◌, ◌/◌, ◌%◌, Bool, true, false, not, ◌&&◌, ◌||◌, eqb, leb, ltb}
use Rattle.bits.specs.Mask.{test_bit}
use Rattle.registers.specs.declared.Registers.{Registers}
use Rattle.registers.specs.Status.{tvm}
use Rattle.steps.specs.declared.Operation.{Operation}
use Rattle.steps.specs.declared.Operation.TheVariants.{Write, Set, Clear, Read}

-- a number from first to last, both included
abbrev pub between : ℕ → ℕ → ℕ → Bool
between first last n = leb first n && leb n last

-- present: F11 to F15; 300 to 306, 30A, 320, 323 to 33F, 340 to 344, 3A0, 3A2, 3B0 to 3BF, B00, B02, B03 to B1F;
-- 100, 104, 105, 106, 10A, 140 to 144, 180; C00, C02, C03 to C1F
abbrev pub present_machine : ℕ → Bool
present_machine n =
    between 0xF11 0xF15 n || (between 0x300 0x306 n || (eqb n 0x30A || (eqb n 0x320 || (between 0x323 0x33F n
    || (between 0x340 0x344 n || (eqb n 0x3A0 || (eqb n 0x3A2 || (between 0x3B0 0x3BF n || (eqb n 0xB00 || between 0xB02 0xB1F n)))))))))

abbrev pub present_supervisor : ℕ → Bool
present_supervisor n =
    eqb n 0x100 || (between 0x104 0x106 n || (eqb n 0x10A || (between 0x140 0x144 n || eqb n 0x180)))

abbrev pub present_user : ℕ → Bool
present_user n = eqb n 0xC00 || between 0xC02 0xC1F n

unfoldable pub present : ℕ → Bool
present n = present_machine n || (present_supervisor n || present_user n)

-- bits 9:8 are the lowest mode; bits 11:10 = 3 mean read-only
abbrev pub lowest_mode : ℕ → ℕ
lowest_mode n = n / 256 % 4

abbrev pub read_only : ℕ → Bool
read_only n = eqb (n / 1024 % 4) 3

-- a write attempt: every operation but a read
abbrev pub attempts_write : Operation → Bool
attempts_write Write = true
attempts_write Set = true
attempts_write Clear = true
attempts_write Read = false

-- C00 to C1F in S without mcounteren bit (number minus C00), in U without that bit in both mcounteren and scounteren
abbrev pub counter_hidden : Registers → ℕ → Bool
counter_hidden r n =
    between 0xC00 0xC1F n
    && ((not (eqb r.mode 3) && not (test_bit r.machine.counteren (n - 0xC00)))
    || (eqb r.mode 0 && not (test_bit r.supervisor.counteren (n - 0xC00))))

-- number 180 in S with TVM=1
abbrev pub translation_trapped : Registers → ℕ → Bool
translation_trapped r n = eqb n 0x180 && (eqb r.mode 1 && tvm r.mstatus)

-- illegal instruction when: the number is not present; mode is below bits 9:8; a write attempt has bits 11:10 = 3; 180; the counters
unfoldable pub illegal : Registers → Operation → ℕ → Bool
illegal r operation n =
    not (present n) || (ltb r.mode (lowest_mode n) || ((attempts_write operation && read_only n)
    || (translation_trapped r n || counter_hidden r n)))
