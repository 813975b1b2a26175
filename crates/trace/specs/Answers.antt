-- The line that answers a record. 02, [5]: a grant and the trap of an access tell the entry that decided, or none.
use Rattle.std.specs.Prelude.{ℕ, zero, suc, ◌+◌, ◌/◌, ◌%◌, Bool, cond, List, [], ◌∷◌, ◌++◌, nat_lt}
use Rattle.pmp.specs.declared.Refusal.{Refusal}
use Rattle.pmp.specs.Number.{refusal_number}
use Rattle.pmp.specs.Rule.{none}
use Rattle.lines.specs.Lines.{bytes_of, hex_digits}
use Rattle.steps.specs.declared.Level.{Level}
use Rattle.steps.specs.declared.Level.TheVariants.{Supervisor, Machine}
use Rattle.steps.specs.declared.Trap.{Trap}
use Rattle.steps.specs.declared.Trap.TheVariants.{Exception, Interrupt}
use Rattle.steps.specs.declared.Answer.{Answer}
use Rattle.steps.specs.declared.Answer.TheVariants.{Done, DoneValue, DoneFlag, Granted, Trapped, Refused}

-- a number in decimal, of at most n digits
unfoldable pub decimal_in : ℕ → ℕ → List ℕ
decimal_in zero x = []
decimal_in (suc n) x = cond (nat_lt x 10) ((48 + x) ∷ []) (decimal_in n (x / 10) ++ (48 + x % 10) ∷ [])

-- a number below 2^64 has at most 20 digits
abbrev pub decimal : ℕ → List ℕ
decimal x = decimal_in 20 x

-- a name, a number and a line feed
abbrev pub numbered_line : List ℕ → ℕ → List ℕ
numbered_line name number = name ++ (decimal number ++ bytes_of "\n")

unfoldable pub trap_text : Trap → List ℕ
trap_text (Exception cause) = bytes_of "exception " ++ decimal cause
trap_text (Interrupt number) = bytes_of "interrupt " ++ decimal number

unfoldable pub level_text : Level → List ℕ
level_text Supervisor = bytes_of "S"
level_text Machine = bytes_of "M"

-- an entry is 0 to 15; any other number is none
unfoldable pub entry_text : ℕ → List ℕ
entry_text entry = bytes_of " entry " ++ cond (nat_lt entry none) (decimal entry) (bytes_of "none")

-- a trap that comes from no access, as that of an ECALL or a raise, tells no entry
unfoldable pub told_text : Bool → ℕ → List ℕ
told_text accessed entry = cond accessed (entry_text entry) []

-- done with the old value of a CSR step, or with yes or no; granted; trapped with cause and destination mode; refused with its number
abbrev pub value_line : ℕ → List ℕ
value_line old = bytes_of "done " ++ (hex_digits 16 old ++ bytes_of "\n")

abbrev pub flag_line : Bool → List ℕ
flag_line flag = cond flag (bytes_of "done yes\n") (bytes_of "done no\n")

abbrev pub granted_line : ℕ → List ℕ
granted_line entry = bytes_of "granted" ++ (entry_text entry ++ bytes_of "\n")

abbrev pub trapped_line : Bool → Trap → Level → ℕ → List ℕ
trapped_line accessed trap level entry =
    bytes_of "trapped " ++ (trap_text trap ++ (bytes_of " to " ++ (level_text level ++ (told_text accessed entry ++ bytes_of "\n"))))

-- by its number, whatever the number
abbrev pub refused_by_line : ℕ → List ℕ
refused_by_line number = numbered_line (bytes_of "refused ") number

abbrev pub refused_line : Refusal → List ℕ
refused_line refusal = refused_by_line (refusal_number refusal)

-- the line of an answer, to a step that is an access or to another
unfoldable pub answer_line : Bool → Answer → List ℕ
answer_line accessed Done = bytes_of "done\n"
answer_line accessed (DoneValue old) = value_line old
answer_line accessed (DoneFlag flag) = flag_line flag
answer_line accessed (Granted entry) = granted_line entry
answer_line accessed (Trapped trap level entry) = trapped_line accessed trap level entry
answer_line accessed (Refused refusal) = refused_line refusal

-- refusal 8, with the record's number
unfoldable pub broken_line : ℕ → List ℕ
broken_line number = numbered_line (bytes_of "refused 8 record ") number
