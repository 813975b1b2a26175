-- The room that a reply takes at most: four words, or a line of 64 bytes. The laws of what a buffer of replies is made of cite these.
use Rattle.std.specs.Prelude.{ℕ, zero, suc, ◌+◌, ◌/◌, ◌%◌, ◌<◌, ◌≤◌, ◌≡◌, Bool, true, false, cond, List, [], ◌∷◌, ◌++◌, length}
use Rattle.std.proofs.Common.{refl, arith, ltb, length-append, lt-ltb, ltb-true}
use Rattle.pmp.specs.Rule.{none}
use Rattle.lines.specs.Lines.{bytes_of, hex_digits}
use Rattle.steps.specs.declared.Level.{Level}
use Rattle.steps.specs.declared.Level.TheVariants.{Supervisor, Machine}
use Rattle.steps.specs.declared.Trap.{Trap}
use Rattle.steps.specs.declared.Trap.TheVariants.{Exception, Interrupt}
use Rattle.pmp.specs.Number.{refusal_number}
use Rattle.steps.specs.declared.Answer.{Answer}
use Rattle.steps.specs.declared.Answer.TheVariants.{Done, DoneValue, DoneFlag, Granted, Trapped, Refused}
use Rattle.steps.specs.Number.{answer_numbers}
use Rattle.trace.specs.Answers.{decimal_in, decimal, numbered_line, trap_text, level_text, entry_text, told_text, answer_line, broken_line}
use Rattle.trace.specs.Replies.{Reply, Answered, Broken, reply_numbers, reply_line}

-- ---- numbers in decimal

pub decimal-length : (n x : ℕ) → length (decimal_in n x) ≤ n
unfolding decimal_in
decimal-length zero x = omega arith
decimal-length (suc n) x = go (ltb x 10) (decimal-length n (x / 10))
  where
    go : (b : Bool) → length (decimal_in n (x / 10)) ≤ n → length (cond b ((48 + x) ∷ []) (decimal_in n (x / 10) ++ (48 + x % 10) ∷ [])) ≤ suc n
    go true h = omega arith
    go false h = omega (arith, length-append (decimal_in n (x / 10)) ((48 + x % 10) ∷ []))

-- an entry has at most two digits
pub decimal-entry : (x : ℕ) → x < none → length (decimal x) ≤ 2
unfolding decimal_in
decimal-entry x h = go (ltb x 10)
  where
    tens : x / 10 < 10
    tens = omega arith

    go : (b : Bool) → length (cond b ((48 + x) ∷ []) (decimal_in 19 (x / 10) ++ (48 + x % 10) ∷ [])) ≤ 2
    go true = omega arith
    go false = rw (lt-ltb (x / 10) 10 tens) (omega arith)

-- ---- no line is longer than 64 bytes

pub hex_length : (word : ℕ) → length (hex_digits 16 word) ≡ 16
unfolding hex_digits
hex_length word = refl

pub trap_length : (trap : Trap) → length (trap_text trap) ≤ 30
unfolding trap_text bytes_of
trap_length (Exception cause) = omega (arith, decimal-length 20 cause)
trap_length (Interrupt number) = omega (arith, decimal-length 20 number)

pub level_length : (level : Level) → length (level_text level) ≡ 1
unfolding level_text bytes_of
level_length Supervisor = refl
level_length Machine = refl

pub entry_length : (entry : ℕ) → length (entry_text entry) ≤ 11
unfolding entry_text bytes_of
entry_length entry = go (ltb entry none) refl
  where
    go : (b : Bool) → ltb entry none ≡ b → length (bytes_of " entry " ++ cond b (decimal entry) (bytes_of "none")) ≤ 11
    go true e = omega (arith, decimal-entry entry (ltb-true entry none e))
    go false e = omega arith

pub told-length : (accessed : Bool) (entry : ℕ) → length (told_text accessed entry) ≤ 11
unfolding told_text
told-length true entry = entry_length entry
told-length false entry = omega arith

pub numbered_length : (name : List ℕ) (number : ℕ) → length (numbered_line name number) ≤ length name + 21
unfolding bytes_of
numbered_length name number =
    omega (arith, length-append name (decimal number ++ bytes_of "\n"), length-append (decimal number) (bytes_of "\n"), decimal-length 20 number)

pub answer-length : (accessed : Bool) (answer : Answer) → length (answer_line accessed answer) ≤ 64
unfolding answer_line bytes_of
answer-length accessed Done = omega arith
answer-length accessed (DoneValue old) = omega (arith, length-append (hex_digits 16 old) (10 ∷ []), hex_length old)
answer-length accessed (DoneFlag true) = omega arith
answer-length accessed (DoneFlag false) = omega arith
answer-length accessed (Granted entry) = omega (arith, length-append (entry_text entry) (10 ∷ []), entry_length entry)
answer-length accessed (Trapped trap level entry) =
    let told = told_text accessed entry in
    let rest = level_text level ++ (told ++ (10 ∷ [])) in
    omega (
      arith,
      length-append (trap_text trap) (32 ∷ 116 ∷ 111 ∷ 32 ∷ rest),
      trap_length trap,
      length-append (level_text level) (told ++ (10 ∷ [])),
      level_length level,
      length-append told (10 ∷ []),
      told-length accessed entry,
    )
answer-length accessed (Refused refusal) = omega (arith, numbered_length (bytes_of "refused ") (refusal_number refusal))

pub broken-length : (number : ℕ) → length (broken_line number) ≤ 64
unfolding broken_line bytes_of
broken-length number = omega (arith, numbered_length (bytes_of "refused 8 record ") number)

-- ---- replies

numbers-length : (a : Answer) → length (answer_numbers a) ≡ 4
numbers-length Done = refl
numbers-length (DoneValue old) = refl
numbers-length (DoneFlag flag) = refl
numbers-length (Granted entry) = refl
numbers-length (Trapped trap level entry) = refl
numbers-length (Refused refusal) = refl

-- a reply has four numbers
pub four-numbers : (r : Reply) → length (reply_numbers r) ≡ 4
four-numbers (Answered answer accessed) = numbers-length answer
four-numbers (Broken number) = refl

-- so no reply takes more room than it has: four words, or 64 bytes of a line
pub numbers_fit : (r : Reply) → length (reply_numbers r) ≤ 4
numbers_fit r = omega (arith, four-numbers r)

pub line_fits : (r : Reply) → length (reply_line r) ≤ 64
line_fits (Answered answer accessed) = answer-length accessed answer
line_fits (Broken number) = broken-length number
