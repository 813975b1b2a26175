-- 02, [1]: refusal 8 exactly where a record names no step, judged once all 60 bytes are there; any other record is answered by its step.
use Rattle.std.specs.Prelude.{◌≡◌, ℕ, ◌+◌, ◌%◌, ◌^◌, ◌<◌, ◌≤◌, true, false, List, [], ◌∷◌, ◌++◌, map, length, ◌≢◌, Some, None}
use Rattle.bits.specs.Lists.{Words}
use Rattle.lines.specs.Lines.{bytes_of}
use Rattle.pmp.specs.declared.Refusal.{Refusal}
use Rattle.steps.specs.declared.Step.{Step}
use Rattle.steps.specs.declared.Answer.TheVariants.{Refused}
use Rattle.steps.specs.Decode.{decoded, is_access}
use Rattle.paging.specs.Memory.{Memory}
use Rattle.map.specs.declared.Map.{Map}
use Rattle.hart.specs.declared.Hart.{Hart}
use Rattle.hart.specs.Steps.{stepped}
use Rattle.records.specs.Records.{record_of, ignores_first, ignores_second, read_step}
use Rattle.trace.specs.Replies.{Answered, Broken}
use Rattle.trace.specs.Reading.{Reading, reading, after_step, stopped_at, after_byte, byte_replies}

-- "three lines, `step=`, `a=`, `b=`, each with 16 lower-case hexadecimal digits and a line feed", a step number not above 17, and "unused arguments are 0"
pub record Names (text : List ℕ) (step a b : ℕ) : Type 0 where
  pub words : Words 3 (step ∷ a ∷ b ∷ [])
  pub lines : text ≡ record_of step a b
  pub known : step ≤ 17
  pub first : ignores_first step ≡ true → a ≡ 0
  pub second : ignores_second step ≡ true → b ≡ 0

-- "a step number above 17, an unused argument that isn't 0, or a broken line"
abbrev pub NamesNone : List ℕ → Type 0
NamesNone text = (step a b : ℕ) → Names text step a b → ⊥

-- the bytes before are 59, and refusal 8 has not come
pub record Completes (x : Reading) : Type 0 where
  pub reads : x.replay.stopped ≡ false
  pub short : length x.left ≡ 59

-- the step numbers
abbrev pub numbers : List ℕ
numbers = 0 ∷ 1 ∷ 2 ∷ 3 ∷ 4 ∷ 5 ∷ 6 ∷ 7 ∷ 8 ∷ 9 ∷ 10 ∷ 11 ∷ 12 ∷ 13 ∷ 14 ∷ 15 ∷ 16 ∷ 17 ∷ []

pub record RefusalEight (m : Memory) : Type 0 where
  -- ---- a record's bytes

  -- "a step number above 17, an unused argument that isn't 0, or a broken line": read as no step, and nothing else is
  pub none : (text : List ℕ) → NamesNone text → read_step text ≡ None
  pub only : (text : List ℕ) → read_step text ≡ None → NamesNone text
  -- "a record is three lines": its step is that of their words, and there is one
  pub named : (text : List ℕ) (step a b : ℕ) → Names text step a b → read_step text ≡ decoded step a b
  pub formed : (step a b : ℕ) → step ≤ 17 → decoded step a b ≢ None
  -- "60 bytes": no other length is a record
  pub sixty : (text : List ℕ) (step a b : ℕ) → Names text step a b → length text ≡ 60
  -- ---- the byte that completes a record

  -- refusal 8, with the record's number, which stays; nothing is left over
  pub refused : (x : Reading) (b : ℕ) → Completes x → NamesNone (x.left ++ b ∷ [])
      → (byte_replies m x b ≡ Broken x.replay.number ∷ []) × (after_byte m x b ≡ reading (stopped_at x.replay) [])
  -- and no other refuses so
  pub refused-only : (x : Reading) (b number : ℕ) → Completes x → byte_replies m x b ≡ Broken number ∷ [] → NamesNone (x.left ++ b ∷ [])
  -- "the hart steps at each full record", and the answer is given out whatever it is
  pub answered : (x : Reading) (b step a b' : ℕ) (s : Step) → Completes x → Names (x.left ++ b ∷ []) step a b' → decoded step a b' ≡ Some s →
      let after = stepped x.replay.hart x.replay.map m s in
      (byte_replies m x b ≡ Answered after.answer (is_access s) ∷ []) × (after_byte m x b ≡ reading (after_step after x.replay.number) [])
  -- "a step that 01 refuses is an answer like others, and reading goes on", with the next number; "refusal 3 is each step's own"
  pub goes_on : (x : Reading) (b step a b' : ℕ) (refusal : Refusal) (s : Step) → Completes x → Names (x.left ++ b ∷ []) step a b' → decoded step a b' ≡ Some s
      → (stepped x.replay.hart x.replay.map m s).answer ≡ Refused refusal
      → (byte_replies m x b ≡ Answered (Refused refusal) (is_access s) ∷ [])
      × ((after_byte m x b).replay.stopped ≡ false) × ((after_byte m x b).replay.number ≡ (x.replay.number + 1) % 2 ^ 64)
  -- no step of 01 answers refusal 8 itself: it is the reader's alone
  pub own : (h : Hart) (map : Map) (s : Step) → (stepped h map m s).answer ≢ Refused Refusal.Record
  -- ---- any other byte

  -- "judged once all 60 bytes are there": before, a byte is kept and nothing else
  pub unjudged : (x : Reading) (b : ℕ) → x.replay.stopped ≡ false → length x.left < 59
      → (byte_replies m x b ≡ []) × (after_byte m x b ≡ reading x.replay (x.left ++ b ∷ []))
  -- "later bytes are ignored"
  pub later : (x : Reading) (b : ℕ) → x.replay.stopped ≡ true → (byte_replies m x b ≡ []) × (after_byte m x b ≡ x)

-- which steps use which argument, and records letter by letter
pub record WorkedRecords : Type 0 where
  -- steps 0, 7 to 12 and 14 do not use a
  pub first : map ignores_first numbers
      ≡ true ∷ false ∷ false ∷ false ∷ false ∷ false ∷ false ∷ true ∷ true ∷ true ∷ true ∷ true ∷ true ∷ false ∷ true ∷ false ∷ false ∷ false ∷ []
  -- nor b, and steps 4, 6 and 13 do not use b
  pub second : map ignores_second numbers
      ≡ true ∷ false ∷ false ∷ false ∷ true ∷ false ∷ true ∷ true ∷ true ∷ true ∷ true ∷ true ∷ true ∷ true ∷ true ∷ false ∷ false ∷ false ∷ []
  pub letters : record_of 17 0x0123456789abcdef 0xfedcba9876543210 ≡ bytes_of "step=0000000000000011\na=0123456789abcdef\nb=fedcba9876543210\n"
  -- a step number above 17
  pub eighteen : read_step (bytes_of "step=0000000000000012\na=0000000000000000\nb=0000000000000000\n") ≡ None
  -- an unused argument that is not 0
  pub unused : read_step (bytes_of "step=0000000000000004\na=0000000000000300\nb=0000000000000001\n") ≡ None
  -- broken lines: an upper-case digit, another key, a carriage return for a line feed
  pub upper_case : read_step (bytes_of "step=0000000000000005\na=0000000000000002\nb=00000000000000AB\n") ≡ None
  pub other_key : read_step (bytes_of "step=0000000000000005\nb=0000000000000002\na=00000000000000ab\n") ≡ None
  pub other_end : read_step (bytes_of "step=0000000000000005\na=0000000000000002\nb=00000000000000ab\r") ≡ None
