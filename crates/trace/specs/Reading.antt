-- 02, [1]: a trace read byte by byte. The hart steps at each full record of 60 bytes, with the memory lent to it, up to a record that is refused by 8.
use Rattle.std.specs.Prelude.{ℕ, ◌+◌, ◌%◌, ◌^◌, Bool, true, false, cond, List, [], ◌∷◌, ◌++◌, Option, Some, None, length, nat_lt}
use Rattle.bits.specs.Fold.{fold, outputs}
use Rattle.steps.specs.declared.Step.{Step}
use Rattle.steps.specs.Decode.{is_access}
use Rattle.paging.specs.Memory.{Memory}
use Rattle.map.specs.declared.Map.{Map}
use Rattle.hart.specs.declared.Hart.{Hart}
use Rattle.hart.specs.declared.Stepped.{Stepped}
use Rattle.hart.specs.Steps.{stepped}
use Rattle.records.specs.Records.{read_step}
use Rattle.trace.specs.Replies.{Reply, Answered, Broken}

-- what goes on from record to record: the hart with its map, the number of the next record, and whether refusal 8 has ended the reading
pub record Replay : Type 0 where
  pub hart : Hart
  pub map : Map
  pub number : ℕ
  pub stopped : Bool

-- record numbers wrap at 2^64. A step that 01 refuses is an answer like others, and counts
abbrev pub after_step : Stepped → ℕ → Replay
after_step s number = record { hart = s.hart; map = s.map; number = (number + 1) % 2 ^ 64; stopped = false }

-- the number stays that of the broken record
abbrev pub stopped_at : Replay → Replay
stopped_at r = record { hart = r.hart; map = r.map; number = r.number; stopped = true }

-- and from byte to byte: besides, the bytes that are short of a record
pub record Reading : Type 0 where
  pub replay : Replay
  pub left : List ℕ

abbrev pub reading : Replay → List ℕ → Reading
reading r left = record { replay = r; left = left }

-- the memory that is lent at a record (02, [8])
module _ (m : Memory) where
  -- a record's step, or refusal 8 where it names none
  abbrev pub after_decoded : Replay → Option Step → Replay
  after_decoded r (Some step) = after_step (stepped r.hart r.map m step) r.number
  after_decoded r None = stopped_at r

  abbrev pub reply_to : Replay → Option Step → Reply
  reply_to r (Some step) = Answered (stepped r.hart r.map m step).answer (is_access step)
  reply_to r None = Broken r.number

  -- a record's 60 bytes: what they leave, and what is given out; after refusal 8, nothing
  unfoldable pub after_record : Replay → List ℕ → Replay
  after_record r text = cond r.stopped r (after_decoded r (read_step text))

  unfoldable pub record_replies : Replay → List ℕ → List Reply
  record_replies r text = cond r.stopped [] (reply_to r (read_step text) ∷ [])

  -- a byte: it is kept until with the 60th the record is judged; after refusal 8 it is ignored
  unfoldable pub after_byte : Reading → ℕ → Reading
  after_byte x b =
      cond x.replay.stopped x
      (cond (nat_lt (length x.left) 59) (reading x.replay (x.left ++ b ∷ [])) (reading (after_record x.replay (x.left ++ b ∷ [])) []))

  unfoldable pub byte_replies : Reading → ℕ → List Reply
  byte_replies x b = cond x.replay.stopped [] (cond (nat_lt (length x.left) 59) [] (record_replies x.replay (x.left ++ b ∷ [])))

  -- bytes in a row
  abbrev pub after_bytes : Reading → List ℕ → Reading
  after_bytes x bytes = fold after_byte x bytes

  abbrev pub replies_to : Reading → List ℕ → List Reply
  replies_to x bytes = outputs after_byte byte_replies x bytes
