-- 02, [1]: what one feed takes, answers and leaves, for any reader, hart, map, scrap, room and memory.
use Rattle.std.specs.Prelude.{◌≡◌, ℕ, ◌+◌, ◌-◌, ◌*◌, ◌/◌, ◌%◌, ◌^◌, ◌<◌, ◌≤◌, true, false, List, [], ◌∷◌, ◌++◌, length, take, drop}
use Rattle.trace.specs.declared.Fed.{Fed}
use Rattle.trace.specs.Replies.{Broken, reply_numbers, written}
use Rattle.trace.specs.Feeding.{left_of, new_reader, left_count, feed_words}
use Rattle.trace.specs.CutAnywhere.{Handed, Feed, feeding, taken_from, answers_to}

-- the same with another count of bytes carried
abbrev pub with_count : Handed → ℕ → Handed
with_count c n =
    record { reader = record { carried = c.reader.carried; count = n; number = c.reader.number; stopped = c.reader.stopped }; hart = c.hart; map = c.map }

-- what a feed hands back is what it was handed, but for what stands behind the bytes left over
pub record Unmoved (c : Handed) (after : Fed) : Type 0 where
  pub hart : after.hart ≡ c.hart
  pub map : after.map ≡ c.map
  pub number : after.reader.number ≡ c.reader.number
  pub stopped : after.reader.stopped ≡ c.reader.stopped
  pub left : left_of after.reader ≡ left_of c.reader
  pub answered : after.answered ≡ 0

pub record Taking (c : Handed) (f : Feed) : Type 0 where
  -- "scraps of any length": no more is taken than was given
  pub within : (feeding c f).taken ≤ length f.scrap
  -- an answer for each that is counted, and none without room
  pub counted : length (answers_to c f) ≡ (feeding c f).answered
  pub fits : (feeding c f).answered ≤ f.room
  -- the slice for the answers, with room for one in each four words: at its front the numbers of each answer; the words behind are unchanged
  pub slice : (answers : List ℕ) → f.room ≡ length answers / 4
      → feed_words f.memory c.reader c.hart c.map f.scrap answers
      ≡ written reply_numbers (answers_to c f) ++ drop (4 * (feeding c f).answered) answers
  -- bytes are left untaken only where the next one would complete a record that there is no room for
  pub full : (feeding c f).taken < length f.scrap
      → ((feeding c f).answered ≡ f.room) × ((feeding c f).reader.stopped ≡ false) × (length (left_of (feeding c f).reader) ≡ 59)
  -- so with enough room every byte is taken
  pub all : length (left_of c.reader) + length f.scrap < 60 * (f.room + 1) → (feeding c f).taken ≡ length f.scrap
  -- "the hart steps at each full record": each 60 bytes have an answer, and what is left over is the bytes behind them, fewer than 60
  pub short : length (left_of (feeding c f).reader) < 60
  pub left : (feeding c f).reader.stopped ≡ false
      → (left_of (feeding c f).reader ≡ drop (60 * (feeding c f).answered) (left_of c.reader ++ taken_from c f))
      × (length (left_of c.reader) + (feeding c f).taken ≡ 60 * (feeding c f).answered + length (left_of (feeding c f).reader))
  -- "reported as their count": what `left` gives, of the reader given and of the one handed back, which again carries 59 bytes
  pub reported : length c.reader.carried ≡ 59 → left_count c.reader.stopped c.reader.count ≡ length (left_of c.reader)
  pub reported-after : left_count (feeding c f).reader.stopped (feeding c f).reader.count ≡ length (left_of (feeding c f).reader)
  pub carries : length (feeding c f).reader.carried ≡ 59
  -- "the record's number, from 0 modulo 2^64": one for each answer
  pub number : c.reader.number < 2 ^ 64 → (feeding c f).reader.stopped ≡ false
      → (feeding c f).reader.number ≡ (c.reader.number + (feeding c f).answered) % 2 ^ 64
  -- "refusal 8 with the record's number": it is the last answer, and the number stays; "later bytes are ignored", so all are taken; "0 after refusal 8"
  pub stops : c.reader.stopped ≡ false → (feeding c f).reader.stopped ≡ true
      → (answers_to c f ≡ take ((feeding c f).answered - 1) (answers_to c f) ++ Broken (feeding c f).reader.number ∷ [])
      × ((feeding c f).taken ≡ length f.scrap) × (left_of (feeding c f).reader ≡ [])
      × (c.reader.number < 2 ^ 64 → (feeding c f).reader.number ≡ (c.reader.number + ((feeding c f).answered - 1)) % 2 ^ 64)
  -- "later bytes are ignored", those of later scraps too
  pub ignored : c.reader.stopped ≡ true → ((feeding c f).taken ≡ length f.scrap) × (left_of (feeding c f).reader ≡ []) × Unmoved c (feeding c f)
  -- "scraps of any length, also empty"
  pub empty : f.scrap ≡ [] → Unmoved c (feeding c f)
  -- "a carried count above 59 is read as 59"
  pub capped : 59 < c.reader.count → (feeding c f ≡ feeding (with_count c 59) f) × (answers_to c f ≡ answers_to (with_count c 59) f)

-- "the record's number, from 0": that of the first record, before which nothing is carried
pub record Starting : Type 0 where
  pub carries : length new_reader.carried ≡ 59
  pub left : left_of new_reader ≡ []
  pub number : new_reader.number ≡ 0
  pub stopped : new_reader.stopped ≡ false

-- the four words of refusal 8: 5 for a refusal, 8, "the record's number", and 0
abbrev pub BrokenNumbers : Type 0
BrokenNumbers = (number : ℕ) → reply_numbers (Broken number) ≡ 5 ∷ 8 ∷ number ∷ 0 ∷ []
