-- 02, [1]: a reader that is fed scraps. How many bytes a feed takes, and what it leaves.
use Rattle.std.specs.Prelude.{◌≡◌, ℕ, ◌+◌, ◌-◌, ◌*◌, ◌/◌, min, Bool, false, cond, List, [], length, take, replicate}
use Rattle.std.proofs.lemmas.List.Edits.{sets}
use Rattle.paging.specs.Memory.{Memory}
use Rattle.state.specs.Words.{state_of}
use Rattle.map.specs.declared.Map.{Map}
use Rattle.hart.specs.declared.Hart.{Hart}
use Rattle.hart.specs.Steps.{map_for, hart_with}
use Rattle.trace.specs.Replies.{Reply, reply_numbers, written}
use Rattle.trace.specs.declared.Fed.{Fed}
use Rattle.trace.specs.declared.Reader.{Reader}
use Rattle.trace.specs.declared.Progress.{Progress}
use Rattle.trace.specs.Buffers.{Put}
use Rattle.trace.specs.Reading.{Reading, reading, after_bytes, replies_to}

-- the bytes short of a record that a reader carries: a count above 59 is read as 59, and after refusal 8 there are none
abbrev pub left_of : Reader → List ℕ
left_of r = cond r.stopped [] (take (min r.count 59) r.carried)

-- a reader with the hart and the map that go along
abbrev pub reading_of : Reader → Hart → Map → Reading
reading_of r h map = reading (record { hart = h; map = map; number = r.number; stopped = r.stopped }) (left_of r)

-- and back: behind the bytes that it carries a reader has zeros
abbrev pub reader_of : Reading → Reader
reader_of x = record {
  carried = sets (replicate 59 0) 0 x.left;
  count = length x.left;
  number = x.replay.number;
  stopped = x.replay.stopped;
}

-- before the first byte of a trace
abbrev pub new_reader : Reader
new_reader = record { carried = replicate 59 0; count = 0; number = 0; stopped = false }

-- the bytes short of a record at the end are reported as their count, 0 after refusal 8
abbrev pub left_count : Bool → ℕ → ℕ
left_count stopped count = cond stopped 0 (min count 59)

-- the bytes of a scrap that a feed has room to answer: all before the one that would complete a record more than there is room for
abbrev pub answerable : Reading → ℕ → List ℕ → List ℕ
answerable x room scrap = take ((60 * room + 59) - length x.left) scrap

module _ (m : Memory) where
  -- what a feed leaves, and what it gives out
  abbrev pub after_feed : Reading → ℕ → List ℕ → Reading
  after_feed x room scrap = after_bytes m x (answerable x room scrap)

  abbrev pub feed_replies : Reading → ℕ → List ℕ → List Reply
  feed_replies x room scrap = replies_to m x (answerable x room scrap)

  -- the bytes that it takes: those that it has room to answer, and from refusal 8 on every one
  abbrev pub taken_by : Reading → ℕ → List ℕ → ℕ
  taken_by x room scrap = cond (after_feed x room scrap).replay.stopped (length scrap) (length (answerable x room scrap))

-- what a feed on the words of a hart does with a map that is given, where each reply is written as a text; the fresh map, where it is asked for, is that of
-- the words left
pub record FedBy {A : Type 0} (m : Memory) (text : Reply → List A) (rd : Reader) (given : Map) (room : ℕ) (scrap before : List ℕ) (buffer : List A)
    (p : Progress) (words : List ℕ) (after : List A) : Type 0 where
  pub reader : p.reader ≡ reader_of (after_feed m (reading_of rd (hart_with (state_of before)) given) room scrap)
  pub hart : hart_with (state_of words) ≡ (after_feed m (reading_of rd (hart_with (state_of before)) given) room scrap).replay.hart
  pub map : cond p.remap (map_for (state_of words).pmp) given ≡ (after_feed m (reading_of rd (hart_with (state_of before)) given) room scrap).replay.map
  pub taken : p.taken ≡ taken_by m (reading_of rd (hart_with (state_of before)) given) room scrap
  pub put : Put buffer 0 (written text (feed_replies m (reading_of rd (hart_with (state_of before)) given) room scrap)) after p.filled

-- no map is read, so it is any
abbrev pub Feeds : {A : Type 0} → Memory → (Reply → List A) → Reader → ℕ → List ℕ → List ℕ → List A → Progress → List ℕ → List A → Type 0
Feeds m text rd room scrap before buffer p words after = (map : Map) → FedBy m text rd map room scrap before buffer p words after

-- with a slice for the answers, four words each
abbrev pub FeedsWords : Memory → Reader → List ℕ → List ℕ → List ℕ → Progress → List ℕ → List ℕ → Type 0
FeedsWords m rd scrap before answers p words after = Feeds m reply_numbers rd (length answers / 4) scrap before answers p words after

-- by value
unfoldable pub fed : Memory → Reader → Hart → Map → ℕ → List ℕ → Fed
fed m rd h map room scrap = record {
  reader = reader_of (after_feed m (reading_of rd h map) room scrap);
  hart = (after_feed m (reading_of rd h map) room scrap).replay.hart;
  map = (after_feed m (reading_of rd h map) room scrap).replay.map;
  taken = taken_by m (reading_of rd h map) room scrap;
  answered = length (feed_replies m (reading_of rd h map) room scrap);
}

-- the answers from the front of their slice
unfoldable pub feed_words : Memory → Reader → Hart → Map → List ℕ → List ℕ → List ℕ
feed_words m rd h map scrap answers = sets answers 0 (written reply_numbers (feed_replies m (reading_of rd h map) (length answers / 4) scrap))
