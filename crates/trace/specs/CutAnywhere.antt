-- 02, [1]: "However the same bytes are cut, answers, end state and map are the same", whatever room each feed had, from any reader, hart and map; with the
-- same words and address lent at each record ([8]).
use Rattle.std.specs.Prelude.{◌≡◌, ℕ, ◌*◌, ◌≤◌, Bool, List, [], ◌∷◌, ◌++◌, length, take, replicate}
use Rattle.bits.specs.Fold.{fold, outputs}
use Rattle.paging.specs.Memory.{Memory}
use Rattle.map.specs.declared.Map.{Map}
use Rattle.hart.specs.declared.Hart.{Hart}
use Rattle.trace.specs.declared.Fed.{Fed}
use Rattle.trace.specs.declared.Reader.{Reader}
use Rattle.trace.specs.Replies.{Reply}
use Rattle.trace.specs.Reading.{Reading, after_bytes, replies_to}
use Rattle.trace.specs.Feeding.{left_of, reading_of, feed_replies, fed}

-- one call: the scrap, the room for answers, the memory lent
pub record Feed : Type 0 where
  pub scrap : List ℕ
  pub room : ℕ
  pub memory : Memory

-- what is handed from call to call
pub record Handed : Type 0 where
  pub reader : Reader
  pub hart : Hart
  pub map : Map

-- ---- a feed: what it hands back, the bytes that it takes, its answers, and the memory lent at each record that it answers

abbrev pub feeding : Handed → Feed → Fed
feeding c f = fed f.memory c.reader c.hart c.map f.room f.scrap

unfoldable pub handed_after : Handed → Feed → Handed
handed_after c f = record { reader = (feeding c f).reader; hart = (feeding c f).hart; map = (feeding c f).map }

unfoldable pub taken_from : Handed → Feed → List ℕ
taken_from c f = take (feeding c f).taken f.scrap

unfoldable pub answers_to : Handed → Feed → List Reply
answers_to c f = feed_replies f.memory (reading_of c.reader c.hart c.map) f.room f.scrap

unfoldable pub lent_at : Handed → Feed → List Memory
lent_at c f = replicate (feeding c f).answered f.memory

-- ---- feeds in a row

abbrev pub after_feeds : Handed → List Feed → Handed
after_feeds c fs = fold handed_after c fs

abbrev pub all_taken : Handed → List Feed → List ℕ
all_taken c fs = outputs handed_after taken_from c fs

abbrev pub all_answers : Handed → List Feed → List Reply
all_answers c fs = outputs handed_after answers_to c fs

abbrev pub all_lent : Handed → List Feed → List Memory
all_lent c fs = outputs handed_after lent_at c fs

-- what feeds come to: all answers, the hart and the map at the end, the next record's number, whether refusal 8 has come, and the bytes short of a record
pub record Outcome : Type 0 where
  pub answers : List Reply
  pub hart : Hart
  pub map : Map
  pub number : ℕ
  pub stopped : Bool
  pub left : List ℕ

abbrev pub outcome : Handed → List Feed → Outcome
outcome c fs = record {
  answers = all_answers c fs;
  hart = (after_feeds c fs).hart;
  map = (after_feeds c fs).map;
  number = (after_feeds c fs).reader.number;
  stopped = (after_feeds c fs).reader.stopped;
  left = left_of (after_feeds c fs).reader;
}

-- the same bytes, with the same memory lent at each record
abbrev pub SameTrace : Handed → List Feed → List Feed → Type 0
SameTrace c fs gs = (all_taken c fs ≡ all_taken c gs) × (all_lent c fs ≡ all_lent c gs)

-- the claim: "However the same bytes are cut, answers, end state and map are the same"
abbrev pub CutAnywhere : Type 0
CutAnywhere = (c : Handed) (fs gs : List Feed) → SameTrace c fs gs → outcome c fs ≡ outcome c gs

-- ---- the bytes given, where there is room for their answers

-- the scraps, one behind the other
abbrev pub scraps : List Feed → List ℕ
scraps [] = []
scraps (f ∷ fs) = f.scrap ++ scraps fs

-- room for an answer to each 60 bytes of a scrap, whatever is carried before it
abbrev pub AllRoom : List Feed → Type 0
AllRoom [] = Unit {0}
AllRoom (f ∷ fs) = (length f.scrap ≤ 60 * f.room) × AllRoom fs

-- the claim, of "scraps of any length, also empty": with such room the bytes taken are the bytes given
abbrev pub EveryByte : Type 0
EveryByte = (c : Handed) (fs : List Feed) → AllRoom fs → all_taken c fs ≡ scraps fs

-- ---- one slice of memory for all records

abbrev pub AllLend : Memory → List Feed → Type 0
AllLend m [] = Unit {0}
AllLend m (f ∷ fs) = (f.memory ≡ m) × AllLend m fs

-- bytes that come one by one, with room for every answer
abbrev pub at_once : Memory → Reading → List ℕ → Outcome
at_once m x bytes = record {
  answers = replies_to m x bytes;
  hart = (after_bytes m x bytes).replay.hart;
  map = (after_bytes m x bytes).replay.map;
  number = (after_bytes m x bytes).replay.number;
  stopped = (after_bytes m x bytes).replay.stopped;
  left = (after_bytes m x bytes).left;
}

pub record OneSlice (m : Memory) : Type 0 where
  -- "the hart steps at each full record": feeds come to what the bytes that they take come to at once
  pub at_once_lem : (c : Handed) (fs : List Feed) → AllLend m fs → outcome c fs ≡ at_once m (reading_of c.reader c.hart c.map) (all_taken c fs)
  -- "the same bytes", those taken, are enough for the same outcome, whatever room each feed had
  pub alike : (c : Handed) (fs gs : List Feed) → AllLend m fs → AllLend m gs → all_taken c fs ≡ all_taken c gs → outcome c fs ≡ outcome c gs
  -- "However the same bytes are cut": said of what is given alone
  pub cut : (c : Handed) (fs gs : List Feed) → AllLend m fs → AllLend m gs → AllRoom fs → AllRoom gs → scraps fs ≡ scraps gs → outcome c fs ≡ outcome c gs
