-- The calls of the C interface that read a trace (02, [1]): what each gives back, and what it leaves in the slices that it is lent.
use Rattle.std.specs.Prelude.{ℕ, ◌/◌, ◌%◌, Bool, false, cond, not, ◌&&◌, List, [], ◌∷◌, eqb, leb, length, get_or}
use Rattle.paging.specs.Memory.{Memory}
use Rattle.state.specs.Words.{words_of}
use Rattle.map.specs.MapWords.{map_of_words, map_words}
use Rattle.trace.specs.declared.Reader.{Reader}
use Rattle.trace.specs.declared.Fed.{Fed}
use Rattle.trace.specs.Feeding.{left_count, fed, feed_words}
use Rattle.capi.specs.Calls.{hart_of, fits, misfit}

-- a place is four words: the carried count, the next record's number, whether refusal 8 has come (0 or 1), and the answers written, which are not read
unfoldable pub is_place : List ℕ → Bool
is_place place = cond (eqb (length place) 4) (leb (get_or place 2 0) 1) false

-- a feed is given no other word than 0 or 1; for `left` any but 0 stands for refusal 8
abbrev pub stopped_in : List ℕ → Bool
stopped_in place = not (eqb (get_or place 2 0) 0)

abbrev pub reader_in : List ℕ → List ℕ → Reader
reader_in carried place = record { carried = carried; count = get_or place 0 0; number = get_or place 1 0; stopped = stopped_in place }

abbrev pub place_of : Reader → ℕ → List ℕ
place_of r answered = r.count ∷ r.number ∷ cond r.stopped 1 0 ∷ answered ∷ []

-- the slices fit: 59 bytes are carried, and an answer has four words
abbrev pub feedable : List ℕ → List ℕ → List ℕ → List ℕ → List ℕ → Bool
feedable carried place hart map answers = fits hart map && (eqb (length carried) 59 && (is_place place && eqb (length answers % 4) 0))

-- what a feed leaves
pub record FeedLeft : Type 0 where
  pub result : ℕ
  pub carried : List ℕ
  pub place : List ℕ
  pub hart : List ℕ
  pub map : List ℕ
  pub answers : List ℕ

abbrev pub left_by_feed : Fed → List ℕ → FeedLeft
left_by_feed f answers = record {
  result = f.taken;
  carried = f.reader.carried;
  place = place_of f.reader f.answered;
  hart = words_of f.hart.state;
  map = map_words f.map;
  answers = answers;
}

-- the bytes taken; or 2^64-1, and nothing is changed
unfoldable pub feed_call : List ℕ → List ℕ → List ℕ → List ℕ → Memory → List ℕ → List ℕ → FeedLeft
feed_call carried place hart map m scrap answers =
    cond (feedable carried place hart map answers)
    (left_by_feed (fed m (reader_in carried place) (hart_of hart) (map_of_words map) (length answers / 4) scrap)
    (feed_words m (reader_in carried place) (hart_of hart) (map_of_words map) scrap answers))
    (record { result = misfit; carried = carried; place = place; hart = hart; map = map; answers = answers })

-- how many bytes are short of a record; 0 after refusal 8; 2^64-1 for another length
unfoldable pub left_call : List ℕ → ℕ
left_call place = cond (eqb (length place) 4) (left_count (stopped_in place) (get_or place 0 0)) misfit
