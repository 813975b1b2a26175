-- A replay whose trace comes in pieces: what is kept from piece to piece, the lines that each piece gives out, and what is written at the end.
use Rattle.std.specs.Prelude.{ℕ, ◌+◌, ◌*◌, ◌/◌, cond, not, ◌&&◌, List, [], ◌++◌, length, ◌==◌, nat_lt, is_none, Option, None, unwrap_or, option_map}
use Rattle.bits.specs.Fold.{fold, outputs}
use Rattle.pmp.specs.Number.{refusal_number}
use Rattle.steps.specs.Number.{refusal_of}
use Rattle.paging.specs.Memory.{Memory}
use Rattle.map.specs.declared.Map.{Map}
use Rattle.hart.specs.declared.Hart.{Hart}
use Rattle.hart.specs.declared.Stepped.{Stepped}
use Rattle.hart.specs.Steps.{reset_mapped}
use Rattle.hart.specs.Saved.{read_anew}
use Rattle.trace.specs.declared.Session.{Session}
use Rattle.trace.specs.declared.Written.{Written}
use Rattle.trace.specs.Buffers.{written_length}
use Rattle.trace.specs.Answers.{refused_by_line}
use Rattle.trace.specs.Replies.{reply_line, written}
use Rattle.trace.specs.Reading.{Reading, after_bytes, replies_to}
use Rattle.trace.specs.Feeding.{new_reader, left_count, reading_of, reader_of}
use Rattle.trace.specs.SavedTexts.{form_by_length}
use Rattle.trace.specs.Endings.{ending}

-- a session that starts with a hart and its map; a refusal, told by its number, has ended it
abbrev pub session_from : Hart → Map → Option ℕ → Session
session_from h map refusal = record {
  reader = new_reader;
  hart = h;
  map = map;
  more = is_none refusal;
  refusal = refusal;
}

-- 02, [9]: from reset with a grain of 4 bytes, as 01's hart has it
unfoldable pub reset_session : Session
reset_session = session_from (reset_mapped 0).hart (reset_mapped 0).map None

-- 01, "Saved text", and 02, [10]: what reading a text of either form back gives; a refused text starts nothing
abbrev pub read_session : Stepped → Session
read_session read = session_from read.hart read.map (option_map refusal_number (refusal_of read.answer))

unfoldable pub text_session : List ℕ → Session
text_session text = read_session (read_anew (form_by_length text) text)

-- a full piece has 61,440 bytes, as many as 1,024 records have
abbrev pub full_piece : ℕ
full_piece = 61440

-- the reader of a session, with its hart and map
abbrev pub reading_in : Session → Reading
reading_in s = reading_of s.reader s.hart s.map

-- a piece that is not full is the last one, and after a broken record no more is read
abbrev pub continued : Session → Reading → ℕ → Session
continued s x came = record {
  reader = reader_of x;
  hart = x.replay.hart;
  map = x.replay.map;
  more = came == full_piece && not x.replay.stopped;
  refusal = s.refusal;
}

-- 64 bytes for the line of each whole record, and of one that was begun before
abbrev pub piece_room : List ℕ → ℕ
piece_room piece = 64 * (length piece / 60 + 1)

-- the ending, with the count of the bytes left over, or the line of the refusal alone; nothing where there may be more input
unfoldable pub session_ending : Session → List ℕ
session_ending s =
    cond s.more []
    (unwrap_or (option_map refused_by_line s.refusal) (ending s.hart s.map (left_count s.reader.stopped s.reader.count)))

-- every record of every piece is lent the same memory (02, [8])
module _ (m : Memory) where
  -- what a piece leaves, and its lines; a session that has ended stays and gives out nothing
  unfoldable pub after_piece : Session → List ℕ → Session
  after_piece s piece = cond s.more (continued s (after_bytes m (reading_in s) piece) (length piece)) s

  unfoldable pub piece_lines : Session → List ℕ → List ℕ
  piece_lines s piece = cond s.more (written reply_line (replies_to m (reading_in s) piece)) []

  -- feeding a piece; with a smaller buffer nothing is done
  unfoldable pub fed_piece : Session → List ℕ → List ℕ → Written
  fed_piece s piece buffer = record {
    session = cond (nat_lt (length buffer) (piece_room piece)) s (after_piece s piece);
    filled = written_length (piece_room piece) (piece_lines s piece) buffer;
  }

  -- the pieces in order: what they leave, and all that is written for them
  abbrev pub after_pieces : Session → List (List ℕ) → Session
  after_pieces s pieces = fold after_piece s pieces

  abbrev pub pieces_lines : Session → List (List ℕ) → List ℕ
  pieces_lines s pieces = outputs after_piece piece_lines s pieces

  abbrev pub all_written : Session → List (List ℕ) → List ℕ
  all_written s pieces = pieces_lines s pieces ++ session_ending (after_pieces s pieces)
