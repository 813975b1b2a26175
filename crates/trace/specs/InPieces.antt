-- A claim over whole traces: full pieces and a shorter last one write what the trace at once gives, from either start, with the same memory lent at each
-- record (02, [8]).
use Rattle.std.specs.Prelude.{◌≡◌, ℕ, ◌<◌, true, false, List, [], ◌∷◌, ◌++◌, length, ◌≢◌, Some, None}
use Rattle.pmp.specs.declared.Refusal.{Refusal}
use Rattle.pmp.specs.Number.{refusal_number}
use Rattle.steps.specs.declared.Answer.TheVariants.{Done, Refused}
use Rattle.paging.specs.Memory.{Memory}
use Rattle.map.specs.declared.Map.{Map}
use Rattle.hart.specs.declared.Hart.{Hart}
use Rattle.hart.specs.declared.Stepped.{Stepped}
use Rattle.hart.specs.Steps.{reset_mapped, handed_back}
use Rattle.text.specs.declared.Form.{Form}
use Rattle.text.specs.Text.{read_text}
use Rattle.hart.specs.Saved.{read_anew}
use Rattle.trace.specs.declared.Session.{Session}
use Rattle.trace.specs.Answers.{refused_by_line, refused_line}
use Rattle.trace.specs.Replies.{reply_line, written}
use Rattle.trace.specs.Reading.{Reading, reading, after_bytes, replies_to}
use Rattle.trace.specs.Feeding.{new_reader}
use Rattle.trace.specs.SavedTexts.{form_by_length}
use Rattle.trace.specs.Endings.{ending}
use Rattle.trace.specs.Sessions.{reset_session, text_session, reading_in, after_piece, session_ending, after_pieces, all_written}

-- a trace at once: the lines of its records, and the ending with the count of the bytes left over, of which there are none after a broken record
abbrev pub replayed : Memory → Reading → List ℕ → List ℕ
replayed m x trace =
    written reply_line (replies_to m x trace)
    ++ ending (after_bytes m x trace).replay.hart (after_bytes m x trace).replay.map (length (after_bytes m x trace).left)

-- full pieces and what comes behind them, joined
abbrev pub joined : List (List ℕ) → List ℕ → List ℕ
joined [] last = last
joined (piece ∷ pieces) last = piece ++ joined pieces last

abbrev pub AllFull : List (List ℕ) → Type 0
AllFull [] = Unit {0}
AllFull (piece ∷ pieces) = (length piece ≡ 61440) × AllFull pieces

-- a hart and its map before the first record, and the session that has read nothing
abbrev pub unread : Hart → Map → Reading
unread h map = reading (record { hart = h; map = map; number = 0; stopped = false }) []

abbrev pub begun : Hart → Map → Session
begun h map = record { reader = new_reader; hart = h; map = map; more = true; refusal = None }

-- a text whose length tells the form, read back
abbrev pub from_text : List ℕ → Stepped
from_text text = read_anew (form_by_length text) text

pub record InPieces (m : Memory) : Type 0 where
  -- full pieces and a shorter last one, from any session that has not ended
  pub whole : (start : Session) (full : List (List ℕ)) (last : List ℕ) → start.more ≡ true → start.refusal ≡ None → AllFull full → length last < 61440
      → all_written m start (full ++ last ∷ []) ≡ replayed m (reading_in start) (joined full last)
  -- after the end further pieces write nothing
  pub ended : (start : Session) (pieces rest : List (List ℕ)) → (after_pieces m start pieces).more ≡ false → all_written m start (pieces ++ rest) ≡ all_written m start pieces
  -- before it there is no ending
  pub unended : (start : Session) (pieces : List (List ℕ)) → (after_pieces m start pieces).more ≡ true → session_ending (after_pieces m start pieces) ≡ []
  -- a refused text's line is all that is written
  pub refused : (start : Session) (pieces : List (List ℕ)) (number : ℕ) → start.more ≡ false → start.refusal ≡ Some number
      → all_written m start pieces ≡ refused_by_line number
  -- a piece leaves what its bytes leave
  pub read : (s : Session) (piece : List ℕ) → s.more ≡ true → reading_in (after_piece m s piece) ≡ after_bytes m (reading_in s) piece
  -- after a broken record no more is read
  pub broken : (s : Session) (piece : List ℕ) → s.more ≡ true → (after_piece m s piece).reader.stopped ≡ true → (after_piece m s piece).more ≡ false
  -- a full piece without one goes on
  pub unbroken : (s : Session) (piece : List ℕ) → s.more ≡ true → (after_piece m s piece).reader.stopped ≡ false → length piece ≡ 61440
      → (after_piece m s piece).more ≡ true
  -- a piece of any other length, as a shorter one, is the last
  pub last : (s : Session) (piece : List ℕ) → s.more ≡ true → (length piece ≢ 61440) → (after_piece m s piece).more ≡ false
  -- a session that has ended stays as it is
  pub stays : (s : Session) (piece : List ℕ) → s.more ≡ false → after_piece m s piece ≡ s
  -- the one start is the reset state with G of 0 and its map, and nothing read
  pub from-reset : reset_session ≡ begun (reset_mapped 0).hart (reset_mapped 0).map
  -- the other is the hart and map of a text that is taken, and nothing read
  pub from-text : (text : List ℕ) (h : Hart) (map : Map) → from_text text ≡ handed_back h map Done → text_session text ≡ begun h map
  -- a text in either form is read in that form (02, [10])
  pub either_form : (form : Form) (text : List ℕ) → (read_text form text).ok ≡ true → from_text text ≡ read_anew form text
  -- a refused text ends its session at once, with the number of the refusal
  pub refused-text : (text : List ℕ) (refusal : Refusal) → (from_text text).answer ≡ Refused refusal
      → ((text_session text).more ≡ false) × ((text_session text).refusal ≡ Some (refusal_number refusal))
  -- so a trace from reset writes what it gives at once from the reset state
  pub reset-whole : (full : List (List ℕ)) (last : List ℕ) → AllFull full → length last < 61440
      → all_written m reset_session (full ++ last ∷ []) ≡ replayed m (unread (reset_mapped 0).hart (reset_mapped 0).map) (joined full last)
  -- and one from a text that is taken, what it gives at once from the text's state
  pub text-whole : (text : List ℕ) (h : Hart) (map : Map) (full : List (List ℕ)) (last : List ℕ) → from_text text ≡ handed_back h map Done → AllFull full
      → length last < 61440 → all_written m (text_session text) (full ++ last ∷ []) ≡ replayed m (unread h map) (joined full last)
  -- while behind a refused text, whatever comes, the refusal's line is all
  pub text-refused : (text : List ℕ) (refusal : Refusal) (pieces : List (List ℕ)) → (from_text text).answer ≡ Refused refusal
      → all_written m (text_session text) pieces ≡ refused_line refusal
