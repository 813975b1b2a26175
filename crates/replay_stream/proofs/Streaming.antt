-- Pieces fed one after the other. Assumes nothing.
use Rattle.std.proofs.Common.{◌≡◌, ℕ, ◌+◌, ◌≤◌, true, false, List, [], ◌∷◌, ◌++◌, Some, Result, Ok, Err, IsErr, is_err, refl, sym, ap, ◌∙◌, length, take, length-append, arith, le-ltb}
use Rattle.std.proofs.lemmas.Result.{IfOk-at_ok, IfOk-from_err}
use Rattle.paging.specs.Memory.{Memory, memory_at}
use Rattle.memory_text.specs.declared.Reading.{Reading}
use Rattle.memory_text.specs.MemoryText.{text_of, is_memory_text, read_memory, stored_in}
use Rattle.memory_text.proofs.Laws.{round_trip, read_back_lem}
use Rattle.trace.specs.declared.Session.{Session}
use Rattle.trace.specs.declared.Written.{Written}
use Rattle.trace.specs.Sessions.{fed_piece, piece_room, after_piece}
use Rattle.trace.proofs.SessionLaws.{pieces_none, pieces_more}
use Rattle.trace.proofs.Wholeness.{pieces_still}
use Rattle.replay_stream.specs.declared.Failed.{Failed}
use Rattle.replay_stream.specs.Streams.{left, OnePiece, Going, Streamed, Begun, BegunNamed, FromFile}
use Rattle.replay_stream.specs.Streams.{is_none, memory_of, memory_named, Lending, FromPaths}

module _ (m : Memory) where
  -- the buffer has room for the lines of a piece
  pub piece-fed : (s : Session) (piece before : List ℕ) {r : Written} → length piece ≤ 61440 → length before ≡ 65600 → r ≡ fed_piece m s piece before
      → OnePiece m s (Ok r.session)
  unfolding fed_piece
  piece-fed s piece before {r} h l e =
      let room : piece_room piece ≤ length before = omega arith in
      record {
        piece = piece;
        fed = ap (λ (x : Written). x.session) e ∙ rw (le-ltb (length before) (piece_room piece) room);
        kept = tt;
      }

  pub none-fed : (s : Session) → Going m s s 0
  none-fed s = record { pieces = []; session = sym (pieces_none m s); count = refl }

  pub one_fed : {start here s : Session} {number : ℕ} {r : Result Session Failed} → Going m start here number → OnePiece m here r → r ≡ Ok s
      → Going m start s (number + 1)
  one_fed {start} {here} {s} going one e = record {
    pieces = going.pieces ++ one.piece ∷ [];
    session = IfOk-at_ok (λ (x : Session). x ≡ after_piece m here one.piece) e one.fed
        ∙ ap (λ (x : Session). after_piece m x one.piece) going.session ∙ sym (pieces_more m start going.pieces one.piece);
    count = omega (arith, going.count, length-append going.pieces (one.piece ∷ []));
  }

  -- what failed before the first piece has fed none
  pub unfed : {start : Session} {r : Result Session Failed} → left r ≡ start → IsErr r → Streamed m start r
  unfed {start} {r} e h = record {
    pieces = [];
    session = e ∙ sym (pieces_none m start);
    ended = IfOk-from_err r _ h;
  }

  pub file_unfed : {f : Failed} {r : Result Session Failed} → Begun (Err f) → r ≡ Err f → FromFile m r
  file_unfed begun e = record { text = begun.text; streamed = unfed (ap left e ∙ begun.session) (ap is_err e) }

  pub file_fed : {b r : Result Session Failed} {start : Session} → Begun b → b ≡ Ok start → Streamed m start r → FromFile m r
  file_fed begun e streamed = record { text = begun.text; streamed = rw (sym (ap left e) ∙ begun.session) at streamed }

-- ---- a lent memory

-- a text in the form: that of no words at address 0
no_words : is_memory_text (text_of 0 []) ≡ true
no_words = (round_trip.memory-back 0 [] (record { first = omega arith; most = omega arith; below = λ i. omega arith })).0

pub unlent : (given : List ℕ → Memory) {f : Failed} {start : Session} {r : Result Session Failed} → f.session ≡ start → r ≡ Err f → Lending given start r
unlent given e h = record { text = text_of 0 []; formed = no_words; streamed = unfed (given (text_of 0 [])) (ap left h ∙ e) (ap is_err h) }

-- a session that has ended reads no memory
pub ended-lent : (given : List ℕ → Memory) (m : Memory) {start : Session} {r : Result Session Failed} → start.more ≡ false → Streamed m start r
    → Lending given start r
ended-lent given m {start} h s = record {
  text = text_of 0 [];
  formed = no_words;
  streamed = record {
    pieces = s.pieces;
    session = s.session ∙ (pieces_still m start h s.pieces).0 ∙ sym (pieces_still (given (text_of 0 [])) start h s.pieces).0;
    ended = s.ended;
  };
}

-- `-` is no words at address 0
pub none_lent : (name : List ℕ) {start : Session} {r : Result Session Failed} → true ≡ is_none name → Streamed (memory_at [] 0) start r
    → Lending (memory_named name) start r
none_lent name {start} {r} e s = record {
  text = text_of 0 [];
  formed = no_words;
  streamed = rw (← e) s;
}

pub named-lent : (name : List ℕ) {start : Session} {r : Result Session Failed} → false ≡ is_none name → Lending memory_of start r
    → Lending (memory_named name) start r
named-lent name e l = record { text = l.text; formed = l.formed; streamed = rw (← e) l.streamed }

-- what was read of a text is its memory
pub text-lent : (t s : List ℕ) {ws : List ℕ} {reading : Reading} {start : Session} {r : Result Session Failed} → Some reading ≡ read_memory t (length s)
    → ws ≡ stored_in t s → Streamed (memory_at (take reading.count ws) reading.base) start r → Lending memory_of start r
text-lent t s {ws} {reading} {start} {r} e f streamed =
    let b = read_back_lem t s reading (sym e) in
    let m : memory_at (take reading.count ws) reading.base ≡ memory_of t =
    (λ j. memory_at (take reading.count (f j)) reading.base) ∙ (λ j. memory_at (b.2 j) (b.1 j)) in
    record { text = t; formed = b.0; streamed = rw m at streamed }

-- ---- START

pub start-unread : (start memory : List ℕ) {f : Failed} {r : Result Session Failed} → BegunNamed start (Err f) → r ≡ Err f → FromPaths start memory r
start-unread start memory begun h = record { text = begun.text; lending = unlent (memory_named memory) begun.session h }

pub start-read : (start memory : List ℕ) {b r : Result Session Failed} {s : Session} → BegunNamed start b → b ≡ Ok s
    → Lending (memory_named memory) s r → FromPaths start memory r
start-read start memory begun e l = record { text = begun.text; lending = rw (sym (ap left e) ∙ begun.session) at l }
