-- What feeding a piece and finishing a session leave, from what is done for them. Assumes nothing.
use Rattle.std.proofs.Common.{◌≡◌, ℕ, ◌+◌, ◌-◌, ◌*◌, ◌/◌, ◌<◌, ◌≤◌, Bool, true, false, cond, not, ◌&&◌, eqb, ltb, List, [], ◌∷◌, ◌++◌, length, sym, refl, ap, ◌∙◌, subst, arith, take_all, le-ltb, lt-ltb}
use Rattle.bits.proofs.FoldLaws.{fold_nil, fold_cons, fold_append}
use Rattle.lines.specs.Lines.{bytes_of}
use Rattle.paging.specs.Memory.{Memory}
use Rattle.state.specs.Words.{state_of}
use Rattle.hart.specs.declared.Mapped.{Mapped}
use Rattle.hart.specs.Steps.{hart_with}
use Rattle.trace.specs.declared.Progress.{Progress}
use Rattle.trace.specs.declared.Session.{Session}
use Rattle.trace.specs.declared.Written.{Written}
use Rattle.trace.specs.Buffers.{Put, written_front, written_length}
use Rattle.std.specs.Prelude.{Some, None}
use Rattle.trace.specs.Answers.{refused_by_line}
use Rattle.trace.specs.Replies.{Reply, reply_line, written}
use Rattle.trace.specs.Reading.{Reading, after_bytes, replies_to}
use Rattle.trace.specs.Feeding.{reading_of, reader_of, left_count, answerable, after_feed, FedBy}
use Rattle.trace.specs.Parts.{remade}
use Rattle.trace.specs.Endings.{ending}
use Rattle.trace.specs.Sessions.{reading_in, continued, full_piece, after_piece, piece_lines, piece_room, fed_piece, session_ending, after_pieces}
use Rattle.trace.proofs.Writing as writing
use Rattle.trace.proofs.Readers.{Kept, reading_kept}
use Rattle.trace.proofs.Counting.{lines-room}
use Rattle.trace.proofs.Endings.{ending-length}

pub session_kept : (s : Session) → Kept (reading_in s)
session_kept s = reading_kept s.reader s.hart s.map

module _ (m : Memory) where
  -- ---- one piece

  -- a session that has ended stays and gives out nothing
  pub piece_still : (s : Session) (p : List ℕ) → s.more ≡ false → (after_piece m s p ≡ s) × (piece_lines m s p ≡ [])
  unfolding after_piece piece_lines
  piece_still s p h = (rw h, rw h)

  pub piece_goes : (s : Session) (p : List ℕ) → s.more ≡ true
      → (after_piece m s p ≡ continued s (after_bytes m (reading_in s) p) (length p)) × (piece_lines m s p ≡ written reply_line (replies_to m (reading_in s) p))
  unfolding after_piece piece_lines
  piece_goes s p h = (rw h, rw h)

  -- ---- no piece, and one piece more

  pub pieces_none : (s : Session) → after_pieces m s [] ≡ s
  pieces_none s = fold_nil (after_piece m) s

  pub pieces_more : (s : Session) (ps : List (List ℕ)) (p : List ℕ) → after_pieces m s (ps ++ p ∷ []) ≡ after_piece m (after_pieces m s ps) p
  pieces_more s ps p =
      let here = after_pieces m s ps in
      fold_append (after_piece m) s ps (p ∷ []) ∙ fold_cons (after_piece m) here p [] ∙ fold_nil (after_piece m) (after_piece m here p)

  -- ---- feeding

  -- a feed that has room for a line more than the piece has whole records takes all of it
  pub all-answerable : (x : Reading) (room : ℕ) (piece : List ℕ) → Kept x → length piece / 60 < room → answerable x room piece ≡ piece
  all-answerable x room piece k h = take_all ((60 * room + 59) - length x.left) piece (omega (arith, k.short))

  -- the three facts that a call of `feed` has to show
  abbrev pub FeedsPiece : Session → List ℕ → List ℕ → List ℕ → Session → ℕ → Type 0
  FeedsPiece s piece before after next filled =
      (◌≡◌ {A = Written} (record { session = next; filled = filled }) (fed_piece m s piece before))
      × ((after ≡ written_front (piece_room piece) (piece_lines m s piece) before) × (filled ≤ length before))

  module _ (s : Session) (piece before : List ℕ) where
    pub feed_ended : s.more ≡ false → FeedsPiece s piece before before s 0
    unfolding fed_piece
    feed_ended h =
        let room = piece_room piece in
        let e = piece_still s piece h in
        let n = writing.nothing_written room before in (
          (λ j. record { session = same (ltb (length before) room) j; filled = n.0 j })
              ∙ (λ j. record { session = cond (ltb (length before) room) s (sym e.0 j); filled = written_length room (sym e.1 j) before }),
          (n.1.0 ∙ (λ j. written_front room (sym e.1 j) before), n.1.1),
        )
      where
        same : (b : Bool) → s ≡ cond b s s
        same true = refl
        same false = refl

    pub feed_small : length before / 64 ≤ length piece / 60 → FeedsPiece s piece before before s 0
    unfolding fed_piece
    feed_small h =
        let l : length before < piece_room piece = omega arith in
        rw (lt-ltb (length before) (piece_room piece) l) (refl, (refl, omega arith))

    -- from what the reader does on the words of the hart, and the hart and map that are handed back
    module _ {p : Progress} {words left after : List ℕ} (h : s.more ≡ true) (big : length piece / 60 < length before / 64)
        (w : state_of words ≡ s.hart.state)
        (f : FedBy m reply_line s.reader s.map (length before / 64) piece words before p left after) where
      abbrev start : Reading
      start = reading_of s.reader (hart_with (state_of words)) s.map

      same_start : start ≡ reading_in s
      same_start = λ j. reading_of s.reader (hart_with (w j)) s.map

      all : answerable start (length before / 64) piece ≡ piece
      all = all-answerable start (length before / 64) piece (reading_kept s.reader (hart_with (state_of words)) s.map) big

      abbrev here : Reading
      here = after_bytes m (reading_in s) piece

      gone : after_feed m start (length before / 64) piece ≡ here
      gone = λ j. after_bytes m (same_start j) (all j)

      put : Put before 0 (written reply_line (replies_to m (reading_in s) piece)) after p.filled
      put = subst (λ (rs : List Reply). Put before 0 (written reply_line rs) after p.filled) (λ j. replies_to m (same_start j) (all j)) f.put

      pub feed_done : {back : Mapped} → back ≡ remade (state_of left) p.remap s.map
          → FeedsPiece s piece before after
          (record {
            reader = p.reader;
            hart = back.hart;
            map = back.map;
            more = eqb (length piece) full_piece && not p.reader.stopped;
            refusal = s.refusal;
          })
          p.filled
      unfolding fed_piece
      feed_done {back} b =
          let size = piece_room piece in
          let lines = written reply_line (replies_to m (reading_in s) piece) in
          let g = piece_goes s piece h in
          let fits : size ≤ length before = omega arith in
          let t = writing.written size lines before after p.filled fits (lines-room m (reading_in s) piece (session_kept s)) put in
          let reader : p.reader ≡ reader_of here = f.reader ∙ ap reader_of gone in
          let hart : back.hart ≡ here.replay.hart = ap (λ (n : Mapped). n.hart) b ∙ f.hart ∙ ap (λ (x : Reading). x.replay.hart) gone in
          let map : back.map ≡ here.replay.map = ap (λ (n : Mapped). n.map) b ∙ f.map ∙ ap (λ (x : Reading). x.replay.map) gone in
          let next : Session = record {
            reader = p.reader;
            hart = back.hart;
            map = back.map;
            more = eqb (length piece) full_piece && not p.reader.stopped;
            refusal = s.refusal;
          } in
          let went : next ≡ after_piece m s piece =
          (λ j. record {
            reader = reader j;
            hart = hart j;
            map = map j;
            more = eqb (length piece) full_piece && not (reader j).stopped;
            refusal = s.refusal;
          }) ∙ sym g.0 in (
            (λ j. record { session = cond (sym (le-ltb (length before) size fits) j) s (went j); filled = (t.0 ∙ (λ k. written_length size (sym g.1 k) before)) j }),
            (t.1.0 ∙ (λ j. written_front size (sym g.1 j) before), t.1.1),
          )

-- ---- finishing

-- the three facts that a call of `finish` has to show
abbrev pub Finishes : Session → List ℕ → List ℕ → ℕ → Type 0
Finishes s before after filled =
    (filled ≡ written_length 4096 (session_ending s) before) × ((after ≡ written_front 4096 (session_ending s) before) × (filled ≤ length before))

module _ (s : Session) (before : List ℕ) where
  pub finish_early : s.more ≡ true → Finishes s before before 0
  unfolding session_ending
  finish_early h = rw h (writing.nothing_written 4096 before)

  pub finish_small : length before < 4096 → Finishes s before before 0
  finish_small h = writing.not_written 4096 (session_ending s) before h

  pub finish_done : (after : List ℕ) (filled : ℕ) {left : ℕ} → s.more ≡ false → 4096 ≤ length before → s.refusal ≡ None
      → left ≡ left_count s.reader.stopped s.reader.count → Put before 0 (ending s.hart s.map left) after filled
      → Finishes s before after filled
  unfolding session_ending
  finish_done after filled {left} h room e l put =
      let text = ending s.hart s.map in
      let count = left_count s.reader.stopped s.reader.count in
      rw (h, e) (writing.written 4096 (text count) before after filled room (ending-length s.hart s.map count)
      (subst (λ (n : ℕ). Put before 0 (text n) after filled) l put))

  pub finish_refused : (number : ℕ) (after : List ℕ) (filled : ℕ) → s.more ≡ false → 4096 ≤ length before → s.refusal ≡ Some number
      → Put before 0 (refused_by_line number) after filled → Finishes s before after filled
  unfolding session_ending bytes_of
  finish_refused number after filled h room e put =
      let line = refused_by_line number in
      let short : length line ≤ 4096 = omega (arith, writing.numbered_length (bytes_of "refused ") number) in
      rw (h, e) (writing.written 4096 line before after filled room short put)
