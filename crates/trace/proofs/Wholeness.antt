-- In whatever pieces a trace comes, what is written for them is what the trace at once gives. Assumes nothing.
use Rattle.std.proofs.Common.{◌≡◌, ℕ, ◌<◌, min, Bool, true, false, cond, not, ◌&&◌, eqb, List, [], ◌∷◌, ◌++◌, length, sym, refl, ap, ◌∙◌, append_assoc, arith, ne_eqb}
use mathlib.Core.Bool.{and-false}
use Rattle.bits.specs.Fold.{fold, outputs}
use Rattle.bits.proofs.FoldLaws.{fold_append, outputs_append}
use Rattle.std.specs.Prelude.{is_none, option_map, Some, None}
use Rattle.pmp.specs.declared.Refusal.{Refusal}
use Rattle.pmp.specs.Number.{refusal_number}
use Rattle.steps.specs.Number.{refusal_of}
use Rattle.steps.specs.declared.Answer.TheVariants.{Done, Refused}
use Rattle.paging.specs.Memory.{Memory}
use Rattle.map.specs.declared.Map.{Map}
use Rattle.text.specs.declared.Form.{Form}
use Rattle.text.specs.Text.{read_text}
use Rattle.hart.specs.declared.Hart.{Hart}
use Rattle.hart.specs.Steps.{reset_mapped, handed_back}
use Rattle.hart.specs.Saved.{read_anew}
use Rattle.trace.specs.declared.Session.{Session}
use Rattle.trace.specs.Answers.{refused_by_line, refused_line}
use Rattle.trace.specs.Replies.{reply_line, written}
use Rattle.trace.specs.Reading.{Reading, after_byte, byte_replies, after_bytes, replies_to}
use Rattle.trace.specs.Feeding.{left_count}
use Rattle.trace.specs.Endings.{ending}
use Rattle.trace.specs.Sessions.{reset_session, read_session, text_session, full_piece, reading_in, continued, after_piece, piece_lines, session_ending, after_pieces, pieces_lines, all_written}
use Rattle.trace.specs.InPieces.{replayed, joined, AllFull, unread, begun, from_text, InPieces}
use Rattle.trace.proofs.SavedTexts.{form-read}
use Rattle.trace.proofs.OneByte.{bytes-ignored}
use Rattle.trace.proofs.Readers.{Kept, bytes_kept, reading-back}
use Rattle.trace.proofs.Replying.{written_append}
use Rattle.trace.proofs.SessionLaws.{session_kept, piece_still, piece_goes}

-- ---- what a session writes at its end

ending-written : (s : Session) → s.more ≡ false → s.refusal ≡ None → session_ending s ≡ ending s.hart s.map (left_count s.reader.stopped s.reader.count)
unfolding session_ending
ending-written s h z = rw (h, z)

refusal_written : (s : Session) (number : ℕ) → s.more ≡ false → s.refusal ≡ Some number → session_ending s ≡ refused_by_line number
unfolding session_ending
refusal_written s number h e = rw (h, e)

none_written : (s : Session) → s.more ≡ true → session_ending s ≡ []
unfolding session_ending
none_written s h = rw h

-- ---- a reading

count_left : (x : Reading) → Kept x → left_count x.replay.stopped (length x.left) ≡ length x.left
count_left x k = go x.replay.stopped refl
  where
    go : (b : Bool) → x.replay.stopped ≡ b → cond b 0 (min (length x.left) 59) ≡ length x.left
    go true q = ap length (sym (k.none q))
    go false q = omega (arith, k.short)

-- the ending of a reading
abbrev ending_of : Reading → List ℕ
ending_of x = ending x.replay.hart x.replay.map (length x.left)

-- ---- the starts

from-reset : reset_session ≡ begun (reset_mapped 0).hart (reset_mapped 0).map
unfolding reset_session
from-reset = refl

text-read : (text : List ℕ) → text_session text ≡ read_session (from_text text)
unfolding text_session
text-read text = refl

from-text : (text : List ℕ) (h : Hart) (map : Map) → from_text text ≡ handed_back h map Done → text_session text ≡ begun h map
from-text text h map e = text-read text ∙ (λ j. read_session (e j))

either_form : (form : Form) (text : List ℕ) → (read_text form text).ok ≡ true → from_text text ≡ read_anew form text
either_form form text e = ap (λ (f : Form). read_anew f text) (form-read form text e)

refused-text : (text : List ℕ) (refusal : Refusal) → (from_text text).answer ≡ Refused refusal
    → ((text_session text).more ≡ false) × ((text_session text).refusal ≡ Some (refusal_number refusal))
refused-text text refusal e = (
  ap (λ (t : Session). t.more) (text-read text) ∙ (λ j. is_none (option_map refusal_number (refusal_of (e j)))),
  ap (λ (t : Session). t.refusal) (text-read text) ∙ (λ j. option_map refusal_number (refusal_of (e j))),
)

module _ (m : Memory) where
  -- ---- a session that has ended

  module _ (s : Session) (h : s.more ≡ false) where
    pub pieces_still : (ps : List (List ℕ)) → (after_pieces m s ps ≡ s) × (pieces_lines m s ps ≡ [])
    unfolding fold outputs
    pieces_still [] = (refl, refl)
    pieces_still (p ∷ ps) =
        let e = piece_still m s p h in
        let r = pieces_still ps in
        ((λ j. after_pieces m (e.0 j) ps) ∙ r.0, (λ j. e.1 j ++ pieces_lines m (e.0 j) ps) ∙ r.1)

    ended-writes : (ps : List (List ℕ)) → all_written m s ps ≡ session_ending s
    ended-writes ps = let e = pieces_still ps in λ j. e.1 j ++ session_ending (e.0 j)

  pieces_append : (s : Session) (ps qs : List (List ℕ)) → all_written m s (ps ++ qs) ≡ pieces_lines m s ps ++ all_written m (after_pieces m s ps) qs
  pieces_append s ps qs =
      (λ j. outputs_append (after_piece m) (piece_lines m) s ps qs j ++ session_ending (fold_append (after_piece m) s ps qs j))
      ∙ append_assoc (pieces_lines m s ps) (pieces_lines m (after_pieces m s ps) qs) (session_ending (after_pieces m (after_pieces m s ps) qs))

  pieces_cons : (s : Session) (p : List ℕ) (ps : List (List ℕ)) → all_written m s (p ∷ ps) ≡ piece_lines m s p ++ all_written m (after_piece m s p) ps
  unfolding fold outputs
  pieces_cons s p ps = append_assoc (piece_lines m s p) (pieces_lines m (after_piece m s p) ps) (session_ending (after_pieces m (after_piece m s p) ps))

  -- ---- after refusal 8 bytes leave nothing behind

  module _ (x : Reading) (h : x.replay.stopped ≡ true) where
    replayed-stopped : (trace : List ℕ) → replayed m x trace ≡ ending_of x
    unfolding written
    replayed-stopped trace = let e = bytes-ignored m x h trace in λ j. written reply_line (e.1 j) ++ ending_of (e.0 j)

  -- ---- a trace cut anywhere

  replayed_front : (x : Reading) (front rest : List ℕ)
      → replayed m x (front ++ rest) ≡ written reply_line (replies_to m x front) ++ replayed m (after_bytes m x front) rest
  replayed_front x front rest =
      let there = after_bytes m x front in
      let lines : written reply_line (replies_to m x (front ++ rest)) ≡ written reply_line (replies_to m x front) ++ written reply_line (replies_to m there rest) =
      ap (written reply_line) (outputs_append (after_byte m) (byte_replies m) x front rest)
      ∙ written_append reply_line (replies_to m x front) (replies_to m there rest) in
      (λ j. lines j ++ ending_of (fold_append (after_byte m) x front rest j))
      ∙ append_assoc (written reply_line (replies_to m x front)) (written reply_line (replies_to m there rest)) (ending_of (after_bytes m there rest))

  -- ---- the session that a piece leaves

  module _ (s : Session) (p : List ℕ) where
    abbrev here : Reading
    here = after_bytes m (reading_in s) p

    here_kept : Kept here
    here_kept = bytes_kept m (reading_in s) p (session_kept s)

    -- it is read as the reading it was made of, and has its ending
    reading-left : (came : ℕ) → reading_in (continued s here came) ≡ here
    reading-left came = reading-back here here_kept

    ending-left : (came : ℕ) → (continued s here came).more ≡ false → s.refusal ≡ None → session_ending (continued s here came) ≡ ending_of here
    ending-left came over z =
        ending-written (continued s here came) over z ∙ ap (ending here.replay.hart here.replay.map) (count_left here here_kept)

  -- ---- the claim

  whole : (s : Session) (full : List (List ℕ)) (last : List ℕ) → s.more ≡ true → s.refusal ≡ None → AllFull full → length last < full_piece
      → all_written m s (full ++ last ∷ []) ≡ replayed m (reading_in s) (joined full last)
  whole s [] last h z f l =
      let next = continued s (here s last) (length last) in
      let g = piece_goes m s last h in
      let short : length last ≡ full_piece → ⊥ = λ e. omega arith in
      let over : next.more ≡ false = rw (ne_eqb (length last) full_piece short) in
      pieces_cons s last [] ∙ (λ j. g.1 j ++ all_written m (g.0 j) [])
      ∙ ap (λ (t : List ℕ). written reply_line (replies_to m (reading_in s) last) ++ t) (ended-writes next over [] ∙ ending-left s last (length last) over z)
  whole s (p ∷ full) last h z f l =
      let g = piece_goes m s p h in
      pieces_cons s p (full ++ last ∷ []) ∙ (λ j. g.1 j ++ all_written m (g.0 j) (full ++ last ∷ []))
      ∙ ap (λ (t : List ℕ). written reply_line (replies_to m (reading_in s) p) ++ t) (go (here s p).replay.stopped refl (λ more. whole next full last more z f.1 l))
      ∙ sym (replayed_front (reading_in s) p (joined full last))
    where
      next : Session
      next = continued s (here s p) (length p)

      go : (b : Bool) → (here s p).replay.stopped ≡ b
          → (next.more ≡ true → all_written m next (full ++ last ∷ []) ≡ replayed m (reading_in next) (joined full last))
          → all_written m next (full ++ last ∷ []) ≡ replayed m (here s p) (joined full last)
      go true q rest =
          let over : next.more ≡ false = λ j. eqb (f.0 j) full_piece && not (q j) in
          ended-writes next over (full ++ last ∷ []) ∙ ending-left s p (length p) over z ∙ sym (replayed-stopped (here s p) q (joined full last))
      go false q rest = rest (λ j. eqb (f.0 j) full_piece && not (q j)) ∙ (λ j. replayed m (reading-left s p (length p) j) (joined full last))

  -- ---- one piece

  module _ (s : Session) (p : List ℕ) (h : s.more ≡ true) where
    went : after_piece m s p ≡ continued s (here s p) (length p)
    went = (piece_goes m s p h).0

    goes_more : (b : Bool) → (after_piece m s p).reader.stopped ≡ b → (after_piece m s p).more ≡ (eqb (length p) full_piece && not b)
    goes_more b q =
        ap (λ (t : Session). t.more) went
        ∙ ap (λ (c : Bool). eqb (length p) full_piece && not c) (sym (ap (λ (t : Session). t.reader.stopped) went) ∙ q)

    broken : (after_piece m s p).reader.stopped ≡ true → (after_piece m s p).more ≡ false
    broken q = goes_more true q ∙ and-false (eqb (length p) full_piece)

    unbroken : (after_piece m s p).reader.stopped ≡ false → length p ≡ 61440 → (after_piece m s p).more ≡ true
    unbroken q e = goes_more false q ∙ (λ j. eqb (e j) full_piece && true)

    last-piece : (length p ≡ 61440 → ⊥) → (after_piece m s p).more ≡ false
    last-piece e = ap (λ (t : Session). t.more) went ∙ (λ j. ne_eqb (length p) full_piece e j && not (here s p).replay.stopped)

  -- ---- from the starts

  begun-whole : (s : Session) (h : Hart) (map : Map) (full : List (List ℕ)) (last : List ℕ) → s ≡ begun h map → AllFull full → length last < full_piece
      → all_written m s (full ++ last ∷ []) ≡ replayed m (unread h map) (joined full last)
  begun-whole s h map full last e f l = (λ j. all_written m (e j) (full ++ last ∷ [])) ∙ whole (begun h map) full last refl refl f l

  refused-writes : (s : Session) (pieces : List (List ℕ)) (number : ℕ) → s.more ≡ false → s.refusal ≡ Some number
      → all_written m s pieces ≡ refused_by_line number
  refused-writes s ps number h e = ended-writes s h ps ∙ refusal_written s number h e

  text-refused : (text : List ℕ) (refusal : Refusal) (pieces : List (List ℕ)) → (from_text text).answer ≡ Refused refusal
      → all_written m (text_session text) pieces ≡ refused_line refusal
  text-refused text refusal ps e =
      let r = refused-text text refusal e in
      refused-writes (text_session text) ps (refusal_number refusal) r.0 r.1

  pub in_pieces : InPieces m
  in_pieces = record {
    whole = whole;
    ended = λ s ps qs h.
        pieces_append s ps qs ∙ ap (λ (l : List ℕ). pieces_lines m s ps ++ l) (ended-writes (after_pieces m s ps) h qs);
    unended = λ s ps h. none_written (after_pieces m s ps) h;
    refused = refused-writes;
    read = λ s p h. ap reading_in (went s p h) ∙ reading-left s p (length p);
    broken = broken;
    unbroken = unbroken;
    last = last-piece;
    stays = λ s p h. (piece_still m s p h).0;
    from-reset = from-reset;
    from-text = from-text;
    either_form = either_form;
    refused-text = refused-text;
    reset-whole = λ full last. begun-whole reset_session (reset_mapped 0).hart (reset_mapped 0).map full last from-reset;
    text-whole = λ text h map full last e. begun-whole (text_session text) h map full last (from-text text h map e);
    text-refused = text-refused;
  }
