-- However the same bytes are cut, what they come to is the same. Assumes nothing.
-- Both sides are the bytes read at once, with a list of memories of which each record that is answered uses up one.
use Rattle.std.proofs.Common.{◌≡◌, ℕ, ◌+◌, ◌-◌, ◌*◌, ◌≤◌, Bool, true, false, cond, ltb, List, [], ◌∷◌, ◌++◌, length, take, drop, replicate, sym, refl, ap, ◌∙◌, append_assoc, append-nil, arith, length-append, take-append-drop, take_all, take_at}
use lib.ListN.{replicate-append-replicate}
use lib.Seq.{take-length}
use Rattle.bits.specs.Fold.{fold, outputs}
use Rattle.bits.proofs.FoldLaws.{fold_append, outputs_append}
use Rattle.paging.specs.Memory.{Memory, memory_at}
use Rattle.trace.specs.Replies.{Reply}
use Rattle.trace.specs.Reading.{Replay, Reading, reading, after_record, record_replies, after_byte, byte_replies, after_bytes, replies_to}
use Rattle.trace.specs.Feeding.{reading_of, answerable, after_feed, feed_replies, taken_by, fed}
use Rattle.trace.specs.CutAnywhere.{Feed, Handed, handed_after, taken_from, answers_to, lent_at, after_feeds, all_taken, all_answers, all_lent, Outcome, outcome, CutAnywhere, EveryByte, AllLend, at_once, OneSlice}
use Rattle.trace.proofs.OneByte.{bytes-ignored}
use Rattle.trace.proofs.Readers.{reading_kept, bytes_kept, reading-back}

-- ---- the bytes that a feed takes

pub front_taken : (x : Reading) (room : ℕ) (scrap : List ℕ) → take (length (answerable x room scrap)) scrap ≡ answerable x room scrap
front_taken x room scrap =
    let n = (60 * room + 59) - length x.left in
    ap (take (length (take n scrap))) (sym (take-append-drop n scrap)) ∙ take_at (take n scrap) (drop n scrap) (length (take n scrap)) refl

module _ (m : Memory) where
  -- they come to what those come to that it has room to answer: bytes after refusal 8 are ignored
  pub taken-read : (x : Reading) (room : ℕ) (scrap : List ℕ)
      → (after_bytes m x (take (taken_by m x room scrap) scrap) ≡ after_feed m x room scrap)
      × (replies_to m x (take (taken_by m x room scrap) scrap) ≡ feed_replies m x room scrap)
  taken-read x room scrap = go (after_feed m x room scrap).replay.stopped refl
    where
      front : List ℕ
      front = answerable x room scrap

      back : List ℕ
      back = drop ((60 * room + 59) - length x.left) scrap

      whole : front ++ back ≡ scrap
      whole = take-append-drop ((60 * room + 59) - length x.left) scrap

      go : (s : Bool) → (after_feed m x room scrap).replay.stopped ≡ s
          → (after_bytes m x (take (cond s (length scrap) (length front)) scrap) ≡ after_bytes m x front)
          × (replies_to m x (take (cond s (length scrap) (length front)) scrap) ≡ replies_to m x front)
      go true p =
          let t : take (length scrap) scrap ≡ front ++ back = take-length scrap ∙ sym whole in
          let i = bytes-ignored m (after_bytes m x front) p back in (
            ap (after_bytes m x) t ∙ fold_append (after_byte m) x front back ∙ i.0,
            ap (replies_to m x) t ∙ outputs_append (after_byte m) (byte_replies m) x front back ∙ ap (λ (l : List Reply). replies_to m x front ++ l) i.1
                ∙ append-nil (replies_to m x front),
          )
      go false p = let t = front_taken x room scrap in (ap (after_bytes m x) t, ap (replies_to m x) t)

-- ---- bytes with a memory for each record that is answered

record Run : Type 0 where
  reading : Reading
  lent : List Memory

abbrev run : Reading → List Memory → Run
run x ms = record { reading = x; lent = ms }

-- where there is none, any
abbrev next : List Memory → Memory
next [] = memory_at [] 0
next (m ∷ ms) = m

abbrev rest : Reading → List Memory → List Memory
rest x ms = cond x.replay.stopped ms (cond (ltb (length x.left) 59) ms (drop 1 ms))

unfoldable run_byte : Run → ℕ → Run
run_byte r b = run (after_byte (next r.lent) r.reading b) (rest r.reading r.lent)

unfoldable run_replies : Run → ℕ → List Reply
run_replies r b = byte_replies (next r.lent) r.reading b

module _ (m : Memory) where
  one_reply : (r : Replay) (text : List ℕ) → r.stopped ≡ false → length (record_replies m r text) ≡ 1
  unfolding record_replies
  one_reply r text h = rw h

  run_byte_lem : (x : Reading) (b : ℕ) (ms : List Memory) →
      let lent = replicate (length (byte_replies m x b)) m ++ ms in
      (run_byte (run x lent) b ≡ run (after_byte m x b) ms) × (run_replies (run x lent) b ≡ byte_replies m x b)
  unfolding run_byte run_replies after_byte byte_replies
  run_byte_lem x b ms = go x.replay.stopped refl (ltb (length x.left) 59) refl
    where
      text : List ℕ
      text = x.left ++ b ∷ []

      after : Bool → Bool → Memory → Reading
      after s t n = cond s x (cond t (reading x.replay text) (reading (after_record n x.replay text) []))

      replies : Bool → Bool → Memory → List Reply
      replies s t n = cond s [] (cond t [] (record_replies n x.replay text))

      lent : Bool → Bool → List Memory
      lent s t = replicate (length (replies s t m)) m ++ ms

      go : (s : Bool) → x.replay.stopped ≡ s → (t : Bool) → ltb (length x.left) 59 ≡ t
          → (run (after s t (next (lent s t))) (cond s (lent s t) (cond t (lent s t) (drop 1 (lent s t)))) ≡ run (after s t m) ms)
          × (replies s t (next (lent s t)) ≡ replies s t m)
      go true p t q = (refl, refl)
      go false p true q = (refl, refl)
      go false p false q =
          let e : lent false false ≡ m ∷ ms = ap (λ (n : ℕ). replicate n m ++ ms) (one_reply x.replay text p) in
          ((λ j. run (after false false (next (e j))) (drop 1 (e j))), (λ j. replies false false (next (e j))))

  run_bytes : (bs : List ℕ) (x : Reading) (ms : List Memory) →
      let lent = replicate (length (replies_to m x bs)) m ++ ms in
      (fold run_byte (run x lent) bs ≡ run (after_bytes m x bs) ms) × (outputs run_byte run_replies (run x lent) bs ≡ replies_to m x bs)
  unfolding fold outputs
  run_bytes [] x ms = (refl, refl)
  run_bytes (b ∷ bs) x ms =
      let y = after_byte m x b in
      let here = byte_replies m x b in
      let more = replies_to m y bs in
      let lent = replicate (length more) m ++ ms in
      let e : replicate (length (here ++ more)) m ++ ms ≡ replicate (length here) m ++ lent =
      ap (λ (n : ℕ). replicate n m ++ ms) (length-append here more)
      ∙ ap (λ (l : List Memory). l ++ ms) (sym (replicate-append-replicate (length here) (length more) m))
      ∙ append_assoc (replicate (length here) m) (replicate (length more) m) ms in
      let f = run_byte_lem x b lent in
      let r = run_bytes bs y ms in (
        (λ j. fold run_byte (run_byte (run x (e j)) b) bs) ∙ (λ j. fold run_byte (f.0 j) bs) ∙ r.0,
        (λ j. run_replies (run x (e j)) b ++ outputs run_byte run_replies (run_byte (run x (e j)) b) bs)
            ∙ (λ j. f.1 j ++ outputs run_byte run_replies (f.0 j) bs)
            ∙ ap (λ (l : List Reply). here ++ l) r.1,
      )

-- ---- feeds

abbrev reading_in : Handed → Reading
reading_in c = reading_of c.reader c.hart c.map

-- what a feed leaves is what the bytes that it takes leave, and its answers are theirs
feed_read : (c : Handed) (f : Feed)
    → (reading_in (handed_after c f) ≡ after_bytes f.memory (reading_in c) (taken_from c f)) × (answers_to c f ≡ replies_to f.memory (reading_in c) (taken_from c f))
unfolding fed handed_after taken_from answers_to
feed_read c f =
    let m = f.memory in
    let x = reading_in c in
    let after = after_feed m x f.room f.scrap in
    let t = taken-read m x f.room f.scrap in
    let kept = bytes_kept m x (answerable x f.room f.scrap) (reading_kept c.reader c.hart c.map) in
    (reading-back after kept ∙ sym t.0, sym t.1)

lent-count : (c : Handed) (f : Feed) → lent_at c f ≡ replicate (length (answers_to c f)) f.memory
unfolding fed lent_at answers_to
lent-count c f = refl

run_feed : (c : Handed) (f : Feed) (ms : List Memory)
    → (fold run_byte (run (reading_in c) (lent_at c f ++ ms)) (taken_from c f) ≡ run (reading_in (handed_after c f)) ms)
    × (outputs run_byte run_replies (run (reading_in c) (lent_at c f ++ ms)) (taken_from c f) ≡ answers_to c f)
run_feed c f ms =
    let m = f.memory in
    let x = reading_in c in
    let bs = taken_from c f in
    let r = feed_read c f in
    let b = run_bytes m bs x ms in
    let e : lent_at c f ++ ms ≡ replicate (length (replies_to m x bs)) m ++ ms =
    ap (λ (l : List Memory). l ++ ms) (lent-count c f ∙ ap (λ (l : List Reply). replicate (length l) m) r.1) in (
      (λ j. fold run_byte (run x (e j)) bs) ∙ b.0 ∙ ap (λ (y : Reading). run y ms) (sym r.0),
      (λ j. outputs run_byte run_replies (run x (e j)) bs) ∙ b.1 ∙ sym r.1,
    )

run_feeds : (fs : List Feed) (c : Handed) (ms : List Memory)
    → (fold run_byte (run (reading_in c) (all_lent c fs ++ ms)) (all_taken c fs) ≡ run (reading_in (after_feeds c fs)) ms)
    × (outputs run_byte run_replies (run (reading_in c) (all_lent c fs ++ ms)) (all_taken c fs) ≡ all_answers c fs)
unfolding fold outputs
run_feeds [] c ms = (refl, refl)
run_feeds (f ∷ fs) c ms =
    let d = handed_after c f in
    let x = reading_in c in
    let bs = taken_from c f in
    let cs = all_taken d fs in
    let lent = all_lent d fs ++ ms in
    let e : lent_at c f ++ all_lent d fs ++ ms ≡ lent_at c f ++ lent = append_assoc (lent_at c f) (all_lent d fs) ms in
    let h = run_feed c f lent in
    let r = run_feeds fs d ms in (
      (λ j. fold run_byte (run x (e j)) (bs ++ cs)) ∙ fold_append run_byte (run x (lent_at c f ++ lent)) bs cs ∙ (λ j. fold run_byte (h.0 j) cs) ∙ r.0,
      (λ j. outputs run_byte run_replies (run x (e j)) (bs ++ cs)) ∙ outputs_append run_byte run_replies (run x (lent_at c f ++ lent)) bs cs
          ∙ (λ j. h.1 j ++ outputs run_byte run_replies (h.0 j) cs)
          ∙ ap (λ (l : List Reply). answers_to c f ++ l) r.1,
    )

-- ---- the claim

abbrev ends : List Reply → Reading → Outcome
ends answers x =
    record { answers = answers; hart = x.replay.hart; map = x.replay.map; number = x.replay.number; stopped = x.replay.stopped; left = x.left }

-- bytes in a row, with their memories
abbrev throughout : Reading → List ℕ → List Memory → Outcome
throughout x bs ms = ends (outputs run_byte run_replies (run x (ms ++ [])) bs) (fold run_byte (run x (ms ++ [])) bs).reading

outcome_throughout : (c : Handed) (fs : List Feed) → outcome c fs ≡ throughout (reading_in c) (all_taken c fs) (all_lent c fs)
outcome_throughout c fs = let r = run_feeds fs c [] in sym (λ j. ends (r.1 j) (r.0 j).reading)

pub cut_anywhere : CutAnywhere
cut_anywhere c fs gs same = outcome_throughout c fs ∙ (λ j. throughout (reading_in c) (same.0 j) (same.1 j)) ∙ sym (outcome_throughout c gs)

-- ---- every byte

scrap-taken : (c : Handed) (f : Feed) → length f.scrap ≤ 60 * f.room → taken_from c f ≡ f.scrap
unfolding fed taken_from
scrap-taken c f h = go (after_feed f.memory x f.room f.scrap).replay.stopped
  where
    x : Reading
    x = reading_in c

    front : answerable x f.room f.scrap ≡ f.scrap
    front = take_all ((60 * f.room + 59) - length x.left) f.scrap (omega (arith, h, (reading_kept c.reader c.hart c.map).short))

    go : (s : Bool) → take (cond s (length f.scrap) (length (answerable x f.room f.scrap))) f.scrap ≡ f.scrap
    go true = take-length f.scrap
    go false = front_taken x f.room f.scrap ∙ front

pub every_byte_lem : EveryByte
unfolding outputs
every_byte_lem c [] room = refl
every_byte_lem c (f ∷ fs) room = let e = scrap-taken c f room.0 in let r = every_byte_lem (handed_after c f) fs room.1 in (λ j. e j ++ r j)

-- ---- one slice of memory for all records

module _ (m : Memory) where
  slice-read : (fs : List Feed) (c : Handed) → AllLend m fs
      → (reading_in (after_feeds c fs) ≡ after_bytes m (reading_in c) (all_taken c fs)) × (all_answers c fs ≡ replies_to m (reading_in c) (all_taken c fs))
  unfolding fold outputs
  slice-read [] c lend = (refl, refl)
  slice-read (f ∷ fs) c lend =
      let x = reading_in c in
      let bs = taken_from c f in
      let d = handed_after c f in
      let cs = all_taken d fs in
      let e = feed_read c f in
      let here : reading_in d ≡ after_bytes m x bs = e.0 ∙ (λ j. after_bytes (lend.0 j) x bs) in
      let answers : answers_to c f ≡ replies_to m x bs = e.1 ∙ (λ j. replies_to (lend.0 j) x bs) in
      let r = slice-read fs d lend.1 in (
        r.0 ∙ (λ j. after_bytes m (here j) cs) ∙ sym (fold_append (after_byte m) x bs cs),
        (λ j. answers j ++ r.1 j) ∙ (λ j. replies_to m x bs ++ replies_to m (here j) cs) ∙ sym (outputs_append (after_byte m) (byte_replies m) x bs cs),
      )

  slice-at_once : (c : Handed) (fs : List Feed) → AllLend m fs → outcome c fs ≡ at_once m (reading_in c) (all_taken c fs)
  slice-at_once c fs lend = let r = slice-read fs c lend in λ j. ends (r.1 j) (r.0 j)

  alike : (c : Handed) (fs gs : List Feed) → AllLend m fs → AllLend m gs → all_taken c fs ≡ all_taken c gs → outcome c fs ≡ outcome c gs
  alike c fs gs l k e = slice-at_once c fs l ∙ ap (at_once m (reading_in c)) e ∙ sym (slice-at_once c gs k)

  pub one_slice : OneSlice m
  one_slice = record {
    at_once_lem = slice-at_once;
    alike = alike;
    cut = λ c fs gs l k r t e. alike c fs gs l k (every_byte_lem c fs r ∙ e ∙ sym (every_byte_lem c gs t));
  }
