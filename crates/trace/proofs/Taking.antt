-- What one feed takes, answers and leaves. Assumes nothing.
use Rattle.std.proofs.Common.{◌≡◌, ℕ, ◌+◌, ◌-◌, ◌*◌, ◌/◌, ◌<◌, ◌≤◌, min, Bool, true, false, cond, List, [], ◌++◌, length, take, drop, replicate, sym, refl, ap, ◌∙◌, arith, length-append, length-take}
use lib.ListN.{length-replicate}
use lib.Seq.{take-nil, sets, sets-eq, length-sets}
use Rattle.bits.proofs.FoldLaws.{fold_nil, outputs_nil}
use Rattle.paging.specs.Memory.{Memory}
use Rattle.trace.specs.declared.Reader.{Reader}
use Rattle.trace.specs.Replies.{Reply, reply_numbers, written}
use Rattle.trace.specs.Reading.{Reading, reading, after_byte, byte_replies, after_bytes, replies_to}
use Rattle.trace.specs.Feeding.{left_of, reading_of, reader_of, answerable, after_feed, feed_replies, taken_by, fed, feed_words, left_count}
use Rattle.trace.specs.CutAnywhere.{Handed, Feed, feeding, taken_from, answers_to}
use Rattle.trace.specs.Taking.{with_count, Unmoved, Taking, Starting, BrokenNumbers}
use Rattle.trace.proofs.Readers.{Kept, reading_kept, bytes_kept, left_back}
use Rattle.trace.proofs.Counting.{replies_count}
use Rattle.trace.proofs.Replying.{written-words}
use Rattle.trace.proofs.OneByte.{bytes-ignored, left_behind, number_on, stops}
use Rattle.trace.proofs.CutAnywhere.{front_taken}

-- the count that is reported is that of the bytes left over
reported : (r : Reader) → length r.carried ≡ 59 → left_count r.stopped r.count ≡ length (left_of r)
reported r h = go r.stopped
  where
    go : (s : Bool) → cond s 0 (min r.count 59) ≡ length (cond s [] (take (min r.count 59) r.carried))
    go true = refl
    go false = omega (arith, length-take (min r.count 59) r.carried)

module _ (c : Handed) (f : Feed) where
  abbrev m : Memory
  m = f.memory

  abbrev x : Reading
  x = reading_of c.reader c.hart c.map

  abbrev front : List ℕ
  front = answerable x f.room f.scrap

  abbrev after : Reading
  after = after_feed m x f.room f.scrap

  abbrev replies : List Reply
  replies = feed_replies m x f.room f.scrap

  before_kept : Kept x
  before_kept = reading_kept c.reader c.hart c.map

  after_kept : Kept after
  after_kept = bytes_kept m x front before_kept

  left_after : left_of (reader_of after) ≡ after.left
  left_after = left_back after after_kept

  front_length : length front ≡ min ((60 * f.room + 59) - length x.left) (length f.scrap)
  front_length = length-take ((60 * f.room + 59) - length x.left) f.scrap

  -- ---- what is taken, by whether the reader has stopped

  abbrev Taken : ℕ → Type 0
  Taken n =
      (n ≤ length f.scrap)
      × (n < length f.scrap → (length replies ≡ f.room) × (after.replay.stopped ≡ false) × (length (left_of (reader_of after)) ≡ 59))
      × (length x.left + length f.scrap < 60 * (f.room + 1) → n ≡ length f.scrap)

  taken : Taken (taken_by m x f.room f.scrap)
  taken = go after.replay.stopped refl
    where
      go : (s : Bool) → after.replay.stopped ≡ s → Taken (cond s (length f.scrap) (length front))
      go true p = (omega arith, (λ h. absurd (omega arith)), (λ h. refl))
      go false p =
          let r = left_behind m front x before_kept.short p in
          let n : length x.left + length front ≡ 60 * length replies + length after.left = omega (arith, r.1, length-append x.left front) in
          let l : length (left_of (reader_of after)) ≡ length after.left = ap length left_after in (
            omega (arith, front_length),
            (λ h. (omega (arith, n, front_length, after_kept.short, before_kept.short), p, omega (arith, l, n, front_length, after_kept.short, before_kept.short))),
            (λ h. omega (arith, front_length)),
          )

  fits : length replies ≤ f.room
  fits = omega (arith, replies_count m x front, front_length, before_kept.short)

  slice : (answers : List ℕ) → f.room ≡ length answers / 4
      → feed_words m c.reader c.hart c.map f.scrap answers ≡ written reply_numbers replies ++ drop (4 * length replies) answers
  unfolding feed_words
  slice answers e =
      let text = written reply_numbers replies in
      let n : 0 + length text ≡ 4 * length replies = omega (arith, written-words replies) in
      (λ j. sets answers 0 (written reply_numbers (feed_replies m x (sym e j) f.scrap)))
      ∙ sets-eq text answers 0 (omega (arith, n, fits, e))
      ∙ ap (λ (i : ℕ). text ++ drop i answers) n

  all-taken : after.replay.stopped ≡ true → taken_by m x f.room f.scrap ≡ length f.scrap
  all-taken p = λ j. cond (p j) (length f.scrap) (length front)

  -- ---- what is left over

  left : after.replay.stopped ≡ false →
      let n = taken_by m x f.room f.scrap in
      (left_of (reader_of after) ≡ drop (60 * length replies) (left_of c.reader ++ take n f.scrap))
      × (length (left_of c.reader) + n ≡ 60 * length replies + length (left_of (reader_of after)))
  left p =
      let r = left_behind m front x before_kept.short p in
      let n : taken_by m x f.room f.scrap ≡ length front = λ j. cond (p j) (length f.scrap) (length front) in
      let t : take (taken_by m x f.room f.scrap) f.scrap ≡ front =
      ap (λ (k : ℕ). take k f.scrap) n ∙ front_taken x f.room f.scrap in
      let l : length (left_of (reader_of after)) ≡ length after.left = ap length left_after in (
        left_after ∙ r.0 ∙ ap (λ (bytes : List ℕ). drop (60 * length replies) (x.left ++ bytes)) (sym t),
        omega (arith, n, l, r.1, length-append x.left front),
      )

  carries : length (reader_of after).carried ≡ 59
  carries = length-sets (replicate 59 0) 0 after.left ∙ length-replicate {A = ℕ} 59 0

  nothing_left : after.replay.stopped ≡ true → left_of (reader_of after) ≡ []
  nothing_left p = left_after ∙ after_kept.none p

  -- ---- a feed that does nothing

  unmoved : after ≡ x → replies ≡ [] → Unmoved c (feeding c f)
  unfolding fed
  unmoved e r = record {
    hart = ap (λ (y : Reading). y.replay.hart) e;
    map = ap (λ (y : Reading). y.replay.map) e;
    number = ap (λ (y : Reading). y.replay.number) e;
    stopped = ap (λ (y : Reading). y.replay.stopped) e;
    left = left_after ∙ ap (λ (y : Reading). y.left) e;
    answered = ap length r;
  }

  none-given : f.scrap ≡ [] → front ≡ []
  none-given e = ap (take ((60 * f.room + 59) - length x.left)) e ∙ take-nil ((60 * f.room + 59) - length x.left)

  empty : f.scrap ≡ [] → Unmoved c (feeding c f)
  empty e =
      unmoved (ap (after_bytes m x) (none-given e) ∙ fold_nil (after_byte m) x) (ap (replies_to m x) (none-given e) ∙ outputs_nil (after_byte m) (byte_replies m) x)

  -- ---- the count

  capped : 59 < c.reader.count → (feeding c f ≡ feeding (with_count c 59) f) × (answers_to c f ≡ answers_to (with_count c 59) f)
  unfolding fed answers_to
  capped h =
      let n : min c.reader.count 59 ≡ min 59 59 = omega arith in
      let p : x ≡ reading_of (with_count c 59).reader c.hart c.map =
      ap (λ (k : ℕ). reading x.replay (cond c.reader.stopped [] (take k c.reader.carried))) n in (
        (λ j. record {
          reader = reader_of (after_feed m (p j) f.room f.scrap);
          hart = (after_feed m (p j) f.room f.scrap).replay.hart;
          map = (after_feed m (p j) f.room f.scrap).replay.map;
          taken = taken_by m (p j) f.room f.scrap;
          answered = length (feed_replies m (p j) f.room f.scrap);
        }),
        (λ j. feed_replies m (p j) f.room f.scrap),
      )

pub taking : (c : Handed) (f : Feed) → Taking c f
unfolding fed taken_from answers_to
taking c f = record {
  within = (taken c f).0;
  counted = refl;
  fits = fits c f;
  slice = slice c f;
  full = (taken c f).1;
  all = (taken c f).2;
  short = let l = ap length (left_after c f) in omega (arith, l, (after_kept c f).short);
  left = left c f;
  reported = reported c.reader;
  reported-after = reported (reader_of (after c f)) (carries c f);
  carries = carries c f;
  number = λ b h. number_on (m c f) (front c f) (x c f) b h;
  stops = λ s h.
      let r = stops (m c f) (front c f) (x c f) s h in
      (r.last, all-taken c f h, nothing_left c f h, r.number);
  ignored = λ s.
      let i = bytes-ignored (m c f) (x c f) s (front c f) in
      let h : (after c f).replay.stopped ≡ true = ap (λ (y : Reading). y.replay.stopped) i.0 ∙ s in
      (all-taken c f h, nothing_left c f h, unmoved c f i.0 i.1);
  empty = empty c f;
  capped = capped c f;
}

pub starting : Starting
starting = record { carries = refl; left = refl; number = refl; stopped = refl }

pub broken-numbers : BrokenNumbers
broken-numbers number = refl
