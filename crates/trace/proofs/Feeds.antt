-- A scrap read in its parts is read byte by byte. Assumes nothing.
use Rattle.std.proofs.Common.{◌≡◌, ℕ, zero, suc, ◌+◌, ◌-◌, ◌*◌, ◌/◌, ◌≤◌, min, Bool, true, false, cond, ◌||◌, eqb, ltb, List, [], ◌++◌, length, take, drop, sym, refl, ap, ◌∙◌, zero-add, arith, length-drop, length-take, take_all, drop-drop, take-add, ltb-false, ltb-true, ne_eqb, eqb-true, ◌⊎◌, inl, inr, ◌<◌}
use mathlib.Core.Bool.{false≢true}
use borrow.Author.Tests.{eqb-false}
use Rattle.bits.specs.Fold.{fold, outputs}
use Rattle.bits.proofs.Conjunction.{neither}
use Rattle.paging.specs.Memory.{Memory}
use Rattle.trace.specs.Replies.{Reply}
use Rattle.trace.specs.Reading.{Replay, Reading, reading, after_record, record_replies, after_bytes, replies_to}
use Rattle.trace.specs.Feeding.{answerable, after_feed, feed_replies, taken_by}
use Rattle.trace.specs.Batches.{records_of, after_records, records_replies}
use Rattle.trace.specs.Parts.{unopened, wholes_in, further_in}
use Rattle.trace.proofs.Readers.{Kept}
use Rattle.trace.proofs.OneByte.{bytes-ignored}
use Rattle.trace.proofs.Bytes.{Read, read_both, bytes_record, bytes-ending, bytes_body, ending}
use Rattle.trace.proofs.Parts.{Body, body_numbers}

-- bytes beyond the end are none
take-least : (k e : ℕ) (s : List ℕ) → e ≡ min k (length s) → take k s ≡ take e s
take-least k e s h = go (ltb (length s) k) refl
  where
    go : (b : Bool) → ltb (length s) k ≡ b → take k s ≡ take e s
    go true p =
        let l = ltb-true (length s) k p in
        take_all k s (omega arith) ∙ sym (take_all e s (omega arith))
    go false p =
        let l = ltb-false (length s) k p in
        let q : k ≡ e = omega arith in
        ap (λ (i : ℕ). take i s) q

-- a feed's parts: the record that was begun, whole ones, and what comes behind them
pub record Parted (m : Memory) (r : Replay) (left : List ℕ) (room : ℕ) (scrap : List ℕ) (last : Replay) (more : List ℕ) (end : ℕ) (replies : List Reply) : Type 0 where
  pub after : after_feed m (reading r left) room scrap ≡ ending m last more
  pub given : feed_replies m (reading r left) room scrap ≡ replies
  pub taken : taken_by m (reading r left) room scrap ≡ cond last.stopped (length scrap) end

within : (c a b : ℕ) → c ≡ min a b → c ≤ b
within c a b h = omega arith

less_both : (l a b e : ℕ) → e ≡ a + b → l - e ≡ (l - a) - b
less_both l a b e h = omega arith

-- where the last byte taken is, from the record that was begun on
end_least : (count room l n t e : ℕ) → count ≤ 59 → 1 ≤ room → 60 - count ≤ l → e ≡ (60 - count) + 60 * n
    → 60 * n + t ≡ min (60 * (room - 1) + 59) (l - (60 - count)) → e + t ≡ min ((60 * room + 59) - count) l
end_least count room l n t e h k g ee sum = omega arith

ended-stopped : (m : Memory) (last : Replay) (more : List ℕ) → (ending m last more).replay.stopped ≡ last.stopped
ended-stopped m last more = go last.stopped
  where
    go : (b : Bool) → (cond b (reading last []) (reading last more)).replay.stopped ≡ last.stopped
    go true = refl
    go false = refl

module _ (m : Memory) (r : Replay) (room : ℕ) (scrap : List ℕ) where
  -- from what is read up to the last byte taken
  parted : (left : List ℕ) (last : Replay) (more : List ℕ) (end : ℕ) (replies : List Reply) → end ≡ min ((60 * room + 59) - length left) (length scrap)
      → Read m (reading r left) (take end scrap) (ending m last more) replies → Parted m r left room scrap last more end replies
  parted left last more end replies h read =
      let reached : answerable (reading r left) room scrap ≡ take end scrap = take-least ((60 * room + 59) - length left) end scrap h in
      let after : after_feed m (reading r left) room scrap ≡ ending m last more = ap (after_bytes m (reading r left)) reached ∙ read.0 in
      let stops = ap (λ (y : Reading). y.replay.stopped) after ∙ ended-stopped m last more in record {
        after = after;
        given = ap (replies_to m (reading r left)) reached ∙ read.1;
        taken = (λ j. cond (stops j) (length scrap) (length (reached j))) ∙ ap (λ (i : ℕ). cond last.stopped (length scrap) i) (omega (arith, h, length-take end scrap));
      }

  -- after refusal 8
  pub stopped_parts : (last : Replay) (more : List ℕ) (end : ℕ) (replies : List Reply) → r.stopped ≡ true → last ≡ r → replies ≡ []
      → Parted m r [] room scrap last more end replies
  stopped_parts last more end replies h e n =
      let still = bytes-ignored m (reading r []) h (answerable (reading r []) room scrap) in
      let stops = ap (λ (y : Reading). y.replay.stopped) still.0 ∙ h in
      let ends : last.stopped ≡ true = ap (λ (y : Replay). y.stopped) e ∙ h in record {
        after = still.0 ∙ (λ j. reading (sym e j) []) ∙ (λ j. cond (sym ends j) (reading last []) (reading last more));
        given = still.1 ∙ sym n;
        taken = (λ j. cond (stops j) (length scrap) (length (answerable (reading r []) room scrap))) ∙ (λ j. cond (sym ends j) (length scrap) end);
      }

  module _ (going : r.stopped ≡ false) (carried : List ℕ) (size : length carried ≡ 59) where
    left-length : (count : ℕ) → count ≤ 59 → length (take count carried) ≡ count
    left-length count h = omega (arith, length-take count carried)

    left_kept : (count : ℕ) → count ≤ 59 → Kept (reading r (take count carried))
    left_kept count h = record { short = omega (arith, left-length count h); none = λ e. absurd (false≢true (sym going ∙ e)) }

    -- no record is completed of those begun before
    pub unopened_parts : (count n e t : ℕ) → count ≤ 59 → unopened count room (length scrap) ≡ true → n ≡ wholes_in room (length scrap) count → e ≡ 60 * n
        → t ≡ further_in (length scrap - e) count →
        Parted m r (take count carried) room scrap (after_records m r (records_of n scrap)) (take count carried ++ take t (drop e scrap)) (e + t) (records_replies m r (records_of n scrap))
    unfolding records_of fold outputs
    unopened_parts zero n e t h u en ee et =
        let b : Body (length scrap) room n t = rw (et, ee, en) (body_numbers (length scrap) room) in
        let body = bytes_body m n t r scrap (omega (arith, b.sum)) b.tail in
        parted [] (after_records m r (records_of n scrap)) (take t (drop e scrap)) (e + t) (records_replies m r (records_of n scrap)) (omega (arith, b.sum, ee))
        (rw ee body)
    unopened_parts (suc k) n e t h u en ee et =
        let c = suc k in
        let z : e ≡ 0 = omega (arith, ee, no_whole) in
        let ft : t ≡ further_in (length scrap) c = et ∙ (λ j. further_in (less j) c) in
        let none = bytes-ending m r (take c carried) (take t scrap) (left_kept c h) (omega (arith, left-length c h, length-take t scrap, ft)) in
        rw (no_whole, z)
        (parted (take c carried) r (take c carried ++ take t scrap) (0 + t) [] sum (rw (zero-add t) none))
      where
        no_whole : n ≡ 0
        no_whole = en ∙ (λ j. cond (ne_eqb (suc k) 0 (λ x. omega arith) j) (min (length scrap / 60) room) 0)

        less : length scrap - e ≡ length scrap
        less = omega (arith, ee, no_whole)

        -- there is no room, or the scrap is too short
        short : (a b : Bool) → eqb room 0 ≡ a → ltb (length scrap) (60 - suc k) ≡ b → (a || b) ≡ true → (room ≡ 0) ⊎ (length scrap < 60 - suc k)
        short true b p q u = inl (eqb-true room 0 p)
        short false b p q u = inr (ltb-true (length scrap) (60 - suc k) (q ∙ u))

        sum : 0 + t ≡ min ((60 * room + 59) - length (take (suc k) carried)) (length scrap)
        sum =
            let way = sym (λ j. ne_eqb (suc k) 0 (λ x. omega arith) j || (eqb room 0 || ltb (length scrap) (60 - suc k))) ∙ u in
            let tt = et ∙ (λ j. further_in (less j) (suc k)) in
            elim (short (eqb room 0) (ltb (length scrap) (60 - suc k)) refl refl way) [
              | inl z ↦ omega (arith, left-length (suc k) h, tt, z)
              | inr z ↦ omega (arith, left-length (suc k) h, tt, z)
            ]

    -- the record begun before is completed
    pub opened_parts : (count n e t : ℕ) → count ≤ 59 → unopened count room (length scrap) ≡ false → n ≡ wholes_in (room - 1) (length scrap - (60 - count)) 0
        → e ≡ (60 - count) + 60 * n → t ≡ further_in (length scrap - e) 0 →
        let at = 60 - count in
        let first = after_record m r (take count carried ++ take at scrap) in
        Parted m r (take count carried) room scrap (after_records m first (records_of n (drop at scrap))) (take t (drop e scrap)) (e + t)
        (record_replies m r (take count carried ++ take at scrap) ++ records_replies m first (records_of n (drop at scrap)))
    opened_parts count n e t h u en ee et =
        let at = 60 - count in
        let left = take count carried in
        let rest = drop at scrap in
        let text = left ++ take at scrap in
        let first = after_record m r text in
        let p = neither (eqb count 0) (eqb room 0 || ltb (length scrap) at) u in
        let q = neither (eqb room 0) (ltb (length scrap) at) p.1 in
        let long = ltb-false (length scrap) at q.1 in
        let some = eqb-false room 0 q.0 in
        let less = less_both (length scrap) at (60 * n) e ee in
        let b : Body (length scrap - at) (room - 1) n t = rw (et, less, en) (body_numbers (length scrap - at) (room - 1)) in
        let head = bytes_record m r left (take at scrap) (left_kept count h) (omega (arith, left-length count h, length-take at scrap)) in
        let body = bytes_body m n t first rest (within (60 * n + t) (60 * (room - 1) + 59) (length rest) (b.sum ∙ ap (λ (i : ℕ). min (60 * (room - 1) + 59) i) (sym (length-drop at scrap)))) b.tail in
        let both = read_both m (reading r left) (take at scrap) (take (60 * n + t) rest) head body in
        let split : take (e + t) scrap ≡ take at scrap ++ take (60 * n + t) rest = (let s : e + t ≡ at + (60 * n + t) = omega (arith, ee) in rw s (take-add at (60 * n + t) scrap)) in
        let behind : drop (60 * n) rest ≡ drop e scrap = drop-drop (60 * n) at scrap ∙ ap (λ (i : ℕ). drop i scrap) (sym ee) in
        let last = after_records m first (records_of n rest) in
        parted left last (take t (drop e scrap)) (e + t) (record_replies m r text ++ records_replies m first (records_of n rest))
        (end_least count room (length scrap) n t e h (omega (arith, some)) long ee b.sum ∙ ap (λ (i : ℕ). min ((60 * room + 59) - i) (length scrap)) (sym (left-length count h)))
        (ap (after_bytes m (reading r left)) split ∙ both.0 ∙ (λ j. ending m last (take t (behind j))), ap (replies_to m (reading r left)) split ∙ both.1)
