-- A feed: what its parts leave, and what they write, is what its bytes do. Assumes nothing.
use Rattle.std.proofs.Common.{◌≡◌, ℕ, zero, suc, ◌+◌, ◌-◌, ◌*◌, ◌/◌, ◌≤◌, min, Bool, true, false, cond, ◌||◌, eqb, ltb, List, [], ◌++◌, length, take, drop, replicate, sym, refl, ap, ◌∙◌, subst, append-nil, zero-add, arith, length-append, length-take, ltb-false, Option, Some, None}
use lib.Seq.{sets}
use borrow.Author.Tests.{eqb-false}
use Rattle.std.proofs.Math.Nat.{mul-add, mul-le-mul_left}
use Rattle.bits.specs.Fold.{fold, outputs}
use Rattle.bits.proofs.Conjunction.{neither}
use Rattle.paging.specs.Memory.{Memory}
use Rattle.state.specs.Words.{state_of}
use Rattle.map.specs.declared.Map.{Map}
use Rattle.hart.specs.declared.Hart.{Hart}
use Rattle.hart.specs.declared.Mapped.{Mapped}
use Rattle.hart.specs.Steps.{map_for, hart_with}
use Rattle.trace.specs.declared.Reader.{Reader}
use Rattle.trace.specs.declared.Cursor.{Cursor}
use Rattle.trace.specs.declared.Opening.{Opening}
use Rattle.trace.specs.declared.Progress.{Progress}
use Rattle.trace.specs.declared.Fed.{Fed}
use Rattle.trace.specs.Replies.{Reply, reply_numbers, written}
use Rattle.trace.specs.Reading.{Replay, Reading, reading, after_record, record_replies}
use Rattle.trace.specs.Feeding.{left_of, reading_of, reader_of, after_feed, feed_replies, taken_by, FedBy, fed, feed_words}
use Rattle.trace.specs.Batches.{records_of, after_records, records_replies, carried_by, Batched}
use Rattle.trace.specs.Parts.{unopened, opening_of, opened_texts, wholes_in, further_in, carrying, progressed, closed, remade}
use Rattle.trace.proofs.Parts.{wholes_fit}
use Rattle.trace.proofs.Readers.{front_sets}
use Rattle.trace.proofs.Bytes.{ending}
use Rattle.trace.proofs.Batching.{stopped_still}
use Rattle.trace.proofs.Counting.{record_count}
use Rattle.trace.proofs.Writing.{put_both, put-length}
use Rattle.trace.proofs.Replying.{written_append, written-length, written-words}
use Rattle.trace.proofs.Feeds.{Parted, stopped_parts, unopened_parts, opened_parts}

-- ---- the numbers of an opening

pub record Fitting (count room came : ℕ) (o : Opening) : Type 0 where
  pub all : length (opened_texts o.first) + o.room ≡ room
  pub at : o.at ≤ came
  pub kept : o.kept ≤ 59

module _ (carried : List ℕ) (count room : ℕ) (scrap : List ℕ) (short : count ≤ 59) where
  pub fitting : Fitting count room (length scrap) (opening_of carried count scrap room)
  unfolding records_of
  fitting = go (unopened count room (length scrap)) refl
    where
      go : (b : Bool) → unopened count room (length scrap) ≡ b
          → Fitting count room (length scrap) (cond b (record { first = None; room = room; at = 0; kept = count })
          (record { first = Some (sets (replicate 60 0) 0 (take count carried ++ take (60 - count) scrap)); room = room - 1; at = 60 - count; kept = 0 }))
      go true e = record { all = omega arith; at = omega arith; kept = short }
      go false e =
          let p = neither (eqb count 0) (eqb room 0 || ltb (length scrap) (60 - count)) e in
          let q = neither (eqb room 0) (ltb (length scrap) (60 - count)) p.1 in record {
            all = omega (arith, eqb-false room 0 q.0);
            at = ltb-false (length scrap) (60 - count) q.1;
            kept = omega arith;
          }

-- ---- room for the whole records

-- for what the opening has
pub first_fits : (bytes : ℕ) (carried scrap : List ℕ) (width room : ℕ) {count size : ℕ} {o : Opening} → count ≡ min bytes 59
    → o ≡ opening_of carried count scrap room → width * room ≤ size → 0 + width * length (opened_texts o.first) ≤ size
first_fits bytes carried scrap width room {count} {size} {o} c e h =
    let fits = subst (λ (x : Opening). Fitting count room (length scrap) x) (sym e) (fitting carried count room scrap (omega (arith, c))) in
    omega (arith, h, mul-le-mul_left {m = length (opened_texts o.first)} {n = room} width (omega (arith, fits.all)))

-- what the opening leaves, and the records behind it
pub first_and_wholes : (bytes : ℕ) (carried scrap : List ℕ) {count room whole : ℕ} {o : Opening} → count ≡ min bytes 59 → o ≡ opening_of carried count scrap room
    → whole ≡ wholes_in o.room (length scrap - o.at) o.kept → length (opened_texts o.first) + whole ≤ room
first_and_wholes bytes carried scrap {count} {room} {whole} {o} c e w =
    let fits = subst (λ (x : Opening). Fitting count room (length scrap) x) (sym e) (fitting carried count room scrap (omega (arith, c))) in
    omega (arith, fits.all, w, (wholes_fit o.room (length scrap - o.at) o.kept).0)

records_count : (m : Memory) (n : ℕ) (r : Replay) (bytes : List ℕ) → length (records_replies m r (records_of n bytes)) ≤ n
unfolding records_of fold outputs
records_count m zero r bytes = omega arith
records_count m (suc n) r bytes =
    let text = take 60 bytes in
    let after = after_record m r text in
    omega (
      arith,
      length-append (record_replies m r text) (records_replies m after (records_of n (drop 60 bytes))),
      record_count m r text,
      records_count m n after (drop 60 bytes),
    )

opened-count : (m : Memory) (r : Replay) (first : Option (List ℕ)) → length (records_replies m r (opened_texts first)) ≤ length (opened_texts first)
unfolding records_of fold outputs
opened-count m r (Some text) = records_count m 1 r text
opened-count m r None = omega arith

-- there is room for the whole records behind what the first one has filled
pub room_behind : {A : Type 0} (m : Memory) (text : Reply → List A) (width n room : ℕ) (first : Option (List ℕ)) (map : Map) (start : Cursor) (before : List ℕ)
    (buffer : List A) (end : Cursor) (words : List ℕ) (after : List A) → ((r : Reply) → length (text r) ≤ width) → start.filled ≡ 0
    → Batched m text (opened_texts first) map start before buffer end words after → length (opened_texts first) + n ≤ room → width * room ≤ length buffer
    → end.filled + width * n ≤ length after
room_behind m text width n room first map start before buffer end words after fits z b k h =
    let r = carried_by start before map in
    let heads = length (opened_texts first) in
    let replies = records_replies m r (opened_texts first) in
    let many : width * length replies ≤ width * heads = mul-le-mul_left width (opened-count m r first) in
    let all : width * (heads + n) ≤ width * room = mul-le-mul_left width k in
    omega (arith, b.put.behind, z, written-length text width fits replies, many, mul-add width heads n, all, put-length b.put)

-- ---- what is left

ended-replay : (m : Memory) (last : Replay) (more : List ℕ) → (ending m last more).replay ≡ last
ended-replay m last more = go last.stopped
  where
    go : (b : Bool) → (cond b (reading last []) (reading last more)).replay ≡ last
    go true = refl
    go false = refl

module _ (m : Memory) (r : Replay) (carried : List ℕ) (size : length carried ≡ 59) (count room : ℕ) (short : count ≤ 59) (scrap : List ℕ) where
  abbrev begun : List ℕ
  begun = take count carried ++ take (60 - count) scrap

  abbrev opened : Bool → Opening
  opened b = cond b (record { first = None; room = room; at = 0; kept = count }) (record { first = Some (sets (replicate 60 0) 0 begun); room = room - 1; at = 60 - count; kept = 0 })

  -- the records of a feed's parts, by its opening
  abbrev pub first_by : Opening → Replay
  first_by o = after_records m r (opened_texts o.first)

  abbrev pub last_by : Opening → ℕ → Replay
  last_by o n = after_records m (first_by o) (records_of n (drop o.at scrap))

  abbrev pub replies_by : Opening → ℕ → List Reply
  replies_by o n = records_replies m r (opened_texts o.first) ++ records_replies m (first_by o) (records_of n (drop o.at scrap))

  abbrev pub more_by : Opening → ℕ → ℕ → List ℕ
  more_by o e t = take o.kept carried ++ take t (drop e scrap)

  module _ (n e t : ℕ) where
    abbrev pub Numbers : Opening → Type 0
    Numbers o = (n ≡ wholes_in o.room (length scrap - o.at) o.kept) × (e ≡ o.at + 60 * n) × (t ≡ further_in (length scrap - e) o.kept)

    still_parts : (o : Opening) → r.stopped ≡ true → Parted m r [] room scrap (last_by o n) (more_by o e t) (e + t) (replies_by o n)
    still_parts o h =
        let texts = records_of n (drop o.at scrap) in
        let f = stopped_still m r h (opened_texts o.first) in
        let l = stopped_still m r h texts in
        stopped_parts m r room scrap (last_by o n) (more_by o e t) (e + t) (replies_by o n) h ((λ j. after_records m (f.0 j) texts) ∙ l.0)
        ((λ j. f.1 j ++ records_replies m (f.0 j) texts) ∙ l.1)

    going_parts : r.stopped ≡ false → (b : Bool) → unopened count room (length scrap) ≡ b → Numbers (opened b)
        → Parted m r (take count carried) room scrap (last_by (opened b) n) (more_by (opened b) e t) (e + t) (replies_by (opened b) n)
    unfolding records_of fold outputs
    going_parts h true u k =
        let rest : length scrap - 0 ≡ length scrap = omega arith in
        unopened_parts m r room scrap h carried size count n e t short u (k.0 ∙ (λ j. wholes_in room (rest j) count)) (k.1 ∙ zero-add (60 * n)) k.2
    going_parts h false u k =
        let p = neither (eqb count 0) (eqb room 0 || ltb (length scrap) (60 - count)) u in
        let q = neither (eqb room 0) (ltb (length scrap) (60 - count)) p.1 in
        let l : length begun ≡ 60 = omega (
          arith,
          size,
          length-append (take count carried) (take (60 - count) scrap),
          length-take count carried,
          length-take (60 - count) scrap,
          ltb-false (length scrap) (60 - count) q.1,
        ) in
        let text : take 60 (sets (replicate 60 0) 0 begun) ≡ begun =
        ap (λ (i : ℕ). take i (sets (replicate 60 0) 0 begun)) (sym l) ∙ front_sets 60 begun (omega (arith, l)) in
        rw (text, append-nil (record_replies m r begun)) (opened_parts m r room scrap h carried size count n e t short u k.0 k.1 k.2)

    pub all_parts : Numbers (opening_of carried count scrap room) → (s : Bool) → r.stopped ≡ s →
        let o = opening_of carried count scrap room in
        Parted m r (cond s [] (take count carried)) room scrap (last_by o n) (more_by o e t) (e + t) (replies_by o n)
    all_parts k true h = still_parts (opening_of carried count scrap room) h
    all_parts k false h = going_parts h (unopened count room (length scrap)) refl k

    -- the same of an opening that is said to be that
    pub parts_by : (o : Opening) → o ≡ opening_of carried count scrap room → Numbers o → (s : Bool) → r.stopped ≡ s
        → Parted m r (cond s [] (take count carried)) room scrap (last_by o n) (more_by o e t) (e + t) (replies_by o n)
    parts_by o q k s h =
        subst (λ (x : Opening). Parted m r (cond s [] (take count carried)) room scrap (last_by x n) (more_by x e t) (e + t) (replies_by x n)) (sym q)
        (all_parts (subst Numbers q k) s h)

-- ---- the call

-- what `close` gives, by whether a broken record went before
module _ (m : Memory) (carried : List ℕ) (kept : ℕ) (scrap : List ℕ) (end : ℕ) (c : Cursor) (words : List ℕ) (map : Map) where
  abbrev further : ℕ
  further = further_in (length scrap - end) kept

  abbrev over : List ℕ
  over = take kept carried ++ take further (drop end scrap)

  abbrev closed_by : Bool → Progress
  closed_by b = cond b (progressed c (carrying [] c.number true) (length scrap)) (progressed c (carrying over c.number false) (end + further))

  closed-reader : (b : Bool) → c.stopped ≡ b → (closed_by b).reader ≡ reader_of (cond b (reading (carried_by c words map) []) (reading (carried_by c words map) over))
  closed-reader true h = λ j. carrying [] c.number (sym h j)
  closed-reader false h = λ j. carrying over c.number (sym h j)

  closed-taken : (b : Bool) → (closed_by b).taken ≡ cond b (length scrap) (end + further)
  closed-taken true = refl
  closed-taken false = refl

  closed-rest : (b : Bool) → ((closed_by b).filled ≡ c.filled) × ((closed_by b).remap ≡ c.remap)
  closed-rest true = (refl, refl)
  closed-rest false = (refl, refl)

module _ {A : Type 0} (m : Memory) (text : Reply → List A) (rd : Reader) (map : Map) (room : ℕ) (scrap before : List ℕ) (buffer : List A) (size : length rd.carried ≡ 59) (held : Bool) where
  abbrev pub begin : Cursor
  begin = record { held = held; remap = false; number = rd.number; stopped = rd.stopped; filled = 0 }

  pub fed_by : {count n : ℕ} {op : Opening} {first last : Cursor} {middle words : List ℕ} {between after : List A} {p : Progress}
      → count ≡ min rd.count 59
      → op ≡ opening_of rd.carried count scrap room
      → Batched m text (opened_texts op.first) map begin before buffer first middle between
      → n ≡ wholes_in op.room (length scrap - op.at) op.kept
      → Batched m text (records_of n (drop op.at scrap)) map first middle between last words after
      → p ≡ closed rd.carried op.kept scrap (op.at + 60 * n) last
      → FedBy m text rd map room scrap before buffer p words after
  fed_by {count} {n} {op} {first} {last} {middle} {words} {between} {after} {p} ec eo b en c ep =
      let least = min rd.count 59 in
      let start = (reading_of rd (hart_with (state_of before)) map).replay in
      let end = op.at + 60 * n in
      let t = further_in (length scrap - end) op.kept in
      let texts = records_of n (drop op.at scrap) in
      let parts = parts_by m start rd.carried size least room (omega arith) scrap n end t op (eo ∙ (λ j. opening_of rd.carried (ec j) scrap room)) (en, refl, refl)
      rd.stopped refl in
      let left = carried_by last words map in
      let more = take op.kept rd.carried ++ take t (drop end scrap) in
      let came = (λ j. after_records m (b.replay j) texts) ∙ c.replay in
      let after = parts.after ∙ (λ j. ending m (came j) more) in
      let replay = ap (λ (y : Reading). y.replay) after ∙ ended-replay m left more in
      let rest = closed-rest m rd.carried op.kept scrap end last words map last.stopped in
      let both = put_both b.put c.put in
      let given = records_replies m start (opened_texts op.first) in
      let said : written text given ++ written text (records_replies m (carried_by first middle map) texts) ≡ written text (feed_replies m (reading start (left_of rd)) room scrap) =
      (λ j. written text given ++ written text (records_replies m (sym b.replay j) texts))
      ∙ sym (written_append text given (records_replies m (after_records m start (opened_texts op.first)) texts)) ∙ sym (ap (written text) parts.given) in record {
        reader = ap (λ (x : Progress). x.reader) ep ∙ closed-reader m rd.carried op.kept scrap end last words map last.stopped refl ∙ sym (ap reader_of after);
        hart = sym (ap (λ (y : Replay). y.hart) replay);
        map = (λ j. cond ((ap (λ (x : Progress). x.remap) ep ∙ rest.1) j) (map_for (state_of words).pmp) map) ∙ sym (ap (λ (y : Replay). y.map) replay);
        taken = ap (λ (x : Progress). x.taken) ep ∙ closed-taken m rd.carried op.kept scrap end last words map last.stopped
            ∙ sym (parts.taken ∙ (λ j. cond (came j).stopped (length scrap) (end + t)));
        put = record {
          bytes = both.bytes ∙ ap (sets buffer 0) said;
          behind = ap (λ (x : Progress). x.filled) ep ∙ rest.0 ∙ both.behind ∙ ap (λ l. 0 + length l) said;
        };
      }

-- ---- by value

pub fed_value : (m : Memory) (rd : Reader) (h : Hart) (map : Map) (scrap answers : List ℕ) {words left after : List ℕ} {p : Progress} {back : Mapped} → state_of words ≡ h.state
    → FedBy m reply_numbers rd map (length answers / 4) scrap words answers p left after → back ≡ remade (state_of left) p.remap map
    → (◌≡◌ {A = Fed} (record { reader = p.reader; hart = back.hart; map = back.map; taken = p.taken; answered = p.filled / 4 }) (fed m rd h map (length answers / 4) scrap))
    × (after ≡ feed_words m rd h map scrap answers)
unfolding fed feed_words
fed_value m rd h map scrap answers {words} {left} {after} {p} {back} e f b =
    let room = length answers / 4 in
    let same : after_feed m (reading_of rd (hart_with (state_of words)) map) room scrap ≡ after_feed m (reading_of rd h map) room scrap =
    λ j. after_feed m (reading_of rd (hart_with (e j)) map) room scrap in
    let replies = feed_replies m (reading_of rd (hart_with (state_of words)) map) room scrap in
    let count : p.filled / 4 ≡ length replies = omega (arith, f.put.behind, written-words replies) in
    let hart = ap (λ (x : Mapped). x.hart) b ∙ f.hart in
    let kept = ap (λ (x : Mapped). x.map) b ∙ f.map in (
      (λ j. record { reader = f.reader j; hart = hart j; map = kept j; taken = f.taken j; answered = count j })
          ∙ (λ j. record {
            reader = reader_of (same j);
            hart = (same j).replay.hart;
            map = (same j).replay.map;
            taken = taken_by m (reading_of rd (hart_with (e j)) map) room scrap;
            answered = length (feed_replies m (reading_of rd (hart_with (e j)) map) room scrap);
          }),
      f.put.bytes ∙ (λ j. sets answers 0 (written reply_numbers (feed_replies m (reading_of rd (hart_with (e j)) map) room scrap))),
    )
