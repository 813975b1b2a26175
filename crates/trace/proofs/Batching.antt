-- The loop over whole records, whatever is written for each. Assumes nothing.
use Rattle.std.proofs.Common.{◌≡◌, ℕ, zero, suc, ◌+◌, ◌*◌, ◌%◌, ◌^◌, ◌≤◌, Bool, true, false, cond, ◌||◌, List, [], ◌∷◌, ◌++◌, length, take, drop, sym, refl, ap, ◌∙◌, mul-suc, arith, length-append, drop-drop, Option, Some, None}
use lib.Seq.{sets, length-sets}
use Rattle.bits.specs.Fold.{fold, outputs, any_step}
use Rattle.steps.specs.declared.Step.{Step}
use Rattle.steps.specs.declared.from_numbers.Numbers.{Numbers}
use Rattle.steps.specs.Decode.{is_access}
use Rattle.steps.specs.Number.{answer_interrupt}
use Rattle.paging.specs.Memory.{Memory}
use Rattle.state.specs.declared.State.{State}
use Rattle.state.specs.Hold.{can_hold}
use Rattle.state.specs.Words.{state_of}
use Rattle.map.specs.declared.Map.{Map}
use Rattle.engine.specs.declared.Taken.{Taken}
use Rattle.engine.specs.Effects.{ruled_by, step_rule}
use Rattle.engine.specs.Taking.{step_taken, remaps}
use Rattle.engine.specs.Runs.{lent_to, state_after}
use Rattle.engine.proofs.Plain.{ruled_plain}
use Rattle.engine.proofs.TakingLaws.{still_held}
use Rattle.hart.specs.declared.Stepped.{Stepped}
use Rattle.hart.specs.Steps.{map_for, hart_with, handed_back, stepped}
use Rattle.hart.proofs.StepLaws.{step_parts}
use Rattle.hart.proofs.LeftLaws.{pmp-stays}
use Rattle.records.specs.Records.{read_step, read_numbers}
use Rattle.records.proofs.Numbers.{Numbered, numbers-named, numbers-none}
use Rattle.scrap.specs.declared.Parsed.{Parsed}
use Rattle.scrap.specs.Places.{record_at as placed}
use Rattle.scrap.proofs.PlaceLaws.{record_there}
use Rattle.trace.specs.declared.Cursor.{Cursor}
use Rattle.trace.specs.Buffers.{Put}
use Rattle.trace.specs.Replies.{Reply, Answered, Broken, written}
use Rattle.trace.specs.Reading.{Replay, after_step, after_decoded, reply_to, after_record, record_replies}
use Rattle.trace.specs.Batches.{records_of, after_records, records_replies, carried, Batched}
use Rattle.trace.proofs.Writing.{sets_append}

-- the record at a place
abbrev pub record_at : List ℕ → ℕ → List ℕ
record_at bytes at = take 60 (drop at bytes)

-- what is read at a place where 60 bytes are
module _ (bytes : List ℕ) (at : ℕ) (h : at + 60 ≤ length bytes) {p : Parsed} (e : p ≡ placed bytes at) where
  there : p ≡ record { numbers = read_numbers (record_at bytes at); at = at + 60 }
  there = e ∙ record_there bytes at 60 h refl

  pub read_behind : p.at ≡ at + 60
  read_behind = ap (λ (x : Parsed). x.at) there

  -- the step that the numbers name
  pub read_named : (n : Numbers) → p.numbers ≡ Some n → Numbered (record_at bytes at) n
  read_named n q = numbers-named (record_at bytes at) n (sym (ap (λ (x : Parsed). x.numbers) there) ∙ q)

  pub read_none : p.numbers ≡ None → read_step (record_at bytes at) ≡ None
  read_none q = numbers-none (record_at bytes at) (sym (ap (λ (x : Parsed). x.numbers) there) ∙ q)

-- no step answers with an interrupt
pub taken-plain : (held : Bool) (s : State) (m : Memory) (step : Step) {t : Taken} → t ≡ step_taken held s m step → answer_interrupt t.answer ≡ 0
unfolding step_taken
taken-plain held s m step e = ap (λ (x : Taken). answer_interrupt x.answer) e ∙ ruled_plain s m held step

-- ---- what goes on from turn to turn

-- there are records enough, and room for what they give out
pub record Room {A : Type 0} (width : ℕ) (bytes : List ℕ) (out : List A) (left filled at : ℕ) : Type 0 where
  pub within : at + 60 * left ≤ length bytes
  pub room : filled + width * left ≤ length out

module _ {A : Type 0} {width : ℕ} {bytes : List ℕ} {out : List A} {left filled at rest : ℕ} (fits : Room width bytes out left filled at) (more : left ≡ suc rest) where
  one_less : width * left ≡ width * rest + width
  one_less = ap (λ (n : ℕ). width * n) more ∙ mul-suc width rest

  pub room-here : filled + width ≤ length out
  room-here = omega (arith, fits.room, one_less)

  pub room_next : (text : List A) {after : List A} {next at' : ℕ} → length text ≤ width → at' ≡ at + 60 → Put out filled text after next
      → Room width bytes after rest next at'
  room_next text short behind put = record {
    within = omega (arith, fits.within);
    room = omega (arith, fits.room, put.behind, one_less, ap length put.bytes, length-sets out filled text);
  }

-- each record is lent the same memory
module _ (m : Memory) where
  -- ---- records that do nothing more

  -- the records leave a replay as it is, and give out nothing
  abbrev pub Still : Replay → List (List ℕ) → Type 0
  Still r ts = (after_records m r ts ≡ r) × (records_replies m r ts ≡ [])

  module _ (r : Replay) (h : r.stopped ≡ true) where
    stopped_record : (t : List ℕ) → (after_record m r t ≡ r) × (record_replies m r t ≡ [])
    unfolding after_record record_replies
    stopped_record t = (
      ap (λ (b : Bool). cond b r (after_decoded m r (read_step t))) h,
      ap (λ (b : Bool). cond b [] (reply_to m r (read_step t) ∷ [])) h,
    )

    pub stopped_still : (ts : List (List ℕ)) → Still r ts
    unfolding fold outputs
    stopped_still [] = (refl, refl)
    stopped_still (t ∷ ts) =
        let e = stopped_record t in
        let s = stopped_still ts in
        ((λ j. after_records m (e.0 j) ts) ∙ s.0, (λ j. e.1 j ++ records_replies m (e.0 j) ts) ∙ s.1)

  pub none_still : (n : ℕ) (r : Replay) (t : List ℕ) → n ≤ 0 → Still r (records_of n t)
  unfolding records_of fold outputs
  none_still zero r t h = (refl, refl)
  none_still (suc n) r t h = absurd (omega arith)

  -- nothing is written for them
  pub still_put : {A : Type 0} (text : Reply → List A) (r : Replay) (ts : List (List ℕ)) (buffer : List A) (begin : ℕ) → Still r ts
      → Put buffer begin (written text (records_replies m r ts)) buffer begin
  unfolding written
  still_put text r ts buffer begin still = record {
    bytes = sym (ap (λ (rs : List Reply). sets buffer begin (written text rs)) still.1);
    behind = omega (arith, ap (λ (rs : List Reply). length (written text rs)) still.1);
  }

  -- ---- a step on the words

  module _ (s : State) (step : Step) {x : State} {held : Bool} {t : Taken} (h : held ≡ can_hold s) (e : t ≡ step_taken held s m step)
      (f : x ≡ (ruled_by held s m step).state) where
    pub held_next : t.told.held ≡ can_hold x
    unfolding step_taken
    held_next = ap (λ (y : Taken). y.told.held) e ∙ still_held held s m step h ∙ ap can_hold (sym f)

    ruled : ruled_by held s m step ≡ step_rule s m step
    unfolding step_rule
    ruled = ap (λ (b : Bool). ruled_by b s m step) h

    -- a map compiled before is that of the registers, where the step leaves them
    map_next : (map : Map) (r b : Bool) → remaps s m step ≡ b
        → cond b (map_for (state_after s (lent_to m step)).pmp) (cond r (map_for s.pmp) map) ≡ cond (r || b) (map_for (state_after s (lent_to m step)).pmp) map
    unfolding fold any_step
    map_next map true true q = refl
    map_next map true false q = ap map_for (pmp-stays s (lent_to m step ∷ []) (ap (λ (b : Bool). b || false) q))
    map_next map false true q = refl
    map_next map false false q = refl

    step-carried : (remap : Bool) (map : Map) → stepped (hart_with s) (cond remap (map_for s.pmp) map) m step
        ≡ handed_back (hart_with x) (cond (remap || t.told.remap) (map_for x.pmp) map) t.answer
    unfolding step_taken
    step-carried remap map =
        let q : state_after s (lent_to m step) ≡ x = sym (f ∙ ap (λ r. r.state) ruled) in
        let a : (step_rule s m step).answer ≡ t.answer = sym (ap (λ (y : Taken). y.answer) e ∙ ap (λ r. r.answer) ruled) in
        let k : remaps s m step ≡ t.told.remap = sym (ap (λ (y : Taken). y.told.remap) e ∙ rw ruled) in
        let n = map_next map remap (remaps s m step) refl ∙ (λ j. cond (remap || k j) (map_for (q j).pmp) map) in
        step_parts (hart_with s) (cond remap (map_for s.pmp) map) m step ∙ (λ j. handed_back (hart_with (q j)) (n j) (a j))

    formed : (remap : Bool) (map : Map) (number : ℕ) (text : List ℕ) {k : ℕ} {accessed : Bool} → read_step text ≡ Some step → k ≡ (number + 1) % 2 ^ 64
        → accessed ≡ is_access step →
        let here = carried s remap map number false in
        (after_record m here text ≡ carried x (remap || t.told.remap) map k false) × (record_replies m here text ≡ Answered t.answer accessed ∷ [])
    unfolding after_record record_replies
    formed remap map number text r i a =
        let here = carried s remap map number false in
        let c = step-carried remap map in (
          ap (after_decoded m here) r ∙ ap (λ (y : Stepped). after_step y number) c ∙ (λ j. carried x (remap || t.told.remap) map (sym i j) false),
          ap (λ (d : Option Step). reply_to m here d ∷ []) r ∙ (λ j. Answered (c j).answer (sym a j) ∷ []),
        )

  -- ---- the loop

  module _ {A : Type 0} (text : Reply → List A) (bytes : List ℕ) (before : List A) (texts : List (List ℕ)) (begin : ℕ) where
    -- what is left of the records does with the replay at hand what all of them do with the first
    pub record Turn (start : Replay) (out : List A) (left : ℕ) (here : Replay) (filled at : ℕ) : Type 0 where
      pub replay : after_records m start texts ≡ after_records m here (records_of left (drop at bytes))
      pub put : sets before begin (written text (records_replies m start texts)) ≡ sets out filled (written text (records_replies m here (records_of left (drop at bytes))))
      pub size : begin + length (written text (records_replies m start texts)) ≡ filled + length (written text (records_replies m here (records_of left (drop at bytes))))

    module _ {start : Replay} {out : List A} {left : ℕ} {here : Replay} {filled at : ℕ} (turn : Turn start out left here filled at) where
      -- one record more, from what it leaves and what it gives out
      turn_next : (there : Replay) (reply : Reply) {after : List A} {next rest at' : ℕ} → left ≡ suc rest → at' ≡ at + 60
          → (after_record m here (record_at bytes at) ≡ there) × (record_replies m here (record_at bytes at) ≡ reply ∷ [])
          → Put out filled (text reply) after next → Turn start after rest there next at'
      unfolding records_of fold outputs written
      turn_next there reply {after} {next} {rest} {at'} more behind e put =
          let others = records_of rest (drop at' bytes) in
          let lines = written text (records_replies m there others) in
          let r : records_of left (drop at bytes) ≡ record_at bytes at ∷ others =
          ap (λ (k : ℕ). records_of k (drop at bytes)) more ∙ ap (λ (t : List ℕ). record_at bytes at ∷ records_of rest t) (drop-drop 60 at bytes ∙ ap (λ (i : ℕ). drop i bytes) (sym behind)) in
          let z : written text (records_replies m here (records_of left (drop at bytes))) ≡ text reply ++ lines =
          ap (λ (ts : List (List ℕ)). written text (records_replies m here ts)) r
          ∙ (λ j. written text (e.1 j ++ records_replies m (e.0 j) others)) in record {
            replay = turn.replay ∙ ap (after_records m here) r ∙ (λ j. after_records m (e.0 j) others);
            put = turn.put ∙ ap (sets out filled) z ∙ sets_append (text reply) out filled lines ∙ (λ j. sets (sym put.bytes j) (sym put.behind j) lines);
            size = omega (arith, turn.size, ap length z, length-append (text reply) lines, put.behind);
          }

      -- where nothing more is done
      pub turn_over : Still here (records_of left (drop at bytes))
          → (after_records m start texts ≡ here) × Put before begin (written text (records_replies m start texts)) out filled
      unfolding written
      turn_over still = (
        turn.replay ∙ still.0,
        record {
          bytes = sym (turn.put ∙ ap (λ (rs : List Reply). sets out filled (written text rs)) still.1);
          behind = omega (arith, turn.size, ap (λ (rs : List Reply). length (written text rs)) still.1);
        },
      )

    module _ {start : Replay} {out : List A} {left : ℕ} (s : State) (remap : Bool) (map : Map) (number : ℕ) {filled at : ℕ}
        (turn : Turn start out left (carried s remap map number false) filled at) {rest at' : ℕ} (more : left ≡ suc rest) (behind : at' ≡ at + 60)
        {after : List A} {next : ℕ} where
      pub turn_formed : (step : Step) {x : State} {held : Bool} {t : Taken} {k : ℕ} {accessed again : Bool} → held ≡ can_hold s → t ≡ step_taken held s m step
          → x ≡ (ruled_by held s m step).state → read_step (record_at bytes at) ≡ Some step → k ≡ (number + 1) % 2 ^ 64
          → accessed ≡ is_access step → t.told.remap ≡ again → Put out filled (text (Answered t.answer accessed)) after next
          → Turn start after rest (carried x (remap || again) map k false) next at'
      turn_formed step {x} {held} {t} {k} {accessed} {again} h e f r i a g put =
          let one = formed s step h e f remap map number (record_at bytes at) r i a in
          turn_next turn (carried x (remap || again) map k false) (Answered t.answer accessed) more behind
          (one.0 ∙ (λ j. carried x (remap || g j) map k false), one.1) put

      pub turn_broken : read_step (record_at bytes at) ≡ None → Put out filled (text (Broken number)) after next
          → Turn start after rest (carried s remap map number true) next at'
      unfolding after_record record_replies
      turn_broken r put =
          let here = carried s remap map number false in
          turn_next turn (carried s remap map number true) (Broken number) more behind
          (ap (after_decoded m here) r, ap (λ (d : Option Step). reply_to m here d ∷ []) r) put

  -- ---- the call

  module _ {A : Type 0} (text : Reply → List A) (texts : List (List ℕ)) (map : Map) (start : Cursor) (before : List ℕ) (buffer : List A) where
    -- from the replay of a start that has not stopped
    pub batched : (end : Cursor) (words : List ℕ) (after : List A) {stops : Bool} → start.stopped ≡ false → end.stopped ≡ stops →
        let first = carried (state_of before) start.remap map start.number false in
        (after_records m first texts ≡ carried (state_of words) end.remap map end.number stops)
        × Put buffer start.filled (written text (records_replies m first texts)) after end.filled
        → Batched m text texts map start before buffer end words after
    batched end words after e f over =
        let first = λ (b : Bool). carried (state_of before) start.remap map start.number b in
        let lines : written text (records_replies m (first false) texts) ≡ written text (records_replies m (first start.stopped) texts) =
        λ j. written text (records_replies m (first (sym e j)) texts) in record {
          replay = (λ j. after_records m (first (e j)) texts) ∙ over.0 ∙ (λ j. carried (state_of words) end.remap map end.number (sym f j));
          put = record {
            bytes = over.1.bytes ∙ ap (sets buffer start.filled) lines;
            behind = omega (arith, over.1.behind, ap length lines);
          };
        }
