-- Whole records, one behind the other: how the code reads most of a scrap. What a batch leaves is what its bytes leave one by one (proofs/Bytes).
use Rattle.std.specs.Prelude.{◌≡◌, ℕ, zero, suc, Bool, cond, List, [], ◌∷◌, take, drop}
use Rattle.bits.specs.Fold.{fold, outputs}
use Rattle.paging.specs.Memory.{Memory}
use Rattle.state.specs.declared.State.{State}
use Rattle.state.specs.Words.{state_of}
use Rattle.map.specs.declared.Map.{Map}
use Rattle.hart.specs.Steps.{map_for, hart_with}
use Rattle.trace.specs.declared.Cursor.{Cursor}
use Rattle.trace.specs.Buffers.{Put}
use Rattle.trace.specs.Replies.{Reply, written}
use Rattle.trace.specs.Reading.{Replay, after_record, record_replies}

-- n records of 60 bytes each
unfoldable pub records_of : ℕ → List ℕ → List (List ℕ)
records_of zero text = []
records_of (suc n) text = take 60 text ∷ records_of n (drop 60 text)

module _ (m : Memory) where
  abbrev pub after_records : Replay → List (List ℕ) → Replay
  after_records r texts = fold (after_record m) r texts

  abbrev pub records_replies : Replay → List (List ℕ) → List Reply
  records_replies r texts = outputs (after_record m) (record_replies m) r texts

-- how a replay is carried: the state of the hart, and whether a step asked for a fresh map in place of the one given
abbrev pub carried : State → Bool → Map → ℕ → Bool → Replay
carried s remap map number stopped = record { hart = hart_with s; map = cond remap (map_for s.pmp) map; number = number; stopped = stopped }

abbrev pub carried_by : Cursor → List ℕ → Map → Replay
carried_by c words map = carried (state_of words) c.remap map c.number c.stopped

-- what a batch does with a map that is given, where each reply is written as a text
pub record Batched {A : Type 0} (m : Memory) (text : Reply → List A) (texts : List (List ℕ)) (map : Map) (start : Cursor) (before : List ℕ) (buffer : List A)
    (end : Cursor) (words : List ℕ) (after : List A) : Type 0 where
  pub replay : after_records m (carried_by start before map) texts ≡ carried_by end words map
  pub put : Put buffer start.filled (written text (records_replies m (carried_by start before map) texts)) after end.filled

-- no map is read, so it is any
abbrev pub Batch : {A : Type 0} → Memory → (Reply → List A) → List (List ℕ) → Cursor → List ℕ → List A → Cursor → List ℕ → List A → Type 0
Batch m text texts start before buffer end words after = (map : Map) → Batched m text texts map start before buffer end words after
