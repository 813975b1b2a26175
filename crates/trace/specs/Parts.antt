-- The parts in which the code reads a scrap: the record that the carried bytes begin, whole records, and what is left behind them.
use Rattle.std.specs.Prelude.{ℕ, ◌+◌, ◌-◌, ◌/◌, min, Bool, true, false, cond, ◌||◌, List, [], ◌++◌, length, take, drop, replicate, ◌==◌, nat_lt, Option, Some, None}
use Rattle.std.proofs.lemmas.List.Edits.{sets}
use Rattle.state.specs.declared.State.{State}
use Rattle.map.specs.declared.Map.{Map}
use Rattle.hart.specs.declared.Mapped.{Mapped}
use Rattle.hart.specs.Steps.{map_for, hart_with}
use Rattle.hart.specs.Runs.{with}
use Rattle.trace.specs.Batches.{records_of}
use Rattle.trace.specs.declared.Opening.{Opening}
use Rattle.trace.specs.declared.Cursor.{Cursor}
use Rattle.trace.specs.declared.Reader.{Reader}
use Rattle.trace.specs.declared.Progress.{Progress}

-- no record is completed: none is begun, or there is no room, or the scrap is too short
abbrev pub unopened : ℕ → ℕ → ℕ → Bool
unopened count room came = count == 0 || (room == 0 || nat_lt came (60 - count))

abbrev pub opening_of : List ℕ → ℕ → List ℕ → ℕ → Opening
opening_of carried count scrap room =
    cond (unopened count room (length scrap))
    (record { first = None; room = room; at = 0; kept = count })
    (record { first = Some (sets (replicate 60 0) 0 (take count carried ++ take (60 - count) scrap)); room = room - 1; at = 60 - count; kept = 0 })

-- its record, or none
abbrev pub opened_texts : Option (List ℕ) → List (List ℕ)
opened_texts (Some text) = records_of 1 text
opened_texts None = []

abbrev pub wholes_in : ℕ → ℕ → ℕ → ℕ
wholes_in room rest kept = cond (kept == 0) (min (rest / 60) room) 0

-- the bytes taken behind the last record
abbrev pub further_in : ℕ → ℕ → ℕ
further_in rest kept = min (59 - kept) rest

abbrev pub carrying : List ℕ → ℕ → Bool → Reader
carrying left number stopped = record { carried = sets (replicate 59 0) 0 left; count = length left; number = number; stopped = stopped }

abbrev pub progressed : Cursor → Reader → ℕ → Progress
progressed c reader taken = record { reader = reader; taken = taken; filled = c.filled; remap = c.remap }

abbrev pub closed : List ℕ → ℕ → List ℕ → ℕ → Cursor → Progress
closed carried kept scrap end c =
    cond c.stopped
    (progressed c (carrying [] c.number true) (length scrap))
    (progressed c (carrying (take kept carried ++ take (further_in (length scrap - end) kept) (drop end scrap)) c.number false)
    (end + further_in (length scrap - end) kept))

-- the hart of a state with its map, made afresh where it is asked for
abbrev pub remade : State → Bool → Map → Mapped
remade s remap map = with (hart_with s) (cond remap (map_for s.pmp) map)
