-- What is left of the records does with the replay at hand what all of them do with the first, whatever the map. Assumes nothing.
use Rattle.std.proofs.Common.{◌≡◌, ◌-◌, false, drop}
use Rattle.map.specs.declared.Map.{Map}
use Rattle.paging.specs.Memory.{memory_of}
use Rattle.state.specs.Hold.{can_hold}
use Rattle.state.specs.Words.{state_of}
use Rattle.trace.specs.Batches.{records_of, carried}
use Rattle.trace.proofs.Batching.{Room, Turn}
use Rattle.trace.proofs.batch.batch.Given as goal

abbrev pub invariant-loop : goal.invariant-loop
invariant-loop g l =
    let left = l.count - l.counter in
    let texts = records_of l.count (drop l.initial.at l.bytes) in
    let start = λ (map : Map). carried (state_of l.initial.words) l.initial.cursor.remap map l.initial.cursor.number false in
    let here = λ (map : Map). carried (state_of l.words) l.cursor.remap map l.cursor.number false in
    record {
      going : l.cursor.stopped ≡ false;
      room : Room g.O.Output.width l.bytes l.out left l.cursor.filled l.at;
      held_value : l.cursor.held ≡ can_hold (state_of l.words);
      turn : (map : Map) → Turn (memory_of l.memory) g.O.Output.text l.bytes l.initial.out texts l.initial.cursor.filled (start map) l.out left
          (here map) l.cursor.filled l.at;
    }
