-- What is left of the records does with the replay at hand what all of them do with the first, whatever the map. Assumes nothing.
use Rattle.std.proofs.Common.{◌≡◌, suc, ◌+◌, ◌-◌, ◌≤◌, drop, length, sym, refl, ap, ◌∙◌, arith}
use Rattle.steps.specs.Decode.{decoded, names_access}
use Rattle.steps.proofs.AccessLaws.{access_number}
use Rattle.map.specs.declared.Map.{Map}
use Rattle.engine.specs.declared.Told.{Told}
use Rattle.engine.specs.Taking.{step_taken, named_taken, named_state}
use Rattle.paging.specs.Memory.{memory_of}
use Rattle.state.specs.Words.{state_of}
use Rattle.trace.specs.Replies.{Answered}
use Rattle.trace.specs.Batches.{records_of, carried_by}
use Rattle.trace.proofs.Batching.{read_behind, read_named, read_none, held_next, room_next, turn_formed, turn_broken, turn_over, stopped_still, none_still, still_put, batched}
use Rattle.trace.proofs.batch.batch.Goals as goal

pub returns-then-cursor-clause-batch : goal.returns-then-cursor-clause-batch
returns-then-cursor-clause-batch g c map =
    let a = c.args in
    let m = memory_of a.memory in
    let texts = records_of a.count (drop a.place a.bytes.now) in
    let r = carried_by a.start a.words.now map in
    let still = stopped_still m r c.if-cursor.true texts in
    record { replay = still.0; put = still_put m g.O.Output.text r texts a.out.now a.start.filled still }

pub returns-in_default-clause-batch : goal.returns-in_default-clause-batch
returns-in_default-clause-batch g c map =
    let o = c.loop in
    let a = c.args in
    let m = memory_of a.memory in
    let text = g.O.Output.text in
    let texts = records_of a.count (drop a.place a.bytes.now) in
    let more : a.count - o.counter ≡ suc (a.count - (o.counter + 1)) = omega arith in
    let there : o.at + 60 ≤ length a.bytes.now = omega (arith, o.invariant.room.within) in
    let none = read_none a.bytes.now o.at there c.read-next.ensures c.in_default.is in
    let turn = turn_broken m text a.bytes.now a.out.now texts a.start.filled (state_of o.words) o.cursor.remap map o.cursor.number (o.invariant.turn map) more refl none
    c.put_broken.ensures in
    let over = turn_over m text a.bytes.now a.out.now texts a.start.filled turn (stopped_still m _ refl _) in
    batched m text texts map a.start a.words.now a.out.now _ o.words _ c.if-cursor.false refl over

pub loop-preserved : goal.loop-preserved
loop-preserved g c =
    let o = c.loop in
    let a = c.args in
    let m = memory_of a.memory in
    let s = state_of o.words in
    let texts = records_of a.count (drop a.place a.bytes.now) in
    let n = c.in-Some.numbers in
    let more : a.count - o.counter ≡ suc (a.count - (o.counter + 1)) = omega arith in
    let long : o.at + 60 ≤ length a.bytes.now = omega (arith, o.invariant.room.within) in
    let there = read_named a.bytes.now o.at long c.read-next.ensures n c.in-Some.is in
    let step = there.named in
    let t = named_taken o.cursor.held s m (decoded n.step n.a n.b) in
    let taken : t ≡ step_taken o.cursor.held s m step = ap (named_taken o.cursor.held s m) there.formed in
    let left = c.put_step-left.ensures in
    let state = left.words_after ∙ ap (named_state o.cursor.held s m) there.formed in
    let behind = read_behind a.bytes.now o.at long c.read-next.ensures in record {
      going = o.invariant.going;
      room = room_next o.invariant.room more _ (g.met.O.Output.fits (Answered t.answer (names_access n.step))) behind left.put;
      held_value = ap (λ (x : Told). x.held) left.told_value ∙ held_next m s step o.invariant.held_value taken state;
      turn = λ (map : Map).
          turn_formed m g.O.Output.text a.bytes.now a.out.now texts a.start.filled s o.cursor.remap map o.cursor.number (o.invariant.turn map) more behind step
          o.invariant.held_value taken state there.read refl (access_number n.step n.a n.b there.formed)
          (sym (ap (λ (x : Told). x.remap) left.told_value)) left.put;
    }

pub returns-clause-batch : goal.returns-clause-batch
returns-clause-batch g c map =
    let o = c.loop in
    let a = c.args in
    let m = memory_of a.memory in
    let text = g.O.Output.text in
    let texts = records_of a.count (drop a.place a.bytes.now) in
    let over = turn_over m text a.bytes.now a.out.now texts a.start.filled (o.invariant.turn map) (none_still m (a.count - o.counter) _ (drop o.at a.bytes.now) (omega arith)) in
    batched m text texts map a.start a.words.now a.out.now _ o.words _ c.if-cursor.false o.invariant.going over
