use Rattle.std.proofs.Common.{◌≡◌, [], length, refl, ap, ◌∙◌, rules}
use Rattle.map.specs.declared.Map.{Map}
use Rattle.paging.specs.Memory.{memory_of}
use Rattle.state.specs.Hold.{can_hold}
use Rattle.state.proofs.SliceLaws.{all-loaded}
use Rattle.trace.proofs.FeedLaws.{first_fits, first_and_wholes, room_behind, fed_by}
use Rattle.trace.proofs.feeding.read.Goals as goal

abbrev some : Map
some = record { count = 0; ranges = [] }

pub read_first-first-requires-clause-count_in_bounds : goal.read_first-first-requires-clause-count_in_bounds
read_first-first-requires-clause-count_in_bounds g c =
    let a = c.args in
    first_fits a.reader.count a.reader.carried a.scrap.now g.O.Output.width a.room c.capped-count.ensures c.open-opening.ensures c.requires

pub read_first-first-requires-clause-held_value : goal.read_first-first-requires-clause-held_value
read_first-first-requires-clause-held_value g c =
    let size : length c.args.words.now ≡ 43 = search rules in
    c.words_can_hold.ensures ∙ ap can_hold (all-loaded c.args.words.now size)

pub batch-last-requires-clause-count_in_bounds_2 : goal.batch-last-requires-clause-count_in_bounds_2
batch-last-requires-clause-count_in_bounds_2 g c =
    let a = c.args in
    let r = c.open-opening.result in
    let whole = first_and_wholes a.reader.count a.reader.carried a.scrap.now c.capped-count.ensures c.open-opening.ensures c.wholes-whole.ensures in
    room_behind (memory_of a.memory) g.O.Output.text g.O.Output.width _ a.room r.first some _ _ _ _ _ _ g.met.O.Output.fits refl
    (c.read_first-first.ensures.batch some) whole c.requires

pub returns : goal.returns
returns g c =
    let a = c.args in
    let size : length a.reader.carried ≡ 59 = search rules in
    record {
      feeds = λ (map : Map).
          fed_by (memory_of a.memory) g.O.Output.text a.reader map a.room a.scrap.now a.words.now a.out.now size
          c.words_can_hold.result c.capped-count.ensures c.open-opening.ensures (c.read_first-first.ensures.batch map) c.wholes-whole.ensures (c.batch-last.ensures.batch map) c.close.ensures;
    }
