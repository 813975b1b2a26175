use Prim.Native.Nat.{◌%◌}
use mathlib.Core.Path.{◌≡◌, sym, ap, ◌∙◌}
use mathlib.Core.Bool.{true, ◌&&◌}
use lib.Dec.{eqb}
use lib.ListN.{length}
use borrow.Author.Rules.{rules}
use borrow.Author.Tests.{eq-eqb}
use Rattle.std.specs.Cmp.Derive.{both_true}
use Rattle.paging.specs.Memory.{memory_at}
use Rattle.capi.specs.Feeds.{is_place, reader_in, feedable}
use Rattle.capi.proofs.FeedLaws.{fed-left}
use Rattle.capi.proofs.tegrwyllt_feed.Goals as goal

pub returns : goal.returns
returns c =
    let a = c.args in
    let carried = c.in-Some.ensures.cases in
    let place = c.in-Some-as_mut_array.ensures.cases in
    let hart = c.in-Some-as_mut_array-2.ensures.cases in
    let map = c.in-Some-as_mut_array-3.ensures.cases in
    let t : feedable a.carried.now a.place.now a.hart.now a.map.now a.answers.now ≡ true =
    both_true (both_true (eq-eqb (length a.hart.now) 43 hart.long) (eq-eqb (length a.map.now) 100 map.long))
    (
    both_true (eq-eqb (length a.carried.now) 59 carried.long)
    (
    sym (λ j. (c.is_place.ensures ∙ ap is_place place.same) j && eqb (length a.answers.now % 4) 0) ∙ c.if-not-is_place-answers.false
    )
    ) in
    let all = fed-left a.carried.now a.place.now a.hart.now a.map.now (memory_at a.memory.now a.base) a.scrap.now a.answers.now t _ _ _ _ _ _ _
    c.feed_words-next.result c.load_reader-reader.result (c.load_reader-reader.ensures ∙ (λ j. reader_in (carried.same j) (place.same j))) hart.same map.same
    c.feed_words-next.ensures (record { count = search rules; below = λ j. search rules }) c.store_reader.ensures.carried_after
    c.store_reader.ensures.place_after c.renew.ensures in
    record {
      value = all.0;
      carried_after = all.1.0;
      place_after = all.1.1.0;
      hart_after = all.1.1.1.0;
      map_after = all.1.1.1.1.0;
      answers_after = all.1.1.1.1.1;
    }
