use mathlib.Core.Path.{◌≡◌}
use lib.ListN.{length, length-set}
use borrow.Author.Rules.{rules}
use Rattle.map.proofs.LookupLaws.{unmapped}
use Rattle.capi.proofs.MapLaws.{map-start, map_next, map_end}
use Rattle.capi.proofs.maps.store_map.Goals as goal

pub loop-k-init : goal.loop-k-init
loop-k-init c =
    let full : length c.args.map.ranges ≡ 33 = search (rules, unmapped) in
    (search rules, map-start c.args.map full c.args.words.now (search rules))

pub loop-k-preserved : goal.loop-k-preserved
loop-k-preserved c =
    let l = c.loop-k in
    let full : length c.args.map.ranges ≡ 33 = search (rules, unmapped) in
    (simp length-set l.invariant.0, map_next c.args.map full l.words l.k c.loop-k-test.true l.invariant.0 l.invariant.1)

pub returns : goal.returns
returns c =
    let l = c.loop-k in
    let full : length c.args.map.ranges ≡ 33 = search (rules, unmapped) in
    map_end c.args.map full l.words l.k l.auto.k-end c.loop-k-test.false l.invariant.0 l.invariant.1
