-- `pmp::entry::napot_span` meets its contract: the machine's power of two is 2^t, and the ends are cut at the end of memory. Assumes nothing.
use Rattle.std.proofs.Common.{◌*◌, ◌^◌, ◌%◌, ◌≤◌, rules, arith}
use lib.Pow.{pow_mono}
use Rattle.pmp.proofs.EntryLaws.{power_fits, power_room, napot_small, napot_large, napot-whole}
use Rattle.pmp.proofs.entry.napot_span.Goals as goal

pub returns-then-t-ge64 : goal.returns-then-t-ge64
returns-then-t-ge64 c = rw (← c.trailing_ones-t.ensures) (napot-whole _ c.trailing_ones-t.result c.if-t-ge64.true (search rules))

pub overflow_sub-addr : goal.overflow_sub-addr
overflow_sub-addr c =
    let t = c.trailing_ones-t in
    omega (arith, power_fits t.result c.if-t-ge64.false, power_room c.args.addr t.result t.ensures)

-- with fewer than 53 ones the bytes are at most 2^56
small : (c : goal.Then-t-lt53) → 1 * 2 ^ c.trailing_ones-t.result % 2 ^ 64 ≤ 2 ^ 53
small c =
    let h : c.trailing_ones-t.result ≤ 53 = omega arith in
    let m : 2 ^ c.trailing_ones-t.result ≤ 2 ^ 53 = pow_mono h in
    omega (arith, power_fits c.trailing_ones-t.result c.if-t-ge64.false)

pub overflow_mul-power : goal.overflow_mul-power
overflow_mul-power c = omega (arith, small c)

pub overflow_add-low : goal.overflow_add-low
overflow_add-low c = omega (arith, small c)

pub returns-then-t-lt53 : goal.returns-then-t-lt53
returns-then-t-lt53 c =
    let t = c.trailing_ones-t in
    let l = c.word_start-low in
    rw (← t.ensures, c.min-high.ensures)
    (napot_small _ t.result _ l.result (power_fits t.result c.if-t-ge64.false) (power_room _ t.result t.ensures) l.ensures)

pub returns-else-t-lt53 : goal.returns-else-t-lt53
returns-else-t-lt53 c =
    let t = c.trailing_ones-t in
    let l = c.word_start-low in
    rw (← t.ensures)
    (napot_large _ t.result _ l.result (power_fits t.result c.if-t-ge64.false) (power_room _ t.result t.ensures) l.ensures c.if-t-lt53.false)
