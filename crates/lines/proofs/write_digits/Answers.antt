use Rattle.lines.proofs.Digits.{digit_bytes, digit_found, digits_more}
use Rattle.lines.specs.Lines.{bytes_of}
use lib.ListN.{get_or}
use Prim.Native.Nat.{◌-◌, ◌*◌, ◌/◌, ◌%◌, ◌^◌}
use mathlib.Core.Path.{◌∙◌}
use native.Mathlib.Omega.{arith}
use Rattle.lines.proofs.write_digits.Goals as goal

pub loop-j-preserved : goal.loop-j-preserved
unfolding bytes_of
loop-j-preserved c =
    let l = c.loop-j in
    let a = c.args in
    let n = a.word / 2 ^ (60 - 4 * l.j) % 16 in
    l.invariant ∙ digits_more l.text a.place a.word l.j (get_or digit_bytes n 0) (omega arith) (digit_found n (omega arith))
