use Prim.Native.Nat.{◌+◌, ◌-◌}
use mathlib.Core.Path.{refl, sym, ◌∙◌}
use native.Mathlib.Omega.{arith}
use Rattle.bits.proofs.ListLaws.{copy_next, copy_end}
use Rattle.state.proofs.words.put_pmp.Goals as goal

pub loop-i-init : goal.loop-i-init
loop-i-init c = refl

pub loop-i-preserved : goal.loop-i-preserved
loop-i-preserved c =
    let l = c.loop-i in
    sym (copy_next l.words c.args.pmp.addrs (25 + l.i) l.i (16 - (l.i + 1)) (omega arith) (omega arith) refl) ∙ l.invariant

pub returns : goal.returns
returns c =
    let l = c.loop-i in
    sym (copy_end l.words c.args.pmp.addrs (25 + l.i) l.i (omega arith)) ∙ l.invariant ∙ rw (c.pmpcfg0.ensures, c.pmpcfg2.ensures)
