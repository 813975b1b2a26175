use Prim.Native.Nat.{◌+◌, ◌-◌}
use mathlib.Core.Path.{refl, sym, ◌∙◌}
use native.Mathlib.Omega.{arith}
use Rattle.bits.specs.Lists.{elements}
use Rattle.bits.proofs.ListLaws.{copy_next, copy_end}
use Rattle.state.proofs.words.pmp_at.Goals as goal

pub loop-i-init : goal.loop-i-init
unfolding elements
loop-i-init c = refl

pub loop-i-preserved : goal.loop-i-preserved
loop-i-preserved c =
    let l = c.loop-i in
    sym (copy_next l.addrs c.args.words.now l.i (25 + l.i) (16 - (l.i + 1)) (omega arith) refl (omega arith)) ∙ l.invariant

pub returns : goal.returns
returns c =
    let l = c.loop-i in
    rw (c.configs_of-cfgs.ensures, sym (sym (copy_end l.addrs c.args.words.now l.i (25 + l.i) (omega arith)) ∙ l.invariant))
