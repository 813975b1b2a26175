use Rattle.protection.specs.Same.{same_pmp}
use Rattle.protection.proofs.Bytes.{same_pointwise}
use Rattle.protection.proofs.hold.same.Goals as goal

pub returns : goal.returns
unfolding same_pmp
returns c =
    let a = c.args.a in
    let b = c.args.b in
    rw (c.eq.ensures, c.eq-2.ensures, same_pointwise a.cfgs b.cfgs, same_pointwise a.addrs b.addrs)
