-- `map::compile` meets its contract. Assumes nothing.
use Rattle.std.proofs.Common.{◌∙◌, sym, subst, arith}
use Rattle.pmp.specs.Entry.{entry_span}
use Rattle.map.specs.Compiled.{compiled}
use Rattle.map.specs.Boundaries.{Boundaries}
use Rattle.map.proofs.MapLaws.{entry-below}
use Rattle.map.proofs.Boundaries.{boundaries}
use Rattle.map.proofs.SweepLaws.{filled_normalized, filled_compiled}
use Rattle.map.proofs.compile.Goals as goal

pub sweep-requires : goal.sweep-requires
sweep-requires c =
    let l = c.loop-entry in
    let a = c.args in
    filled_normalized (entry_span a.grain a.cfgs a.addrs) l.spans (entry-below a.grain a.cfgs a.addrs) (λ k h. l.invariant.filled k (omega arith))

pub returns : goal.returns
unfolding compiled
returns c =
    let l = c.loop-entry in
    let a = c.args in
    let e = c.sweep.ensures ∙ filled_compiled (entry_span a.grain a.cfgs a.addrs) l.spans (λ k h. l.invariant.filled k (omega arith)) in
    record {
      value = e;
      boundaries = subst (Boundaries (entry_span a.grain a.cfgs a.addrs)) (sym e) (boundaries a.grain a.cfgs a.addrs);
    }
