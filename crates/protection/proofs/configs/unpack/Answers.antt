use Prim.Native.Nat.{ℕ}
use mathlib.Core.List.{List}
use mathlib.Core.Path.{sym, ap, ◌∙◌}
use native.Mathlib.Omega.{arith}
use lib.ListN.{get_or}
use Rattle.protection.proofs.Bytes.{byte_put, none_put}
use Rattle.protection.proofs.configs.unpack.Goals as goal

pub loop-i-preserved : goal.loop-i-preserved
loop-i-preserved c =
    let l = c.loop-i in
    let a = c.args in
    let byte = ap (λ (bytes : List ℕ). get_or bytes l.i 0) c.to_le_bytes.ensures in
    sym (byte_put a.word a.start l.i (get_or c.to_le_bytes.result l.i 0) l.cfgs c.loop-i-test.true byte) ∙ l.invariant

pub returns : goal.returns
returns c =
    let l = c.loop-i in
    sym (none_put _ _ _ l.cfgs (omega arith)) ∙ l.invariant
