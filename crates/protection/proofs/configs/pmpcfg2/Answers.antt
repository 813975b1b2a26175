use mir.Syntax.{w8}
use mir.Val.{Fits}
use native.Mathlib.Omega.{arith}
use mathlib.Core.Path.{◌≡◌, ap, ◌∙◌}
use lib.ListN.{length, get_or}
use borrow.Author.Rules.{rules}
use Rattle.bits.specs.Lists.{elements}
use Rattle.protection.specs.Configs.{packed}
use Rattle.protection.proofs.Bytes.{eight_packed, high_half}
use Rattle.protection.proofs.configs.pmpcfg2.Goals as goal

pub returns : goal.returns
unfolding elements
returns c =
    let cfgs = c.args.cfgs in
    let long : length cfgs ≡ 16 = search rules in
    eight_packed cfgs 8 c.from_le_bytes.result (λ i. (let f : Fits w8 (get_or cfgs i 0) = search rules in f.fits)) (omega (arith, long)) c.from_le_bytes.ensures
    c.from_le_bytes.type_inv ∙ ap packed (high_half cfgs long)
