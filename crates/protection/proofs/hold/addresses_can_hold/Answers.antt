use Rattle.std.proofs.Common.{rules, ◌≡◌}
use Rattle.std.specs.Prelude.{fold}
use lib.Bits.{bit_or}
use Rattle.protection.proofs.Bytes.{fold_below}
use Rattle.protection.proofs.hold.addresses_can_hold.Goals as goal

pub returns : goal.returns
returns c = let any : c.fold-any.result ≡ fold bit_or 0 c.args.addrs.now = search rules in rw any (fold_below 54 0 c.args.addrs.now)
