use mathlib.Core.Path.{sym}
use Rattle.state.proofs.Held.{other-length-holds, words_hold}
use Rattle.state.proofs.hold.words_can_hold.Goals as goal

pub returns-in_default : goal.returns-in_default
returns-in_default c = sym (other-length-holds c.args.words.now c.in_default.ensures.cases)

pub returns : goal.returns
returns c =
    let whole = c.in-Some.ensures.cases in
    rw (
      c.registers_can_hold-registers.ensures,
      c.registers_at.ensures,
      c.configs_can_hold-configs.ensures,
      c.addresses_can_hold-addresses.ensures,
      c.satp_can_hold-satp.ensures,
      c.grain_can_hold.ensures,
      whole.same,
    )
    (words_hold c.args.words.now whole.long)
