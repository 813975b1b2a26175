-- 02, [8] to [10]: the states that the first form of a saved text, 01's, can hold.
use Rattle.std.specs.Prelude.{Bool, not, ◌&&◌, eqb}
use Rattle.bits.specs.Mask.{within}
use Rattle.registers.specs.Status.{sum}
use Rattle.state.specs.declared.State.{State}

-- refusal 12 where not: satp, the grain and SUM are 0, and medeleg has no bit outside 0x3FF. A text of that form, whose satp and grain are 0, is refused by 5 for
-- the others
unfoldable pub first_form_holds : State → Bool
first_form_holds s = (eqb s.satp 0 && eqb s.pmp.grain 0) && (not (sum s.registers.mstatus) && within 0x3FF s.registers.medeleg)
