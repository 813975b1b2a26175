-- 01, "What has to be nailed", and 02, [8] to [10]: what a query after a run answers, said by the registers alone. One memory is lent to the whole run.
use Rattle.std.specs.Prelude.{ℕ, cond, List, [], unwrap_or, option_map}
use Rattle.pmp.specs.declared.Mode.{Mode}
use Rattle.pmp.specs.declared.Access.{Access}
use Rattle.pmp.specs.declared.Decision.{Decision}
use Rattle.pmp.specs.declared.Decision.TheVariants.{Refused}
use Rattle.pmp.specs.Rule.{checked}
use Rattle.steps.specs.Number.{refusal_of}
use Rattle.steps.specs.Decode.{steps_of, name_steps}
use Rattle.paging.specs.Memory.{Memory}
use Rattle.state.specs.declared.State.{State}
use Rattle.text.specs.declared.Form.{Form}
use Rattle.engine.specs.Runs.{Lent, lent, after_all}
use Rattle.hart.specs.Saved.{read_anew}

-- the steps that numbers name, three for each; where three of them name none, or one or two are left over, no step is taken
abbrev pub steps_in : Memory → List ℕ → List Lent
steps_in m numbers = cond (name_steps numbers) (lent m (steps_of numbers)) []

-- the byte rule on the registers that the steps leave, with no map read; refusal 1 for a size other than 1, 2, 4, 8
abbrev pub rule_after : State → List Lent → Mode → Access → ℕ → ℕ → Decision
rule_after s steps mode access address size =
    checked (after_all s steps).pmp.grain (after_all s steps).pmp.cfgs (after_all s steps).pmp.addrs mode access address size

-- the same from the state of a text of either form; a refused text answers with its refusal
unfoldable pub rule_from_text : Form → List ℕ → List Lent → Mode → Access → ℕ → ℕ → Decision
rule_from_text form text steps mode access address size =
    unwrap_or (option_map Refused (refusal_of (read_anew form text).answer))
    (rule_after (read_anew form text).hart.state steps mode access address size)
