-- 01, "Protection, byte by byte", and 02, [5]: the access query of a hart.
use Rattle.std.specs.Prelude.{ℕ, cond, List}
use Rattle.pmp.specs.declared.Mode.{Mode}
use Rattle.pmp.specs.declared.Access.{Access}
use Rattle.pmp.specs.declared.Decision.{Decision}
use Rattle.pmp.specs.declared.Decision.TheVariants.{Refused}
use Rattle.pmp.specs.declared.Refusal.{Refusal}
use Rattle.steps.specs.Number.{decision_numbers}
use Rattle.map.specs.declared.Map.{Map}
use Rattle.map.specs.Query.{queried}
use Rattle.hart.specs.declared.Hart.{Hart}
use Rattle.state.specs.Hold.{can_hold}

-- refusal 3 goes before 1 and 7; once it is judged no address register is looked at
unfoldable pub query_answer : Hart → Map → Mode → Access → ℕ → ℕ → Decision
query_answer h map mode access address size =
    cond (can_hold h.state) (queried h.state.pmp.cfgs map mode access address size) (Refused Refusal.State)

-- the number and values of its answer
abbrev pub query_numbers : Hart → Map → Mode → Access → ℕ → ℕ → List ℕ
query_numbers h map mode access address size = decision_numbers (query_answer h map mode access address size)
