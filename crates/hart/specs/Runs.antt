-- 01, "What has to be nailed", and 02, [8]: a list of steps by a hart, each given the state and the map that the one before handed back, and the memory
-- lent at it.
use Rattle.std.specs.Prelude.{ℕ, List}
use Rattle.bits.specs.Fold.{fold, outputs}
use Rattle.map.specs.declared.Map.{Map}
use Rattle.engine.specs.Runs.{Lent}
use Rattle.hart.specs.declared.Hart.{Hart}
use Rattle.hart.specs.declared.Mapped.{Mapped}
use Rattle.hart.specs.Steps.{stepped, step_numbers}

-- a hart with a map
abbrev pub with : Hart → Map → Mapped
with h map = record { hart = h; map = map }

-- what a step hands on: a refused one hands on what went in
abbrev pub handed_on : Mapped → Lent → Mapped
handed_on g l = with (stepped g.hart g.map l.memory l.step).hart (stepped g.hart g.map l.memory l.step).map

abbrev pub left_by : Hart → Map → List Lent → Mapped
left_by h map steps = fold handed_on (with h map) steps

-- the answers, four numbers each
abbrev pub answers_by : Hart → Map → List Lent → List ℕ
answers_by h map steps = outputs handed_on (λ g l. step_numbers g.hart g.map l.memory l.step) (with h map) steps
