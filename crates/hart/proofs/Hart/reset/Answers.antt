use mathlib.Core.Path.{ap, ◌∙◌}
use Rattle.state.specs.declared.State.{State}
use Rattle.hart.specs.Steps.{map_for}
use Rattle.hart.proofs.Hart.reset.Goals as goal

pub returns : goal.returns
returns c =
    let e = c.reset-state.ensures in
    λ j. record { hart = record { state = e j }; map = (c.map_for-map.ensures ∙ ap (λ (s : State). map_for s.pmp) e) j }
