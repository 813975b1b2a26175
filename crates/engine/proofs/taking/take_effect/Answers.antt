use mathlib.Core.Path.{refl, ap, ◌∙◌}
use Rattle.paging.specs.Memory.{memory_of}
use Rattle.state.specs.declared.State.{State}
use Rattle.state.specs.Hold.{reset_state}
use Rattle.state.specs.Words.{state_of}
use Rattle.state.specs.Slices.{stored}
use Rattle.state.proofs.SliceLaws.{all-stored}
use Rattle.engine.specs.Effects.{access_step, event_effect}
use Rattle.engine.proofs.EffectLaws.{access_pmp}
use Rattle.engine.proofs.InPlace.{apart_tells, reset-back}
use Rattle.engine.proofs.taking.take_effect.Goals as goal

pub returns-in-Reset : goal.returns-in-Reset
returns-in-Reset c = let w = c.args.words.now in
    let fresh = reset_state (state_of w).pmp.grain in
    record {
      value = rw c.in-Reset.is refl;
      words_after = rw c.in-Reset.is (ap state_of (c.store.ensures ∙ ap (λ (s : State). stored s w) c.reset.ensures ∙ all-stored w c.told-words fresh) ∙ reset-back (state_of w).pmp.grain);
    }

pub returns-in-Access : goal.returns-in-Access
returns-in-Access c = let a = c.args in
    let s = state_of a.words.now in
    let m = memory_of a.memory in
    let both = apart_tells s (access_step s m c.in-Access.access c.in-Access.address c.in-Access.size) (access_pmp s m c.in-Access.access c.in-Access.address c.in-Access.size) (c.step_access.ensures.value, c.step_access.ensures.words_after) in
    record {
      value = rw c.in-Access.is (c.apart.ensures ∙ both.0);
      words_after = rw c.in-Access.is both.1;
    }

pub returns-in-Event : goal.returns-in-Event
returns-in-Event c = let s = state_of c.args.words.now in
    let both = apart_tells s (event_effect s c.in-Event.event) refl (c.step_event.ensures.value, c.step_event.ensures.words_after) in
    record {
      value = rw c.in-Event.is (c.apart-in-Event.ensures ∙ both.0);
      words_after = rw c.in-Event.is both.1;
    }
