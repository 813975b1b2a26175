use Rattle.std.proofs.Common.{sym, ap, ◌∙◌, subst}
use Rattle.registers.specs.declared.Registers.{Registers}
use Rattle.state.specs.declared.State.{State}
use Rattle.state.specs.Words.{registers_of, state_of}
use Rattle.state.proofs.SliceLaws.{registers_loaded, registers_stored}
use Rattle.engine.specs.Effects.{with_registers}
use Rattle.engine.proofs.events.on_registers.Goals as goal

pub rule-outcome-requires : goal.rule-outcome-requires
rule-outcome-requires g c =
    subst (λ (r : Registers). goal.F-pre g c.args.rule r) (sym (c.load_registers.ensures ∙ registers_loaded c.args.words.now c.told-words)) c.requires

pub returns : goal.returns
returns g c =
    let w = c.args.words.now in
    let o = c.rule-outcome.result in
    let e = ap state_of c.store_registers.ensures ∙ registers_stored w c.told-words o.registers in
    let left = sym (ap (λ (s : State). s.registers) e) in
    record {
      made = subst (λ (r : Registers). goal.F-post g c.args.rule (registers_of w) (record { registers = r; answer = o.answer })) left (rw (c.load_registers.ensures ∙ registers_loaded w c.told-words) at c.rule-outcome.ensures);
      rest_kept = e ∙ ap (λ (r : Registers). with_registers (state_of w) r) left;
    }
