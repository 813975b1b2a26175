use mathlib.Core.Path.{refl, ap, ◌∙◌}
use Rattle.std.proofs.Common.{rules}
use Rattle.std.specs.Prelude.{Err}
use Rattle.paging.specs.Memory.{memory_of}
use Rattle.engine.proofs.InPlace.{access_does, fault_does}
use Rattle.engine.proofs.access.access_at.Goals as goal

pub returns-in-Ok : goal.returns-in-Ok
returns-in-Ok c = let a = c.args in
    let both = access_does a.words.now c.told-words (memory_of a.memory) a.access a.address a.size c.load_registers.ensures
    c.load_pmp-pmp.ensures c.load_satp.ensures c.effective_mode-mode.ensures c.reach.ensures c.in-Ok.is (refl, refl) in
    record {
      value = both.0;
      words_after = both.1;
    }

pub returns-in-Err-Fault : goal.returns-in-Err-Fault
returns-in-Err-Fault c = let a = c.args in
    let both = fault_does a.words.now c.told-words (memory_of a.memory) a.access a.address a.size c.load_registers.ensures
    c.load_pmp-pmp.ensures c.load_satp.ensures c.effective_mode-mode.ensures c.reach.ensures (c.in-Err-Fault.is ∙ ap Err c.in-Err-Fault.field-0-is)
    (search rules) c.on_registers.ensures.rest_kept in
    record {
      value = both.0;
      words_after = both.1;
    }

pub returns-in-Err-Refused : goal.returns-in-Err-Refused
returns-in-Err-Refused c = let a = c.args in
    let both = access_does a.words.now c.told-words (memory_of a.memory) a.access a.address a.size c.load_registers.ensures
    c.load_pmp-pmp.ensures c.load_satp.ensures c.effective_mode-mode.ensures c.reach.ensures (c.in-Err-Refused.is ∙ ap Err c.in-Err-Refused.field-0-is) (refl, refl) in
    record {
      value = both.0;
      words_after = both.1;
    }
