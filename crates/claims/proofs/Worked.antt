-- The worked settings hold of the definitions, by computation. Assumes nothing.
use Prim.Native.Nat.{ℕ}
use mathlib.Core.Path.{◌≡◌, refl}
use mathlib.Core.Bool.{Bool, true, false, cond}
use lib.Dec.{eqb}
use Rattle.bits.specs.Lists.{all}
use Rattle.bits.proofs.Conjunction.{by_test}
use Rattle.pmp.specs.declared.Mode.{Mode}
use Rattle.pmp.specs.declared.Mode.TheVariants.{User, Supervisor, Machine}
use Rattle.pmp.specs.declared.Access.{Access}
use Rattle.pmp.specs.declared.Decision.{Decision}
use Rattle.pmp.specs.declared.Decision.TheVariants.{Granted, Fault}
use Rattle.pmp.specs.Number.{fault_cause}
use Rattle.pmp.specs.Search.{lowest, any_byte, every_byte}
use Rattle.pmp.specs.Entry.{trailing_ones, span_of, address_read, locked}
use Rattle.pmp.specs.Rule.{none, permission, entry_decides, none_decides, lowest_match, byte_rule, checked}
use Rattle.registers.specs.Hold.{registers_holdable}
use Rattle.protection.specs.Hold.{pmp_holdable}
use Rattle.protection.specs.Configs.{packed, unpacked, configs_of}
use Rattle.protection.specs.Write.{configs_written, pmp_written}
use Rattle.state.specs.Hold.{can_hold}
use Rattle.state.specs.Texts.{first_form_holds}
use Rattle.trap.specs.Enter.{entered_status, entered}
use Rattle.trap.specs.Interrupt.{takeable, interrupt_taken}
use Rattle.trap.specs.Return.{returned_status, returned, return_step}
use Rattle.trap.specs.Time.{elapsed}
use Rattle.map.specs.Painting.{painted, ranges_of}
use Rattle.engine.specs.Effects.{step_rule}
use Rattle.claims.specs.Worked.{decider, AllRight, settings, na4, napot}

chosen : (b : Bool) (c i : ℕ) → decider (cond b (Granted i) (Fault c i)) ≡ i
chosen true c i = refl
chosen false c i = refl

-- an entry that decides tells its number, whatever it grants
entry_tells : (mode : Mode) (access : Access) (cfg i : ℕ) → decider (entry_decides mode access cfg i) ≡ i
entry_tells User access cfg i = chosen (eqb (permission access cfg) 1) (fault_cause access) i
entry_tells Supervisor access cfg i = chosen (eqb (permission access cfg) 1) (fault_cause access) i
entry_tells Machine access cfg i =
    by_test (λ (d : Decision). decider d ≡ i) (locked cfg) _ _ (λ t. chosen (eqb (permission access cfg) 1) (fault_cause access) i) (λ t. refl)

none_tells : (mode : Mode) (access : Access) → decider (none_decides mode access) ≡ none
none_tells User access = refl
none_tells Supervisor access = refl
none_tells Machine access = refl

pub worked : AllRight settings
unfolding lowest any_byte every_byte trailing_ones span_of address_read lowest_match byte_rule checked painted ranges_of
    registers_holdable pmp_holdable first_form_holds all entered_status entered takeable interrupt_taken returned_status returned return_step elapsed can_hold step_rule packed unpacked configs_of configs_written pmp_written
worked =
    (λ mode access. refl, (refl, (refl, (refl, (refl, (refl, (refl, (refl, (refl, (refl, (refl, (λ mode access. entry_tells mode access na4 0, (none_tells, (λ mode access. entry_tells mode access napot 0, (λ mode access. refl, (none_tells, (λ mode access. refl, (λ mode access. entry_tells mode access napot 0, (none_tells, (λ mode access. refl, (none_tells, (λ mode access. entry_tells mode access napot 0, (λ mode access. refl, (λ mode access. refl, (none_tells, (none_tells, (λ mode access. entry_tells mode access napot 1, (λ mode access. refl, (λ mode access. refl, (none_tells, (λ mode access. entry_tells mode access na4 15, (λ mode access. refl, (none_tells, (refl, (refl, (refl, (refl, (refl, (refl, (refl, (refl, (refl, (refl, (refl, (refl, (refl, (refl, (refl, (refl, (refl, (refl, (refl, (refl, ((refl, refl), ((refl, refl), ((refl, refl), (refl, (refl, (refl, (refl, (refl, (refl, (refl, (refl, (refl, (refl, (refl, (refl, ((refl, refl), ((refl, refl), ((refl, refl), ((refl, refl), ((refl, refl), ((refl, refl), (refl, (refl, (refl, (refl, (refl, (refl, ((refl, refl), ((refl, refl), ((refl, refl), (refl, (refl, ((refl, refl), ((refl, refl), ((refl, refl), ((refl, refl), ((refl, refl), ((refl, refl), ((refl, refl), ((refl, refl), ((refl, refl), ((refl, refl), ((refl, refl), ((refl, refl), ((refl, refl), ((refl, refl), ((refl, refl), ((refl, refl), ((refl, refl), ((refl, refl), ((refl, refl), ((refl, refl), ((refl, refl), ((refl, refl), ((refl, refl), ((refl, refl), ((refl, refl), tt))))))))))))))))))))))))))))))))))))))))))))))))))))))))))))))))))))))))))))))))))))))))))))))))))))))))))))))
