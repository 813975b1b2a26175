-- An access that is not translated, aligned or not, is decided by the byte rule on all its bytes at once; any access is granted or traps. Assumes nothing.
use Rattle.std.specs.Prelude.{Ok, Err}
use Prim.Native.Nat.{ℕ, ◌+◌, ◌*◌, ◌/◌, ◌%◌, ◌^◌}
use mathlib.Core.Path.{◌≡◌, refl, sym, ap, ◌∙◌}
use mathlib.Core.Bool.{Bool, true, false, cond, not, ◌||◌}
use mathlib.Core.Logic.{inl, inr}
use mathlib.Core.Option.{Option, none as nothing, some, none-ne-some}
use native.Mathlib.Omega.{arith}
use borrow.Author.Tests.{not-true}
use lib.Dec.{eqb}
use Rattle.pmp.specs.declared.Mode.{Mode}
use Rattle.pmp.specs.declared.Mode.TheVariants.{User, Supervisor, Machine}
use Rattle.pmp.specs.declared.Access.{Access}
use Rattle.pmp.specs.declared.Access.TheVariants.{Fetch, Load, Store}
use Rattle.pmp.specs.declared.Decision.{Decision}
use Rattle.pmp.specs.Number.{fault_cause}
use Rattle.protection.specs.Spans.{spans_of}
use Rattle.pmp.specs.Rule.{is_size}
use Rattle.pmp.proofs.RuleLaws.{checked_rule}
use Rattle.pmp.proofs.Answered.{GrantOrFault, grants, faults, rule_answers}
use Rattle.steps.specs.declared.Level.{Level}
use Rattle.steps.specs.declared.Level.TheVariants.{Supervisor, Machine}
use Rattle.steps.specs.declared.Trap.TheVariants.{Exception}
use Rattle.steps.specs.declared.Step.TheVariants.{Access as AccessStep}
use Rattle.steps.specs.declared.Answer.TheVariants.{Granted}
use Rattle.registers.specs.declared.Registers.{Registers}
use Rattle.registers.specs.Update.{level_of}
use Rattle.registers.specs.Effective.{effective_mode}
use Rattle.protection.proofs.SameLaws.{same_pmp-refl}
use Rattle.paging.specs.declared.NotGranted.{NotGranted}
use Rattle.paging.specs.Satp.{satp_mode}
use Rattle.paging.specs.Memory.{Memory, lawful}
use Rattle.paging.specs.Access.{Reached, page_fault_cause, translates, by_rule, room, reached}
use Rattle.paging.proofs.Answered.{Answered, grants as reach-grants, faults as reach-faults, page_faults, Starts, reached-answered, reached-physical}
use Rattle.state.specs.Hold.{can_hold}
use Rattle.trap.specs.Enter.{destination, entered, raised_by}
use Rattle.map.specs.declared.Map.{Map}
use Rattle.engine.specs.Effects.{with_registers, access_decided, context_of, access_at, step_rule}
use Rattle.hart.specs.declared.Hart.{Hart}
use Rattle.hart.specs.declared.Stepped.{Stepped}
use Rattle.hart.specs.Steps.{hart_with, handed_back, with_map, stepped}
use Rattle.claims.specs.Consequences.{cause_for, is_machine, rule_on, untranslated, page_cause_for, PartStarts, TrapsWith, OneAccess, AccessAnswered, start_of}
use Rattle.claims.specs.Refusals.{memory_refusal}

-- ---- an exception's entry writes its cause and trap value to the level that it goes to

recorded : (level : Level) (cause tval : ℕ) (r : Registers)
    → ((level_of level (entered level (Exception cause) tval r)).cause ≡ cause) × ((level_of level (entered level (Exception cause) tval r)).tval ≡ tval)
unfolding entered
recorded Supervisor cause tval r = (refl, refl)
recorded Machine cause tval r = (refl, refl)

module _ (h : Hart) (map : Map) where
  -- what an exception makes of a hart; the map is as given
  abbrev trapped : ℕ → ℕ → ℕ → Stepped
  trapped cause tval decider =
      handed_back (hart_with (with_registers h.state (raised_by h.state.registers cause tval decider).registers)) map
      (raised_by h.state.registers cause tval decider).answer

  traps_with : (cause tval decider : ℕ) (after : Stepped) → after ≡ trapped cause tval decider → TrapsWith h map cause tval decider after
  unfolding raised_by
  traps_with cause tval decider after e =
      let r = h.state.registers in
      let level = destination r (Exception cause) in
      record {
        entry = e;
        answer = ap (λ (x : Stepped). x.answer) e;
        recorded = (
          ap (λ (x : Stepped). (level_of level x.hart.state.registers).cause) e ∙ (recorded level cause tval r).0,
          ap (λ (x : Stepped). (level_of level x.hart.state.registers).tval) e ∙ (recorded level cause tval r).1,
        );
      }

  -- what is decided leaves the map as it is
  granted-leaves : (after : Stepped) (d : Reached) (entry : ℕ) → after ≡ with_map h map (access_decided h.state d) → d ≡ Ok entry
      → after ≡ handed_back h map (Granted entry)
  granted-leaves after d entry e q =
      e ∙ ap (λ (x : Reached). with_map h map (access_decided h.state x)) q ∙ rw (same_pmp-refl h.state.pmp)

  fault_traps : (after : Stepped) (d : Reached) (cause tval entry : ℕ) → after ≡ with_map h map (access_decided h.state d)
      → d ≡ Err (NotGranted.Fault cause tval entry) → TrapsWith h map cause tval entry after
  fault_traps after d cause tval entry e q =
      traps_with cause tval entry after
      (e ∙ ap (λ (x : Reached). with_map h map (access_decided h.state x)) q ∙ rw (same_pmp-refl h.state.pmp))

  -- ---- one decision

  untranslated_is : (mode : Mode) (satp : ℕ) → (is_machine mode || not (eqb (satp_mode satp) 8)) ≡ true → translates satp mode ≡ false
  untranslated_is User satp e = not-true (eqb (satp_mode satp) 8) e
  untranslated_is Supervisor satp e = not-true (eqb (satp_mode satp) 8) e
  untranslated_is Machine satp e = refl

  module _ (m : Memory) (access : Access) (address size : ℕ) (stands : lawful m ≡ true) (physical : untranslated h access ≡ true)
      (sized : is_size size ≡ true) where
    reaches : reached h.state.pmp m (context_of h.state access) address size ≡ by_rule address (rule_on h access address size)
    reaches =
        reached-physical h.state.pmp m (context_of h.state access) address size stands
        (untranslated_is (effective_mode h.state.registers access) h.state.satp physical)
        ∙ ap (by_rule address)
        (checked_rule h.state.pmp.grain h.state.pmp.cfgs h.state.pmp.addrs (effective_mode h.state.registers access) access address size sized)

    one_decision : (after : Stepped) → after ≡ with_map h map (access_at h.state m access address size)
        → OneAccess h map access (fault_cause access) address size after
    unfolding access_at
    one_decision after e =
        go (rule_on h access address size) refl
        (rule_answers (spans_of h.state.pmp) h.state.pmp.cfgs (effective_mode h.state.registers access) access
        address size)
      where
        go : (d : Decision) → rule_on h access address size ≡ d → GrantOrFault access d → OneAccess h map access (fault_cause access) address size after
        go _ q (grants entry b) =
            record {
              decider = entry;
              known = b;
              decision = inl (q, granted-leaves after _ entry e (reaches ∙ ap (by_rule address) q));
            }
        go _ q (faults entry b) =
            record {
              decider = entry;
              known = b;
              decision = inr (q, fault_traps after _ (fault_cause access) address entry e (reaches ∙ ap (by_rule address) q));
            }

  -- ---- any access that is not refused

  causes : (access : Access) → (cause_for access ≡ fault_cause access) × (page_cause_for access ≡ page_fault_cause access)
  causes Fetch = (refl, refl)
  causes Load = (refl, refl)
  causes Store = (refl, refl)

  -- the boundary behind an address
  placed : (address tval : ℕ) → Starts address tval → PartStarts address tval
  placed address tval (inl e) = inl e
  placed address tval (inr e) =
      let k : address + room address ≡ (address / 4096 + 1) * 4096 = omega arith in
      inr (e ∙ ap (λ (n : ℕ). n % 2 ^ 64) k)

  answered : (access : Access) (address : ℕ) (after : Stepped) (d : Reached) → Answered access (Starts address) d → after ≡ with_map h map (access_decided h.state d) → AccessAnswered h map access address after
  answered access address after _ (reach-grants entry b) e =
      record {
        decider = entry;
        known = b;
        cause = cause_for access;
        tval = address;
        kind = inl refl;
        start = inl refl;
        decision = inl (granted-leaves after _ entry e refl);
      }
  answered access address after _ (reach-faults tval entry a b) e =
      record {
        decider = entry;
        known = b;
        cause = fault_cause access;
        tval = tval;
        kind = inl (sym (causes access).0);
        start = placed address tval a;
        decision = inr (fault_traps after _ (fault_cause access) tval entry e refl);
      }
  answered access address after _ (page_faults tval a) e =
      record {
        decider = 16;
        known = omega arith;
        cause = page_fault_cause access;
        tval = tval;
        kind = inr (sym (causes access).1, refl);
        start = placed address tval a;
        decision = inr (fault_traps after _ (page_fault_cause access) tval 16 e refl);
      }

  -- the table of refusals passes it: the memory stands where it can, and the size is one
  abbrev table : Bool → Bool → Option ℕ
  table a b = cond a (cond b nothing (some 1)) (some 13)

  passed : (a b : Bool) → table a b ≡ nothing → (a ≡ true) × (b ≡ true)
  passed true true e = (refl, refl)
  passed true false e = absurd (none-ne-some 1 (sym e))
  passed false b e = absurd (none-ne-some 13 (sym e))

  at-answered : (m : Memory) (access : Access) (address size : ℕ) → table (lawful m) (is_size size) ≡ nothing
      → (after : Stepped) → after ≡ with_map h map (access_at h.state m access address size) → AccessAnswered h map access address after
  unfolding access_at
  at-answered m access address size n after e =
      let k = passed (lawful m) (is_size size) n in
      answered access address after _ (reached-answered h.state.pmp m (context_of h.state access) address size k.0 k.1) e

module _ (h : Hart) (map : Map) (m : Memory) (address size : ℕ) (held : can_hold h.state ≡ true) where
  module _ (stands : lawful m ≡ true) where
    pub one_load : untranslated h Load ≡ true → is_size size ≡ true → OneAccess h map Load 5 address size (stepped h map m (AccessStep Load address size))
    unfolding stepped step_rule
    one_load physical sized = one_decision h map m Load address size stands physical sized _ (rw held)

    pub one_store : untranslated h Store ≡ true → is_size size ≡ true
        → OneAccess h map Store 7 address size (stepped h map m (AccessStep Store address size))
    unfolding stepped step_rule
    one_store physical sized = one_decision h map m Store address size stands physical sized _ (rw held)

    pub one_fetch : untranslated h Fetch ≡ true → OneAccess h map Fetch 1 h.state.registers.pc 4 (stepped h map m (AccessStep Fetch address size))
    unfolding stepped step_rule
    one_fetch physical = one_decision h map m Fetch h.state.registers.pc 4 stands physical refl _ (rw held)

  fetch-answered : memory_refusal m Fetch size ≡ nothing → AccessAnswered h map Fetch h.state.registers.pc (stepped h map m (AccessStep Fetch address size))
  unfolding stepped step_rule
  fetch-answered n = at-answered h map m Fetch h.state.registers.pc 4 n _ (rw held)

  load-answered : memory_refusal m Load size ≡ nothing → AccessAnswered h map Load address (stepped h map m (AccessStep Load address size))
  unfolding stepped step_rule
  load-answered n = at-answered h map m Load address size n _ (rw held)

  store-answered : memory_refusal m Store size ≡ nothing → AccessAnswered h map Store address (stepped h map m (AccessStep Store address size))
  unfolding stepped step_rule
  store-answered n = at-answered h map m Store address size n _ (rw held)

  pub access_answered : (access : Access) → memory_refusal m access size ≡ nothing
      → AccessAnswered h map access (start_of h access address) (stepped h map m (AccessStep access address size))
  access_answered Fetch n = fetch-answered n
  access_answered Load n = load-answered n
  access_answered Store n = store-answered n
