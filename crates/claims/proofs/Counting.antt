-- Elapsed counts; every other step but a reset and a write to a counter leaves it. Assumes nothing.
use Rattle.std.specs.Prelude.{Option, Some, None, Ok, Err}
use Prim.Native.Nat.{ℕ}
use mathlib.Core.Path.{◌≡◌, refl, sym, ap, ◌∙◌}
use mathlib.Core.Bool.{Bool, true, false, cond, not, ◌&&◌, true≢false, and-true}
use lib.Dec.{eqb, leb, ltb}
use Rattle.bits.specs.Mask.{within}
use Rattle.bits.proofs.Conjunction.{by_test}
use Rattle.pmp.specs.declared.Access.{Access}
use Rattle.pmp.specs.declared.Access.TheVariants.{Fetch, Load, Store}
use Rattle.pmp.specs.declared.Refusal.{Refusal}
use Rattle.pmp.specs.Rule.{none}
use Rattle.steps.specs.declared.Level.{Level}
use Rattle.steps.specs.declared.Level.TheVariants.{Supervisor, Machine}
use Rattle.steps.specs.declared.Trap.{Trap}
use Rattle.steps.specs.declared.Trap.TheVariants.{Exception, Interrupt}
use Rattle.steps.specs.declared.Operation.{Operation}
use Rattle.steps.specs.declared.Event.{Event}
use Rattle.steps.specs.declared.Event.TheVariants.{Raise, Lines, TakeInterrupt, Mret, Sret, Wfi, Ecall, Ebreak, Advance, Elapsed}
use Rattle.steps.specs.declared.Step.{Step}
use Rattle.steps.specs.declared.Step.TheVariants.{Reset, Csr, Access as AccessStep, Event as EventStep}
use Rattle.steps.specs.declared.Answer.TheVariants.{Done}
use Rattle.registers.specs.declared.Counters.{Counters}
use Rattle.registers.specs.declared.Registers.{Registers}
use Rattle.registers.specs.Masks.{lines_mask}
use Rattle.registers.specs.Hold.{aligned}
use Rattle.protection.specs.Read.{is_pmp}
use Rattle.protection.proofs.SameLaws.{same_pmp-refl}
use Rattle.paging.specs.declared.NotGranted.{NotGranted}
use Rattle.paging.specs.Memory.{Memory}
use Rattle.paging.specs.Access.{Reached, reached}
use Rattle.state.specs.declared.State.{State}
use Rattle.state.specs.Hold.{can_hold}
use Rattle.csr.specs.Permit.{attempts_write, illegal}
use Rattle.csr.specs.Store.{registers_written}
use Rattle.csr.specs.Operate.{registers_operated}
use Rattle.trap.specs.declared.Outcome.{Outcome}
use Rattle.trap.specs.Enter.{destination, entered, raised_by, raise_step}
use Rattle.trap.specs.Interrupt.{lines_step, machine_bound_first, taken_by, interrupt_taken}
use Rattle.trap.specs.Return.{returned, may_return, return_step, may_wait, waited}
use Rattle.trap.specs.Time.{advanced, elapsed}
use Rattle.trap.specs.Events.{event_step}
use Rattle.map.specs.declared.Map.{Map}
use Rattle.engine.specs.Effects.{Effect, refused, csr_step, access_decided, context_of, access_at, access_step, event_effect, step_rule}
use Rattle.hart.specs.declared.Hart.{Hart}
use Rattle.hart.specs.declared.Stepped.{Stepped}
use Rattle.hart.specs.Steps.{hart_with, handed_back, stepped}
use Rattle.hart.proofs.StepLaws.{step_parts}
use Rattle.claims.specs.Consequences.{is_elapsed, may_change, OthersLeave, elapsed_by}

-- ---- the steps of the registers alone leave all counters, but elapsed

abbrev Leaves : Registers → Outcome → Type 0
Leaves r o = o.registers.counters ≡ r.counters

entered-leaves : (level : Level) (trap : Trap) (tval : ℕ) (r : Registers) → (entered level trap tval r).counters ≡ r.counters
unfolding entered
entered-leaves Supervisor trap tval r = refl
entered-leaves Machine trap tval r = refl

module _ (r : Registers) where
  raised-leaves : (cause tval entry : ℕ) → Leaves r (raised_by r cause tval entry)
  unfolding raised_by
  raised-leaves cause tval entry = entered-leaves (destination r (Exception cause)) (Exception cause) tval r

  taken-leaves : (choice : Option ℕ) → Leaves r (taken_by r choice)
  taken-leaves (Some i) = entered-leaves (destination r (Interrupt i)) (Interrupt i) 0 r
  taken-leaves None = refl

  return_leaves : (level : Level) → Leaves r (return_step level r)
  unfolding return_step returned
  return_leaves level = by_test (Leaves r) (may_return level r) _ _ (λ t. refl) (λ t. raised-leaves 2 0 none)

  event_leaves : (event : Event) → is_elapsed event ≡ false → Leaves r (event_step r event)
  unfolding raise_step lines_step interrupt_taken waited advanced
  event_leaves (Raise cause tval) e = by_test (Leaves r) (leb cause 7) _ _ (λ t. raised-leaves cause tval none) (λ t. refl)
  event_leaves (Lines lines) e = by_test (Leaves r) (within lines_mask lines) _ _ (λ t. refl) (λ t. refl)
  event_leaves TakeInterrupt e = taken-leaves (machine_bound_first r)
  event_leaves Mret e = return_leaves Machine
  event_leaves Sret e = return_leaves Supervisor
  event_leaves Wfi e = by_test (Leaves r) (may_wait r) _ _ (λ t. refl) (λ t. raised-leaves 2 0 none)
  event_leaves Ecall e = raised-leaves _ 0 none
  event_leaves Ebreak e = raised-leaves 3 0 none
  event_leaves (Advance target) e = by_test (Leaves r) (aligned target) _ _ (λ t. refl) (λ t. raised-leaves 0 target none)
  event_leaves (Elapsed cycles retired) e = absurd (true≢false e)

-- ---- a write leaves a counter that it does not name

cond_same : {A : Type 0} (b : Bool) (x : A) → cond b x x ≡ x
cond_same true x = refl
cond_same false x = refl

through : {A B : Type 0} (f : A → B) (b : Bool) (x y : A) → f (cond b x y) ≡ cond b (f x) (f y)
through f true x y = refl
through f false x y = refl

-- a write to another number leaves the counter
abbrev WriteLeaves : ℕ → (Counters → ℕ) → Type 0
WriteLeaves number counter =
    (r : Registers) (n value : ℕ) → eqb n number ≡ false → counter (registers_written r n value).counters ≡ counter r.counters

mcycle_written : WriteLeaves 0xB00 (λ c. c.mcycle)
unfolding registers_written
mcycle_written r n value e = simp (through (λ (x : Registers). x.counters.mcycle), e, cond_same)

minstret_written : WriteLeaves 0xB02 (λ c. c.minstret)
unfolding registers_written
minstret_written r n value e = simp (through (λ (x : Registers). x.counters.minstret), e, cond_same)

-- ---- every step but those that may change the counter

module _ (number : ℕ) (counter : Counters → ℕ) (written : WriteLeaves number counter) (s : State) where
  abbrev Left : Effect → Type 0
  Left e = counter e.state.registers.counters ≡ counter s.registers.counters

  operated-leaves : (op : Operation) (n operand old : ℕ) → illegal s.registers op n ≡ false
      → (attempts_write op && (eqb n number && not (illegal s.registers op n))) ≡ false
      → counter (registers_operated s.registers op n operand old).counters ≡ counter s.registers.counters
  operated-leaves op n operand old legal e =
      by_test (λ (x : Registers). counter x.counters ≡ counter s.registers.counters) (attempts_write op) _ s.registers
      (λ t. written s.registers n _ (sym (and-true (eqb n number)) ∙ rw (t, legal) at e))
      (λ t. refl)

  csr_leaves : (op : Operation) (n operand : ℕ) → (attempts_write op && (eqb n number && not (illegal s.registers op n))) ≡ false
      → Left (csr_step s op n operand)
  unfolding csr_step
  csr_leaves op n operand e =
      by_test Left (ltb 4095 n) _ _ (λ t. refl)
      (λ t.
      by_test Left (illegal s.registers op n) _ _ (λ u. ap counter (raised-leaves s.registers 2 0 none))
      (λ u.
      by_test Left (is_pmp n) _ _ (λ v. refl) (λ v. by_test Left (eqb n 0x180) _ _ (λ w. refl) (λ w. operated-leaves op n operand _ u e))))

  decided-leaves : (d : Reached) → Left (access_decided s d)
  decided-leaves (Ok entry) = refl
  decided-leaves (Err (NotGranted.Fault cause tval entry)) = ap counter (raised-leaves s.registers cause tval entry)
  decided-leaves (Err (NotGranted.Refused n)) = refl

  at-leaves : (m : Memory) (access : Access) (address size : ℕ) → Left (access_at s m access address size)
  unfolding access_at
  at-leaves m access address size = decided-leaves (reached s.pmp m (context_of s access) address size)

  access_leaves : (m : Memory) (access : Access) (address size : ℕ) → Left (access_step s m access address size)
  access_leaves m Fetch address size = at-leaves m Fetch s.registers.pc 4
  access_leaves m Load address size = at-leaves m Load address size
  access_leaves m Store address size = at-leaves m Store address size

  -- refusal 3 leaves all
  held-leaves : (e : Effect) → (can_hold s ≡ true → Left e) → Left (cond (can_hold s) e (refused s Refusal.State))
  held-leaves e p = by_test Left (can_hold s) e (refused s Refusal.State) p (λ t. refl)

  rule_leaves : (m : Memory) (step : Step) → may_change number s step ≡ false → Left (step_rule s m step)
  unfolding step_rule
  rule_leaves m Reset e = absurd (true≢false e)
  rule_leaves m (Csr op n operand) e = held-leaves (csr_step s op n operand) (λ t. csr_leaves op n operand (rw t at e))
  rule_leaves m (AccessStep access address size) e = held-leaves (access_step s m access address size) (λ t. access_leaves m access address size)
  rule_leaves m (EventStep event) e = held-leaves (event_effect s event) (λ t. ap counter (event_leaves s.registers event (rw t at e)))

others_leave : (number : ℕ) (counter : Counters → ℕ) → WriteLeaves number counter → OthersLeave number counter
others_leave number counter written h map m step e =
    ap (λ (x : Stepped). counter x.hart.state.registers.counters) (step_parts h map m step) ∙ rule_leaves number counter written h.state m step e

pub mcycle_left : OthersLeave 0xB00 (λ c. c.mcycle)
mcycle_left = others_leave 0xB00 (λ c. c.mcycle) mcycle_written

pub minstret_left : OthersLeave 0xB02 (λ c. c.minstret)
minstret_left = others_leave 0xB02 (λ c. c.minstret) minstret_written

-- ---- elapsed

pub elapsed_counts : (h : Hart) (map : Map) (m : Memory) (cycles retired : ℕ) → can_hold h.state ≡ true
    → stepped h map m (EventStep (Elapsed cycles retired)) ≡ handed_back (hart_with (elapsed_by h cycles retired)) map Done
unfolding stepped step_rule elapsed
elapsed_counts h map m cycles retired p = rw (p, same_pmp-refl h.state.pmp)
