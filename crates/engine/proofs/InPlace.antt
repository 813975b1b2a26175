-- What the calls on words give, put together as the rules say. Assumes nothing.
use Rattle.std.specs.Prelude.{Err}
use Prim.Native.Nat.{ℕ, ◌≤◌, ◌<◌}
use mathlib.Core.Path.{◌≡◌, refl, sym, ap, ◌∙◌}
use mathlib.Core.Bool.{Bool, true, false, cond, not}
use mathlib.Core.List.{List}
use native.Mathlib.Omega.{arith}
use lib.Dec.{eqb}
use lib.ListN.{length, get_or, set}
use borrow.Author.Tests.{lt-ltb, le-ltb, eq-eqb, ne_eqb}
use Rattle.bits.specs.Lists.{elements}
use Rattle.pmp.specs.declared.Mode.{Mode}
use Rattle.pmp.specs.declared.Access.{Access}
use Rattle.pmp.specs.declared.Refusal.{Refusal}
use Rattle.steps.specs.declared.Operation.{Operation}
use Rattle.steps.specs.declared.Level.{Level}
use Rattle.steps.specs.declared.Answer.{Answer}
use Rattle.steps.specs.declared.Answer.TheVariants.{Done, DoneValue, Refused}
use Rattle.registers.specs.declared.Registers.{Registers}
use Rattle.registers.specs.Update.{with_pc}
use Rattle.registers.specs.Effective.{effective_mode}
use Rattle.protection.specs.declared.Pmp.{Pmp}
use Rattle.protection.specs.Arrays.{Arrays}
use Rattle.protection.specs.Configs.{packed, unpacked, configs_of}
use Rattle.protection.specs.Read.{is_pmp, pmp_read}
use Rattle.protection.specs.Same.{same_pmp}
use Rattle.protection.proofs.SameLaws.{same_pmp-refl}
use Rattle.paging.specs.Memory.{Memory}
use Rattle.paging.specs.declared.NotGranted.{NotGranted}
use Rattle.paging.specs.Access.{Reached, reached}
use Rattle.state.specs.declared.State.{State}
use Rattle.state.specs.Hold.{reset_state}
use Rattle.state.specs.Words.{words_of, registers_of, pmp_of, state_of}
use Rattle.state.specs.Slices.{loaded_registers, loaded_pmp, loaded_satp, stored_registers, stored_pmp, stored_satp}
use Rattle.state.proofs.SliceLaws.{registers_loaded, pmp-loaded, satp-loaded, registers_stored, registers_length, pmp-stored, pmp-length, satp-stored, satp-length, one_stored}
use Rattle.csr.specs.Permit.{illegal}
use Rattle.csr.specs.Show.{register_read}
use Rattle.csr.specs.Operate.{registers_operated}
use Rattle.trap.specs.declared.Outcome.{Outcome}
use Rattle.trap.specs.Enter.{raised_by, illegal_instruction}
use Rattle.trap.specs.Return.{returned, may_return, return_step, next_pc}
use Rattle.engine.specs.declared.Taken.{Taken}
use Rattle.engine.specs.Effects.{Effect, refused, with_registers, with_pmp, with_satp, on_registers, pmp_operated, satp_operated, protection_step, satp_step, register_step, csr_step, access_decided, context_of, access_at}
use Rattle.engine.specs.Taking.{apart, taken}

-- an answer, and the state of the words that are left: those of an effect
abbrev pub Does : Effect → Answer → State → Type 0
Does e a x = (a ≡ e.answer) × (x ≡ e.state)

-- the same with what is told of the step
abbrev pub Tells : State → Effect → Taken → State → Type 0
Tells s e t x = (t ≡ taken s e) × (x ≡ e.state)

-- a step that leaves the protection registers alone asks for no fresh map
pub apart_taken : (s : State) (e : Effect) → s.pmp ≡ e.state.pmp → apart e.answer ≡ taken s e
apart_taken s e p = rw (← p, same_pmp-refl s.pmp)

-- what was told of a step by an equal answer and words
pub apart_tells : (s : State) (e : Effect) {a : Answer} {x : State} → s.pmp ≡ e.state.pmp → Does e a x
    → Tells s e (apart a) x
apart_tells s e p d = (ap (λ (y : Answer). apart y) d.0 ∙ apart_taken s e p, d.1)

pub reset-back : (g : ℕ) → state_of (words_of (reset_state g)) ≡ reset_state g
unfolding words_of elements packed unpacked configs_of
reset-back g = refl

-- pc, stored where it lies
pc_stored : (w : List ℕ) → length w ≡ 43 → (pc : ℕ) → state_of (set w 1 pc) ≡ with_registers (state_of w) (with_pc (registers_of w) pc)
pc_stored w fit pc =
    let r = with_pc (registers_of w) pc in
    ap state_of (one_stored w fit 1 pc r (omega arith) refl) ∙ registers_stored w fit r

-- an outcome that a rule made of the registers, and what was left of it
pub left : (s : State) {o : Outcome} {a : Answer} {x : State} → record { registers = x.registers; answer = a } ≡ o → x ≡ with_registers s x.registers
    → Does (on_registers s o) a x
left s eo ex = (ap (λ (o : Outcome). o.answer) eo, ex ∙ ap (λ (o : Outcome). with_registers s o.registers) eo)

module _ (w : List ℕ) (fit : length w ≡ 43) where
  -- a return, from whether the mode may and what was stored
  module _ (level : Level) {r : Registers} (er : r ≡ loaded_registers w) {b : Bool} (eb : b ≡ may_return level r) where
    may : may_return level (registers_of w) ≡ b
    may = sym (eb ∙ ap (may_return level) (er ∙ registers_loaded w fit))

    pub return_illegal : b ≡ false → {a : Answer} {x : State} → record { registers = x.registers; answer = a } ≡ illegal_instruction (registers_of w)
        → x ≡ with_registers (state_of w) x.registers → Does (on_registers (state_of w) (return_step level (registers_of w))) a x
    unfolding return_step
    return_illegal e eo ex = rw (may, e) (left (state_of w) eo ex)

    pub return_done : b ≡ true → {again : Registers} → again ≡ loaded_registers w → {after : Registers} → after ≡ returned level again → {x : List ℕ}
        → x ≡ stored_registers after w → Does (on_registers (state_of w) (return_step level (registers_of w))) Done (state_of x)
    unfolding return_step
    return_done e el {after} ea ex =
        rw (may, e) (
          refl,
          ap state_of ex ∙ registers_stored w fit after
              ∙ ap (with_registers (state_of w)) (ea ∙ ap (returned level) (el ∙ registers_loaded w fit)),
        )

  -- ---- an access, from the mode and the decision that were found

  module _ (m : Memory) (access : Access) (address size : ℕ) {r : Registers} {p : Pmp} {satp : ℕ} (er : r ≡ loaded_registers w) (ep : p ≡ loaded_pmp w)
      (es : satp ≡ loaded_satp w) {mode : Mode} (em : mode ≡ effective_mode r access) {d : Reached}
      (ed : d ≡ reached p m (record { satp = satp; mstatus = get_or w 2 0; mode = mode; access = access }) address size) where
    context_is : record { satp = satp; mstatus = get_or w 2 0; mode = mode; access = access } ≡ context_of (state_of w) access
    context_is =
        λ j.
        record {
          satp = (es ∙ satp-loaded w fit) j;
          mstatus = get_or w 2 0;
          mode = (em ∙ ap (λ (y : Registers). effective_mode y access) (er ∙ registers_loaded w fit)) j;
          access = access;
        }

    decided_is : access_decided (state_of w) d ≡ access_at (state_of w) m access address size
    unfolding access_at
    decided_is =
        ap (access_decided (state_of w)) (ed ∙ (λ j. reached ((ep ∙ pmp-loaded w fit) j) m (context_is j) address size))

    pub access_does : {e : Reached} → d ≡ e → {a : Answer} {x : State} → Does (access_decided (state_of w) e) a x
        → Does (access_at (state_of w) m access address size) a x
    access_does q k =
        let e = ap (access_decided (state_of w)) (sym q) ∙ decided_is in
        (k.0 ∙ ap (λ (y : Effect). y.answer) e, k.1 ∙ ap (λ (y : Effect). y.state) e)

    pub fault_does : {cause tval entry : ℕ} → d ≡ Err (NotGranted.Fault cause tval entry) → {a : Answer} {x : State}
        → record { registers = x.registers; answer = a } ≡ raised_by (registers_of w) cause tval entry
        → x ≡ with_registers (state_of w) x.registers → Does (access_at (state_of w) m access address size) a x
    fault_does q eo ex = access_does q (left (state_of w) eo ex)

  -- ---- a CSR step

  module _ (op : Operation) (number operand : ℕ) where
    pub number-refused : 4095 < number → Tells (state_of w) (csr_step (state_of w) op number operand) (apart (Refused Refusal.Argument)) (state_of w)
    unfolding csr_step
    number-refused h = rw (lt-ltb 4095 number h) (apart_taken (state_of w) (refused (state_of w) Refusal.Argument) refl, refl)

    module _ (low : number ≤ 4095) {r : Registers} (er : r ≡ loaded_registers w) {b : Bool} (eb : b ≡ illegal r op number) where
      illegal_is : illegal (registers_of w) op number ≡ b
      illegal_is = sym (eb ∙ ap (λ (y : Registers). illegal y op number) (er ∙ registers_loaded w fit))

      -- the step by the tests that were made
      by_tests : (c d : Bool) → is_pmp number ≡ c → eqb number 0x180 ≡ d
          → csr_step (state_of w) op number operand
          ≡ cond b (on_registers (state_of w) (illegal_instruction (registers_of w)))
          (cond c (protection_step (state_of w) op number operand)
          (cond d (satp_step (state_of w) op operand) (register_step (state_of w) op number operand)))
      unfolding csr_step
      by_tests c d e f = rw (le-ltb 4095 number low, illegal_is, e, f)

      told : {e : Effect} {t : Taken} {x : State} → csr_step (state_of w) op number operand ≡ e → Tells (state_of w) e t x
          → Tells (state_of w) (csr_step (state_of w) op number operand) t x
      told q k = (k.0 ∙ ap (taken (state_of w)) (sym q), k.1 ∙ ap (λ (y : Effect). y.state) (sym q))

      pub csr_illegal : b ≡ true → {a : Answer} {t : Taken} {x : State} → record { registers = x.registers; answer = a } ≡ illegal_instruction (registers_of w)
          → x ≡ with_registers (state_of w) x.registers → t ≡ apart a → Tells (state_of w) (csr_step (state_of w) op number operand) t x
      csr_illegal p eo ex et =
          let i = on_registers (state_of w) (illegal_instruction (registers_of w)) in
          let k = apart_tells (state_of w) i refl (left (state_of w) eo ex) in
          told (by_tests (is_pmp number) (eqb number 0x180) refl refl ∙ rw p) (et ∙ k.0, k.1)

      module _ (legal : b ≡ false) where
        pub csr_protection : {c : Bool} → c ≡ is_pmp number → c ≡ true → {t : Taken} {x : State}
            → (t ≡ taken (state_of w) (protection_step (state_of w) op number operand))
            → x ≡ (protection_step (state_of w) op number operand).state
            → Tells (state_of w) (csr_step (state_of w) op number operand) t x
        csr_protection e p et ex = told (by_tests true (eqb number 0x180) (sym e ∙ p) refl ∙ rw legal) (et, ex)

        pub csr_satp : {c : Bool} → c ≡ is_pmp number → c ≡ false → number ≡ 0x180 → {t : Taken} {x : State}
            → (t ≡ taken (state_of w) (satp_step (state_of w) op operand))
            → x ≡ (satp_step (state_of w) op operand).state
            → Tells (state_of w) (csr_step (state_of w) op number operand) t x
        csr_satp e p q et ex = told (by_tests false true (sym e ∙ p) (eq-eqb number 0x180 q) ∙ rw legal) (et, ex)

        pub csr_register : {c : Bool} → c ≡ is_pmp number → c ≡ false → (number ≡ 0x180 → ⊥) → {again : Registers} → again ≡ loaded_registers w → {old : ℕ} → old ≡ register_read again number
            → {pc : ℕ} → pc ≡ next_pc (registers_of w) → {v : List ℕ} → v ≡ stored_registers (registers_operated (loaded_registers w) op number operand old) w → {t : Taken}
            → t ≡ apart (DoneValue old)
            → Tells (state_of w) (csr_step (state_of w) op number operand) t (state_of (set v 1 pc))
        csr_register e p q el {old} eo {pc} ep {v} ev et =
            let s = state_of w in
            let g = registers_loaded w fit in
            let o : old ≡ register_read (registers_of w) number = eo ∙ ap (λ (y : Registers). register_read y number) (el ∙ g) in
            let f = registers_operated (loaded_registers w) op number operand old in
            let z : state_of v ≡ with_registers s (registers_operated (registers_of w) op number operand (register_read (registers_of w) number)) =
            ap state_of ev ∙ registers_stored w fit f ∙ (λ j. with_registers s (registers_operated (g j) op number operand (o j))) in
            told (by_tests false false (sym e ∙ p) (ne_eqb number 0x180 q) ∙ rw legal) (
              et ∙ ap (λ (y : ℕ). apart (DoneValue y)) o ∙ apart_taken s (register_step s op number operand) refl,
              pc_stored v (ap length ev ∙ registers_length w fit f) pc ∙ (λ j. with_registers (z j) (with_pc (z j).registers (ep j))),
            )

    -- a step on a protection register, from what was read, made of it and written
    pub protection_done : {p : Pmp} → p ≡ loaded_pmp w → {old : ℕ} → old ≡ pmp_read p number → {after : Pmp}
        → after ≡ pmp_operated p op number operand old → Arrays after → {pc : ℕ} → pc ≡ next_pc (registers_of w)
        → {v : List ℕ} → v ≡ stored_pmp after w → {same : Bool} → same ≡ same_pmp p after
        → Tells (state_of w) (protection_step (state_of w) op number operand) (record { answer = DoneValue old; told = record { held = true; remap = not same } }) (state_of (set v 1 pc))
    protection_done {p} ep {old} eo {after} ea t {pc} epc {v} ev es =
        let q = ep ∙ pmp-loaded w fit in
        let o : old ≡ pmp_read (pmp_of w) number = eo ∙ ap (λ (y : Pmp). pmp_read y number) q in
        let f : after ≡ pmp_operated (pmp_of w) op number operand (pmp_read (pmp_of w) number) =
        ea ∙ (λ j. pmp_operated (q j) op number operand (o j)) in
        let z : state_of v ≡ with_pmp (state_of w) after = ap state_of ev ∙ pmp-stored w fit after t in (
          (λ j. record { answer = DoneValue (o j); told = record { held = true; remap = not ((es ∙ (λ i. same_pmp (q i) (f i))) j) } }),
          pc_stored v (ap length ev ∙ pmp-length w fit after) pc
              ∙ (λ j. with_registers (z j) (with_pc (z j).registers pc))
              ∙ (λ j. with_registers (with_pmp (state_of w) (f j)) (with_pc (registers_of w) (epc j))),
        )

    -- a step on satp, from what was read, made of it and written
    pub satp-done : {old : ℕ} → old ≡ loaded_satp w → {after : ℕ} → after ≡ satp_operated old op operand → {pc : ℕ} → pc ≡ next_pc (registers_of w)
        → {v : List ℕ} → v ≡ stored_satp after w → {t : Taken} → t ≡ apart (DoneValue old)
        → Tells (state_of w) (satp_step (state_of w) op operand) t (state_of (set v 1 pc))
    satp-done {old} eo {after} ea {pc} epc {v} ev et =
        let s = state_of w in
        let o : old ≡ s.satp = eo ∙ satp-loaded w fit in
        let z : state_of v ≡ with_satp s (satp_operated s.satp op operand) =
        ap state_of ev ∙ satp-stored w fit after ∙ ap (with_satp s) (ea ∙ ap (λ (y : ℕ). satp_operated y op operand) o) in (
          et ∙ ap (λ (y : ℕ). apart (DoneValue y)) o ∙ apart_taken s (satp_step s op operand) refl,
          pc_stored v (ap length ev ∙ satp-length w fit after) pc ∙ (λ j. with_registers (z j) (with_pc (z j).registers (epc j))),
        )
