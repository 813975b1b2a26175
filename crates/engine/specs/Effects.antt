-- 01, "Steps", and 02, [5], [8] and [9]: what each of the eighteen steps does to the state and answers, with the memory lent to it. No map is read.
use Rattle.std.specs.Prelude.{ℕ, Bool, true, false, cond, ◌||◌, eqb, ltb, Ok, Err}
use Rattle.pmp.specs.declared.Access.{Access}
use Rattle.pmp.specs.declared.Access.TheVariants.{Fetch, Load, Store}
use Rattle.pmp.specs.declared.Refusal.{Refusal}
use Rattle.steps.specs.declared.Operation.{Operation}
use Rattle.steps.specs.declared.Event.{Event}
use Rattle.steps.specs.declared.Step.{Step}
use Rattle.steps.specs.declared.Step.TheVariants.{Reset, Csr, Access as AccessStep, Event as EventStep}
use Rattle.steps.specs.declared.Answer.{Answer}
use Rattle.steps.specs.declared.Answer.TheVariants.{Done, DoneValue, Granted, Refused}
use Rattle.registers.specs.declared.Registers.{Registers}
use Rattle.registers.specs.Update.{with_pc}
use Rattle.registers.specs.Effective.{effective_mode}
use Rattle.protection.specs.declared.Pmp.{Pmp}
use Rattle.protection.specs.Read.{is_pmp, pmp_read}
use Rattle.protection.specs.Write.{pmp_written}
use Rattle.paging.specs.declared.Context.{Context}
use Rattle.paging.specs.declared.NotGranted.{NotGranted}
use Rattle.paging.specs.Satp.{satp_written}
use Rattle.paging.specs.Memory.{Memory}
use Rattle.paging.specs.Access.{Reached, reached}
use Rattle.state.specs.declared.State.{State}
use Rattle.state.specs.Hold.{can_hold, reset_state}
use Rattle.csr.specs.Permit.{illegal, attempts_write}
use Rattle.csr.specs.Show.{register_read}
use Rattle.csr.specs.Operate.{operated, registers_operated}
use Rattle.trap.specs.declared.Outcome.{Outcome}
use Rattle.trap.specs.Enter.{raised_by, illegal_instruction}
use Rattle.trap.specs.Return.{next_pc}
use Rattle.trap.specs.Events.{event_step}

-- the state that a step leaves, and its answer
pub record Effect : Type 0 where
  pub state : State
  pub answer : Answer

abbrev pub effect_of : State → Answer → Effect
effect_of s answer = record { state = s; answer = answer }

-- a refusal is answered and no more, and changes nothing
abbrev pub refused : State → Refusal → Effect
refused s refusal = effect_of s (Refused refusal)

-- the state with one group of registers replaced
abbrev pub with_registers : State → Registers → State
with_registers s r = record { registers = r; pmp = s.pmp; satp = s.satp }

abbrev pub with_pmp : State → Pmp → State
with_pmp s p = record { registers = s.registers; pmp = p; satp = s.satp }

abbrev pub with_satp : State → ℕ → State
with_satp s satp = record { registers = s.registers; pmp = s.pmp; satp = satp }

-- a step that leaves the protection registers and satp alone
abbrev pub on_registers : State → Outcome → Effect
on_registers s o = effect_of (with_registers s o.registers) o.answer

-- ---- CSR steps

-- a protection register after an operation whose read gave `old`; a read stores nothing
abbrev pub pmp_operated : Pmp → Operation → ℕ → ℕ → ℕ → Pmp
pmp_operated p op number operand old = cond (attempts_write op) (pmp_written p number (operated op old operand)) p

-- a completed CSR step answers the old value and moves pc on by 4
abbrev pub csr_completed : State → ℕ → State → Effect
csr_completed s old after = effect_of (with_registers after (with_pc after.registers (next_pc s.registers))) (DoneValue old)

-- .. on a protection register
abbrev pub protection_step : State → Operation → ℕ → ℕ → Effect
protection_step s op number operand =
    csr_completed s (pmp_read s.pmp number) (with_pmp s (pmp_operated s.pmp op number operand (pmp_read s.pmp number)))

-- satp after an operation; MODE is judged on the value after set or clear
abbrev pub satp_operated : ℕ → Operation → ℕ → ℕ
satp_operated satp op operand = cond (attempts_write op) (satp_written satp (operated op satp operand)) satp

-- .. on satp
abbrev pub satp_step : State → Operation → ℕ → Effect
satp_step s op operand = csr_completed s s.satp (with_satp s (satp_operated s.satp op operand))

-- .. on any other
abbrev pub register_step : State → Operation → ℕ → ℕ → Effect
register_step s op number operand =
    csr_completed s (register_read s.registers number)
    (with_registers s (registers_operated s.registers op number operand (register_read s.registers number)))

-- refusal 2: a CSR number above 4095; else the access rule; else the operation
unfoldable pub csr_step : State → Operation → ℕ → ℕ → Effect
csr_step s op number operand =
    cond (ltb 4095 number)
    (refused s Refusal.Argument)
    (cond (illegal s.registers op number)
    (on_registers s (illegal_instruction s.registers))
    (cond (is_pmp number)
    (protection_step s op number operand)
    (cond (eqb number 0x180) (satp_step s op operand) (register_step s op number operand))))

-- ---- accesses

-- a granted access changes nothing; a fault traps; both tell the entry that decided
abbrev pub access_decided : State → Reached → Effect
access_decided s (Ok entry) = effect_of s (Granted entry)
access_decided s (Err (NotGranted.Fault cause tval entry)) = on_registers s (raised_by s.registers cause tval entry)
access_decided s (Err (NotGranted.Refused refusal)) = refused s refusal

-- what an access goes by: satp, SUM and MXR of mstatus, its effective mode and its kind
abbrev pub context_of : State → Access → Context
context_of s access =
    record { satp = s.satp; mstatus = s.registers.mstatus; mode = effective_mode s.registers access; access = access }

-- an access is judged on the registers and the memory lent to it
unfoldable pub access_at : State → Memory → Access → ℕ → ℕ → Effect
access_at s m access address size = access_decided s (reached s.pmp m (context_of s access) address size)

-- fetch of 4 bytes at pc; load and store of `size` bytes at `address`
abbrev pub access_step : State → Memory → Access → ℕ → ℕ → Effect
access_step s m Fetch address size = access_at s m Fetch s.registers.pc 4
access_step s m Load address size = access_at s m Load address size
access_step s m Store address size = access_at s m Store address size

-- ---- all steps

-- steps 5 to 13 and 17
abbrev pub event_effect : State → Event → Effect
event_effect s event = on_registers s (event_step s.registers event)

-- what each step does where refusal 3 does not apply; reset keeps the grain, but turns one above 10 into 0
abbrev pub effect : State → Memory → Step → Effect
effect s m Reset = effect_of (reset_state s.pmp.grain) Done
effect s m (Csr op number operand) = csr_step s op number operand
effect s m (AccessStep access address size) = access_step s m access address size
effect s m (EventStep event) = event_effect s event

-- step 0
abbrev pub is_reset : Step → Bool
is_reset Reset = true
is_reset (Csr op number operand) = false
is_reset (AccessStep access address size) = false
is_reset (EventStep event) = false

-- refusal 3, where `held` says whether a hart can hold the state
abbrev pub ruled_by : Bool → State → Memory → Step → Effect
ruled_by held s m step = cond (is_reset step || held) (effect s m step) (refused s Refusal.State)

-- the step rule. Refusal 3: the state given is not one a hart can hold, at any call but step 0; it comes before 1, 2 and 13
unfoldable pub step_rule : State → Memory → Step → Effect
step_rule s m step = ruled_by (can_hold s) s m step
