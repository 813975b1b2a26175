-- Registers that read one value and ignore writes: any CSR step on one, where it is not illegal. Steps on satp. What pmpcfg0 and pmpcfg2 read. Assumes nothing.
use Prim.Native.Nat.{ℕ, suc, ◌+◌, ◌-◌, ◌*◌, ◌/◌, ◌%◌, ◌^◌}
use mathlib.Core.Path.{◌≡◌, refl, sym, ap, ◌∙◌}
use mathlib.Core.Bool.{Bool, true, false, not, ◌&&◌, ◌||◌, false≢true, and-false, or-false}
use mathlib.Core.List.{List, [], ◌∷◌}
use mathlib.Core.Logic.{⊎_elim}
use native.Mathlib.Omega.{arith}
use borrow.Author.Tests.{eqb-true, leb-true, not-true}
use lib.Dec.{eqb, leb, ltb}
use lib.ListN.{take, drop}
use Rattle.bits.specs.Mask.{test_bit}
use Rattle.bits.proofs.Conjunction.{both, one_of, neither, by_test, contradiction, not-true-false}
use Rattle.pmp.specs.Search.{every_byte}
use Rattle.pmp.proofs.SearchLaws.{every_passes}
use Rattle.steps.specs.declared.Operation.{Operation}
use Rattle.steps.specs.declared.Operation.TheVariants.{Read}
use Rattle.steps.specs.declared.Step.TheVariants.{Csr}
use Rattle.steps.specs.declared.Answer.TheVariants.{DoneValue}
use Rattle.registers.specs.declared.Registers.{Registers}
use Rattle.registers.specs.Update.{with_flow}
use Rattle.protection.specs.Configs.{packed}
use Rattle.protection.specs.Read.{is_pmp, pmp_read}
use Rattle.protection.proofs.SameLaws.{same_pmp-refl}
use Rattle.paging.specs.Memory.{Memory}
use Rattle.state.specs.Hold.{can_hold}
use Rattle.csr.specs.Permit.{between, present, read_only, attempts_write, illegal}
use Rattle.csr.specs.Show.{register_read}
use Rattle.csr.specs.Store.{registers_written}
use Rattle.csr.specs.Operate.{registers_operated}
use Rattle.map.specs.declared.Map.{Map}
use Rattle.engine.specs.Effects.{with_satp, satp_operated, csr_step, step_rule}
use Rattle.hart.specs.declared.Hart.{Hart}
use Rattle.hart.specs.Steps.{hart_with, handed_back, stepped}
use Rattle.claims.specs.Consequences.{listed, zero_numbers, reads_zero, fixed_numbers, ignores_writes, moved_on}

-- ---- numbers in ranges: what computes to true at each of them holds of any

abbrev every_listed : (ℕ → Bool) → List (ℕ × ℕ) → Bool
every_listed test [] = true
every_listed test (r ∷ rs) = every_byte test (suc r.1 - r.0) r.0 && every_listed test rs

module _ (test : ℕ → Bool) where
  between_passes : (first last n : ℕ) → every_byte test (suc last - first) first ≡ true → between first last n ≡ true → test n ≡ true
  between_passes first last n e b =
      let w = both (leb first n) (leb n last) b in
      every_passes test (suc last - first) first n e (leb-true first n w.0) (omega (arith, leb-true first n w.0, leb-true n last w.1))

  listed_passes : (rs : List (ℕ × ℕ)) (n : ℕ) → every_listed test rs ≡ true → listed rs n ≡ true → test n ≡ true
  listed_passes [] n e b = absurd (false≢true b)
  listed_passes (r ∷ rs) n e b =
      let w = both (every_byte test (suc r.1 - r.0) r.0) (every_listed test rs) e in
      ⊎_elim (between_passes r.0 r.1 n w.0) (listed_passes rs n w.1) (one_of (between r.0 r.1 n) (listed rs n) b)

-- a number that passes a test is none that fails it
apart : (test : ℕ → Bool) (n k : ℕ) → test n ≡ true → test k ≡ false → eqb n k ≡ false
apart test n k p q = not-true-false (eqb n k) (λ e. contradiction (ap test (sym (eqb-true n k e)) ∙ p) q)

-- ---- no number of either list is above 4095, of protection or that of satp

abbrev plain_number : ℕ → Bool
plain_number n = not (ltb 4095 n) && (not (is_pmp n) && not (eqb n 0x180))

zero-plain : every_listed plain_number zero_numbers ≡ true
unfolding every_byte
zero-plain = refl

fixed_plain : every_listed plain_number fixed_numbers ≡ true
unfolding every_byte
fixed_plain = refl

-- ---- reads and writes of the registers

zero-read : (r : Registers) (n : ℕ) → reads_zero n ≡ true → register_read r n ≡ 0
unfolding every_byte register_read
zero-read r n p = eqb-true (register_read r n) 0 (listed_passes (λ (k : ℕ). eqb (register_read r k) 0) zero_numbers n refl p)

zero-written : (r : Registers) (n value : ℕ) → reads_zero n ≡ true → registers_written r n value ≡ r
unfolding registers_written
zero-written r n value p = simp (apart reads_zero n)

fixed_written : (r : Registers) (n value : ℕ) → ignores_writes n ≡ true → registers_written r n value ≡ r
unfolding registers_written
fixed_written r n value p = simp (apart ignores_writes n)

-- ---- the step

module _ (h : Hart) (map : Map) (m : Memory) (op : Operation) (n operand : ℕ) (held : can_hold h.state ≡ true)
    (legal : illegal h.state.registers op n ≡ false) where
  -- a step on a register that no write changes
  unwritten_step : plain_number n ≡ true → ((value : ℕ) → registers_written h.state.registers n value ≡ h.state.registers)
      → stepped h map m (Csr op n operand) ≡ moved_on h map (register_read h.state.registers n)
  unfolding stepped step_rule csr_step
  unwritten_step p unwritten =
      let r = h.state.registers in
      let w = both (not (ltb 4095 n)) (not (is_pmp n) && not (eqb n 0x180)) p in
      let v = both (not (is_pmp n)) (not (eqb n 0x180)) w.1 in
      let same : registers_operated r op n operand (register_read r n) ≡ r =
      by_test (λ (x : Registers). x ≡ r) (attempts_write op) _ r (λ t. unwritten _) (λ t. refl) in
      rw (held, legal, not-true (ltb 4095 n) w.0, not-true (is_pmp n) v.0, not-true (eqb n 0x180) v.1, same, same_pmp-refl h.state.pmp)

  pub zero-step : reads_zero n ≡ true → stepped h map m (Csr op n operand) ≡ moved_on h map 0
  zero-step p =
      let r = h.state.registers in
      unwritten_step (listed_passes plain_number zero_numbers n zero-plain p) (λ value. zero-written r n value p) ∙ ap (moved_on h map) (zero-read r n p)

  pub fixed_step : ignores_writes n ≡ true → stepped h map m (Csr op n operand) ≡ moved_on h map (register_read h.state.registers n)
  fixed_step p =
      unwritten_step (listed_passes plain_number fixed_numbers n fixed_plain p) (λ value. fixed_written h.state.registers n value p)

pub misa-step : (h : Hart) (map : Map) (m : Memory) (op : Operation) (operand : ℕ) → can_hold h.state ≡ true
    → illegal h.state.registers op 0x301 ≡ false → stepped h map m (Csr op 0x301 operand) ≡ moved_on h map 0x8000000000141101
unfolding register_read
misa-step h map m op operand held legal = fixed_step h map m op 0x301 operand held legal refl

-- ---- what is not illegal

machine_readable : (r : Registers) → every_listed (λ (k : ℕ). not (illegal (with_flow r 3 r.pc r.mstatus) Read k)) zero_numbers ≡ true
unfolding every_byte illegal present
machine_readable r = refl

pub zero-readable : (r : Registers) (n : ℕ) → r.mode ≡ 3 → reads_zero n ≡ true → illegal r Read n ≡ false
zero-readable r n e p =
    ap (λ (mode : ℕ). illegal (with_flow r mode r.pc r.mstatus) Read n) e
    ∙ not-true (illegal (with_flow r 3 r.pc r.mstatus) Read n)
    (listed_passes (λ (k : ℕ). not (illegal (with_flow r 3 r.pc r.mstatus) Read k)) zero_numbers n (machine_readable r) p)

-- present, not read-only, not satp, and no counter that could be hidden
abbrev open_number : ℕ → Bool
open_number n = present n && not (read_only n || (eqb n 0x180 || between 0xC00 0xC1F n))

fixed_open : every_listed open_number fixed_numbers ≡ true
unfolding every_byte present
fixed_open = refl

pub fixed_writable : (r : Registers) (op : Operation) (n : ℕ) → ignores_writes n ≡ true
    → illegal r op n ≡ ltb r.mode (n / 256 % 4)
unfolding illegal
fixed_writable r op n p =
    let w = both (present n) (not (read_only n || (eqb n 0x180 || between 0xC00 0xC1F n))) (listed_passes open_number fixed_numbers n fixed_open p) in
    let v = neither (read_only n) (eqb n 0x180 || between 0xC00 0xC1F n) (not-true _ w.1) in
    let u = neither (eqb n 0x180) (between 0xC00 0xC1F n) v.1 in
    rw (w.0, v.0, u.0, u.1, and-false (attempts_write op), or-false (ltb r.mode (n / 256 % 4)))

-- ---- satp

pub satp-illegal : (r : Registers) (op : Operation) → illegal r op 0x180 ≡ (ltb r.mode 1 || (eqb r.mode 1 && test_bit r.mstatus 20))
unfolding illegal present
satp-illegal r op = rw (and-false (attempts_write op), or-false (eqb r.mode 1 && test_bit r.mstatus 20))

pub satp-step : (h : Hart) (map : Map) (m : Memory) (op : Operation) (operand : ℕ) → can_hold h.state ≡ true
    → illegal h.state.registers op 0x180 ≡ false
    → stepped h map m (Csr op 0x180 operand)
    ≡ handed_back (hart_with (with_satp (moved_on h map 0).hart.state (satp_operated h.state.satp op operand))) map (DoneValue h.state.satp)
unfolding stepped step_rule csr_step
satp-step h map m op operand held legal = rw (held, legal, same_pmp-refl h.state.pmp)

-- ---- pmpcfg0 and pmpcfg2

pub lowest-first : (b c d e f g i j : ℕ)
    → packed (b ∷ c ∷ d ∷ e ∷ f ∷ g ∷ i ∷ j ∷ [])
    ≡ b + 2 ^ 8 * c + 2 ^ 16 * d + 2 ^ 24 * e + 2 ^ 32 * f + 2 ^ 40 * g + 2 ^ 48 * i + 2 ^ 56 * j
unfolding packed
lowest-first b c d e f g i j = omega arith

machine_legal : (r : Registers) (n : ℕ) → r.mode ≡ 3 → illegal (with_flow r 3 r.pc r.mstatus) Read n ≡ false → illegal r Read n ≡ false
machine_legal r n m p = ap (λ (mode : ℕ). illegal (with_flow r mode r.pc r.mstatus) Read n) m ∙ p

-- a read of a protection register
protection_read : (h : Hart) (map : Map) (m : Memory) (n operand : ℕ) → can_hold h.state ≡ true → illegal h.state.registers Read n ≡ false
    → ltb 4095 n ≡ false → is_pmp n ≡ true → stepped h map m (Csr Read n operand) ≡ moved_on h map (pmp_read h.state.pmp n)
unfolding stepped step_rule csr_step
protection_read h map m n operand held legal small pmp = rw (held, legal, small, pmp, same_pmp-refl h.state.pmp)

pub config_steps : (h : Hart) (map : Map) (m : Memory) (operand : ℕ) → can_hold h.state ≡ true → h.state.registers.mode ≡ 3
    → (stepped h map m (Csr Read 0x3A0 operand) ≡ moved_on h map (packed (take 8 h.state.pmp.cfgs)))
    × (stepped h map m (Csr Read 0x3A2 operand) ≡ moved_on h map (packed (drop 8 h.state.pmp.cfgs)))
unfolding illegal present
config_steps h map m operand held mode =
    let r = h.state.registers in (
      protection_read h map m 0x3A0 operand held (machine_legal r 0x3A0 mode refl) refl refl,
      protection_read h map m 0x3A2 operand held (machine_legal r 0x3A2 mode refl) refl refl,
    )
