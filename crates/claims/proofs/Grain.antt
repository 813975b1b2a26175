-- What a grain changes, and that a grain of 4 bytes changes nothing. Assumes nothing.
use Prim.Native.Nat.{ℕ, zero, suc, ◌+◌, ◌-◌, ◌*◌, ◌/◌, ◌%◌, ◌^◌, ◌≤◌, ◌<◌}
use mathlib.Core.Path.{◌≡◌, refl, sym, ap, ◌∙◌}
use mathlib.Core.Bool.{Bool, true, false, cond, not, ◌&&◌, ◌||◌, and_assoc, and-true, and-false, or-false, or-true}
use mathlib.Core.List.{List, [], ◌∷◌}
use mathlib.Core.Logic.{◌⊎◌, inl, inr, ⊎_elim}
use native.Mathlib.Nat.{pow-suc, mul_comm, div-div-eq-div-mul}
use native.Mathlib.Decide.{dec_lt}
use native.Mathlib.Omega.{arith}
use lib.Bits.{bit_and}
use lib.Dec.{eqb, ltb, leb}
use lib.ListN.{length, get_or, set, length-set}
use lib.Pow.{pow_pos}
use lib.Seq.{get_or-set_same, get_or-set_other}
use borrow.Author.Tests.{lt-ltb, le-ltb, ltb-true, eq-eqb, ne_eqb, le-leb, lt-leb, leb-true, eqb-true}
use Rattle.bits.specs.Lists.{all}
use Rattle.bits.specs.Mask.{test_bit}
use Rattle.bits.proofs.Conjunction.{both, one_of}
use Rattle.bits.proofs.ListLaws.{all_get_d}
use Rattle.pmp.specs.declared.Decision.TheVariants.{Refused}
use Rattle.pmp.specs.declared.Span.{Span}
use Rattle.pmp.specs.declared.Refusal.{Refusal}
use Rattle.pmp.specs.Entry.{span_of, field_a, grain_holdable, legal_grain, low_zeros, low_ones, address_read, address_before, locked, matches}
use Rattle.pmp.specs.Rule.{byte_rule, is_size, checked}
use Rattle.pmp.proofs.GrainLaws.{read-stored, span-stored, legal_small}
use Rattle.pmp.proofs.GrainBits.{zeros, ones, filled_below, filled_above}
use Rattle.pmp.proofs.WholeGrains.{span-whole, alike}
use Rattle.steps.specs.declared.Operation.{Operation}
use Rattle.steps.specs.declared.Operation.TheVariants.{Write, Set, Clear, Read}
use Rattle.steps.specs.declared.Step.TheVariants.{Csr}
use Rattle.steps.specs.declared.Answer.TheVariants.{DoneValue}
use Rattle.protection.specs.declared.Pmp.{Pmp}
use Rattle.protection.specs.Hold.{config_allowed, config_holdable, address_holdable, pmp_holdable}
use Rattle.protection.specs.Spans.{spans_of}
use Rattle.protection.specs.Read.{is_address, is_pmp, address_shown, pmp_read}
use Rattle.protection.specs.Write.{config_kept, config_written, configs_written, address_frozen, pmp_written}
use Rattle.protection.proofs.Held.{pmp-held}
use Rattle.paging.specs.Memory.{Memory}
use Rattle.state.specs.Hold.{can_hold}
use Rattle.csr.specs.Permit.{illegal}
use Rattle.map.specs.declared.Map.{Map}
use Rattle.map.specs.Painting.{ranges_of}
use Rattle.map.specs.Compiled.{map_of, compiled}
use Rattle.engine.specs.Effects.{pmp_operated, csr_step, step_rule}
use Rattle.hart.specs.declared.Hart.{Hart}
use Rattle.hart.specs.Steps.{stepped}
use Rattle.claims.specs.Grain.{with_grain_zero, stored_span, stored_read, byte_held, mode_of_entry, low_dropped, Grain}

-- ---- a grain of 4 bytes

same_spans : (cfgs addrs : List ℕ) → spans_of (with_grain_zero cfgs addrs) ≡ stored_span cfgs addrs
same_spans cfgs addrs = λ j i. span-stored (field_a (get_or cfgs i 0)) (get_or addrs i 0) (address_before addrs i) j

same_read : (cfgs addrs : List ℕ) (n : ℕ) → pmp_read (with_grain_zero cfgs addrs) n ≡ stored_read cfgs addrs n
same_read cfgs addrs n = rw (read-stored (field_a (get_or cfgs (n - 0x3B0) 0)) (get_or addrs (n - 0x3B0) 0))

same_written : (old value : ℕ) → config_written 0 old value ≡ cond (locked old) old (config_kept value)
same_written old value = rw (and-false (eqb (field_a value) 2), or-false (locked old))

-- ---- what a hart can hold

-- the three conditions on a byte, in pairs the other way
byte_allowed : (na4 : Bool) (cfg : ℕ) → config_allowed na4 cfg ≡ (byte_held cfg && (not (eqb (field_a cfg) 2) || na4))
byte_allowed na4 cfg = sym (and_assoc (eqb (bit_and cfg 0x60) 0) (not (eqb (bit_and cfg 3) 2)) (not (eqb (field_a cfg) 2) || na4))

all_same : (f g : ℕ → Bool) → ((x : ℕ) → f x ≡ g x) → (xs : List ℕ) → all f xs ≡ all g xs
unfolding all
all_same f g e [] = refl
all_same f g e (x ∷ xs) = λ j. e x j && all_same f g e xs j

same_held : (cfgs addrs : List ℕ) → pmp_holdable (with_grain_zero cfgs addrs) ≡ (all byte_held cfgs && all address_holdable addrs)
unfolding pmp_holdable
same_held cfgs addrs =
    ap (λ (b : Bool). b && all address_holdable addrs)
    (all_same (config_holdable 0) byte_held
    (λ cfg. byte_allowed true cfg ∙ rw (or-true (not (eqb (field_a cfg) 2)), and-true (byte_held cfg))) cfgs)

bounded : (g : ℕ) → grain_holdable g ≡ leb g 10
bounded g = go (dec_lt g 11)
  where
    go : Dec (g < 11) → grain_holdable g ≡ leb g 10
    go (yes h) = let k : g ≤ 10 = omega arith in rw (lt-ltb g 11 h, le-leb g 10 k)
    go (no h) =
        let k : 11 ≤ g = omega arith in
        let l : 10 < g = omega arith in
        rw (le-ltb g 11 k, lt-leb g 10 l)

held : (p : Pmp)
    → pmp_holdable p
    ≡ (leb p.grain 10
    && (all (λ cfg. byte_held cfg && (not (eqb (field_a cfg) 2) || eqb p.grain 0)) p.cfgs && all address_holdable p.addrs))
unfolding pmp_holdable
held p =
    λ j.
    bounded p.grain j
    && (all_same (config_holdable p.grain) (λ cfg. byte_held cfg && (not (eqb (field_a cfg) 2) || eqb p.grain 0)) (byte_allowed (eqb p.grain 0)) p.cfgs j
    && all address_holdable p.addrs)

-- ---- what is read, bit by bit

module _ (g a addr i : ℕ) (most : g ≤ 10) where
  known : legal_grain g ≡ g
  known = legal_small g (omega arith)

  zeros_read : a < 2 → test_bit (address_read g a addr) i ≡ (not (ltb i g) && test_bit addr i)
  unfolding address_read
  zeros_read h = rw (lt-ltb a 2 h, known) (go (dec_lt i g))
    where
      go : Dec (i < g) → test_bit (low_zeros g addr) i ≡ (not (ltb i g) && test_bit addr i)
      go (yes l) = rw (lt-ltb i g l, filled_below g addr 0 (low_zeros g addr) i zeros l)
      go (no l) =
          let k : g ≤ i = omega arith in
          rw (le-ltb i g k, filled_above g addr 0 (low_zeros g addr) i zeros k)

  ones_read : 2 ≤ a → test_bit (address_read g a addr) i ≡ (ltb i (g - 1) || test_bit addr i)
  unfolding address_read
  ones_read h = rw (le-ltb a 2 h, known) (go (dec_lt i (g - 1)))
    where
      go : Dec (i < g - 1) → test_bit (low_ones (g - 1) addr) i ≡ (ltb i (g - 1) || test_bit addr i)
      go (yes l) = rw (lt-ltb i (g - 1) l, filled_below (g - 1) addr 1 (low_ones (g - 1) addr) i ones l)
      go (no l) =
          let k : g - 1 ≤ i = omega arith in
          rw (le-ltb i (g - 1) k, filled_above (g - 1) addr 1 (low_ones (g - 1) addr) i ones k)

-- ---- one address register

module _ (i : ℕ) (small : i < 16) where
  other : (number : ℕ) → number < 0x3B0 → eqb (0x3B0 + i) number ≡ false
  other number h = ne_eqb (0x3B0 + i) number (λ e. omega arith)

  is_address_lem : is_address (0x3B0 + i) ≡ true
  is_address_lem =
      let low : 0x3B0 ≤ 0x3B0 + i = omega arith in
      let high : 0x3B0 + i ≤ 0x3BF = omega arith in
      rw (le-leb 0x3B0 (0x3B0 + i) low, le-leb (0x3B0 + i) 0x3BF high)

  place : 0x3B0 + i - 0x3B0 ≡ i
  place = omega arith

  shown : (p : Pmp) → pmp_read p (0x3B0 + i) ≡ address_shown p i
  shown p = rw (other 0x3A0 (omega arith), other 0x3A2 (omega arith), is_address_lem, place)

  address_written_lem : (p : Pmp) (value : ℕ)
      → pmp_written p (0x3B0 + i) value
      ≡ record {
        grain = p.grain;
        cfgs = p.cfgs;
        addrs = set p.addrs i (cond (address_frozen p.cfgs i) (get_or p.addrs i 0) (value % 2 ^ 54));
      }
  unfolding pmp_written
  address_written_lem p value = rw (other 0x3A0 (omega arith), other 0x3A2 (omega arith), is_address_lem, place)

-- ---- steps on the registers

-- the numbers of the protection registers are those of 01
pmp-number : (n : ℕ) → is_pmp n ≡ true → n ≤ 4095
pmp-number n e =
    ⊎_elim (λ t. omega (arith, eqb-true n 0x3A0 t))
    (λ t.
    ⊎_elim (λ u. omega (arith, eqb-true n 0x3A2 u)) (λ u. omega (arith, leb-true n 0x3BF (both (leb 0x3B0 n) (leb n 0x3BF) u).1))
    (one_of (eqb n 0x3A2) (is_address n) t))
    (one_of (eqb n 0x3A0) (eqb n 0x3A2 || is_address n) e)

module _ (h : Hart) (map : Map) (m : Memory) (n : ℕ) (held : can_hold h.state ≡ true) (pmp : is_pmp n ≡ true) where
  small : ltb 4095 n ≡ false
  small = le-ltb 4095 n (pmp-number n pmp)

  starts-from-read : (op : Operation) (operand : ℕ) → illegal h.state.registers op n ≡ false
      → (stepped h map m (Csr op n operand)).answer ≡ DoneValue (pmp_read h.state.pmp n)
  unfolding stepped step_rule csr_step
  starts-from-read op operand legal = rw (held, legal, small, pmp)

  operated_on : (op : Operation) (operand : ℕ) → illegal h.state.registers op n ≡ false
      → (stepped h map m (Csr op n operand)).hart.state.pmp ≡ pmp_operated h.state.pmp op n operand (pmp_read h.state.pmp n)
  unfolding stepped step_rule csr_step
  operated_on op operand legal = rw (held, legal, small, pmp)

-- ---- the bytes of a write

module _ (g : ℕ) where
  -- a byte before or behind those that are written stays
  bytes_stay : (n at value : ℕ) (cfgs : List ℕ) (i : ℕ) → (i < at) ⊎ (at + n ≤ i) → get_or (configs_written g n at value cfgs) i 0 ≡ get_or cfgs i 0
  unfolding configs_written
  bytes_stay zero at value cfgs i h = refl
  bytes_stay (suc n) at value cfgs i h =
      bytes_stay n (at + 1) (value / 256) (set cfgs at (config_written g (get_or cfgs at 0) (value % 256))) i
      (⊎_elim (λ x. inl (omega arith)) (λ x. inr (omega arith)) h)
      ∙ get_or-set_other cfgs at i (config_written g (get_or cfgs at 0) (value % 256)) 0 (λ e. ⊎_elim (λ x. omega (arith, x, e)) (λ x. omega (arith, x, e)) h)

  -- one of them
  byte_becomes : (n at value : ℕ) (cfgs : List ℕ) (j : ℕ) → j < n → at + n ≤ length cfgs
      → get_or (configs_written g n at value cfgs) (at + j) 0 ≡ config_written g (get_or cfgs (at + j) 0) (value / 256 ^ j % 256)
  unfolding configs_written
  byte_becomes zero at value cfgs j h room = absurd (omega arith)
  byte_becomes (suc n) at value cfgs zero h room =
      let new = config_written g (get_or cfgs at 0) (value % 256) in
      let e : at + 0 ≡ at = omega arith in
      let d : value / 1 ≡ value = omega arith in
      rw (e, d) (bytes_stay n (at + 1) (value / 256) (set cfgs at new) at (inl (omega arith)) ∙ get_or-set_same cfgs at new 0 (omega arith))
  byte_becomes (suc n) at value cfgs (suc j) h room =
      let new = config_written g (get_or cfgs at 0) (value % 256) in
      let e : at + suc j ≡ at + 1 + j = omega arith in
      let d : value / 256 ^ suc j ≡ value / 256 / 256 ^ j =
      ap (λ (k : ℕ). value / k) (pow-suc 256 j ∙ mul_comm (256 ^ j) 256) ∙ sym (div-div-eq-div-mul value 256 (256 ^ j)) in
      rw (e, d)
      (byte_becomes n (at + 1) (value / 256) (set cfgs at new) j (omega arith) (omega (arith, length-set cfgs at new))
      ∙ ap (λ (b : ℕ). config_written g b (value / 256 / 256 ^ j % 256)) (get_or-set_other cfgs at (at + 1 + j) new 0 (λ z. omega (arith, z))))

-- the eight bytes of one register, and the others
written_at : (p : Pmp) (at k i value : ℕ) → at ≡ 8 * k → k < 2 → i < 16 → length p.cfgs ≡ 16
    → get_or (configs_written p.grain 8 at value p.cfgs) i 0
    ≡ cond (eqb (i / 8) k) (config_written p.grain (get_or p.cfgs i 0) (value / 256 ^ (i % 8) % 256)) (get_or p.cfgs i 0)
written_at p at k i value e h l fit = go (dec_lt i at) (dec_lt i (at + 8))
  where
    go : Dec (i < at) → Dec (i < at + 8)
        → get_or (configs_written p.grain 8 at value p.cfgs) i 0
        ≡ cond (eqb (i / 8) k) (config_written p.grain (get_or p.cfgs i 0) (value / 256 ^ (i % 8) % 256)) (get_or p.cfgs i 0)
    go (yes s) t = rw (ne_eqb (i / 8) k (λ q. omega (arith, e, s, q))) (bytes_stay p.grain 8 at value p.cfgs i (inl s))
    go (no s) (yes t) =
        let q : i / 8 ≡ k = omega arith in
        let r : at + i % 8 ≡ i = omega arith in
        let w = byte_becomes p.grain 8 at value p.cfgs (i % 8) (omega arith) (omega arith) in
        rw (eq-eqb (i / 8) k q)
        (ap (λ (x : ℕ). get_or (configs_written p.grain 8 at value p.cfgs) x 0) (sym r) ∙ w
        ∙ ap (λ (x : ℕ). config_written p.grain (get_or p.cfgs x 0) (value / 256 ^ (i % 8) % 256)) r)
    go (no s) (no t) =
        rw (ne_eqb (i / 8) k (λ q. omega (arith, e, t, q))) (bytes_stay p.grain 8 at value p.cfgs i (inr (omega arith)))

byte-written : (p : Pmp) (k i value : ℕ) → k < 2 → i < 16 → length p.cfgs ≡ 16
    → get_or (pmp_written p (0x3A0 + 2 * k) value).cfgs i 0
    ≡ cond (eqb (i / 8) k) (config_written p.grain (get_or p.cfgs i 0) (value / 256 ^ (i % 8) % 256)) (get_or p.cfgs i 0)
unfolding pmp_written
byte-written p zero i value h l fit = written_at p 0 0 i value refl h l fit
byte-written p (suc zero) i value h l fit = written_at p 8 1 i value refl h l fit
byte-written p (suc (suc k)) i value h l fit = absurd (omega arith)

-- ---- matching

tor_bounds : (p : Pmp) (i : ℕ) → p.grain ≤ 10 → mode_of_entry p i ≡ 1
    → spans_of p i ≡ span_of 1 (low_dropped p (get_or p.addrs i 0)) (low_dropped p (address_before p.addrs i))
unfolding address_read
tor_bounds p i most e = rw (e, legal_small p.grain (omega arith))

napot-by-read : (p : Pmp) (i before : ℕ) → i < 16 → mode_of_entry p i ≡ 3 → spans_of p i ≡ span_of 3 (pmp_read p (0x3B0 + i)) before
unfolding span_of
napot-by-read p i before small e = rw (shown i small p, e)

-- ---- whole grains

module _ (p : Pmp) where
  -- no entry has A=2, unless the grain is 4 bytes
  selectable : (i : ℕ) → pmp_holdable p ≡ true → field_a (get_or p.cfgs i 0) ≡ 2 → p.grain ≡ 0
  selectable i h e =
      let cfg = get_or p.cfgs i 0 in
      let c = (both (eqb (bit_and cfg 0x60) 0) _ (all_get_d (config_holdable p.grain) p.cfgs i refl (pmp-held p h).cfgs)).1 in
      let n = (both (not (eqb (bit_and cfg 3) 2)) (not (eqb (field_a cfg) 2) || eqb p.grain 0) c).1 in
      eqb-true p.grain 0 (rw e at n)

  whole_grains : (i byte other : ℕ) → pmp_holdable p ≡ true → byte / 2 ^ (p.grain + 2) ≡ other / 2 ^ (p.grain + 2)
      → matches (spans_of p) i byte ≡ matches (spans_of p) i other
  whole_grains i byte other h e =
      alike (2 ^ (p.grain + 2)) (pow_pos (p.grain + 2)) (spans_of p i)
      (span-whole p.grain (field_a (get_or p.cfgs i 0)) (get_or p.addrs i 0) (address_before p.addrs i)
      (ltb-true p.grain 11 (pmp-held p h).grain) (selectable i h))
      byte other e

na4-left : (g old value : ℕ) → 0 < g → field_a value ≡ 2 → config_written g old value ≡ old
na4-left g old value some e = rw (e, ne_eqb g 0 (λ z. omega arith), or-true (locked old))

addresses_left : (p : Pmp) (value : ℕ) → ((pmp_written p 0x3A0 value).addrs ≡ p.addrs) × ((pmp_written p 0x3A2 value).addrs ≡ p.addrs)
unfolding pmp_written
addresses_left p value = (refl, refl)

pub grain : Grain
unfolding checked compiled
grain =
    record {
      same_spans = same_spans;
      same_rule = λ cfgs addrs mode access address size.
          ap (λ (s : ℕ → Span). cond (is_size size) (byte_rule s cfgs mode access address size) (Refused Refusal.Size)) (same_spans cfgs addrs);
      same_map = λ cfgs addrs. ap (λ (s : ℕ → Span). map_of (ranges_of s)) (same_spans cfgs addrs);
      same_read = same_read;
      same_written = same_written;
      same_held = same_held;
      same_reset = refl;
      reads_zeros = λ p i bit small most clear. ap (λ (w : ℕ). test_bit w bit) (shown i small p) ∙ zeros_read p.grain _ (get_or p.addrs i 0) bit most clear;
      reads_ones = λ p i bit small most set. ap (λ (w : ℕ). test_bit w bit) (shown i small p) ∙ ones_read p.grain _ (get_or p.addrs i 0) bit most set;
      starts-from-read = λ h map m op n operand p legal q. starts-from-read h map m n p q op operand legal;
      writes = λ h map m n operand p q. (
        operated_on h map m n p q Write operand,
        operated_on h map m n p q Set operand,
        operated_on h map m n p q Clear operand,
        operated_on h map m n p q Read operand,
      );
      address_written_lem = λ p i value h. address_written_lem i h p value;
      addresses_left = addresses_left;
      byte-written = byte-written;
      na4-left = na4-left;
      tor_bounds = tor_bounds;
      napot-by-read = napot-by-read;
      whole_grains = whole_grains;
      held = held;
    }
