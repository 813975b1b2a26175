-- 02, [9], beside 002: what a grain of 2^(G+2) bytes changes, and that with G=0 all of 01 stands. That no step changes G is in Keeps.
use Rattle.std.specs.Prelude.{ℕ, ◌+◌, ◌-◌, ◌*◌, ◌/◌, ◌%◌, ◌^◌, ◌≤◌, ◌<◌, ◌≡◌, Bool, true, false, cond, not, ◌&&◌, ◌||◌, List, eqb, leb, ltb, length, get_or, set, take, drop, replicate}
use Rattle.std.specs.Int.Bits.{bit_and, bit_or}
use Rattle.bits.specs.Lists.{all}
use Rattle.bits.specs.Mask.{test_bit}
use Rattle.pmp.specs.declared.Mode.{Mode}
use Rattle.pmp.specs.declared.Access.{Access}
use Rattle.pmp.specs.declared.Decision.TheVariants.{Refused}
use Rattle.pmp.specs.declared.Span.{Span}
use Rattle.pmp.specs.declared.Refusal.{Refusal}
use Rattle.pmp.specs.Entry.{span_of, field_a, address_before, locked, matches}
use Rattle.pmp.specs.Rule.{byte_rule, is_size, checked}
use Rattle.steps.specs.declared.Operation.{Operation}
use Rattle.steps.specs.declared.Operation.TheVariants.{Write, Set, Clear, Read}
use Rattle.steps.specs.declared.Step.TheVariants.{Csr}
use Rattle.steps.specs.declared.Answer.TheVariants.{DoneValue}
use Rattle.protection.specs.declared.Pmp.{Pmp}
use Rattle.protection.specs.Configs.{packed}
use Rattle.protection.specs.Hold.{address_holdable, pmp_holdable, reset_pmp}
use Rattle.protection.specs.Spans.{spans_of}
use Rattle.protection.specs.Read.{is_address, is_pmp, pmp_read}
use Rattle.protection.specs.Write.{config_kept, config_written, address_frozen, pmp_written}
use Rattle.paging.specs.Memory.{Memory}
use Rattle.state.specs.Hold.{can_hold}
use Rattle.csr.specs.Permit.{illegal}
use Rattle.map.specs.declared.Map.{Map}
use Rattle.map.specs.Painting.{ranges_of}
use Rattle.map.specs.Compiled.{map_of}
use Rattle.hart.specs.declared.Hart.{Hart}
use Rattle.hart.specs.Steps.{map_for, stepped}

-- ---- 01, where no definition knows a grain

-- registers with a grain of 4 bytes
abbrev pub with_grain_zero : List ℕ → List ℕ → Pmp
with_grain_zero cfgs addrs = record { grain = 0; cfgs = cfgs; addrs = addrs }

-- the bytes that entry i matches, by what is stored
abbrev pub stored_span : List ℕ → List ℕ → ℕ → Span
stored_span cfgs addrs i = span_of (field_a (get_or cfgs i 0)) (get_or addrs i 0) (address_before addrs i)

-- a read gives what is stored
abbrev pub stored_read : List ℕ → List ℕ → ℕ → ℕ
stored_read cfgs addrs n =
    cond (eqb n 0x3A0) (packed (take 8 cfgs))
    (cond (eqb n 0x3A2) (packed (drop 8 cfgs))
    (cond (is_address n) (get_or addrs (n - 0x3B0) 0) 0))

-- each PMP byte with bits 5 and 6 zero and never R=0, W=1
abbrev pub byte_held : ℕ → Bool
byte_held cfg = eqb (bit_and cfg 0x60) 0 && not (eqb (bit_and cfg 3) 2)

-- ---- with a grain

-- A of entry i
abbrev pub mode_of_entry : Pmp → ℕ → ℕ
mode_of_entry p i = field_a (get_or p.cfgs i 0)

-- a word with its low bits zeros, as many as the grain has
abbrev pub low_dropped : Pmp → ℕ → ℕ
low_dropped p word = word / 2 ^ p.grain * 2 ^ p.grain

-- the protection registers after a CSR step
abbrev pub pmp_after : Hart → Map → Memory → Operation → ℕ → ℕ → Pmp
pmp_after h map m op n operand = (stepped h map m (Csr op n operand)).hart.state.pmp

pub record Grain : Type 0 where
  -- ---- "With G=0 all of 01 stands": entries, byte rule, map, reads, what a written byte becomes, what a hart can hold, reset
  pub same_spans : (cfgs addrs : List ℕ) → spans_of (with_grain_zero cfgs addrs) ≡ stored_span cfgs addrs
  pub same_rule : (cfgs addrs : List ℕ) (mode : Mode) (access : Access) (address size : ℕ)
      → checked 0 cfgs addrs mode access address size ≡ cond (is_size size) (byte_rule (stored_span cfgs addrs) cfgs mode access address size) (Refused Refusal.Size)
  pub same_map : (cfgs addrs : List ℕ) → map_for (with_grain_zero cfgs addrs) ≡ map_of (ranges_of (stored_span cfgs addrs))
  pub same_read : (cfgs addrs : List ℕ) (n : ℕ) → pmp_read (with_grain_zero cfgs addrs) n ≡ stored_read cfgs addrs n
  pub same_written : (old value : ℕ) → config_written 0 old value ≡ cond (locked old) old (config_kept value)
  pub same_held : (cfgs addrs : List ℕ) → pmp_holdable (with_grain_zero cfgs addrs) ≡ (all byte_held cfgs && all address_holdable addrs)
  pub same_reset : reset_pmp 0 ≡ with_grain_zero (replicate 16 0) (replicate 16 0)
  -- ---- what pmpaddr reads, bit by bit, by the A of its own entry: "When G≥1 and A[1] is clear, .. bits [G-1:0] read as all zeros", "When G≥2 and A[1] is
  -- set, .. bits [G-2:0] read as all ones"; all others are as stored
  pub reads_zeros : (p : Pmp) (i bit : ℕ) → i < 16 → p.grain ≤ 10 → mode_of_entry p i < 2
      → test_bit (pmp_read p (0x3B0 + i)) bit ≡ (not (ltb bit p.grain) && test_bit (get_or p.addrs i 0) bit)
  pub reads_ones : (p : Pmp) (i bit : ℕ) → i < 16 → p.grain ≤ 10 → 2 ≤ mode_of_entry p i
      → test_bit (pmp_read p (0x3B0 + i)) bit ≡ (ltb bit (p.grain - 1) || test_bit (get_or p.addrs i 0) bit)
  -- "set and clear start from that": a step on a protection register answers what is read, and writes what set and clear make of it
  pub starts-from-read : (h : Hart) (map : Map) (m : Memory) (op : Operation) (n operand : ℕ) → can_hold h.state ≡ true
      → illegal h.state.registers op n ≡ false → is_pmp n ≡ true → (stepped h map m (Csr op n operand)).answer ≡ DoneValue (pmp_read h.state.pmp n)
  pub writes : (h : Hart) (map : Map) (m : Memory) (n operand : ℕ) → can_hold h.state ≡ true → is_pmp n ≡ true
      → (illegal h.state.registers Write n ≡ false → pmp_after h map m Write n operand ≡ pmp_written h.state.pmp n operand)
      × (illegal h.state.registers Set n ≡ false
      → pmp_after h map m Set n operand ≡ pmp_written h.state.pmp n (bit_or (pmp_read h.state.pmp n) operand))
      × (illegal h.state.registers Clear n ≡ false
      → pmp_after h map m Clear n operand ≡ pmp_written h.state.pmp n (bit_and (pmp_read h.state.pmp n) (2 ^ 64 - 1 - operand)))
      × (illegal h.state.registers Read n ≡ false → pmp_after h map m Read n operand ≡ h.state.pmp)
  -- "the stored value kept": a write of pmpaddr i stores all 54 bits there, whatever A and G are, and nothing else; one of pmpcfg leaves every pmpaddr
  pub address_written_lem : (p : Pmp) (i value : ℕ) → i < 16
      → pmp_written p (0x3B0 + i) value
      ≡ record {
        grain = p.grain;
        cfgs = p.cfgs;
        addrs = set p.addrs i (cond (address_frozen p.cfgs i) (get_or p.addrs i 0) (value % 2 ^ 54));
      }
  pub addresses_left : (p : Pmp) (value : ℕ) → ((pmp_written p 0x3A0 value).addrs ≡ p.addrs) × ((pmp_written p 0x3A2 value).addrs ≡ p.addrs)
  -- pmpcfg0 (k = 0) and pmpcfg2 (k = 1): each of their eight bytes is judged for itself, and the other eight stay
  pub byte-written : (p : Pmp) (k i value : ℕ) → k < 2 → i < 16 → length p.cfgs ≡ 16
      → get_or (pmp_written p (0x3A0 + 2 * k) value).cfgs i 0
      ≡ cond (eqb (i / 8) k) (config_written p.grain (get_or p.cfgs i 0) (value / 256 ^ (i % 8) % 256)) (get_or p.cfgs i 0)
  -- "a write of A=2 leaves that byte unchanged" with G of 1 or more
  pub na4-left : (g old value : ℕ) → 0 < g → field_a value ≡ 2 → config_written g old value ≡ old
  -- ---- matching: "Bits [G-1:0] do not affect the TOR address-matching logic", of either bound and whatever A is before; "NAPOT matches by the value read"
  pub tor_bounds : (p : Pmp) (i : ℕ) → p.grain ≤ 10 → mode_of_entry p i ≡ 1
      → spans_of p i ≡ span_of 1 (low_dropped p (get_or p.addrs i 0)) (low_dropped p (address_before p.addrs i))
  pub napot-by-read : (p : Pmp) (i before : ℕ) → i < 16 → mode_of_entry p i ≡ 3 → spans_of p i ≡ span_of 3 (pmp_read p (0x3B0 + i)) before
  -- "the PMP grain is 2^(G+2) bytes": every entry that a hart can hold matches two bytes of one grain alike
  pub whole_grains : (p : Pmp) (i byte other : ℕ) → pmp_holdable p ≡ true → byte / 2 ^ (p.grain + 2) ≡ other / 2 ^ (p.grain + 2)
      → matches (spans_of p) i byte ≡ matches (spans_of p) i other
  -- ---- "The state holds G, 0 to 10", "With G of 1 or more no hart can hold A=2"
  pub held : (p : Pmp)
      → pmp_holdable p
      ≡ (leb p.grain 10
      && (all (λ cfg. byte_held cfg && (not (eqb (field_a cfg) 2) || eqb p.grain 0)) p.cfgs && all address_holdable p.addrs))
