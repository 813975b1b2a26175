-- 01, "What has to be nailed", and 02, [5] and [8] to [10]: demand 3, one claim about the whole list of steps, each with the memory lent at it.
use Rattle.std.specs.Prelude.{ℕ, ◌+◌, ◌≤◌, ◌<◌, ◌≡◌, true, ◌⊎◌, List, take}
use Rattle.pmp.specs.declared.Mode.{Mode}
use Rattle.pmp.specs.declared.Access.{Access}
use Rattle.pmp.specs.declared.Decision.{Decision}
use Rattle.pmp.specs.declared.Decision.TheVariants.{Refused}
use Rattle.pmp.specs.declared.Refusal.{Refusal}
use Rattle.pmp.specs.declared.Span.{Span}
use Rattle.pmp.specs.Rule.{is_size, byte_rule}
use Rattle.steps.specs.declared.Answer.TheVariants.{Done}
use Rattle.protection.specs.declared.Pmp.{Pmp}
use Rattle.protection.specs.Spans.{spans_of}
use Rattle.state.specs.Hold.{can_hold}
use Rattle.map.specs.declared.Map.{Map}
use Rattle.map.specs.declared.Range.{Range}
use Rattle.map.specs.Lookup.{find_range, ranges_in}
use Rattle.map.specs.Ranges.{IsMap}
use Rattle.map.specs.Painting.{ranges_of}
use Rattle.text.specs.declared.Form.{Form}
use Rattle.engine.specs.Runs.{Lent, after_all}
use Rattle.hart.specs.declared.Hart.{Hart}
use Rattle.hart.specs.declared.Mapped.{Mapped}
use Rattle.hart.specs.Steps.{handed_back, reset_mapped}
use Rattle.hart.specs.Queries.{query_answer}
use Rattle.hart.specs.Runs.{left_by}
use Rattle.hart.specs.Saved.{restored}

-- the state and map that reading a text of either form back gives, whatever hart and map went in
pub record FromText (start : Mapped) : Type 0 where
  pub form : Form
  pub text : List ℕ
  pub hart : Hart
  pub map : Map
  pub read : restored form hart map text ≡ handed_back start.hart start.map Done

-- a run starts from the reset state and reset map of some grain, or from what reading a text back gives
abbrev pub Start : Mapped → Type 0
Start start = ((grain : ℕ) × (start ≡ reset_mapped grain)) ⊎ FromText start

-- the hart and map that the steps leave
abbrev pub left : Mapped → List Lent → Mapped
left start steps = left_by start.hart start.map steps

-- the protection registers that the step rules and the refusal table make of a start and the steps, with no map read
abbrev pub pmp_after : Mapped → List Lent → Pmp
pmp_after start steps = (after_all start.hart.state steps).pmp

-- the bytes that their entries match
abbrev pub spans_after : Mapped → List Lent → ℕ → Span
spans_after start steps = spans_of (pmp_after start steps)

-- what a query on the hart and map left answers
abbrev pub query_after : Mapped → List Lent → Mode → Access → ℕ → ℕ → Decision
query_after start steps mode access address size = query_answer (left start steps).hart (left start steps).map mode access address size

-- the claim for one start and one list of steps
pub record FaithfulAfter (start : Mapped) (steps : List Lent) : Type 0 where
  -- the state left is the one that the step rules and the refusal table make
  pub state : (left start steps).hart.state ≡ after_all start.hart.state steps
  -- the map left, up to its count, is a list of ranges as 01 lays it down for these registers, the computed one, and at most 33
  pub lawful : IsMap (spans_after start steps) (take (left start steps).map.count (left start steps).map.ranges)
  pub ranges : take (left start steps).map.count (left start steps).map.ranges ≡ ranges_of (spans_after start steps)
  pub count : (left start steps).map.count ≤ 33
  -- every query gets the byte rule's answer, same grant, same cause, same entry, and no refusal
  pub answers : (mode : Mode) (access : Access) (address size : ℕ) → is_size size ≡ true
      → query_after start steps mode access address size
      ≡ byte_rule (spans_after start steps) (pmp_after start steps).cfgs mode access address size
  pub unrefused : (mode : Mode) (access : Access) (address size : ℕ) (refusal : Refusal) → is_size size ≡ true
      → query_after start steps mode access address size ≡ Refused refusal → ⊥

-- 01's one-range clause, widened: any two maps, any two states a hart can hold; the PMP bytes, effective mode, kind, address and size are equal,
-- and for each byte of the access the lowest-numbered range holding it is the same in both maps, or missing in both
abbrev pub SameRanges : Type 0
SameRanges =
    (g h : Hart) (m n : Map) (mode : Mode) (access : Access) (address size : ℕ)
    → can_hold g.state ≡ true → can_hold h.state ≡ true → g.state.pmp.cfgs ≡ h.state.pmp.cfgs
    → ((byte : ℕ) → address ≤ byte → byte < address + size → find_range (ranges_in m) byte ≡ find_range (ranges_in n) byte)
    → query_answer g m mode access address size ≡ query_answer h n mode access address size

-- demand 3
pub record Faithful : Type 0 where
  pub after : (start : Mapped) → Start start → (steps : List Lent) → FaithfulAfter start steps
  -- there is one such list
  pub one_map : (spans : ℕ → Span) (ranges others : List Range) → IsMap spans ranges → IsMap spans others → ranges ≡ others
  pub same_ranges : SameRanges
