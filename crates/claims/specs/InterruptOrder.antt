-- Which interrupt step 7 takes, said of each interrupt for itself and apart from the definitions of `trap`, but for the entry: 01, "Traps, returns, time",
-- with the order of 02, [2].
use Rattle.std.specs.Prelude.{ℕ, suc, ◌<◌, ◌≡◌, Bool, true, false, cond, ◌&&◌, ◌||◌, List, [], ◌∷◌, ◌⊎◌, eqb, ltb, length}
use Rattle.std.specs.Int.Bits.{bit_or}
use Rattle.bits.specs.Mask.{test_bit}
use Rattle.steps.specs.declared.Level.TheVariants.{Supervisor, Machine}
use Rattle.steps.specs.declared.Trap.TheVariants.{Interrupt}
use Rattle.steps.specs.declared.Answer.TheVariants.{DoneFlag}
use Rattle.registers.specs.declared.Registers.{Registers}
use Rattle.trap.specs.Enter.{entered}
use Rattle.map.specs.declared.Map.{Map}
use Rattle.engine.specs.Effects.{with_registers}
use Rattle.hart.specs.declared.Hart.{Hart}
use Rattle.hart.specs.declared.Stepped.{Stepped}
use Rattle.hart.specs.Steps.{hart_with, handed_back}

-- "delegated (mideleg bit i is 1)": bound for S, else for M
abbrev pub delegated : Registers → ℕ → Bool
delegated r i = test_bit r.interrupts.mideleg i

-- "interrupt i is takeable if mip and mie bit i are 1 and, not delegated, mode is below M or MIE=1; delegated, mode is U, or S with SIE=1": MIE is
-- bit 3 of mstatus, SIE bit 1
abbrev pub may_take : Registers → ℕ → Bool
may_take r i =
    test_bit (bit_or r.interrupts.mip r.interrupts.lines) i
    && (test_bit r.interrupts.mie i
    && cond (delegated r i) (eqb r.mode 0 || (eqb r.mode 1 && test_bit r.mstatus 1)) (ltb r.mode 3 || test_bit r.mstatus 3))

-- "the order 11, 3, 7, 9, 1, 5"
abbrev pub order : List ℕ
order = 11 ∷ 3 ∷ 7 ∷ 9 ∷ 1 ∷ 5 ∷ []

-- how many numbers of the list come before the first that is i; all where none is
abbrev pub place_in : List ℕ → ℕ → ℕ
place_in [] i = 0
place_in (x ∷ xs) i = cond (eqb x i) 0 (suc (place_in xs i))

-- i is one of the six
abbrev pub InOrder : ℕ → Type 0
InOrder i = place_in order i < length order

-- j goes before i: j is bound for M and i for S, or both for one level and j comes first in the order
abbrev pub goes_before : Registers → ℕ → ℕ → Bool
goes_before r j i =
    let earlier = ltb (place_in order j) (place_in order i) in
    cond (delegated r j) (delegated r i && earlier) (delegated r i || earlier)

-- what is handed back where interrupt i is taken: entry to S if it is delegated, else to M, with trap value 0; the map as given; yes
abbrev pub taking : Hart → Map → ℕ → Stepped
taking h map i =
    let r = h.state.registers in
    handed_back (hart_with (with_registers h.state (entered (cond (delegated r i) Supervisor Machine) (Interrupt i) 0 r))) map (DoneFlag true)

-- the step takes an interrupt that is takeable, and none that goes before it is
pub record Takes (h : Hart) (map : Map) (after : Stepped) : Type 0 where
  pub interrupt : ℕ
  pub ordered : InOrder interrupt
  pub takeable : may_take h.state.registers interrupt ≡ true
  pub first : (j : ℕ) → InOrder j → goes_before h.state.registers j interrupt ≡ true → may_take h.state.registers j ≡ false
  pub entry : after ≡ taking h map interrupt

-- "if none is, it is no and nothing changes"
pub record TakesNone (h : Hart) (map : Map) (after : Stepped) : Type 0 where
  pub none : (j : ℕ) → InOrder j → may_take h.state.registers j ≡ false
  pub unchanged : after ≡ handed_back h map (DoneFlag false)

abbrev pub TakesFirst : Hart → Map → Stepped → Type 0
TakesFirst h map after = Takes h map after ⊎ TakesNone h map after
