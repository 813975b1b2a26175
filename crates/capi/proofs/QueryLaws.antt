-- The access query on words. Assumes nothing.
use Prim.Native.Nat.{ℕ}
use mathlib.Core.Path.{◌≡◌, sym, ap, ◌∙◌}
use mathlib.Core.Bool.{Bool, true, false, cond}
use mathlib.Core.List.{List}
use lib.Dec.{leb}
use lib.ListN.{length, get_or}
use borrow.Author.Tests.{eq-eqb}
use Rattle.std.specs.Cmp.Derive.{both_true}
use Rattle.std.specs.Prelude.{Some, None, Ok, Err}
use Rattle.pmp.specs.declared.modes.UnknownMode.{UnknownMode}
use Rattle.pmp.specs.declared.Mode.{Mode}
use Rattle.pmp.specs.declared.Access.{Access}
use Rattle.pmp.specs.declared.Decision.{Decision}
use Rattle.pmp.specs.declared.Decision.TheVariants.{Refused}
use Rattle.pmp.specs.declared.Refusal.{Refusal}
use Rattle.pmp.specs.Number.{is_mode, mode_of}
use Rattle.steps.specs.Number.{decision_numbers}
use Rattle.protection.specs.Configs.{configs_of}
use Rattle.map.specs.MapWords.{map_of_words}
use Rattle.map.specs.Query.{queried}
use Rattle.state.specs.Hold.{can_hold}
use Rattle.state.specs.Words.{state_of}
use Rattle.state.specs.Slices.{loaded}
use Rattle.state.proofs.SliceLaws.{all-loaded}
use Rattle.hart.specs.Queries.{query_answer}
use Rattle.capi.specs.Calls.{hart_of, access_of, queryable, query_answered}
use Rattle.capi.proofs.CallLaws.{chosen-some, chosen-ok}

-- refusal 3, or the query with the configuration bytes, of the state of the words
module _ (w v : List ℕ) (fit : length w ≡ 43) (mode : Mode) (access : Access) (address size : ℕ) {held : Bool} (eh : held ≡ can_hold (loaded w)) where
  can_hold_lem : can_hold (state_of w) ≡ held
  can_hold_lem = sym (eh ∙ ap can_hold (all-loaded w fit))

  pub not-held : held ≡ false → Refused Refusal.State ≡ query_answer (hart_of w) (map_of_words v) mode access address size
  unfolding query_answer
  not-held e = rw (can_hold_lem, e)

  pub answered : held ≡ true → {cfgs : List ℕ} {d : Decision} → cfgs ≡ configs_of (get_or w 23 0) (get_or w 24 0)
      → d ≡ queried cfgs (map_of_words v) mode access address size → d ≡ query_answer (hart_of w) (map_of_words v) mode access address size
  unfolding query_answer
  answered e ec ed = ed ∙ (λ j. queried (ec j) (map_of_words v) mode access address size) ∙ rw (can_hold_lem, e)

-- ---- the call

pub asked : (hart map : List ℕ) (mode kind address size : ℕ) (answer : List ℕ) {h w : List ℕ} {e : Mode} {a : Access} {d : Decision} (u : UnknownMode)
    → length hart ≡ 43 → length map ≡ 100 → length answer ≡ 4
    → h ≡ hart → Ok e ≡ cond (is_mode mode) (Ok (mode_of mode)) (Err u) → Some a ≡ cond (leb kind 2) (Some (access_of kind)) None
    → d ≡ query_answer (hart_of h) (map_of_words map) e a address size → w ≡ decision_numbers d
    → w ≡ query_answered hart map mode kind address size answer
unfolding query_answered
asked hart map mode kind address size answer {h} {w} {e} {a} {d} u lh lm la eh em ea ed ew =
    let m = chosen-ok (is_mode mode) u em in
    let k = chosen-some (leb kind 2) ea in
    let t : queryable hart map mode kind answer ≡ true =
    both_true (both_true (eq-eqb (length hart) 43 lh) (eq-eqb (length map) 100 lm)) (both_true (eq-eqb (length answer) 4 la) (both_true m.0 k.0)) in
    rw t (ew ∙ ap decision_numbers (ed ∙ (λ j. query_answer (hart_of (eh j)) (map_of_words map) (m.1 j) (k.1 j) address size)))
