-- What the tests of a call say, and what a call by steps leaves. Assumes nothing.
use Prim.Native.Nat.{ℕ, ◌<◌}
use mathlib.Core.Path.{◌≡◌, refl, sym, ap, ◌∙◌}
use mathlib.Core.Bool.{Bool, true, false, cond, ◌&&◌, and-true, and-false}
use mathlib.Core.List.{List, [], ◌∷◌}
use Rattle.std.specs.Prelude.{Some, None, Ok, Err}
use lib.Dec.{eqb}
use lib.ListN.{length}
use lib.Seq.{sets}
use borrow.Author.Tests.{eqb-true, eq-eqb, lt-leb}
use Rattle.bits.proofs.Conjunction.{both}
use Rattle.steps.specs.Decode.{steps_of, name_steps}
use Rattle.paging.specs.Memory.{Memory}
use Rattle.state.specs.declared.State.{State}
use Rattle.state.specs.Words.{words_of, state_of}
use Rattle.state.specs.Slices.{loaded_pmp}
use Rattle.state.proofs.SliceLaws.{pmp-loaded}
use Rattle.map.specs.declared.Map.{Map}
use Rattle.map.specs.MapWords.{map_of_words, map_words}
use Rattle.map.proofs.MapWords.{map-words-back}
use Rattle.engine.specs.Runs.{lent, Ran, ran, after_all, any_remaps, answers_of}
use Rattle.hart.specs.declared.Mapped.{Mapped}
use Rattle.hart.specs.Steps.{map_for}
use Rattle.hart.proofs.LeftLaws.{left_is, answers_are}
use Rattle.capi.specs.Calls.{hart_of, fits, Left, answers_fit, run_call}

pub fitting : (hart map : List ℕ) → fits hart map ≡ true → (length hart ≡ 43) × (length map ≡ 100)
fitting hart map t =
    let b = both (eqb (length hart) 43) (eqb (length map) 100) t in
    (eqb-true (length hart) 43 b.0, eqb-true (length map) 100 b.1)

-- what a number is read as, where it is read
pub chosen-some : {A : Type 0} (b : Bool) {x a : A} → Some a ≡ cond b (Some x) None → (b ≡ true) × (a ≡ x)
chosen-some true e = (refl, cc)
chosen-some false e = let z : ⊥ = cc in absurd z

pub chosen-ok : {A E : Type 0} (b : Bool) {x a : A} (y : E) → Ok a ≡ cond b (Ok x) (Err y) → (b ≡ true) × (a ≡ x)
chosen-ok true y e = (refl, cc)
chosen-ok false y e = let z : ⊥ = cc in absurd z

-- what a call gives back and leaves, as its clauses say it
abbrev pub Leaves : Left → ℕ → List ℕ → List ℕ → List ℕ → Type 0
Leaves l result hart map answers = (result ≡ l.result) × ((hart ≡ l.hart) × ((map ≡ l.map) × (answers ≡ l.answers)))

-- where the map's slice has its length
pub fits-by : (hart map : List ℕ) (b : Bool) → length map ≡ 100 → (fits hart map && b) ≡ (eqb (length hart) 43 && b)
fits-by hart map b e = rw (eq-eqb (length map) 100 e, and-true (eqb (length hart) 43)) refl

abbrev pub run_test : List ℕ → List ℕ → List ℕ → List ℕ → Bool
run_test hart map steps answers = fits hart map && (answers_fit steps answers && name_steps steps)

-- a fresh map, or the one that lies in the words
pub chosen_map : (map : List ℕ) → length map ≡ 100 → (b : Bool) (n : Map) → cond b (map_words n) map ≡ map_words (cond b n (map_of_words map))
chosen_map map h true n = refl
chosen_map map h false n = sym (map-words-back map h)

module _ (hart map : List ℕ) (m : Memory) (steps answers : List ℕ) where
  pub unmade : run_test hart map steps answers ≡ false → Leaves (run_call hart map m steps answers) 0 hart map answers
  unfolding run_call
  unmade t = rw t (refl, (refl, (refl, refl)))

  -- a first number that names no step
  pub unnamed : (step a b : ℕ) → steps ≡ step ∷ a ∷ b ∷ [] → 17 < step → Leaves (run_call hart map m steps answers) 0 hart map answers
  unfolding name_steps
  unnamed step a b e h =
      unmade (rw (e, lt-leb step 17 h) (ap (λ (x : Bool). fits hart map && x) (and-false (answers_fit (step ∷ a ∷ b ∷ []) answers)) ∙ and-false (fits hart map)))

  module _ (t : run_test hart map steps answers ≡ true) where
    parts : (length hart ≡ 43) × (length map ≡ 100) × (name_steps steps ≡ true)
    parts =
        let p = both (fits hart map) (answers_fit steps answers && name_steps steps) t in
        let f = fitting hart map p.0 in
        (f.0, f.1, (both (answers_fit steps answers) (name_steps steps) p.1).1)

    pub hart-fits : length hart ≡ 43
    hart-fits = parts.0

    map-fits : length map ≡ 100
    map-fits = parts.1

    -- what the engine's run gave: all of it is known, since the call's tests are stronger than the run's
    ran_is : ran hart m steps answers
        ≡ record {
          remap = any_remaps (state_of hart) (lent m (steps_of steps));
          words = words_of (after_all (state_of hart) (lent m (steps_of steps)));
          answers = sets answers 0 (answers_of (state_of hart) (lent m (steps_of steps)));
          state = after_all (state_of hart) (lent m (steps_of steps));
        }
    unfolding ran
    ran_is = rw (parts.0, parts.2)

    pub made : {r : Bool} {x y z fresh : List ℕ} → fresh ≡ map → length x ≡ 43 → r ≡ (ran hart m steps answers).remap → x ≡ (ran hart m steps answers).words
        → y ≡ (ran hart m steps answers).answers → state_of x ≡ (ran hart m steps answers).state
        → z ≡ cond r (map_words (map_for (loaded_pmp x))) fresh → Leaves (run_call hart map m steps answers) 1 x z y
    unfolding run_call
    made {r} {x} {y} {z} em fx er ex ey es ez =
        let s = state_of hart in
        let l = left_is (lent m (steps_of steps)) (hart_of hart) (map_of_words map) in
        let p : loaded_pmp x ≡ (after_all s (lent m (steps_of steps))).pmp =
        pmp-loaded x fx ∙ ap (λ (q : State). q.pmp) (es ∙ ap (λ (q : Ran). q.state) ran_is) in
        let c : r ≡ any_remaps s (lent m (steps_of steps)) = er ∙ ap (λ (q : Ran). q.remap) ran_is in
        rw t (
          refl,
          (
            ex ∙ ap (λ (q : Ran). q.words) ran_is ∙ ap (λ (g : Mapped). words_of g.hart.state) (sym l),
            (
              ez ∙ (λ j. cond (c j) (map_words (map_for (p j))) (em j)) ∙ chosen_map map map-fits (any_remaps s (lent m (steps_of steps))) (map_for (after_all s (lent m (steps_of steps))).pmp)
                  ∙ ap (λ (g : Mapped). map_words g.map) (sym l),
              ey ∙ ap (λ (q : Ran). q.answers) ran_is
                  ∙ ap (λ (a : List ℕ). sets answers 0 a) (sym (answers_are (hart_of hart) (map_of_words map) (lent m (steps_of steps)))),
            ),
          ),
        )
