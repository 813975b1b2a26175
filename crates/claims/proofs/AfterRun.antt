-- A query after a run on the words of a hart, and from what reading a text back gave. Assumes nothing.
use Prim.Native.Nat.{ℕ}
use mathlib.Core.Path.{◌≡◌, refl, sym, ap, ◌∙◌}
use mathlib.Core.Bool.{Bool, true, false, cond}
use mathlib.Core.List.{List, []}
use lib.Dec.{eqb}
use lib.ListN.{length}
use lib.Seq.{sets}
use Rattle.std.specs.Prelude.{Option, Some, None}
use Rattle.bits.specs.Fold.{fold, any_step}
use Rattle.bits.specs.Lists.{elements}
use Rattle.pmp.specs.declared.Mode.{Mode}
use Rattle.pmp.specs.declared.Access.{Access}
use Rattle.pmp.specs.declared.Decision.TheVariants.{Refused}
use Rattle.pmp.specs.declared.Refusal.{Refusal}
use Rattle.steps.specs.Number.{refusal_of}
use Rattle.steps.specs.Decode.{steps_of, name_steps}
use Rattle.paging.specs.Memory.{Memory}
use Rattle.state.specs.declared.State.{State}
use Rattle.state.specs.Words.{words_of, state_of}
use Rattle.map.specs.declared.Map.{Map}
use Rattle.text.specs.declared.Form.{Form}
use Rattle.engine.specs.Runs.{Lent, lent, after_all, answers_of, any_remaps, Ran, ran}
use Rattle.hart.specs.declared.Hart.{Hart}
use Rattle.hart.specs.declared.Stepped.{Stepped}
use Rattle.hart.specs.Steps.{map_for, hart_with, reset_mapped}
use Rattle.hart.specs.Runs.{with, left_by}
use Rattle.hart.specs.Saved.{read_anew}
use Rattle.hart.proofs.LeftLaws.{left_is}
use Rattle.claims.specs.AfterRun.{steps_in, rule_from_text}
use Rattle.claims.specs.Faithful.{query_after}
use Rattle.claims.proofs.Faithfulness.{back, text_sound, query-after}

-- ---- what a run leaves

-- the state, and whether a step asked for a fresh map, after these steps
abbrev Leaves : State → List Lent → Ran → Type 0
Leaves s steps r = (r.state ≡ after_all s steps) × (r.remap ≡ any_remaps s steps)

words_count : (s : State) → eqb (length (words_of s)) 43 ≡ true
unfolding words_of elements
words_count s = refl

run_leaves : (s : State) → state_of (words_of s) ≡ s → (m : Memory) (numbers answers : List ℕ)
    → Leaves s (steps_in m numbers) (ran (words_of s) m numbers answers)
unfolding ran fold any_step
run_leaves s e m numbers answers = rw (words_count s, e) (go (name_steps numbers))
  where
    go : (b : Bool)
        → Leaves s (cond b (lent m (steps_of numbers)) [])
        (cond b
        (record {
          remap = any_remaps s (lent m (steps_of numbers));
          words = words_of (after_all s (lent m (steps_of numbers)));
          answers = sets answers 0 (answers_of s (lent m (steps_of numbers)));
          state = after_all s (lent m (steps_of numbers));
        })
        (record { remap = false; words = words_of s; answers = answers; state = s }))
    go true = (refl, refl)
    go false = (refl, refl)

-- ---- the hart and map left, from what the engine gave on the words of the state

module _ (h : Hart) (map : Map) (m : Memory) (numbers : List ℕ) {w : List ℕ} (ew : w ≡ words_of h.state) (ed : state_of w ≡ h.state) (answers : List ℕ)
    {r : Bool} (er : r ≡ (ran w m numbers answers).remap) {s : State} (es : s ≡ (ran w m numbers answers).state) where
  leaves : Leaves h.state (steps_in m numbers) (ran w m numbers answers)
  leaves = rw ew (run_leaves h.state (ap state_of (sym ew) ∙ ed) m numbers answers)

  state_is : s ≡ after_all h.state (steps_in m numbers)
  state_is = es ∙ leaves.0

  remap_is : r ≡ any_remaps h.state (steps_in m numbers)
  remap_is = er ∙ leaves.1

  pub left_by_lem : (b : Bool) → r ≡ b → {n : Map} → n ≡ cond b (map_for s.pmp) map → with (hart_with s) n ≡ left_by h map (steps_in m numbers)
  left_by_lem b e p =
      (λ j. with (hart_with (state_is j)) ((p ∙ (λ i. cond ((sym e ∙ remap_is) i) (map_for (state_is i).pmp) map)) j))
      ∙ sym (left_is (steps_in m numbers) h map)

-- ---- from what reading a text back gave

module _ (form : Form) (text : List ℕ) (steps : List Lent) (mode : Mode) (access : Access) (address size : ℕ) {read : Stepped} (known : read ≡ read_anew form text)
    {refusal : Option Refusal} (told : refusal ≡ refusal_of read.answer) where
  refusal_is : refusal ≡ refusal_of (read_anew form text).answer
  refusal_is = told ∙ ap (λ (s : Stepped). refusal_of s.answer) known

  pub text-asked : refusal ≡ None → query_after (back read) steps mode access address size ≡ rule_from_text form text steps mode access address size
  unfolding rule_from_text
  text-asked z =
      let e : refusal_of (read_anew form text).answer ≡ None = sym refusal_is ∙ z in
      rw (known, e)
      (query-after (back (read_anew form text)) (text_sound (reset_mapped 0).hart (reset_mapped 0).map form text e) steps mode access address size)

  pub text-refused : {r : Refusal} → refusal ≡ Some r → Refused r ≡ rule_from_text form text steps mode access address size
  unfolding rule_from_text
  text-refused z =
      let e : refusal_of (read_anew form text).answer ≡ Some _ = sym refusal_is ∙ z in
      rw e
