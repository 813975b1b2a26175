-- A run over three numbers a step, with four for its answer: one turn of the loop, and its end. Assumes nothing.
use Prim.Native.Nat.{ℕ, suc, ◌+◌, ◌-◌, ◌*◌, ◌≤◌, ◌<◌}
use mathlib.Core.Path.{◌≡◌, refl, sym, ap, ◌∙◌}
use mathlib.Core.Bool.{Bool, true, false, ◌||◌}
use mathlib.Core.List.{List, [], ◌∷◌, ◌++◌}
use native.Mathlib.Omega.{arith}
use borrow.Author.Tests.{eq-eqb}
use lib.ListN.{length, get_or, take, drop}
use Rattle.std.proofs.Common.{length-drop}
use Rattle.std.proofs.Math.Seq.{take-length}
use lib.Seq.{sets, length-sets}
use Rattle.std.specs.Prelude.{Option, Some, None}
use Rattle.bits.proofs.ListLaws.{set_past}
use Rattle.bits.specs.Fold.{fold, outputs, any_step}
use Rattle.steps.specs.declared.Step.{Step}
use Rattle.steps.specs.declared.Answer.{Answer}
use Rattle.steps.specs.declared.Answer.TheVariants.{Done, DoneValue, DoneFlag, Granted, Trapped, Refused}
use Rattle.steps.specs.Number.{answer_interrupt, answer_numbers}
use Rattle.steps.specs.Decode.{decoded, steps_of, name_steps}
use Rattle.steps.proofs.NumberLaws.{Named, named}
use Rattle.paging.specs.Memory.{Memory}
use Rattle.state.specs.declared.State.{State}
use Rattle.state.specs.Hold.{can_hold}
use Rattle.state.specs.Words.{words_of, state_of}
use Rattle.engine.specs.declared.Taken.{Taken}
use Rattle.engine.specs.declared.Told.{Told}
use Rattle.engine.specs.Effects.{ruled_by, step_rule}
use Rattle.engine.specs.Taking.{step_taken, remaps, named_taken, named_state}
use Rattle.engine.specs.Runs.{lent_to, lent, state_after, after_all, answer_after, answers_of, any_remaps, ran}
use Rattle.engine.proofs.Plain.{ruled_plain}
use Rattle.engine.proofs.TakingLaws.{still_held}

taken-plain : (held : Bool) (s : State) (m : Memory) (step : Step) → answer_interrupt (step_taken held s m step).answer ≡ 0
unfolding step_taken
taken-plain held s m step = ruled_plain s m held step

pub named-plain : (held : Bool) (s : State) (m : Memory) (d : Option Step) {t : Taken} → t ≡ named_taken held s m d → answer_interrupt t.answer ≡ 0
named-plain held s m d e = ap (λ (x : Taken). answer_interrupt x.answer) e ∙ go d
  where
    go : (d' : Option Step) → answer_interrupt (named_taken held s m d').answer ≡ 0
    go (Some step) = taken-plain held s m step
    go None = refl

assoc_or : (a b c : Bool) → ((a || b) || c) ≡ (a || (b || c))
assoc_or true b c = refl
assoc_or false b c = refl

-- nothing is written behind the end of a slice
pub sets_past : (xs l : List ℕ) (i : ℕ) → length l ≤ i → sets l i xs ≡ l
sets_past [] l i h = refl
sets_past (x ∷ xs) l i h = ap (λ (k : List ℕ). sets k (suc i) xs) (set_past l i x h) ∙ sets_past xs l (suc i) (omega arith)

-- the words of an answer, and what comes behind them, written from a place on
answers-put : (l : List ℕ) (i : ℕ) (a : Answer) (rest : List ℕ) → sets (sets l i (answer_numbers a)) (i + 4) rest ≡ sets l i (answer_numbers a ++ rest)
answers-put l i a rest = let e : i + 4 ≡ suc (suc (suc (suc i))) = omega arith in rw e (go a)
  where
    go : (b : Answer) → sets (sets l i (answer_numbers b)) (suc (suc (suc (suc i)))) rest ≡ sets l i (answer_numbers b ++ rest)
    go Done = refl
    go (DoneValue old) = refl
    go (DoneFlag flag) = refl
    go (Granted entry) = refl
    go (Trapped trap level entry) = refl
    go (Refused refusal) = refl

-- ---- one turn of the loop, on the numbers that are left

module _ (l r : List ℕ) (m : Memory) (held : Bool) (s x : State) (t : Taken) (n : Named l 0) (q : r ≡ drop 3 l) (h : held ≡ can_hold s)
    (e : t ≡ named_taken held s m (decoded (get_or l 0 0) (get_or l 1 0) (get_or l 2 0)))
    (f : x ≡ named_state held s m (decoded (get_or l 0 0) (get_or l 1 0) (get_or l 2 0))) where
  ruled : ruled_by held s m n.step ≡ step_rule s m n.step
  unfolding step_rule
  ruled = rw h

  taken_is : t ≡ step_taken held s m n.step
  taken_is = e ∙ ap (named_taken held s m) n.formed

  state_is : x ≡ state_after s (lent_to m n.step)
  state_is = f ∙ ap (named_state held s m) n.formed ∙ ap (λ r. r.state) ruled

  steps-are : steps_of l ≡ n.step ∷ steps_of r
  steps-are = n.steps ∙ ap (λ (y : List ℕ). n.step ∷ steps_of y) (sym q)

  held_next : t.told.held ≡ can_hold x
  unfolding step_taken
  held_next = ap (λ (y : Taken). y.told.held) taken_is ∙ still_held held s m n.step h ∙ ap can_hold (sym (f ∙ ap (named_state held s m) n.formed))

  state_next : after_all x (lent m (steps_of r)) ≡ after_all s (lent m (steps_of l))
  unfolding fold
  state_next = rw (state_is, steps-are)

  remap_is : t.told.remap ≡ remaps s m n.step
  unfolding step_taken
  remap_is = ap (λ (y : Taken). y.told.remap) taken_is ∙ rw ruled

  remap_next : (b : Bool) → ((b || t.told.remap) || any_remaps x (lent m (steps_of r))) ≡ (b || any_remaps s (lent m (steps_of l)))
  unfolding any_step
  remap_next b =
      rw (remap_is, state_is, steps-are)
      (assoc_or b (remaps s m n.step) (any_remaps (state_after s (lent_to m n.step)) (lent m (steps_of r))))

  answer_is : answer_numbers t.answer ≡ answer_after s (lent_to m n.step)
  unfolding step_taken
  answer_is = ap (λ (y : Taken). answer_numbers y.answer) taken_is ∙ ap (λ r. answer_numbers r.answer) ruled

  answers_next : (place : ℕ) (ans put : List ℕ) → put ≡ sets ans place (answer_numbers t.answer)
      → sets put (place + 4) (answers_of x (lent m (steps_of r))) ≡ sets ans place (answers_of s (lent m (steps_of l)))
  unfolding outputs
  answers_next place ans put p =
      ap (λ (y : List ℕ). sets y (place + 4) (answers_of x (lent m (steps_of r)))) p
      ∙ answers-put ans place t.answer (answers_of x (lent m (steps_of r)))
      ∙ rw (answer_is, state_is, steps-are)

-- what a run has done of the steps `whole`, from `words0` and `answers0` on, where the numbers `rest` are left
pub record Ongoing (m : Memory) (words0 whole answers0 words : List ℕ) (held remap : Bool) (rest answers : List ℕ) (place : ℕ) : Type 0 where
  pub same : length answers ≡ length answers0
  pub named : name_steps rest ≡ true
  pub held_is : held ≡ can_hold (state_of words)
  pub state : after_all (state_of words) (lent m (steps_of rest)) ≡ after_all (state_of words0) (lent m (steps_of whole))
  pub remap_is : (remap || any_remaps (state_of words) (lent m (steps_of rest))) ≡ any_remaps (state_of words0) (lent m (steps_of whole))
  pub written : sets answers place (answers_of (state_of words) (lent m (steps_of rest))) ≡ sets answers0 0 (answers_of (state_of words0) (lent m (steps_of whole)))
  pub placed : 3 * place + 4 * length rest ≡ 4 * length whole

pub started : (m : Memory) (words whole answers : List ℕ) {held : Bool} → held ≡ can_hold (state_of words) → name_steps whole ≡ true
    → Ongoing m words whole answers words held false whole answers 0
started m words whole answers h n =
    record { same = refl; named = n; held_is = h; state = refl; remap_is = refl; written = refl; placed = omega arith }

-- what a slice's pattern leaves behind three numbers
pub behind : (l : List ℕ) → 3 ≤ length l → take (length l - 3) (drop 3 l) ≡ drop 3 l
behind l h =
    let n : length l - 3 ≡ length (drop 3 l) = omega (arith, length-drop 3 l) in
    rw n (take-length (drop 3 l))

-- three numbers are left where any is
first-named : (l : List ℕ) → 3 ≤ length l → name_steps l ≡ true → Named l 0
first-named l h e = named l 0 (omega arith) e

-- fewer than three numbers name no step
few_steps : (l : List ℕ) → length l < 3 → steps_of l ≡ []
unfolding steps_of
few_steps [] h = refl
few_steps (number ∷ []) h = refl
few_steps (number ∷ a ∷ []) h = refl
few_steps (number ∷ a ∷ b ∷ l) h = absurd (omega arith)

module _ {m : Memory} {words0 whole answers0 words : List ℕ} {held remap : Bool} {rest answers : List ℕ} {place : ℕ}
    (o : Ongoing m words0 whole answers0 words held remap rest answers place) where
  -- one more step
  pub goes_on : {told : Told} {x y r : List ℕ} → 3 ≤ length rest → r ≡ drop 3 rest
      → told ≡ (named_taken held (state_of words) m (decoded (get_or rest 0 0) (get_or rest 1 0) (get_or rest 2 0))).told
      → state_of x ≡ named_state held (state_of words) m (decoded (get_or rest 0 0) (get_or rest 1 0) (get_or rest 2 0))
      → y ≡ sets answers place (answer_numbers (named_taken held (state_of words) m (decoded (get_or rest 0 0) (get_or rest 1 0) (get_or rest 2 0))).answer)
      → Ongoing m words0 whole answers0 x told.held (remap || told.remap) r y (place + 4)
  goes_on {told} {x} {y} {r} k q e f p =
      let n = first-named rest k o.named in
      let s = state_of words in
      let t = named_taken held s m (decoded (get_or rest 0 0) (get_or rest 1 0) (get_or rest 2 0)) in
      let d : length r + 3 ≡ length rest = ap (λ (z : List ℕ). length z + 3) q ∙ omega (arith, length-drop 3 rest) in
      record {
        same = ap length p ∙ length-sets answers place (answer_numbers t.answer) ∙ o.same;
        named = ap name_steps q ∙ n.rest;
        held_is = ap (λ (z : Told). z.held) e ∙ held_next rest r m held s (state_of x) t n q o.held_is refl f;
        state = state_next rest r m held s (state_of x) t n q o.held_is refl f ∙ o.state;
        remap_is =
            ap (λ (z : Told). (remap || z.remap) || any_remaps (state_of x) (lent m (steps_of r))) e
            ∙ remap_next rest r m held s (state_of x) t n q o.held_is refl f remap
            ∙ o.remap_is;
        written = answers_next rest r m held s (state_of x) t n q o.held_is refl f place answers y p ∙ o.written;
        placed = omega (arith, o.placed);
      }

  module _ (few : length rest < 3) where
    none_left : steps_of rest ≡ []
    none_left = few_steps rest few

    pub state_end : state_of words ≡ after_all (state_of words0) (lent m (steps_of whole))
    unfolding fold
    state_end = rw none_left at o.state

    pub remap_end : remap ≡ any_remaps (state_of words0) (lent m (steps_of whole))
    unfolding any_step
    remap_end = or-none remap ∙ (rw none_left at o.remap_is)
      where
        or-none : (b : Bool) → b ≡ (b || false)
        or-none true = refl
        or-none false = refl

    pub answers_end : answers ≡ sets answers0 0 (answers_of (state_of words0) (lent m (steps_of whole)))
    unfolding outputs
    answers_end = rw none_left at o.written

-- ---- the call

module _ (w : List ℕ) (m : Memory) (steps answers : List ℕ) where
  -- the words left are those of the state left
  pub run_done : length w ≡ 43 → name_steps steps ≡ true
      → ran w m steps answers
      ≡ record {
        remap = any_remaps (state_of w) (lent m (steps_of steps));
        words = words_of (after_all (state_of w) (lent m (steps_of steps)));
        answers = sets answers 0 (answers_of (state_of w) (lent m (steps_of steps)));
        state = after_all (state_of w) (lent m (steps_of steps));
      }
  unfolding ran
  run_done h n = rw (eq-eqb (length w) 43 h, n)
