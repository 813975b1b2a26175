-- Laws of a list of steps: two lists in a row, what each step keeps, two runs side by side, and runs in which no step passes a test. Assumes nothing.
use mathlib.Core.Path.{◌≡◌, refl, ap, ap₂, ◌∙◌, sym}
use mathlib.Core.Bool.{Bool, true, false, ◌||◌}
use mathlib.Core.List.{List, [], ◌∷◌, ◌++◌, append_assoc}
use Rattle.bits.specs.Fold.{fold, outputs, any_step}
use Rattle.bits.proofs.Conjunction.{neither}

-- ---- no step, and one step more

module _ {S X : Type 0} (f : S → X → S) (s : S) where
  pub fold_nil : fold f s [] ≡ s
  unfolding fold
  fold_nil = refl

  pub fold_cons : (x : X) (xs : List X) → fold f s (x ∷ xs) ≡ fold f (f s x) xs
  unfolding fold
  fold_cons x xs = refl

module _ {S X Y : Type 0} (f : S → X → S) (out : S → X → List Y) (s : S) where
  pub outputs_nil : outputs f out s [] ≡ []
  unfolding outputs
  outputs_nil = refl

  pub outputs_cons : (x : X) (xs : List X) → outputs f out s (x ∷ xs) ≡ out s x ++ outputs f out (f s x) xs
  unfolding outputs
  outputs_cons x xs = refl

-- ---- two lists in a row

pub fold_append : {S X : Type 0} (f : S → X → S) (s : S) (xs ys : List X) → fold f s (xs ++ ys) ≡ fold f (fold f s xs) ys
unfolding fold
fold_append f s [] ys = refl
fold_append f s (x ∷ xs) ys = fold_append f (f s x) xs ys

pub outputs_append : {S X Y : Type 0} (f : S → X → S) (out : S → X → List Y) (s : S) (xs ys : List X)
    → outputs f out s (xs ++ ys) ≡ outputs f out s xs ++ outputs f out (fold f s xs) ys
unfolding fold outputs
outputs_append f out s [] ys = refl
outputs_append f out s (x ∷ xs) ys =
    ap (λ l. out s x ++ l) (outputs_append f out (f s x) xs ys)
    ∙ sym (append_assoc (out s x) (outputs f out (f s x) xs) (outputs f out (fold f (f s x) xs) ys))

-- ---- what each step keeps

-- a property kept by each step is kept by all
pub fold-keeps : {S X : Type 0} (f : S → X → S) (P : S → Type 0) → ((s : S) (x : X) → P s → P (f s x))
    → (s : S) (xs : List X) → P s → P (fold f s xs)
unfolding fold
fold-keeps f P keeps s [] p = p
fold-keeps f P keeps s (x ∷ xs) p = fold-keeps f P keeps (f s x) xs (keeps s x p)

-- ---- two runs of the same steps: a relation that each step keeps

module _ {S T X : Type 0} (f : S → X → S) (g : T → X → T) (R : S → T → Type 0)
    (keeps : (s : S) (t : T) (x : X) → R s t → R (f s x) (g t x)) where
  pub fold_related : (s : S) (t : T) (xs : List X) → R s t → R (fold f s xs) (fold g t xs)
  unfolding fold
  fold_related s t [] r = r
  fold_related s t (x ∷ xs) r = fold_related (f s x) (g t x) xs (keeps s t x r)

  -- they give out the same where each step does
  pub outputs_related : {Y : Type 0} (out : S → X → List Y) (put : T → X → List Y) → ((s : S) (t : T) (x : X) → R s t → out s x ≡ put t x)
      → (s : S) (t : T) (xs : List X) → R s t → outputs f out s xs ≡ outputs g put t xs
  unfolding outputs
  outputs_related out put same s t [] r = refl
  outputs_related out put same s t (x ∷ xs) r =
      ap₂ ◌++◌ (same s t x r) (outputs_related out put same (f s x) (g t x) xs (keeps s t x r))

-- ---- runs in which no step passes the test

module _ {S X : Type 0} (f : S → X → S) (test : S → X → Bool) where
  pub any_step_append : (s : S) (xs ys : List X) → any_step f test s (xs ++ ys) ≡ (any_step f test s xs || any_step f test (fold f s xs) ys)
  unfolding fold any_step
  any_step_append s [] ys = refl
  any_step_append s (x ∷ xs) ys = go (test s x) (any_step_append (f s x) xs ys)
    where
      go : (b : Bool) → any_step f test (f s x) (xs ++ ys) ≡ (any_step f test (f s x) xs || any_step f test (fold f (f s x) xs) ys)
          → (b || any_step f test (f s x) (xs ++ ys)) ≡ ((b || any_step f test (f s x) xs) || any_step f test (fold f (f s x) xs) ys)
      go true e = refl
      go false e = e

  -- what each step that does not pass leaves as it is, all of them leave as it is
  pub no_step-keeps : {A : Type 0} (part : S → A) → ((s : S) (x : X) → test s x ≡ false → part s ≡ part (f s x))
      → (s : S) (xs : List X) → any_step f test s xs ≡ false → part s ≡ part (fold f s xs)
  unfolding fold any_step
  no_step-keeps part keeps s [] e = refl
  no_step-keeps part keeps s (x ∷ xs) e =
      let n = neither (test s x) (any_step f test (f s x) xs) e in
      keeps s x n.0 ∙ no_step-keeps part keeps (f s x) xs n.1
