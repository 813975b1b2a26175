-- A list of steps, each given what the one before left.
use Rattle.std.specs.Prelude.{Bool, false, ◌||◌, List, [], ◌∷◌, ◌++◌}

-- what the steps leave
unfoldable pub fold : {S X : Type 0} → (S → X → S) → S → List X → S
fold f s [] = s
fold f s (x ∷ xs) = fold f (f s x) xs

-- what each step gives out, in order
unfoldable pub outputs : {S X Y : Type 0} → (S → X → S) → (S → X → List Y) → S → List X → List Y
outputs f out s [] = []
outputs f out s (x ∷ xs) = out s x ++ outputs f out (f s x) xs

-- some step passes the test
unfoldable pub any_step : {S X : Type 0} → (S → X → S) → (S → X → Bool) → S → List X → Bool
any_step f test s [] = false
any_step f test s (x ∷ xs) = test s x || any_step f test (f s x) xs
