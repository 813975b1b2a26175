use Rattle.std.proofs.Common.{◌≡◌, ℕ, suc, Bool, ◌&&◌, List, [], ◌∷◌, eqb, length, refl, sym, ap, ◌∙◌, arith, ne_eqb}
use Rattle.std.proofs.Math.Bool.{and-true, and-false}
use lib.Pointwise.{pointwise}
use Rattle.replay_stream.specs.Streams.{is_none}
use Rattle.replay_stream.proofs.is_none.Goals as goal

-- the one byte `-`
is-dash : (name : List ℕ) → pointwise eqb name (45 ∷ []) ≡ is_none name
unfolding is_none
is-dash [] = refl
is-dash (x ∷ []) = and-true (eqb x 45)
is-dash (x ∷ y ∷ s) = and-false (eqb x 45) ∙ sym (ap (λ (b : Bool). b && eqb x 45) (ne_eqb (suc (suc (length s))) 1 (λ e. omega arith)))

pub returns : goal.returns
returns c = c.eq.ensures ∙ ap (pointwise eqb c.args.name.now) c.as_slice.ensures ∙ is-dash c.args.name.now
