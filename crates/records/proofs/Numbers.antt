-- The numbers of a record name its step. Assumes nothing.
use Rattle.std.proofs.Common.{◌≡◌, ℕ, Bool, true, false, cond, List, refl, sym, ap, ◌∙◌, Option, Some, None}
use Rattle.steps.specs.declared.Step.{Step}
use Rattle.steps.specs.declared.from_numbers.Numbers.{Numbers}
use Rattle.steps.specs.Decode.{decoded}
use Rattle.records.specs.Records.{read_record, unused_are_zero, record_step, read_step, naming, read_numbers}

-- the step of a record's numbers
pub record Numbered (t : List ℕ) (n : Numbers) : Type 0 where
  pub named : Step
  pub read : read_step t ≡ Some named
  pub formed : decoded n.step n.a n.b ≡ Some named

module _ (t : List ℕ) where
  read_record_lem : read_step t ≡ record_step (read_record t)
  unfolding read_step
  read_record_lem = refl

  -- unused arguments that are not 0 form no step
  used : (n : Numbers) (s : Step) (u : Bool) → unused_are_zero n.step n.a n.b ≡ u → record_step (Some n) ≡ Some s → decoded n.step n.a n.b ≡ Some s
  unfolding record_step
  used n s true e h = sym (λ j. cond (e j) (decoded n.step n.a n.b) None) ∙ h
  used n s false e h = let z : None ≡ Some s = sym (λ j. cond (e j) (decoded n.step n.a n.b) None) ∙ h in cc

  pub numbers-named : (n : Numbers) → read_numbers t ≡ Some n → Numbered t n
  unfolding read_numbers
  numbers-named n e = go (read_step t) refl e
    where
      go : (d : Option Step) → read_step t ≡ d → naming (read_record t) d ≡ Some n → Numbered t n
      go (Some s) p q = record { named = s; read = p; formed = used n s (unused_are_zero n.step n.a n.b) refl (sym (ap record_step q) ∙ sym read_record_lem ∙ p) }
      go None p q = let none : ⊥ = cc in absurd none

  broken : record_step None ≡ None
  unfolding record_step
  broken = refl

  pub numbers-none : read_numbers t ≡ None → read_step t ≡ None
  unfolding read_numbers
  numbers-none e = go (read_step t) refl (read_record t) refl e
    where
      go : (d : Option Step) → read_step t ≡ d → (r : Option Numbers) → read_record t ≡ r → naming r d ≡ None → read_step t ≡ None
      go (Some s) p (Some n) k q = let none : ⊥ = cc in absurd none
      go (Some s) p None k q = read_record_lem ∙ ap record_step k ∙ broken
      go None p r k q = p
