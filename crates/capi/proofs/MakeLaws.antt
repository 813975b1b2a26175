-- Making a hart in words. Assumes nothing.
use Prim.Native.Nat.{ℕ}
use mathlib.Core.Path.{◌≡◌, ap, ◌∙◌}
use mathlib.Core.Bool.{true, false}
use mathlib.Core.List.{List}
use Rattle.state.specs.Words.{words_of}
use Rattle.map.specs.MapWords.{map_words}
use Rattle.hart.specs.declared.Mapped.{Mapped}
use Rattle.hart.specs.Steps.{reset_mapped}
use Rattle.capi.specs.Calls.{fits, make_result, made_hart, made_map}

-- what the call gives back, and leaves as hart and as map
abbrev Made : ℕ → List ℕ → List ℕ → ℕ → List ℕ → List ℕ → Type 0
Made grain hart map result h m = (result ≡ make_result hart map) × ((h ≡ made_hart grain hart map) × (m ≡ made_map grain hart map))

module _ (grain : ℕ) (hart map : List ℕ) where
  pub not_made : fits hart map ≡ false → Made grain hart map 0 hart map
  unfolding make_result made_hart made_map
  not_made e = (rw e, (rw e, rw e))

  pub made : fits hart map ≡ true → {x : Mapped} → x ≡ reset_mapped grain → {h m : List ℕ} → h ≡ words_of x.hart.state → m ≡ map_words x.map
      → Made grain hart map 1 h m
  unfolding make_result made_hart made_map
  made t {x} e p q = (
    rw t,
    (
      rw t (p ∙ ap (λ (y : Mapped). words_of y.hart.state) e),
      rw t (q ∙ ap (λ (y : Mapped). map_words y.map) e),
    ),
  )
