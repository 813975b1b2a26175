-- A reader in slices, and what a feed by them leaves. Assumes nothing.
use Prim.Native.Nat.{ℕ, ◌/◌, ◌%◌}
use mathlib.Core.Path.{◌≡◌, refl, ap, subst, ◌∙◌}
use mathlib.Core.Bool.{true, cond, ◌&&◌}
use mathlib.Core.List.{List}
use lib.Dec.{eqb}
use lib.ListN.{length}
use Rattle.bits.proofs.Conjunction.{both}
use Rattle.bits.specs.Lists.{Words}
use Rattle.paging.specs.Memory.{Memory}
use Rattle.state.specs.Words.{state_of}
use Rattle.state.specs.Slices.{loaded_pmp}
use Rattle.state.proofs.Back.{state-words}
use Rattle.state.proofs.SliceLaws.{pmp-loaded}
use Rattle.map.specs.MapWords.{map_of_words, map_words}
use Rattle.hart.specs.Steps.{map_for}
use Rattle.trace.specs.declared.Reader.{Reader}
use Rattle.trace.specs.declared.Progress.{Progress}
use Rattle.trace.specs.declared.Fed.{Fed}
use Rattle.trace.specs.Feeding.{FeedsWords}
use Rattle.trace.specs.Parts.{remade}
use Rattle.trace.proofs.FeedLaws.{fed_value}
use Rattle.capi.specs.Calls.{hart_of, fits}
use Rattle.capi.specs.Feeds.{is_place, reader_in, place_of, feedable, FeedLeft, feed_call}
use Rattle.capi.proofs.CallLaws.{fitting, chosen_map}

-- what a call gives back and leaves, as its clauses say it
abbrev pub FeedLeaves : FeedLeft → ℕ → List ℕ → List ℕ → List ℕ → List ℕ → List ℕ → Type 0
FeedLeaves l result carried place hart map answers =
    (result ≡ l.result) × ((carried ≡ l.carried) × ((place ≡ l.place) × ((hart ≡ l.hart) × ((map ≡ l.map) × (answers ≡ l.answers)))))

module _ (carried place hart map : List ℕ) (m : Memory) (scrap answers : List ℕ) where
  module _ (t : feedable carried place hart map answers ≡ true) where
    map_long : length map ≡ 100
    map_long = (fitting hart map (both (fits hart map) (eqb (length carried) 59 && (is_place place && eqb (length answers % 4) 0)) t).0).1

    pub fed-left : (words left after fresh bytes words4 z : List ℕ) (p : Progress) (given : Reader) → given ≡ reader_in carried place → words ≡ hart
        → fresh ≡ map → FeedsWords m given scrap words answers p left after → Words 43 left
        → bytes ≡ p.reader.carried → words4 ≡ place_of p.reader (p.filled / 4)
        → z ≡ cond p.remap (map_words (map_for (loaded_pmp left))) fresh
        → FeedLeaves (feed_call carried place hart map m scrap answers) p.taken bytes words4 left z after
    unfolding feed_call
    fed-left words left after fresh bytes words4 z p given eg ew em f w eb e4 ez =
        let rd = reader_in carried place in
        let h = map_of_words map in
        let v = fed_value m rd (hart_of hart) h scrap answers {back = remade (state_of left) p.remap h} (ap state_of ew)
        (subst (λ (g : Reader). FeedsWords m g scrap words answers p left after) eg f h) refl in
        let g = v.0 in
        rw t (
          ap (λ (x : Fed). x.taken) g,
          (
            eb ∙ ap (λ (x : Fed). x.reader.carried) g,
            (
              e4 ∙ ap (λ (x : Fed). place_of x.reader x.answered) g,
              (
                state-words left w (ap (λ (y : Fed). y.hart.state) g),
                (
                  ez ∙ (λ j. cond p.remap (map_words (map_for (pmp-loaded left w.count j))) (em j)) ∙ chosen_map map map_long p.remap (map_for (state_of left).pmp)
                      ∙ ap (λ (x : Fed). map_words x.map) g,
                  v.1,
                ),
              ),
            ),
          ),
        )
