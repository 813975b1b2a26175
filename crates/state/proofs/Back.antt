-- A state and its words turn into each other without loss. Assumes nothing.
use Prim.Native.Nat.{ℕ}
use mathlib.Core.Path.{◌≡◌, sym, ap, ◌∙◌}
use mathlib.Core.List.{List, [], ◌∷◌, ◌++◌}
use lib.ListN.{get_or}
use Rattle.bits.specs.Lists.{elements, Words}
use Rattle.bits.proofs.ListLaws.{elements_are}
use Rattle.protection.specs.Arrays.{Arrays}
use Rattle.protection.proofs.Packing.{low_back, high_back, configs_back}
use Rattle.state.specs.declared.State.{State}
use Rattle.state.specs.Words.{register_words, words_of, registers_of, state_of}

-- the words of the state of words are the words
pub words_back : (w : List ℕ) → Words 43 w → words_of (state_of w) ≡ w
unfolding words_of elements
words_back w t =
    (λ j.
    register_words (registers_of w)
    ++ (low_back (get_or w 23 0) (get_or w 24 0) (t.below 23) j ∷ high_back (get_or w 23 0) (get_or w 24 0) (t.below 24) j ∷ elements 16 25 w ++ get_or w 41 0 ∷ get_or w 42 0 ∷ []))
    ∙ elements_are w 43 0 t.count

-- the state of the words of a state is the state
pub state-back : (s : State) → Arrays s.pmp → state_of (words_of s) ≡ s
unfolding words_of elements
state-back s t =
    λ j.
    record {
      registers = s.registers;
      pmp = record { grain = s.pmp.grain; cfgs = configs_back s.pmp.cfgs t.cfgs t.bytes j; addrs = elements_are s.pmp.addrs 16 0 t.addrs j };
      satp = s.satp;
    }

-- the same, from words that are known to be the state's
pub words-state : (s : State) → Arrays s.pmp → {w : List ℕ} → w ≡ words_of s → state_of w ≡ s
words-state s t e = ap state_of e ∙ state-back s t

-- 43 words are those of their state
pub state-words : (w : List ℕ) {s : State} → Words 43 w → state_of w ≡ s → w ≡ words_of s
state-words w t e = sym (words_back w t) ∙ ap words_of e
