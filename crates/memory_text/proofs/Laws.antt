-- Texts and memories turn into each other without loss; what a caller finds in the slice. Assumes nothing.
use Prim.Native.Nat.{ℕ, zero, suc, ◌-◌, ◌/◌, ◌^◌, ◌<◌}
use Prim.Native.String.{String}
use mathlib.Core.Path.{◌≡◌, refl, sym, ap, ◌∙◌}
use mathlib.Core.Bool.{Bool, true, false, cond}
use mathlib.Core.List.{List, ◌∷◌, ◌++◌}
use native.Mathlib.Omega.{arith}
use borrow.Author.Tests.{le-leb}
use lib.Dec.{leb}
use lib.ListN.{length, get_or, take, drop, length-replicate}
use lib.Seq.{take-append_seam}
use Rattle.bits.specs.Lists.{Words}
use Rattle.bits.proofs.Conjunction.{both}
use Rattle.lines.specs.Lines.{bytes_of, lines_of, places_of, words_in, is_text}
use Rattle.lines.proofs.Back.{text-only, words_found, words_back, is_text_lem}
use Rattle.lines.proofs.Reading.{lines-length}
use Rattle.std.specs.Prelude.{Some, None}
use Rattle.memory_text.specs.declared.Reading.{Reading}
use Rattle.memory_text.specs.MemoryText.{keys, text_of, word_count, most_words, is_memory_text, base_in, memory_in, is_taken, read_as, read_memory, stored_in}
use Rattle.memory_text.specs.RoundTrip.{IsMemory, RoundTrip}
use Rattle.memory_text.proofs.Form.{keys_length, text_sized, memory-length}

keys-count : (n : ℕ) → length (keys n) ≡ suc n
unfolding keys
keys-count n = ap suc (length-replicate {A = String} n "word")

-- ---- from a memory to its text and back

module _ (base : ℕ) (ws : List ℕ) where
  count-back : length (text_of base ws) / 22 - 1 ≡ length ws
  unfolding text_of
  count-back = omega (arith, lines-length (keys (length ws)) 0 (base ∷ ws), keys_length (length ws))

  fields : IsMemory base ws → Words (length (keys (length ws))) (base ∷ ws)
  fields m = record { count = sym (keys-count (length ws)); below = under }
    where
      under : (i : ℕ) → get_or (base ∷ ws) i 0 < 2 ^ 64
      under zero = m.first
      under (suc i) = m.below i

  memory-back : IsMemory base ws → (is_memory_text (text_of base ws) ≡ true) × (base_in (text_of base ws) ≡ base) × (memory_in (text_of base ws) ≡ ws)
  unfolding text_of is_memory_text base_in memory_in
  memory-back m =
      let ks = keys (length ws) in
      let w = words_back ks (base ∷ ws) (fields m) in
      (rw (count-back, le-leb (length ws) most_words m.most) (is_text_lem ks (base ∷ ws) (fields m)), rw (count-back, w), rw (count-back, w))

-- ---- from a text to its memory and back

module _ (t : List ℕ) where
  abbrev found : List ℕ
  found = words_in (keys (word_count t)) t

  found_parts : found ≡ base_in t ∷ memory_in t
  unfolding bytes_of keys places_of words_in base_in memory_in
  found_parts = refl

  text_again : is_memory_text t ≡ true → t ≡ text_of (base_in t) (memory_in t)
  unfolding is_memory_text text_of
  text_again e =
      let ks = keys (word_count t) in
      text-only ks t (both (leb (word_count t) most_words) (is_text ks t) e).1 ∙ ap (lines_of ks 0) found_parts ∙ rw (memory-length t)

  is_memory : is_memory_text t ≡ true → IsMemory (base_in t) (memory_in t)
  is_memory e =
      let w = words_found (keys (word_count t)) t in
      let b : (i : ℕ) → get_or (base_in t ∷ memory_in t) i 0 < 2 ^ 64 = rw found_parts at w.below in
      record { first = b 0; most = omega (arith, memory-length t, (text_sized t e).1); below = λ i. b (suc i) }

one_text : (t u : List ℕ) → is_memory_text t ≡ true → is_memory_text u ≡ true → base_in t ≡ base_in u → memory_in t ≡ memory_in u → t ≡ u
one_text t u p q b w = text_again t p ∙ (λ j. text_of (b j) (w j)) ∙ sym (text_again u q)

pub round_trip : RoundTrip
round_trip = record { memory-back = memory-back; text-back = λ t e. (is_memory t e, text_again t e); one_text = one_text }

-- ---- a text that is taken: its memory is what the reading and the front of the slice say
pub read_back_lem : (t s : List ℕ) (r : Reading) → read_memory t (length s) ≡ Some r
    → (is_memory_text t ≡ true) × (r.base ≡ base_in t) × (take r.count (stored_in t s) ≡ memory_in t)
unfolding is_taken read_memory stored_in
read_back_lem t s r e = go (is_taken t (length s)) refl e
  where
    go : (b : Bool) → is_taken t (length s) ≡ b → cond b (read_as (base_in t) (word_count t)) None ≡ Some r
        → (is_memory_text t ≡ true) × (r.base ≡ base_in t) × (take r.count (cond b (memory_in t ++ drop (word_count t) s) s) ≡ memory_in t)
    go true p q =
        let same : record { base = base_in t; count = word_count t } ≡ r = cc in (
          (both (is_memory_text t) (leb (word_count t) (length s)) p).0,
          sym (ap (λ (x : Reading). x.base) same),
          rw (← same, ← memory-length t) (take-append_seam (memory_in t) (drop (length (memory_in t)) s)),
        )
    go false p q = cc
