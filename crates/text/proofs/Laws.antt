-- Texts and words turn into each other without loss within a form, no second text of it stands for the same words, and no text is in both forms.
use Prim.Native.Nat.{ℕ, zero, suc, ◌+◌, ◌^◌, ◌<◌}
use mathlib.Core.Path.{◌≡◌, refl, sym, ap, ◌∙◌}
use mathlib.Core.Bool.{Bool, true, false, cond}
use mathlib.Core.List.{List, [], ◌∷◌, ◌++◌}
use native.Mathlib.Omega.{arith}
use lib.ListN.{length, get_or, drop, length-append}
use lib.Seq.{drop-append_seam}
use Rattle.lines.specs.Lines.{bytes_of, lines_of, places_of, words_in}
use Rattle.bits.specs.Lists.{elements, Words}
use Rattle.bits.proofs.ListLaws.{elements_are}
use Rattle.bits.proofs.SameLaws.{same_refl, same_eq}
use Rattle.lines.proofs.Back.{words_found, words_back}
use Rattle.text.specs.declared.Form.{Form}
use Rattle.text.specs.declared.Form.TheVariants.{First, Second}
use Rattle.text.specs.Text.{Reading, other, first_keys, keys_of, head_of, text_of, length_of, head_length, line_count, completed, words_of_text, is_text_of, read_as, no_text, read_text}
use Rattle.text.proofs.Template.{head_length_lem, text-length, length-unread}

-- ---- words, and those of them that a form has lines for

-- 43 words with zeros for those that the form has no line for
abbrev pub with_lines : Form → List ℕ → List ℕ
with_lines form ws = completed form (elements (line_count form) 0 ws)

elements-below : (n i : ℕ) (l : List ℕ) → ((k : ℕ) → get_or l k 0 < 2 ^ 64) → (k : ℕ) → get_or (elements n i l) k 0 < 2 ^ 64
unfolding elements
elements-below zero i l h k = omega arith
elements-below (suc n) i l h zero = h i
elements-below (suc n) i l h (suc k) = elements-below n (i + 1) l h k

module _ (ws : List ℕ) where
  lines-words : (form : Form) → Words 43 ws → Words (length (keys_of form)) (elements (line_count form) 0 ws)
  unfolding first_keys keys_of elements
  lines-words First w = record { count = refl; below = elements-below 41 0 ws w.below }
  lines-words Second w = record { count = refl; below = elements-below 43 0 ws w.below }

  lines_spelt : (form : Form) → lines_of (keys_of form) 0 ws ≡ lines_of (keys_of form) 0 (elements (line_count form) 0 ws)
  unfolding bytes_of first_keys keys_of lines_of elements
  lines_spelt First = refl
  lines_spelt Second = refl

  text_spelt : (form : Form) → text_of form (with_lines form ws) ≡ text_of form ws
  unfolding bytes_of first_keys keys_of lines_of text_of completed elements
  text_spelt First = refl
  text_spelt Second = refl

  -- the second form has a line for every word
  pub all_lines : length ws ≡ 43 → with_lines Second ws ≡ ws
  unfolding completed
  all_lines n = elements_are ws 43 0 n

  -- the first has none for the last two
  pub first-lines : length ws ≡ 43 → get_or ws 41 0 ≡ 0 → get_or ws 42 0 ≡ 0 → with_lines First ws ≡ ws
  unfolding completed elements
  first-lines n e d = (λ j. elements 41 0 ws ++ sym e j ∷ sym d j ∷ []) ∙ elements_are ws 43 0 n

-- ---- texts

module _ (form : Form) where
  words_in_lem : (ws : List ℕ) → Words 43 ws → words_of_text form (text_of form ws) ≡ with_lines form ws
  unfolding words_of_text text_of
  words_in_lem ws w =
      let e : drop (head_length form) (head_of form ++ lines_of (keys_of form) 0 ws) ≡ lines_of (keys_of form) 0 ws =
      ap (λ (n : ℕ). drop n (head_of form ++ lines_of (keys_of form) 0 ws)) (sym (head_length_lem form)) ∙ drop-append_seam (head_of form) (lines_of (keys_of form) 0 ws) in
      ap (λ (t : List ℕ). completed form (words_in (keys_of form) t)) (e ∙ lines_spelt ws form)
      ∙ ap (completed form) (words_back (keys_of form) (elements (line_count form) 0 ws) (lines-words ws form w))

  -- the text of words gives the words that it has lines for
  pub read-text : (ws : List ℕ) → Words 43 ws → read_text form (text_of form ws) ≡ read_as (with_lines form ws)
  unfolding is_text_of read_text
  read-text ws w = rw (words_in_lem ws w, text_spelt ws form, same_refl (text_of form ws))

  -- a text that gives words is their text
  pub text-read : (t ws : List ℕ) → read_text form t ≡ read_as ws → t ≡ text_of form ws
  unfolding is_text_of read_text
  text-read t ws e = go (is_text_of form t) refl e
    where
      go : (b : Bool) → is_text_of form t ≡ b → cond b (read_as (words_of_text form t)) no_text ≡ read_as ws → t ≡ text_of form ws
      go true p q = same_eq t (text_of form (words_of_text form t)) p ∙ ap (λ (r : Reading). text_of form r.words) q
      go false p q = let z : false ≡ true = ap (λ (r : Reading). r.ok) q in cc

  -- no second text stands for the same words
  pub one_text : (t u ws : List ℕ) → read_text form t ≡ read_as ws → read_text form u ≡ read_as ws → t ≡ u
  one_text t u ws p q = text-read t ws p ∙ sym (text-read u ws q)

  -- a text that is refused is the text of no words
  pub refused_none : (t ws : List ℕ) → (read_text form t).ok ≡ false → Words 43 ws → t ≡ text_of form ws → ⊥
  refused_none t ws p w e =
      let q : true ≡ false = sym (ap (λ (r : Reading). r.ok) (ap (read_text form) e ∙ read-text ws w)) ∙ p in
      let z : ◌≡◌ {A = ℕ} 0 1 = cc in
      omega arith

  -- what is read of a text that is in the form
  pub read_as_lem : (t : List ℕ) → (read_text form t).ok ≡ true → read_text form t ≡ read_as (read_text form t).words
  unfolding read_text
  read_as_lem t e = go (is_text_of form t) e
    where
      go : (b : Bool) → (cond b (read_as (words_of_text form t)) no_text).ok ≡ true
          → cond b (read_as (words_of_text form t)) no_text ≡ read_as (cond b (read_as (words_of_text form t)) no_text).words
      go true q = refl
      go false q = let z : ◌≡◌ {A = ℕ} 0 1 = cc in absurd (omega arith)

append_below : (xs ys : List ℕ) → ((i : ℕ) → get_or xs i 0 < 2 ^ 64) → ((i : ℕ) → get_or ys i 0 < 2 ^ 64) → (i : ℕ) → get_or (xs ++ ys) i 0 < 2 ^ 64
append_below [] ys h k i = k i
append_below (x ∷ xs) ys h k zero = h 0
append_below (x ∷ xs) ys h k (suc i) = append_below xs ys (λ j. h (suc j)) k i

zeros_below : (i : ℕ) → get_or (0 ∷ 0 ∷ []) i 0 < 2 ^ 64
zeros_below zero = omega arith
zeros_below (suc zero) = omega arith
zeros_below (suc (suc i)) = omega arith

completed-words : (form : Form) (ws : List ℕ) → Words (length (keys_of form)) ws → Words 43 (completed form ws)
unfolding first_keys keys_of completed
completed-words First ws w = record {
  count = length-append ws (0 ∷ 0 ∷ []) ∙ ap (λ (n : ℕ). n + 2) w.count;
  below = append_below ws (0 ∷ 0 ∷ []) w.below zeros_below;
}
completed-words Second ws w = w

-- what is read is 43 words of 64 bits
pub read-words : (form : Form) (t ws : List ℕ) → read_text form t ≡ read_as ws → Words 43 ws
unfolding read_text words_of_text
read-words form t ws e = go (is_text_of form t) e
  where
    go : (b : Bool) → cond b (read_as (words_of_text form t)) no_text ≡ read_as ws → Words 43 ws
    go true q =
        let v : words_of_text form t ≡ ws = ap (λ (r : Reading). r.words) q in
        let w : Words 43 (words_of_text form t) = completed-words form _ (words_found (keys_of form) (drop (head_length form) t)) in
        rw v at w
    go false q = let z : false ≡ true = ap (λ (r : Reading). r.ok) q in let y : ◌≡◌ {A = ℕ} 0 1 = cc in absurd (omega arith)

-- a text in the first form is read with satp and grain 0
pub read_plain : (t ws : List ℕ) → read_text First t ≡ read_as ws → (get_or ws 41 0 ≡ 0) × (get_or ws 42 0 ≡ 0)
unfolding read_text words_of_text first_keys keys_of places_of words_in completed
read_plain t ws e = go (is_text_of First t) e
  where
    go : (b : Bool) → cond b (read_as (words_of_text First t)) no_text ≡ read_as ws → (get_or ws 41 0 ≡ 0) × (get_or ws 42 0 ≡ 0)
    go true q = (sym (ap (λ (r : Reading). get_or r.words 41 0) q), sym (ap (λ (r : Reading). get_or r.words 42 0) q))
    go false q = let z : false ≡ true = ap (λ (r : Reading). r.ok) q in let y : ◌≡◌ {A = ℕ} 0 1 = cc in absurd (omega arith)

lengths_differ : (form : Form) → length_of form ≡ length_of (other form) → ⊥
lengths_differ First e = omega arith
lengths_differ Second e = omega arith

-- "each reader refuses the other's form"
pub other-unread : (form : Form) (t : List ℕ) → (read_text form t).ok ≡ true → read_text (other form) t ≡ no_text
other-unread form t e =
    let n : length t ≡ length_of form = ap length (text-read form t (read_text form t).words (read_as_lem form t e)) ∙ text-length form (read_text form t).words in
    sym (length-unread (other form) t (λ k. lengths_differ form (sym n ∙ k)))
