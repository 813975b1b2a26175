-- The two forms: their texts compute with the words as variables, and what the program does with the text of zeros follows.
use Prim.Native.Nat.{ℕ, ◌+◌, ◌-◌, ◌≤◌, ◌<◌}
use mathlib.Core.Path.{◌≡◌, refl, sym, ap, ◌∙◌}
use mathlib.Core.Bool.{Bool, true, false, cond, ◌&&◌}
use mathlib.Core.List.{List, [], ◌∷◌, ◌++◌, append_assoc}
use native.Mathlib.Omega.{arith}
use borrow.Author.Tests.{le-leb, leb-true}
use lib.Dec.{leb}
use lib.ListN.{length, get_or, take, drop, replicate, drop_of_length-le, length-append, length-drop}
use lib.Seq.{sets, take-length, take_at, drop_at}
use Rattle.lines.specs.Lines.{bytes_of, hex_digits, line_of, lines_of, lines_length, places_of, words_in, is_text}
use Rattle.lines.specs.Places.{with_word, with_words}
use Rattle.std.specs.Prelude.{Option, Some, None}
use Rattle.lines.specs.Fields.{has_key, word_at, line_at, lines_at, all_ok, words_read}
use Rattle.bits.proofs.Conjunction.{both}
use Rattle.bits.proofs.SameLaws.{same_lengths}
use Rattle.lines.proofs.Back.{from_place}
use Rattle.lines.proofs.Reading.{head_same, lines-length, text_judged, words_judged}
use Rattle.text.specs.declared.Form.{Form}
use Rattle.text.specs.declared.Form.TheVariants.{First, Second}
use Rattle.text.specs.Text.{first_keys, keys_of, head_of, text_of, length_of, head_length, line_count, written_to, completed, words_of_text, is_text_of, read_as, no_text, read_text}
use Rattle.text.specs.Template.{in_order, lines_by}

-- the places of the digits that a form has, behind the head
abbrev pub places_in : Form → List ℕ
places_in form = places_of (keys_of form) 0

-- the lines of the text of zeros
abbrev pub zero_lines : List ℕ
zero_lines = lines_of (keys_of Second) 0 []

places_part : (form : Form) → take (line_count form - 0) (places_in Second) ≡ places_in form
unfolding bytes_of first_keys keys_of places_of
places_part First = refl
places_part Second = refl

pub places_taken : (form : Form) {n : ℕ} → n ≡ line_count form → take (n - 0) (places_in Second) ≡ places_in form
places_taken form e = ap (λ (k : ℕ). take (k - 0) (places_in Second)) e ∙ places_part form

-- ---- writing

-- the lines of zeros with the words at their places are the lines of the words
pub lines_filled : (form : Form) (ws : List ℕ) → with_words (places_in form) 0 ws (lines_of (keys_of form) 0 []) ≡ lines_of (keys_of form) 0 ws
unfolding bytes_of first_keys keys_of hex_digits line_of lines_of places_of with_word with_words
lines_filled First ws = refl
lines_filled Second ws = refl

-- a form's text of zeros is a part of the second form's
zeros_part : (form : Form) → take (length_of form) (drop (22 - head_length form) (text_of Second [])) ≡ text_of form []
unfolding bytes_of first_keys keys_of head_of hex_digits line_of lines_of text_of
zeros_part First = refl
zeros_part Second = refl

keys_length : (form : Form) → head_length form + lines_length (keys_of form) ≡ length_of form
unfolding bytes_of first_keys keys_of lines_length
keys_length First = refl
keys_length Second = refl

pub longest : (form : Form) → length_of form ≤ 1094
longest First = omega arith
longest Second = omega arith

pub head_length_lem : (form : Form) → length (head_of form) ≡ head_length form
unfolding bytes_of head_of line_of hex_digits
head_length_lem First = refl
head_length_lem Second = refl

pub text-length : (form : Form) (ws : List ℕ) → length (text_of form ws) ≡ length_of form
unfolding text_of
text-length form ws =
    length-append (head_of form) (lines_of (keys_of form) 0 ws)
    ∙ (λ j. head_length_lem form j + lines-length (keys_of form) 0 ws j)
    ∙ keys_length form

-- the text of zeros is copied to the front of a buffer, which gives u, and the words are then written to their places in it, which gives x for its lines
module _ (form : Form) (ws b u x : List ℕ) {n s : ℕ} (i : n ≡ head_length form) (j : s ≡ length_of form) where
  abbrev zeros : List ℕ
  zeros = take (22 - n + s - (22 - n)) (drop (22 - n) (text_of Second []))

  zeros_are : zeros ≡ text_of form []
  zeros_are =
      let z : 22 - head_length form + length_of form - (22 - head_length form) ≡ length_of form = omega arith in
      rw (i, j, z) (zeros_part form)

  abbrev heads : List ℕ
  heads = head_of form

  abbrev lines : List ℕ
  lines = lines_of (keys_of form) 0 []

  abbrev rest : List ℕ
  rest = drop (length_of form) b

  module _ (c : u ≡ zeros ++ drop s b) where
    copied : u ≡ heads ++ (lines ++ rest)
    unfolding text_of
    copied = c ∙ (λ k. zeros_are k ++ drop (j k) b) ∙ append_assoc heads lines rest

    lines_size : length lines ≡ s - n
    lines_size = lines-length (keys_of form) 0 [] ∙ omega (arith, i, j, keys_length form)

    behind : drop n u ≡ lines ++ rest
    behind = ap (drop n) copied ∙ drop_at heads (lines ++ rest) n (head_length_lem form ∙ sym i)

    pub text-written : {k : ℕ} → k ≡ line_count form → length_of form ≤ length b → x ≡ with_words (take (k - 0) (places_in Second)) 0 ws (take (s - n) (drop n u))
        → take n u ++ (x ++ drop (s - n) (drop n u)) ≡ written_to form ws b
    unfolding written_to text_of
    text-written m h d =
        let p : take n u ≡ heads = ap (take n) copied ∙ take_at heads (lines ++ rest) n (head_length_lem form ∙ sym i) in
        let q : take (s - n) (drop n u) ≡ lines = ap (take (s - n)) behind ∙ take_at lines rest (s - n) lines_size in
        let r : drop (s - n) (drop n u) ≡ rest = ap (drop (s - n)) behind ∙ drop_at lines rest (s - n) lines_size in
        let w : x ≡ lines_of (keys_of form) 0 ws = d ∙ (λ t. with_words (places_taken form m t) 0 ws (q t)) ∙ lines_filled form ws in
        (λ t. p t ++ (w t ++ r t)) ∙ sym (append_assoc heads (lines_of (keys_of form) 0 ws) rest) ∙ rw (le-leb (length_of form) (length b) h)

-- ---- reading

-- the lines of a form stand in order in the text of zeros
form-ordered : (form : Form) → in_order 1072 (places_in form) 0 ≡ true
unfolding bytes_of first_keys keys_of places_of in_order
form-ordered First = refl
form-ordered Second = refl

places_few : (form : Form) → length (places_in form) ≤ 43
unfolding bytes_of first_keys keys_of places_of
places_few First = omega arith
places_few Second = omega arith

pub lines-within : (form : Form) {n : ℕ} → n ≡ line_count form
    → (in_order 1072 (take (n - 0) (places_in Second)) 0 ≡ true) × (length (take (n - 0) (places_in Second)) ≤ 43)
lines-within form e = rw (places_taken form e) (form-ordered form, places_few form)

-- the keys in the text of zeros are the keys, and its head is the head
form-lines : (form : Form) (t : List ℕ) → lines_by zero_lines (places_in form) t 0 ≡ lines_at (keys_of form) t 0
unfolding bytes_of first_keys keys_of hex_digits line_of lines_of places_of lines_by line_at lines_at
form-lines First t = refl
form-lines Second t = refl

form_head : (form : Form) → take (22 - (22 - head_length form)) (drop (22 - head_length form) (text_of Second [])) ≡ head_of form
unfolding bytes_of first_keys keys_of head_of hex_digits line_of lines_of text_of
form_head First = refl
form_head Second = refl

-- 43 words are read
words-full : (form : Form) (t : List ℕ) → sets (replicate 43 0) 0 (words_read (lines_at (keys_of form) t 0)) ≡ completed form (words_read (lines_at (keys_of form) t 0))
unfolding bytes_of first_keys keys_of lines_at words_read completed
words-full First t = refl
words-full Second t = refl

-- a word without a line makes no difference to the text
lines-completed : (form : Form) (t : List ℕ) → lines_of (keys_of form) 0 (completed form (words_in (keys_of form) t)) ≡ lines_of (keys_of form) 0 (words_in (keys_of form) t)
unfolding bytes_of first_keys keys_of lines_of places_of words_in completed
lines-completed First t = refl
lines-completed Second t = refl

-- a text of the right length is judged by its head and its lines
form_judged : (form : Form) (t : List ℕ) → length t ≡ length_of form
    → is_text_of form t ≡ (has_key t 0 (head_of form) && is_text (keys_of form) (drop (head_length form) t))
unfolding is_text_of text_of words_of_text is_text
form_judged form t h =
    let n : length (head_of form) ≤ length t = omega (arith, head_length_lem form, keys_length form) in
    head_same t (head_of form) (lines_of (keys_of form) 0 (words_of_text form t)) n
    ∙ rw (head_length_lem form, lines-completed form (drop (head_length form) t))

-- what the reader finds, where m bytes are its head and the digits of its lines stand at these places
module _ (form : Form) (t : List ℕ) {m : ℕ} {ps : List ℕ} (h : length t ≡ length_of form) (b : m ≡ head_length form) (p : ps ≡ places_in form) where
  abbrev behind_head : List ℕ
  behind_head = drop (head_length form) t

  abbrev lines_found : List (Option ℕ)
  lines_found = lines_by zero_lines ps (take (length t - m) (drop m t)) 0

  lines_are : lines_found ≡ lines_at (keys_of form) behind_head 0
  lines_are =
      let c : take (length t - m) (drop m t) ≡ behind_head =
      ap (λ (n : ℕ). take n (drop m t)) (sym (length-drop m t)) ∙ take-length (drop m t) ∙ ap (λ (n : ℕ). drop n t) b in
      (λ j. lines_by zero_lines (p j) (c j) 0) ∙ form-lines form behind_head

  -- where k tells whether it begins with the head, and r whether all lines are in the form
  module _ (k r : Bool) (i : k ≡ has_key t 0 (take (22 - (22 - m)) (drop (22 - m) (text_of Second [])))) (e : r ≡ all_ok lines_found) where
    found_judged : (k && r) ≡ is_text_of form t
    found_judged =
        let n : length behind_head ≡ lines_length (keys_of form) = length-drop (head_length form) t ∙ omega (arith, keys_length form) in
        let o : r ≡ is_text (keys_of form) behind_head = e ∙ ap all_ok lines_are ∙ sym (text_judged behind_head (keys_of form) n) in
        let q : k ≡ has_key t 0 (head_of form) =
        i ∙ ap (λ (n : ℕ). has_key t 0 (take (22 - (22 - n)) (drop (22 - n) (text_of Second [])))) b ∙ ap (has_key t 0) (form_head form) in
        rw (form_judged form t h, ← o, ← q)

    pub text-unread : (k && r) ≡ false → no_text ≡ read_text form t
    unfolding read_text
    text-unread f = rw (sym found_judged ∙ f)

    pub text-found : (ws : List ℕ) → (k && r) ≡ true → (r ≡ true → ws ≡ sets (replicate 43 0) 0 (words_read lines_found)) → read_as ws ≡ read_text form t
    unfolding words_of_text read_text
    text-found ws f d =
        let lined : r ≡ true = (both k r f).1 in
        let w : ws ≡ completed form (words_in (keys_of form) behind_head) =
        d lined ∙ ap (λ (l : List (Option ℕ)). sets (replicate 43 0) 0 (words_read l)) lines_are ∙ words-full form behind_head
        ∙ ap (completed form) (sym (words_judged behind_head (keys_of form) (sym (ap all_ok lines_are) ∙ sym e ∙ lined))) in
        rw (sym found_judged ∙ f, w)

-- a text that is longer or shorter
pub length-unread : (form : Form) (t : List ℕ) → (length t ≡ length_of form → ⊥) → no_text ≡ read_text form t
unfolding read_text is_text_of
length-unread form t h = rw (← same_lengths t (text_of form (words_of_text form t)) (λ e. h (e ∙ text-length form (words_of_text form t))))

-- ---- the loop over the lines, where i of them are read and the next starts at place p

module _ (ps : List ℕ) (i p : ℕ) where
  abbrev digits : ℕ
  digits = get_or ps i 0

  -- the next line lies behind the one before and within a template of length n, and so do those that are left
  module _ (n : ℕ) (h : i < length ps) (e : in_order n (drop i ps) p ≡ true) where
    in_parts : ((leb p digits && leb (digits + 17) n) ≡ true) × (in_order n (drop (i + 1) ps) (digits + 17) ≡ true)
    unfolding in_order
    in_parts = both (leb p digits && leb (digits + 17) n) (in_order n (drop (i + 1) ps) (digits + 17)) (rw (from_place ps i h) at e)

    pub line_behind : p ≤ digits
    line_behind = leb-true p digits (both (leb p digits) (leb (digits + 17) n) in_parts.0).0

    pub line_inside : digits + 17 ≤ n
    line_inside = leb-true (digits + 17) n (both (leb p digits) (leb (digits + 17) n) in_parts.0).1

    pub lines_left : in_order n (drop (i + 1) ps) (digits + 17) ≡ true
    lines_left = in_parts.1

  module _ (template t : List ℕ) where
    abbrev key : List ℕ
    key = take (digits - p) (drop p template)

    lines_more : i < length ps → lines_by template (drop i ps) t p ≡ cond (has_key t p key) (word_at t digits) None ∷ lines_by template (drop (i + 1) ps) t (digits + 17)
    unfolding lines_by
    lines_more h = rw (from_place ps i h)

    -- its key or its word is broken, or both are read
    pub key_broken : i < length ps → has_key t p key ≡ false → all_ok (lines_by template (drop i ps) t p) ≡ false
    unfolding all_ok
    key_broken h e = rw (lines_more h, e)

    pub word_broken : i < length ps → has_key t p key ≡ true → word_at t digits ≡ None → all_ok (lines_by template (drop i ps) t p) ≡ false
    unfolding all_ok
    word_broken h e d = rw (lines_more h, e, d)

    pub line_read : (w : ℕ) → i < length ps → has_key t p key ≡ true → word_at t digits ≡ Some w
        → lines_by template (drop i ps) t p ≡ Some w ∷ lines_by template (drop (i + 1) ps) t (digits + 17)
    line_read w h e d = rw (lines_more h, e, d)

    pub lines_passed : length ps ≤ i → lines_by template (drop i ps) t p ≡ []
    unfolding lines_by
    lines_passed h = rw (drop_of_length-le ps h)
