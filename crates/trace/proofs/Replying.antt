-- What is written for replies, one behind the other. Assumes nothing.
use Rattle.std.proofs.Common.{◌≡◌, ℕ, ◌*◌, ◌≤◌, List, [], ◌∷◌, ◌++◌, length, sym, refl, ap, ◌∙◌, append_assoc, mul-zero, mul-suc, arith, length-append}
use Rattle.trace.specs.Replies.{Reply, reply_numbers, written}
use Rattle.trace.specs.Widths.{four-numbers}

pub written_append : {A : Type 0} (text : Reply → List A) (xs ys : List Reply) → written text (xs ++ ys) ≡ written text xs ++ written text ys
unfolding written
written_append text [] ys = refl
written_append text (x ∷ xs) ys = ap (λ l. text x ++ l) (written_append text xs ys) ∙ sym (append_assoc (text x) (written text xs) (written text ys))

pub written-length : {A : Type 0} (text : Reply → List A) (width : ℕ) → ((r : Reply) → length (text r) ≤ width) → (rs : List Reply)
    → length (written text rs) ≤ width * length rs
unfolding written
written-length text width fits [] = omega (arith, mul-zero width)
written-length text width fits (r ∷ rs) =
    omega (arith, length-append (text r) (written text rs), fits r, written-length text width fits rs, mul-suc width (length rs))

-- so that words tell how many replies there are
pub written-words : (rs : List Reply) → length (written reply_numbers rs) ≡ 4 * length rs
unfolding written
written-words [] = refl
written-words (r ∷ rs) = omega (arith, length-append (reply_numbers r) (written reply_numbers rs), four-numbers r, written-words rs)
