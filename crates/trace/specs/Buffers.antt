-- Texts written into a buffer, one behind the other.
use Rattle.std.specs.Prelude.{◌≡◌, ℕ, ◌+◌, cond, List, ◌++◌, length, drop, nat_lt}
use Rattle.std.proofs.lemmas.List.Edits.{sets}

-- the text, of words or bytes, stands in the buffer from a place on, and `next` is the place behind it
pub record Put {A : Type 0} (buffer : List A) (place : ℕ) (text after : List A) (next : ℕ) : Type 0 where
  pub bytes : after ≡ sets buffer place text
  pub behind : next ≡ place + length text

-- a buffer with a text at its front; the bytes behind are unchanged
abbrev pub at_front : List ℕ → List ℕ → List ℕ
at_front text buffer = text ++ drop (length text) buffer

-- the text at the front of a buffer that has room for it; a smaller buffer stays as it was
abbrev pub written_front : ℕ → List ℕ → List ℕ → List ℕ
written_front room text buffer = cond (nat_lt (length buffer) room) buffer (at_front text buffer)

abbrev pub written_length : ℕ → List ℕ → List ℕ → ℕ
written_length room text buffer = cond (nat_lt (length buffer) room) 0 (length text)
