-- What the form is: texts and memories turn into each other without loss, and no second text stands for the same memory.
use Rattle.std.specs.Prelude.{ℕ, ◌^◌, ◌≤◌, ◌<◌, ◌≡◌, true, List, length, get_or}
use Rattle.memory_text.specs.MemoryText.{text_of, most_words, is_memory_text, base_in, memory_in}

-- a base and at most 65,536 words, all of 64 bits
pub record IsMemory (base : ℕ) (ws : List ℕ) : Type 0 where
  pub first : base < 2 ^ 64
  pub most : length ws ≤ most_words
  pub below : (i : ℕ) → get_or ws i 0 < 2 ^ 64

pub record RoundTrip : Type 0 where
  -- each memory has its text, which is in the form and reads back as it
  pub memory-back : (base : ℕ) (ws : List ℕ) → IsMemory base ws
      → (is_memory_text (text_of base ws) ≡ true) × (base_in (text_of base ws) ≡ base) × (memory_in (text_of base ws) ≡ ws)
  -- each text in the form is that of the memory in it
  pub text-back : (t : List ℕ) → is_memory_text t ≡ true → IsMemory (base_in t) (memory_in t) × (t ≡ text_of (base_in t) (memory_in t))
  -- no two texts stand for the same memory
  pub one_text : (t u : List ℕ) → is_memory_text t ≡ true → is_memory_text u ≡ true → base_in t ≡ base_in u → memory_in t ≡ memory_in u → t ≡ u
