-- How the rule is read off a number of the table, and the rows of the table. Assumes nothing.
use Prim.Native.Nat.{ℕ, zero, suc, ◌+◌, ◌*◌, ◌≤◌, ◌<◌, ◌/◌, ◌%◌}
use mathlib.Core.Path.{◌≡◌, refl, sym, ap, ◌∙◌}
use mathlib.Core.Bool.{Bool, true, false, not, cond, ◌&&◌, ◌||◌, and-false, or-false}
use mathlib.Core.List.{List, [], ◌∷◌}
use mathlib.Core.Logic.{◌≢◌, ⊎_elim}
use native.Mathlib.Omega.{arith}
use native.Mathlib.Nat.{le_of_suc-le-suc, not-suc-le-zero, eq-or-lt_of_le}
use lib.Dec.{eqb, leb, ltb}
use lib.ListN.{get_or, replicate, get_or-replicate}
use borrow.Author.Tests.{le-ltb, ne_eqb, leb-true}
use Rattle.bits.proofs.Conjunction.{both, not-true-false}
use Rattle.registers.specs.declared.Registers.{Registers}
use Rattle.steps.specs.declared.Operation.{Operation}
use Rattle.csr.specs.Permit.{between, present, lowest_mode, read_only, attempts_write, counter_hidden, translation_trapped, illegal}
use Rattle.csr.specs.Table.{accessibility}

-- ---- the rule read off a number

swap : (a b c : Bool) → (a || (b || c)) ≡ (b || (a || c))
swap true true c = refl
swap true false c = refl
swap false b c = refl

module _ (mode lowest : ℕ) (small : lowest < 4) (attempt rest : Bool) where
  -- by what the number is made of: presence, lowest mode, read-only flag
  by_parts : (is_present is_read_only : Bool)
      → let number = cond is_present (1 + 2 * lowest + 8 * cond is_read_only 1 0) 0 in
      ((eqb number 0 || (attempt && eqb (number / 8) 1)) || (ltb mode (number / 2 % 4) || rest))
      ≡ (not is_present || (ltb mode lowest || ((attempt && is_read_only) || rest)))
  by_parts false is_read_only = refl
  by_parts true true =
      let mid : (1 + 2 * lowest + 8) / 2 % 4 ≡ lowest = omega (arith, small) in
      let high : (1 + 2 * lowest + 8) / 8 ≡ 1 = omega (arith, small) in
      rw (ne_eqb (1 + 2 * lowest + 8) 0 (omega arith), mid, high) (swap (attempt && true) (ltb mode lowest) rest)
  by_parts true false =
      let mid : (1 + 2 * lowest + 0) / 2 % 4 ≡ lowest = omega (arith, small) in
      let high : (1 + 2 * lowest + 0) / 8 ≡ 0 = omega (arith, small) in
      rw (ne_eqb (1 + 2 * lowest + 0) 0 (omega arith), mid, high) (swap (attempt && false) (ltb mode lowest) rest)

module _ (r : Registers) (operation : Operation) (n : ℕ) where
  -- illegal in every mode: no register, or a write attempt to a read-only one
  abbrev by_address : Bool
  by_address = eqb (accessibility n) 0 || (attempts_write operation && eqb (accessibility n / 8) 1)

  -- illegal in this state: below the lowest mode, satp under TVM, a counter that is closed
  abbrev by_state : Bool
  by_state = ltb r.mode (accessibility n / 2 % 4) || (translation_trapped r n || counter_hidden r n)

  -- at every address and in every state
  pub illegal-by-number : (by_address || by_state) ≡ illegal r operation n
  unfolding illegal
  illegal-by-number =
      by_parts r.mode (lowest_mode n) (omega arith) (attempts_write operation) (translation_trapped r n || counter_hidden r n) (present n) (read_only n)

  -- the state closes nothing to M
  pub illegal-to_machine : r.mode ≡ 3 → by_address ≡ illegal r operation n
  illegal-to_machine e =
      let none : by_state ≡ false = rw (e, le-ltb 3 (accessibility n / 2 % 4) (omega arith), and-false (eqb n 0x180), and-false (between 0xC00 0xC1F n)) in
      sym (or-false by_address) ∙ (ap (λ (b : Bool). by_address || b) (sym none) ∙ illegal-by-number)

-- ---- rows

-- the numbers of so many addresses from n on
unfoldable pub numbers : ℕ → ℕ → List ℕ
numbers zero n = []
numbers (suc count) n = accessibility n ∷ numbers count (n + 1)

place : (count n i : ℕ) → i < count → get_or (numbers count n) i 0 ≡ accessibility (n + i)
unfolding numbers
place zero n i h = absurd (not-suc-le-zero h)
place (suc count) n zero h = ap accessibility (omega arith)
place (suc count) n (suc i) h = place count (n + 1) i (le_of_suc-le-suc h) ∙ ap accessibility (omega arith)

-- an address by its row and its place in it
pub in_row : (row n : ℕ) → n / 16 ≡ row → get_or (numbers 16 (16 * row)) (n % 16) 0 ≡ accessibility n
in_row row n e = place 16 (16 * row) (n % 16) (omega arith) ∙ ap accessibility (omega (arith, e))

-- an address in a row without a register
pub in_absent_row : (n : ℕ) → ((i : ℕ) → i < 16 → present (16 * (n / 16) + i) ≡ false) → get_or (replicate 16 0) (n % 16) 0 ≡ accessibility n
in_absent_row n f =
    let here : present n ≡ false = ap present (omega arith) ∙ f (n % 16) (omega arith) in
    get_or-replicate 16 (n % 16) 0 0 (omega arith) ∙ rw here

-- ---- a row in which no register is present

module _ (row i : ℕ) (h : i < 16) where
  one_out : (k q : ℕ) → 16 * q ≤ k → k < 16 * q + 16 → row ≢ q → eqb (16 * row + i) k ≡ false
  one_out k q low high ne = ne_eqb (16 * row + i) k (λ (e : 16 * row + i ≡ k). ne (omega (arith, e, low, high, h)))

  inside : (a b : ℕ) → between a b (16 * row + i) ≡ true → (a ≤ 16 * row + i) × (16 * row + i ≤ b)
  inside a b t =
      let w = both (leb a (16 * row + i)) (leb (16 * row + i) b) t in
      (leb-true a (16 * row + i) w.0, leb-true (16 * row + i) b w.1)

  some_out : (a b q : ℕ) → 16 * q ≤ a → b < 16 * q + 16 → row ≢ q → between a b (16 * row + i) ≡ false
  some_out a b q low high ne =
      not-true-false (between a b (16 * row + i)) (λ t. ne (omega (arith, (inside a b t).0, (inside a b t).1, low, high, h)))

  -- over two rows
  more_out : (a b q : ℕ) → 16 * q ≤ a → b < 16 * q + 32 → row ≢ q → row ≢ q + 1 → between a b (16 * row + i) ≡ false
  more_out a b q low high ne ne' =
      not-true-false (between a b (16 * row + i)) (λ t.
      let from : q ≤ row = omega (arith, (inside a b t).0, low, h) in
      let to : row ≤ q + 1 = omega (arith, (inside a b t).1, high, h) in
      ⊎_elim (λ (e : q ≡ row). ne (sym e)) (λ (l : q < row). ne' (omega (arith, l, to))) (eq-or-lt_of_le from))

  pub absent : row ≢ 0x10 → row ≢ 0x14 → row ≢ 0x18 → row ≢ 0x30 → row ≢ 0x32 → row ≢ 0x33 → row ≢ 0x34 → row ≢ 0x3A → row ≢ 0x3B → row ≢ 0xB0
      → row ≢ 0xB1 → row ≢ 0xC0 → row ≢ 0xC1 → row ≢ 0xF1 → present (16 * row + i) ≡ false
  unfolding present
  absent n10 n14 n18 n30 n32 n33 n34 n3_a n3_b n_b0 n_b1 n_c0 n_c1 n_f1 =
      rw (
        some_out 0xF11 0xF15 0xF1 (omega arith) (omega arith) n_f1,
        some_out 0x300 0x306 0x30 (omega arith) (omega arith) n30,
        one_out 0x30A 0x30 (omega arith) (omega arith) n30,
        one_out 0x320 0x32 (omega arith) (omega arith) n32,
        more_out 0x323 0x33F 0x32 (omega arith) (omega arith) n32 n33,
        some_out 0x340 0x344 0x34 (omega arith) (omega arith) n34,
        one_out 0x3A0 0x3A (omega arith) (omega arith) n3_a,
        one_out 0x3A2 0x3A (omega arith) (omega arith) n3_a,
        some_out 0x3B0 0x3BF 0x3B (omega arith) (omega arith) n3_b,
        one_out 0xB00 0xB0 (omega arith) (omega arith) n_b0,
        more_out 0xB02 0xB1F 0xB0 (omega arith) (omega arith) n_b0 n_b1,
        one_out 0x100 0x10 (omega arith) (omega arith) n10,
        some_out 0x104 0x106 0x10 (omega arith) (omega arith) n10,
        one_out 0x10A 0x10 (omega arith) (omega arith) n10,
        some_out 0x140 0x144 0x14 (omega arith) (omega arith) n14,
        one_out 0x180 0x18 (omega arith) (omega arith) n18,
        one_out 0xC00 0xC0 (omega arith) (omega arith) n_c0,
        more_out 0xC02 0xC1F 0xC0 (omega arith) (omega arith) n_c0 n_c1,
      )
