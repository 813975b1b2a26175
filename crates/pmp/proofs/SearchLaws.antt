-- Laws of `lowest`, `any_byte`, `every_byte` and `least`: how a loop computes them, and what they say of each number. Assumes nothing.
use mathlib.Core.Path.{◌≡◌, refl, sym, ap, ◌∙◌}
use mathlib.Core.Bool.{Bool, true, false, not, cond, ◌&&◌, ◌||◌}
use Prim.Native.Nat.{ℕ, zero, suc, ◌+◌, ◌-◌, ◌≤◌, ◌<◌, min}
use native.Mathlib.Numerals.{add-one}
use native.Mathlib.Omega.{arith}
use native.Mathlib.Decide.{dec_le}
use borrow.Author.Tests.{not-true, not-false}
use Rattle.bits.proofs.Conjunction.{contradiction, not-false-true, both}
use Rattle.pmp.specs.Search.{lowest, any_byte, every_byte, least}

abbrev fails : (ℕ → Bool) → ℕ → Bool
fails test b = not (test b)

-- some byte passes where not every byte fails, so that each law of `any_byte` is one of `every_byte`
any_every : (test : ℕ → Bool) (n address : ℕ) → any_byte test n address ≡ not (every_byte (fails test) n address)
unfolding any_byte every_byte
any_every test zero address = refl
any_every test (suc n) address = go (test address) (any_every test n (suc address))
  where
    go : (b : Bool) → any_byte test n (suc address) ≡ not (every_byte (fails test) n (suc address))
        → (b || any_byte test n (suc address)) ≡ not (not b && every_byte (fails test) n (suc address))
    go true e = refl
    go false e = e

-- ---- a loop over the bytes: byte i is at address + i, and n - i bytes are left

module _ (test : ℕ → Bool) (n address : ℕ) where
  pub every_start : every_byte test n address ≡ every_byte test (n - 0) (address + 0)
  every_start =
      let e : n - 0 ≡ n = omega arith in
      let s : address + 0 ≡ address = omega arith in
      rw (e, s)

  every_step : (i : ℕ) → i < n → every_byte test (n - i) (address + i) ≡ (test (address + i) && every_byte test (n - (i + 1)) (address + (i + 1)))
  unfolding every_byte
  every_step i h =
      let e : n - i ≡ suc (n - (i + 1)) = omega arith in
      let s : address + (i + 1) ≡ suc (address + i) = omega arith in
      rw (e, s)

  pub every_next : (i : ℕ) → i < n → test (address + i) ≡ true
      → every_byte test (n - i) (address + i) ≡ every_byte test (n - (i + 1)) (address + (i + 1))
  every_next i h e = every_step i h ∙ ap (λ (b : Bool). b && every_byte test (n - (i + 1)) (address + (i + 1))) e

  pub every_missed : (i : ℕ) → i < n → test (address + i) ≡ false → every_byte test (n - i) (address + i) ≡ false
  every_missed i h e = every_step i h ∙ ap (λ (b : Bool). b && every_byte test (n - (i + 1)) (address + (i + 1))) e

  pub every_end : (i : ℕ) → n ≤ i → every_byte test (n - i) (address + i) ≡ true
  unfolding every_byte
  every_end i h = let e : n - i ≡ 0 = omega arith in rw e

module _ (test : ℕ → Bool) (n address : ℕ) where
  pub any_start : any_byte test n address ≡ any_byte test (n - 0) (address + 0)
  any_start = simp any_every (ap not (every_start (fails test) n address))

  pub any_next : (i : ℕ) → i < n → test (address + i) ≡ false
      → any_byte test (n - i) (address + i) ≡ any_byte test (n - (i + 1)) (address + (i + 1))
  any_next i h e = simp any_every (ap not (every_next (fails test) n address i h (ap not e)))

  pub any_found : (i : ℕ) → i < n → test (address + i) ≡ true → any_byte test (n - i) (address + i) ≡ true
  any_found i h e = any_every test (n - i) (address + i) ∙ ap not (every_missed (fails test) n address i h (ap not e))

  pub any_end : (i : ℕ) → n ≤ i → any_byte test (n - i) (address + i) ≡ false
  any_end i h = any_every test (n - i) (address + i) ∙ ap not (every_end (fails test) n address i h)

-- ---- a loop over the numbers below n: i is the next one. At i = 0 the search is whole.

module _ (test : ℕ → Bool) (n i : ℕ) where
  lowest_step : i < n → lowest test (n - i) i ≡ cond (test i) i (lowest test (n - (i + 1)) (i + 1))
  unfolding lowest
  lowest_step h =
      let e : n - i ≡ suc (n - (i + 1)) = omega arith in
      rw (e, add-one i)

  pub lowest_next : i < n → test i ≡ false → lowest test (n - i) i ≡ lowest test (n - (i + 1)) (i + 1)
  lowest_next h e = lowest_step h ∙ ap (λ (b : Bool). cond b i (lowest test (n - (i + 1)) (i + 1))) e

  pub lowest_found : i < n → test i ≡ true → lowest test (n - i) i ≡ i
  lowest_found h e = lowest_step h ∙ ap (λ (b : Bool). cond b i (lowest test (n - (i + 1)) (i + 1))) e

  pub lowest_end : i ≡ n → lowest test (n - i) i ≡ n
  unfolding lowest
  lowest_end e = let z : n - i ≡ 0 = omega arith in rw z e

-- ---- what the lowest number says of the others

module _ (test : ℕ → Bool) where
  fails_here : (i j : ℕ) → test i ≡ false → (suc i ≤ j → test j ≡ false) → i ≤ j → Dec (suc i ≤ j) → test j ≡ false
  fails_here i j e later h (yes l) = later l
  fails_here i j e later h (no l) = let s : j ≡ i = omega arith in rw s e

  fails_by : (i j rest : ℕ) (b : Bool) → test i ≡ b → (suc i ≤ j → j < rest → test j ≡ false) → i ≤ j → j < cond b i rest → test j ≡ false
  fails_by i j rest true e later h l = absurd (omega arith)
  fails_by i j rest false e later h l = fails_here i j e (λ g. later g l) h (dec_le (suc i) j)

  pub lowest_fails : (n i j : ℕ) → i ≤ j → j < lowest test n i → test j ≡ false
  unfolding lowest
  lowest_fails zero i j h l = absurd (omega arith)
  lowest_fails (suc n) i j h l = fails_by i j (lowest test n (suc i)) (test i) refl (λ g. lowest_fails n (suc i) j g) h l

  passes_by : (i end rest : ℕ) (b : Bool) → test i ≡ b → (rest < end → test rest ≡ true) → cond b i rest < end → test (cond b i rest) ≡ true
  passes_by i end rest true e later l = e
  passes_by i end rest false e later l = later l

  pub lowest_passes : (n i : ℕ) → lowest test n i < i + n → test (lowest test n i) ≡ true
  unfolding lowest
  lowest_passes zero i l = absurd (omega arith)
  lowest_passes (suc n) i l =
      passes_by i (i + suc n) (lowest test n (suc i)) (test i) refl (λ g. lowest_passes n (suc i) (omega arith)) l

  within_by : (i end rest : ℕ) (b : Bool) → i ≤ end → i ≤ rest → rest ≤ end → (i ≤ cond b i rest) × (cond b i rest ≤ end)
  within_by i end rest true h k l = omega arith
  within_by i end rest false h k l = omega arith

  pub lowest-within : (n i : ℕ) → (i ≤ lowest test n i) × (lowest test n i ≤ i + n)
  unfolding lowest
  lowest-within zero i = omega arith
  lowest-within (suc n) i =
      let later = lowest-within n (suc i) in
      within_by i (i + suc n) (lowest test n (suc i)) (test i) (omega arith) (omega arith) (omega arith)

  pub lowest_unique : (n i r : ℕ) → i ≤ r → r ≤ i + n → ((j : ℕ) → i ≤ j → j < r → test j ≡ false) → (r < i + n → test r ≡ true)
      → lowest test n i ≡ r
  lowest_unique n i r h k below here =
      let w = lowest-within n i in
      let low : lowest test n i < r → ⊥ = λ l. contradiction (lowest_passes n i (omega arith)) (below (lowest test n i) w.0 l) in
      let high : r < lowest test n i → ⊥ = λ l. contradiction (here (omega arith)) (lowest_fails n i r h l) in
      omega arith

-- ---- what some byte and every byte say of each byte of the access

module _ (test : ℕ → Bool) where
  every_passes_at : (n address i : ℕ) → i < n → every_byte test n address ≡ true → test (address + i) ≡ true
  unfolding every_byte
  every_passes_at zero address i h e = absurd (omega arith)
  every_passes_at (suc n) address zero h e =
      let s : address + 0 ≡ address = omega arith in rw s (both (test address) (every_byte test n (suc address)) e).0
  every_passes_at (suc n) address (suc i) h e =
      let s : address + suc i ≡ suc address + i = omega arith in
      rw s (every_passes_at n (suc address) i (omega arith) (both (test address) (every_byte test n (suc address)) e).1)

  pub every_passes : (n address b : ℕ) → every_byte test n address ≡ true → address ≤ b → b < address + n → test b ≡ true
  every_passes n address b e l h =
      let s : b ≡ address + (b - address) = omega arith in ap test s ∙ every_passes_at n address (b - address) (omega arith) e

  pub every_all : (n address : ℕ) → ((b : ℕ) → address ≤ b → b < address + n → test b ≡ true) → every_byte test n address ≡ true
  unfolding every_byte
  every_all zero address h = refl
  every_all (suc n) address h =
      rw (h address (omega arith) (omega arith)) (every_all n (suc address) (λ b l g. h b (omega arith) (omega arith)))

module _ (test : ℕ → Bool) (n address : ℕ) where
  pub any_fails : (b : ℕ) → any_byte test n address ≡ false → address ≤ b → b < address + n → test b ≡ false
  any_fails b e l h =
      not-true (test b) (every_passes (fails test) n address b (not-false _ (sym (any_every test n address) ∙ e)) l h)

  pub any_none : ((b : ℕ) → address ≤ b → b < address + n → test b ≡ false) → any_byte test n address ≡ false
  any_none h = any_every test n address ∙ ap not (every_all (fails test) n address (λ b l g. ap not (h b l g)))

  pub any_some : (b : ℕ) → address ≤ b → b < address + n → test b ≡ true → any_byte test n address ≡ true
  any_some b l h e = not-false-true (any_byte test n address) (λ z. contradiction e (any_fails b z l h))

-- tests that agree on the bytes say the same of every byte, and of some byte
pub every_same : (f g : ℕ → Bool) (n address : ℕ) → ((b : ℕ) → address ≤ b → b < address + n → f b ≡ g b)
    → every_byte f n address ≡ every_byte g n address
unfolding every_byte
every_same f g zero address h = refl
every_same f g (suc n) address h =
    rw (h address (omega arith) (omega arith), every_same f g n (suc address) (λ b l k. h b (omega arith) (omega arith)))

pub any_same : (f g : ℕ → Bool) (n address : ℕ) → ((b : ℕ) → address ≤ b → b < address + n → f b ≡ g b)
    → any_byte f n address ≡ any_byte g n address
any_same f g n address h =
    any_every f n address ∙ ap not (every_same (fails f) (fails g) n address (λ b l k. ap not (h b l k))) ∙ sym (any_every g n address)

-- ---- the least number that the bytes have

-- numbers that agree on the bytes have the same least one
pub least_same : (most : ℕ) (f g : ℕ → ℕ) (n address : ℕ) → ((b : ℕ) → address ≤ b → b < address + n → f b ≡ g b)
    → least most f n address ≡ least most g n address
unfolding least
least_same most f g zero address h = refl
least_same most f g (suc n) address h =
    rw (h address (omega arith) (omega arith), least_same most f g n (suc address) (λ b l k. h b (omega arith) (omega arith)))

-- a byte from `first` up to but not including `end` that has the number
pub record Has (f : ℕ → ℕ) (first end number : ℕ) : Type 0 where
  pub byte : ℕ
  pub from : first ≤ byte
  pub to : byte < end
  pub here : f byte ≡ number

module _ (most : ℕ) (f : ℕ → ℕ) where
  pub least-bound : (n address : ℕ) → least most f n address ≤ most
  unfolding least
  least-bound zero address = omega arith
  least-bound (suc n) address = omega (arith, least-bound n (suc address))

  pub least-below : (n address b : ℕ) → address ≤ b → b < address + n → least most f n address ≤ f b
  unfolding least
  least-below zero address b l h = absurd (omega arith)
  least-below (suc n) address b l h = go (dec_le (suc address) b) (λ k. least-below n (suc address) b k (omega arith))
    where
      go : Dec (suc address ≤ b) → (suc address ≤ b → least most f n (suc address) ≤ f b) → min (f address) (least most f n (suc address)) ≤ f b
      go (yes k) later = omega (arith, later k)
      go (no k) later = let e : b ≡ address = omega arith in rw e (omega arith)

  pub least_has : (n address : ℕ) → least most f n address < most → Has f address (address + n) (least most f n address)
  unfolding least
  least_has zero address h = absurd (omega arith)
  least_has (suc n) address h = go (dec_le (f address) (least most f n (suc address))) (least_has n (suc address))
    where
      go : Dec (f address ≤ least most f n (suc address))
          → (least most f n (suc address) < most → Has f (suc address) (suc address + n) (least most f n (suc address)))
          → Has f address (address + suc n) (min (f address) (least most f n (suc address)))
      go (yes k) later = record { byte = address; from = omega arith; to = omega arith; here = omega arith }
      go (no k) later =
          let t = later (omega arith) in
          record { byte = t.byte; from = omega (arith, t.from); to = omega (arith, t.to); here = t.here ∙ omega arith }

  -- it is the number that all are at least and one is
  pub least_unique : (n address r : ℕ) → r ≤ most → ((b : ℕ) → address ≤ b → b < address + n → r ≤ f b)
      → (r < most → Has f address (address + n) r) → least most f n address ≡ r
  least_unique n address r k below here =
      let low : least most f n address < r → ⊥ =
      λ l. let t = least_has n address (omega arith) in omega (arith, t.here, below t.byte t.from t.to) in
      let high : r < least most f n address → ⊥ =
      λ l. let t = here (omega (arith, least-bound n address)) in omega (arith, t.here, least-below n address t.byte t.from t.to) in
      omega arith
