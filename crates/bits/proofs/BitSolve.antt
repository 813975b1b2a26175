-- An equation between numbers that are made of bit_and, bit_or, literals below 2 ^ 64 and unknowns, under such equations, is decided by its bits:
-- `solve g ρ refl` proves what `g` says of the unknowns ρ. Assumes nothing.
use mathlib.Core.Path.{◌≡◌, refl, sym, ap, ap₂, ◌∙◌}
use mathlib.Core.Bool.{Bool, true, false, not, ◌&&◌, ◌||◌}
use mathlib.Core.List.{List, [], ◌∷◌}
use mathlib.Core.Logic.{⊎_elim}
use Prim.Native.Nat.{ℕ, zero, suc, ◌^◌, ◌≤◌, ◌<◌, min, max}
use native.Mathlib.Nat.{zero-div, div-eq_of_lt, lt_of_lt_of_le, eq-or-lt_of_le, le_of_suc-le-suc, not-suc-le-zero}
use native.Mathlib.Omega.{arith}
use borrow.Author.Tests.{eq-eqb, eqb-true, ltb-true, ltb-false}
use lib.Bits.{bit_and, bit_or}
use lib.Dec.{eqb, ltb}
use lib.Pow.{pow_mono}
use lib.ListN.{length, get_or}
use Rattle.bits.proofs.Conjunction.{both}
use Rattle.bits.proofs.BitLaws.{bit, bit_lt, bit_and_lem, bit_or_lem, ext}

pub data E : Type 0 where
  lit : ℕ → E
  var : ℕ → E
  and : E → E → E
  or : E → E → E

-- what is asked: an equation, or an equation that follows from others
pub data G : Type 0 where
  eq : E → E → G
  imp : E → E → G → G

abbrev pub eval : List ℕ → E → ℕ
eval ρ (lit n) = n
eval ρ (var i) = get_or ρ i 0
eval ρ (and a b) = bit_and (eval ρ a) (eval ρ b)
eval ρ (or a b) = bit_or (eval ρ a) (eval ρ b)

abbrev pub Means : List ℕ → G → Type 0
Means ρ (eq a b) = eval ρ a ≡ eval ρ b
Means ρ (imp a b g) = eval ρ a ≡ eval ρ b → Means ρ g

-- bit k of an expression, from bit k of each unknown
abbrev pub sem : ℕ → List ℕ → E → ℕ
sem k β (lit n) = bit n k
sem k β (var i) = get_or β i 0
sem k β (and a b) = min (sem k β a) (sem k β b)
sem k β (or a b) = max (sem k β a) (sem k β b)

abbrev pub test_at : ℕ → List ℕ → G → Bool
test_at k β (eq a b) = eqb (sem k β a) (sem k β b)
test_at k β (imp a b g) = not (eqb (sem k β a) (sem k β b)) || test_at k β g

abbrev bits_at : ℕ → List ℕ → List ℕ
bits_at k [] = []
bits_at k (x ∷ xs) = bit x k ∷ bits_at k xs

var_bit : (ρ : List ℕ) (i k : ℕ) → bit (get_or ρ i 0) k ≡ get_or (bits_at k ρ) i 0
var_bit [] i k = rw zero-div
var_bit (x ∷ xs) zero k = refl
var_bit (x ∷ xs) (suc i) k = var_bit xs i k

sem_eval : (e : E) (ρ : List ℕ) (k : ℕ) → bit (eval ρ e) k ≡ sem k (bits_at k ρ) e
sem_eval (lit n) ρ k = refl
sem_eval (var i) ρ k = var_bit ρ i k
sem_eval (and a b) ρ k = bit_and_lem (eval ρ a) (eval ρ b) k ∙ ap₂ min (sem_eval a ρ k) (sem_eval b ρ k)
sem_eval (or a b) ρ k = bit_or_lem (eval ρ a) (eval ρ b) k ∙ ap₂ max (sem_eval a ρ k) (sem_eval b ρ k)

sound : (g : G) (ρ : List ℕ) → ((k : ℕ) → test_at k (bits_at k ρ) g ≡ true) → Means ρ g
sound (eq a b) ρ t = ext _ _ (λ k. sem_eval a ρ k ∙ eqb-true _ _ (t k) ∙ sym (sem_eval b ρ k))
sound (imp a b g) ρ t =
    λ p.
    sound g ρ
    (λ k.
    let same = eq-eqb _ _ (sym (sem_eval a ρ k) ∙ ap (λ (n : ℕ). bit n k) p ∙ sem_eval b ρ k) in
    rw same at (t k))

-- ---- every assignment of bits to n unknowns
abbrev pub envs : ℕ → (List ℕ → Bool) → Bool
envs zero P = P []
envs (suc n) P = envs n (λ β. P (0 ∷ β)) && envs n (λ β. P (1 ∷ β))

digit : (Q : ℕ → Type 0) → Q 0 → Q 1 → (b : ℕ) → b < 2 → Q b
digit Q p q zero h = p
digit Q p q (suc zero) h = q
digit Q p q (suc (suc b)) h = absurd (not-suc-le-zero (le_of_suc-le-suc (le_of_suc-le-suc h)))

envs_sound : (k : ℕ) (ρ : List ℕ) (P : List ℕ → Bool) → envs (length ρ) P ≡ true → P (bits_at k ρ) ≡ true
envs_sound k [] P t = t
envs_sound k (x ∷ xs) P t =
    let w = both _ _ t in
    digit (λ (b : ℕ). P (b ∷ bits_at k xs) ≡ true) (envs_sound k xs (λ β. P (0 ∷ β)) w.0) (envs_sound k xs (λ β. P (1 ∷ β)) w.1) (bit x k)
    (bit_lt x k)

-- ---- every place of a bit
abbrev pub upto : ℕ → (ℕ → Bool) → Bool
upto zero f = true
upto (suc n) f = f n && upto n f

pub upto_sound : (n : ℕ) (f : ℕ → Bool) → upto n f ≡ true → (k : ℕ) → k < n → f k ≡ true
upto_sound zero f t k h = absurd (not-suc-le-zero h)
upto_sound (suc n) f t k h =
    let w = both _ _ t in
    ⊎_elim (λ e. ap f e ∙ w.0) (λ l. upto_sound n f w.1 k l) (eq-or-lt_of_le (le_of_suc-le-suc h))

-- literals are below 2 ^ 64, so that past place 64 they have no bits
abbrev pub small : E → Bool
small (lit n) = ltb n (2 ^ 64)
small (var i) = true
small (and a b) = small a && small b
small (or a b) = small a && small b

abbrev pub small_g : G → Bool
small_g (eq a b) = small a && small b
small_g (imp a b g) = small a && (small b && small_g g)

-- past its 64 places a word has no bit
pub no_bit : (n k : ℕ) → n < 2 ^ 64 → 64 ≤ k → bit n k ≡ 0
no_bit n k h l = rw (div-eq_of_lt (lt_of_lt_of_le h (pow_mono l)))

sem_high : (e : E) (β : List ℕ) (k : ℕ) → small e ≡ true → 64 ≤ k → sem k β e ≡ sem 64 β e
sem_high (lit n) β k s l = no_bit n k (ltb-true _ _ s) l ∙ sym (no_bit n 64 (ltb-true _ _ s) (omega arith))
sem_high (var i) β k s l = refl
sem_high (and a b) β k s l = let w = both _ _ s in ap₂ min (sem_high a β k w.0 l) (sem_high b β k w.1 l)
sem_high (or a b) β k s l = let w = both _ _ s in ap₂ max (sem_high a β k w.0 l) (sem_high b β k w.1 l)

test_high : (g : G) (β : List ℕ) (k : ℕ) → small_g g ≡ true → 64 ≤ k → test_at k β g ≡ test_at 64 β g
test_high (eq a b) β k s l = let w = both _ _ s in ap₂ eqb (sem_high a β k w.0 l) (sem_high b β k w.1 l)
test_high (imp a b g) β k s l =
    let w = both _ _ s in
    let v = both _ _ w.1 in
    ap₂ (λ (p q : Bool). not p || q) (ap₂ eqb (sem_high a β k w.0 l) (sem_high b β k v.0 l)) (test_high g β k v.1 l)

abbrev pub check : ℕ → G → Bool
check n g = small_g g && upto 65 (λ k. envs n (λ β. test_at k β g))

abbrev everywhere : ℕ → G → Bool
everywhere n g = upto 65 (λ k. envs n (λ β. test_at k β g))

-- the test of place j, at the bits of any place
at_place : (g : G) (ρ : List ℕ) → everywhere (length ρ) g ≡ true → (j : ℕ) → j < 65 → (k : ℕ) → test_at j (bits_at k ρ) g ≡ true
at_place g ρ t j l k = envs_sound k ρ (λ β. test_at j β g) (upto_sound 65 (λ k. envs (length ρ) (λ β. test_at k β g)) t j l)

place : (g : G) (ρ : List ℕ) → small_g g ≡ true → everywhere (length ρ) g ≡ true → (k : ℕ) (b : Bool) → ltb k 64 ≡ b → test_at k (bits_at k ρ) g ≡ true
place g ρ s t k true e = at_place g ρ t k (omega (arith, ltb-true k 64 e)) k
place g ρ s t k false e = test_high g (bits_at k ρ) k s (ltb-false k 64 e) ∙ at_place g ρ t 64 (omega arith) k

pub solve : (g : G) (ρ : List ℕ) → check (length ρ) g ≡ true → Means ρ g
solve g ρ t =
    let w = both (small_g g) (everywhere (length ρ) g) t in
    sound g ρ (λ k. place g ρ w.0 w.1 k (ltb k 64) refl)
