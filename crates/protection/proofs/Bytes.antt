-- The library's bytes of a word are those that the contracts name, one byte of a write to eight of them, and tests of all of a list at once. Assumes nothing.
use Prim.Native.Nat.{ℕ, zero, suc, ◌+◌, ◌-◌, ◌*◌, ◌/◌, ◌%◌, ◌^◌, ◌≤◌, ◌<◌}
use mathlib.Core.Path.{◌≡◌, refl, sym, ap, ◌∙◌}
use mathlib.Core.Bool.{Bool, ◌&&◌, and_assoc, and-true}
use mathlib.Core.List.{List, [], ◌∷◌}
use native.Mathlib.Omega.{arith}
use native.Mathlib.Nat.{div-one, pow-suc, div-div-eq-div-mul}
use lib.Bits.{bit_or}
use lib.Dec.{eqb, ltb}
use lib.ListN.{length, get_or, set, take, drop, length-drop}
use lib.Pointwise.{pointwise}
use lib.Seq.{get_or-drop, length-take-le, sets, take_all}
use Rattle.std.specs.Int.{w64, to_le_bytes, from_le_bytes}
use Rattle.std.specs.Prelude.{fold}
use Rattle.std.proofs.lemmas.Nat.{le_bytes_8}
use Rattle.bits.specs.Lists.{all, elements}
use Rattle.bits.specs.Same.{same_list}
use Rattle.bits.proofs.ListLaws.{elements-take}
use Rattle.protection.specs.Configs.{packed, unpacked}
use Rattle.protection.specs.Write.{config_written, configs_written}
use Rattle.protection.proofs.HeldWords.{or_below}
use Rattle.protection.proofs.Packing.{packed-unpacked, below-take}

pub le_unpacked : (w : ℕ) → to_le_bytes w64 w ≡ unpacked 8 w
unfolding unpacked
le_unpacked w = simp div-div-eq-div-mul

-- eight of the bytes of a list
pub eight_packed : (cfgs : List ℕ) (start n : ℕ) → ((i : ℕ) → get_or cfgs i 0 < 256) → start + 8 ≤ length cfgs → n ≡ from_le_bytes w64 (elements 8 start cfgs)
    → n < 2 ^ 64 → n ≡ packed (take 8 (drop start cfgs))
eight_packed cfgs start n b l e h =
    let part : elements 8 start cfgs ≡ take 8 (drop start cfgs) = elements-take cfgs 8 start l in
    let long : length (elements 8 start cfgs) ≡ 8 = ap length part ∙ length-take-le 8 (drop start cfgs) (omega (arith, length-drop start cfgs)) in
    let below : (i : ℕ) → get_or (elements 8 start cfgs) i 0 < 256 = λ i.
    rw part (below-take 8 (drop start cfgs) (λ k. rw (get_or-drop start cfgs k 0) (b (start + k))) i)
    in
    sym (packed-unpacked 8 n h) ∙ ap packed (sym (le_unpacked n) ∙ le_bytes_8 (elements 8 start cfgs) n long below e ∙ part)

pub high_half : (cfgs : List ℕ) → length cfgs ≡ 16 → take 8 (drop 8 cfgs) ≡ drop 8 cfgs
high_half cfgs h = take_all 8 (drop 8 cfgs) (omega (arith, length-drop 8 cfgs))

-- ---- eight bytes stored or written, one after the other

power_suc : (i : ℕ) → 256 ^ i * 256 ≡ 256 ^ (i + 1)
power_suc i = let s : i + 1 ≡ suc i = omega arith in rw s (omega (arith, pow-suc 256 i))

div_more : (v i : ℕ) → v / 256 ^ i / 256 ≡ v / 256 ^ (i + 1)
div_more v i = div-div-eq-div-mul v (256 ^ i) 256 ∙ ap (λ (k : ℕ). v / k) (power_suc i)

byte_of : (n v i : ℕ) → i < n → get_or (unpacked n v) i 0 ≡ v / 256 ^ i % 256
unfolding unpacked
byte_of zero v i h = absurd (omega arith)
byte_of (suc n) v zero h = rw (div-one v)
byte_of (suc n) v (suc i) h =
    let s : 256 * 256 ^ i ≡ 256 ^ suc i = omega (arith, pow-suc 256 i) in
    byte_of n (v / 256) i (omega arith) ∙ ap (λ (k : ℕ). k % 256) (div-div-eq-div-mul v 256 (256 ^ i) ∙ ap (λ (k : ℕ). v / k) s)

pub byte_put : (v start i b : ℕ) (cfgs : List ℕ) → i < 8 → b ≡ get_or (to_le_bytes w64 v) i 0
    → sets cfgs (start + i) (unpacked (8 - i) (v / 256 ^ i)) ≡ sets (set cfgs (start + i) b) (start + (i + 1)) (unpacked (8 - (i + 1)) (v / 256 ^ (i + 1)))
unfolding unpacked
byte_put v start i b cfgs h e =
    let n : 8 - i ≡ suc (8 - (i + 1)) = omega arith in
    let s : start + (i + 1) ≡ suc (start + i) = omega arith in
    rw (n, s, e ∙ ap (λ (l : List ℕ). get_or l i 0) (le_unpacked v) ∙ byte_of 8 v i h, ← div_more v i)

pub byte_written : (g v first i b : ℕ) (cfgs : List ℕ) → i < 8 → b ≡ get_or (to_le_bytes w64 v) i 0
    → configs_written g (8 - i) (first + i) (v / 256 ^ i) cfgs
    ≡ configs_written g (8 - (i + 1)) (first + (i + 1)) (v / 256 ^ (i + 1)) (set cfgs (first + i) (config_written g (get_or cfgs (first + i) 0) b))
unfolding configs_written
byte_written g v first i b cfgs h e =
    let n : 8 - i ≡ suc (8 - (i + 1)) = omega arith in
    let s : first + (i + 1) ≡ first + i + 1 = omega arith in
    rw (n, s, e ∙ ap (λ (l : List ℕ). get_or l i 0) (le_unpacked v) ∙ byte_of 8 v i h, ← div_more v i)

pub none_put : (n at v : ℕ) (cfgs : List ℕ) → n ≤ 0 → sets cfgs at (unpacked n v) ≡ cfgs
unfolding unpacked
none_put zero at v cfgs h = refl
none_put (suc n) at v cfgs h = absurd (omega arith)

pub none_left : (g n at v : ℕ) (cfgs : List ℕ) → n ≤ 0 → configs_written g n at v cfgs ≡ cfgs
unfolding configs_written
none_left g zero at v cfgs h = refl
none_left g (suc n) at v cfgs h = absurd (omega arith)

-- ---- tests of all elements

pub same_pointwise : (s t : List ℕ) → pointwise eqb s t ≡ same_list s t
unfolding same_list
same_pointwise [] [] = refl
same_pointwise [] (y ∷ t) = refl
same_pointwise (x ∷ s) [] = refl
same_pointwise (x ∷ s) (y ∷ t) = ap (λ (b : Bool). eqb x y && b) (same_pointwise s t)

-- the bits of numbers together, and those of one more number, lie below a place where those of each do
pub fold_below : (place a : ℕ) (xs : List ℕ) → ltb (fold bit_or a xs) (2 ^ place) ≡ (ltb a (2 ^ place) && all (λ x. ltb x (2 ^ place)) xs)
unfolding all
fold_below k a [] = sym (and-true (ltb a (2 ^ k)))
fold_below k a (x ∷ xs) =
    fold_below k (bit_or a x) xs ∙ ap (λ (b : Bool). b && all (λ x. ltb x (2 ^ k)) xs) (or_below k a x)
    ∙ and_assoc (ltb a (2 ^ k)) (ltb x (2 ^ k)) (all (λ x. ltb x (2 ^ k)) xs)
