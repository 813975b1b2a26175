-- Bytes and words turn into each other without loss.
use Prim.Native.Nat.{ℕ, zero, suc, ◌+◌, ◌*◌, ◌/◌, ◌%◌, ◌^◌, ◌<◌}
use mathlib.Core.Path.{◌≡◌, refl, ap, ◌∙◌}
use mathlib.Core.List.{List, [], ◌∷◌}
use native.Mathlib.Omega.{arith}
use lib.Pow.{pow-add}
use lib.ListN.{length, get_or, take, drop, take-append-drop, length-take, length-drop}
use lib.Seq.{get_or-drop, take_at, drop_at}
use Rattle.protection.specs.Configs.{packed, unpacked, configs_of}

pub unpacked-packed : (bs : List ℕ) → ((i : ℕ) → get_or bs i 0 < 256) → unpacked (length bs) (packed bs) ≡ bs
unfolding packed unpacked
unpacked-packed [] h = refl
unpacked-packed (b ∷ bs) h =
    let m : (packed bs * 256 + b) % 256 ≡ b = omega (arith, h 0) in
    let d : (packed bs * 256 + b) / 256 ≡ packed bs = omega (arith, h 0) in
    rw (m, d, unpacked-packed bs (λ i. h (suc i)))

pub packed-unpacked : (n w : ℕ) → w < 2 ^ (8 * n) → packed (unpacked n w) ≡ w
unfolding packed unpacked
packed-unpacked zero w h = omega arith
packed-unpacked (suc n) w h =
    let e : 8 * suc n ≡ 8 * n + 8 = omega arith in
    let p : 2 ^ (8 * suc n) ≡ 2 ^ (8 * n) * 256 = ap (λ (k : ℕ). 2 ^ k) e ∙ pow-add 2 (8 * n) 8 in
    rw (packed-unpacked n (w / 256) (omega arith)) (omega arith)

length-unpacked : (n w : ℕ) → length (unpacked n w) ≡ n
unfolding unpacked
length-unpacked zero w = refl
length-unpacked (suc n) w = ap suc (length-unpacked n (w / 256))

-- the bytes of two words give the words
pub low_back : (low high : ℕ) → low < 2 ^ 64 → packed (take 8 (configs_of low high)) ≡ low
unfolding configs_of
low_back low high h = rw (take_at (unpacked 8 low) (unpacked 8 high) 8 (length-unpacked 8 low)) (packed-unpacked 8 low h)

pub high_back : (low high : ℕ) → high < 2 ^ 64 → packed (drop 8 (configs_of low high)) ≡ high
unfolding configs_of
high_back low high h = rw (drop_at (unpacked 8 low) (unpacked 8 high) 8 (length-unpacked 8 low)) (packed-unpacked 8 high h)

pub below-take : (n : ℕ) (l : List ℕ) → ((i : ℕ) → get_or l i 0 < 256) → (i : ℕ) → get_or (take n l) i 0 < 256
below-take zero l h i = omega arith
below-take (suc n) [] h i = omega arith
below-take (suc n) (x ∷ l) h zero = h 0
below-take (suc n) (x ∷ l) h (suc i) = below-take n l (λ k. h (suc k)) i

-- the words of sixteen bytes give the bytes
pub configs_back : (cfgs : List ℕ) → length cfgs ≡ 16 → ((i : ℕ) → get_or cfgs i 0 < 256) → configs_of (packed (take 8 cfgs)) (packed (drop 8 cfgs)) ≡ cfgs
unfolding configs_of
configs_back cfgs l h =
    let a : length (take 8 cfgs) ≡ 8 = omega (arith, length-take 8 cfgs) in
    let b : length (drop 8 cfgs) ≡ 8 = omega (arith, length-drop 8 cfgs) in
    let x : unpacked 8 (packed (take 8 cfgs)) ≡ take 8 cfgs = rw a at (unpacked-packed (take 8 cfgs) (below-take 8 cfgs h)) in
    let y : unpacked 8 (packed (drop 8 cfgs)) ≡ drop 8 cfgs = rw b at (unpacked-packed (drop 8 cfgs) (λ i. rw (get_or-drop 8 cfgs i 0) (h (8 + i)))) in
    rw (x, y) (take-append-drop 8 cfgs)
