-- A reader and what it stands for: fewer than 60 bytes are carried, none after refusal 8, and a reader made of a reading is read as that. Assumes nothing.
use Rattle.std.proofs.Common.{◌≡◌, ℕ, ◌+◌, ◌≤◌, min, Bool, true, false, cond, ltb, List, [], ◌∷◌, ◌++◌, length, take, drop, replicate, sym, refl, ap, ◌∙◌, arith, length-append, length-take, take_at, ltb-true}
use mathlib.Core.Bool.{false≢true}
use lib.ListN.{length-replicate}
use lib.Seq.{sets, sets-eq}
use Rattle.bits.proofs.FoldLaws.{fold-keeps}
use Rattle.paging.specs.Memory.{Memory}
use Rattle.map.specs.declared.Map.{Map}
use Rattle.hart.specs.declared.Hart.{Hart}
use Rattle.trace.specs.declared.Reader.{Reader}
use Rattle.trace.specs.Reading.{Reading, reading, after_record, after_byte, after_bytes}
use Rattle.trace.specs.Feeding.{left_of, reading_of, reader_of}

-- a text at the front of zeros
pub front_sets : (n : ℕ) (xs : List ℕ) → length xs ≤ n → take (length xs) (sets (replicate n 0) 0 xs) ≡ xs
front_sets n xs h =
    ap (take (length xs)) (sets-eq xs (replicate n 0) 0 (omega (arith, length-replicate {A = ℕ} n 0))) ∙ take_at xs (drop (0 + length xs) (replicate n 0)) (length xs) refl

pub record Kept (x : Reading) : Type 0 where
  pub short : length x.left ≤ 59
  pub none : x.replay.stopped ≡ true → x.left ≡ []

pub reading_kept : (r : Reader) (h : Hart) (map : Map) → Kept (reading_of r h map)
reading_kept r h map = go r.stopped
  where
    front : List ℕ
    front = take (min r.count 59) r.carried

    go : (b : Bool) → Kept (reading (record { hart = h; map = map; number = r.number; stopped = b }) (cond b [] front))
    go true = record { short = omega arith; none = λ e. refl }
    go false = record { short = omega (arith, length-take (min r.count 59) r.carried); none = λ e. absurd (false≢true e) }

module _ (m : Memory) where
  pub byte_kept : (x : Reading) (b : ℕ) → Kept x → Kept (after_byte m x b)
  unfolding after_byte
  byte_kept x b k = go x.replay.stopped refl (ltb (length x.left) 59) refl
    where
      go : (s : Bool) → x.replay.stopped ≡ s → (t : Bool) → ltb (length x.left) 59 ≡ t
          → Kept (cond s x (cond t (reading x.replay (x.left ++ b ∷ [])) (reading (after_record m x.replay (x.left ++ b ∷ [])) [])))
      go true p t q = k
      go false p true q = record {
        short = omega (arith, length-append x.left (b ∷ []), ltb-true (length x.left) 59 q);
        none = λ e. absurd (false≢true (sym p ∙ e));
      }
      go false p false q = record { short = omega arith; none = λ e. refl }

  pub bytes_kept : (x : Reading) (bs : List ℕ) → Kept x → Kept (after_bytes m x bs)
  bytes_kept x bs k = fold-keeps (after_byte m) Kept byte_kept x bs k

-- what a reader made of a reading carries
pub left_back : (x : Reading) → Kept x → left_of (reader_of x) ≡ x.left
left_back x k = go x.replay.stopped refl
  where
    n : min (length x.left) 59 ≡ length x.left
    n = omega (arith, k.short)

    go : (s : Bool) → x.replay.stopped ≡ s → cond s [] (take (min (length x.left) 59) (sets (replicate 59 0) 0 x.left)) ≡ x.left
    go true p = sym (k.none p)
    go false p = ap (λ (i : ℕ). take i (sets (replicate 59 0) 0 x.left)) n ∙ front_sets 59 x.left k.short

pub reading-back : (x : Reading) → Kept x → reading_of (reader_of x) x.replay.hart x.replay.map ≡ x
reading-back x k = ap (reading x.replay) (left_back x k)
