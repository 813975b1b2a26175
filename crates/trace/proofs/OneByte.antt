-- What one byte does: it is ignored, kept, or completes a record. And what follows for bytes in a row. Assumes nothing.
use Rattle.std.proofs.Common.{◌≡◌, ℕ, suc, ◌+◌, ◌-◌, ◌*◌, ◌%◌, ◌^◌, ◌<◌, ◌≤◌, Bool, true, false, ltb, List, [], ◌∷◌, ◌++◌, length, take, drop, sym, refl, ap, ◌∙◌, subst, append-nil, arith, length-append, drop-drop, drop_at, ltb-false, ltb-true, le-ltb, lt-ltb, Option, Some, None}
use mathlib.Core.Bool.{false≢true}
use lib.Seq.{append_snoc}
use Rattle.bits.specs.Fold.{fold, outputs}
use Rattle.steps.specs.declared.Step.{Step}
use Rattle.paging.specs.Memory.{Memory}
use Rattle.records.specs.Records.{read_step}
use Rattle.trace.specs.Replies.{Reply, Broken}
use Rattle.trace.specs.Reading.{Reading, reading, stopped_at, after_decoded, reply_to, after_record, record_replies, after_byte, byte_replies, after_bytes, replies_to}

module _ (m : Memory) where
  -- ---- one byte

  pub byte-ignored : (x : Reading) (b : ℕ) → x.replay.stopped ≡ true → (after_byte m x b ≡ x) × (byte_replies m x b ≡ [])
  unfolding after_byte byte_replies
  byte-ignored x b h = (rw h, rw h)

  pub byte-short : (x : Reading) (b : ℕ) → x.replay.stopped ≡ false → length x.left < 59
      → (after_byte m x b ≡ reading x.replay (x.left ++ b ∷ [])) × (byte_replies m x b ≡ [])
  unfolding after_byte byte_replies
  byte-short x b h l = (rw (h, lt-ltb (length x.left) 59 l), rw (h, lt-ltb (length x.left) 59 l))

  pub byte_full : (x : Reading) (b : ℕ) → x.replay.stopped ≡ false → 59 ≤ length x.left →
      let d = read_step (x.left ++ b ∷ []) in
      (after_byte m x b ≡ reading (after_decoded m x.replay d) []) × (byte_replies m x b ≡ reply_to m x.replay d ∷ [])
  unfolding after_byte byte_replies after_record record_replies
  byte_full x b h l = (rw (h, le-ltb (length x.left) 59 l), rw (h, le-ltb (length x.left) 59 l))

  -- the three cases
  module _ (x : Reading) (b : ℕ) (P : Reading → List Reply → Type 0) where
    along : (y : Reading) (r : List Reply) → (after_byte m x b ≡ y) × (byte_replies m x b ≡ r) → P y r → P (after_byte m x b) (byte_replies m x b)
    along y r e p = subst (λ (z : Reading). P z (byte_replies m x b)) (sym e.0) (subst (P y) (sym e.1) p)

    pub byte_cases : (x.replay.stopped ≡ true → P x [])
        → (x.replay.stopped ≡ false → length x.left < 59 → P (reading x.replay (x.left ++ b ∷ [])) [])
        → (x.replay.stopped ≡ false → 59 ≤ length x.left → (d : Option Step) → P (reading (after_decoded m x.replay d) []) (reply_to m x.replay d ∷ []))
        → P (after_byte m x b) (byte_replies m x b)
    byte_cases ignored kept judged = go x.replay.stopped refl (ltb (length x.left) 59) refl
      where
        go : (s : Bool) → x.replay.stopped ≡ s → (t : Bool) → ltb (length x.left) 59 ≡ t → P (after_byte m x b) (byte_replies m x b)
        go true p t q = along x [] (byte-ignored x b p) (ignored p)
        go false p true q = let l = ltb-true (length x.left) 59 q in along (reading x.replay (x.left ++ b ∷ [])) [] (byte-short x b p l) (kept p l)
        go false p false q =
            let l = ltb-false (length x.left) 59 q in
            let d = read_step (x.left ++ b ∷ []) in
            along (reading (after_decoded m x.replay d) []) (reply_to m x.replay d ∷ []) (byte_full x b p l) (judged p l d)

  -- ---- bytes after refusal 8

  pub bytes-ignored : (x : Reading) → x.replay.stopped ≡ true → (bs : List ℕ) → (after_bytes m x bs ≡ x) × (replies_to m x bs ≡ [])
  unfolding fold outputs
  bytes-ignored x h [] = (refl, refl)
  bytes-ignored x h (b ∷ bs) =
      let e = byte-ignored x b h in
      let r = bytes-ignored x h bs in
      ((λ j. after_bytes m (e.0 j) bs) ∙ r.0, (λ j. e.1 j ++ replies_to m (e.0 j) bs) ∙ r.1)

  -- a reading that goes on had not stopped
  went_on : (x : Reading) (bs : List ℕ) → x.replay.stopped ≡ true → (after_bytes m x bs).replay.stopped ≡ false → ⊥
  went_on x bs h e = false≢true (sym e ∙ ap (λ (y : Reading). y.replay.stopped) (bytes-ignored x h bs).0 ∙ h)

  -- ---- what is left over

  abbrev Left : List ℕ → Reading → ℕ → Type 0
  Left bytes y n = (y.left ≡ drop (60 * n) bytes) × (length bytes ≡ 60 * n + length y.left)

  pub left_behind : (bs : List ℕ) (x : Reading) → length x.left ≤ 59 → (after_bytes m x bs).replay.stopped ≡ false
      → Left (x.left ++ bs) (after_bytes m x bs) (length (replies_to m x bs))
  unfolding fold outputs
  left_behind [] x s h = (sym (append-nil x.left), omega (arith, length-append x.left []))
  left_behind (b ∷ bs) x s h =
      byte_cases x b (λ y r. (after_bytes m y bs).replay.stopped ≡ false → Left (x.left ++ b ∷ bs) (after_bytes m y bs) (length (r ++ replies_to m y bs)))
      (λ p e. absurd (went_on x bs p e))
      (λ p l e.
      let y = reading x.replay (x.left ++ b ∷ []) in
      subst (λ (t : List ℕ). Left t (after_bytes m y bs) (length (replies_to m y bs))) (append_snoc x.left b bs)
      (left_behind bs y (omega (arith, length-append x.left (b ∷ []))) e))
      (λ p l d e.
      let y = reading (after_decoded m x.replay d) [] in
      let n = length (replies_to m y bs) in
      let r = left_behind bs y (omega arith) e in
      let t : length (x.left ++ b ∷ []) ≡ 60 = omega (arith, length-append x.left (b ∷ [])) in
      let f : drop 60 (x.left ++ b ∷ bs) ≡ bs = ap (drop 60) (sym (append_snoc x.left b bs)) ∙ drop_at (x.left ++ b ∷ []) bs 60 t in
      let k : 60 + 60 * n ≡ 60 * suc n = omega arith in (
        r.0 ∙ ap (drop (60 * n)) (sym f) ∙ drop-drop (60 * n) 60 (x.left ++ b ∷ bs) ∙ ap (λ (i : ℕ). drop i (x.left ++ b ∷ bs)) k,
        omega (arith, r.1, length-append x.left (b ∷ bs)),
      ))
      h

  -- ---- the number

  pub number_on : (bs : List ℕ) (x : Reading) → x.replay.number < 2 ^ 64 → (after_bytes m x bs).replay.stopped ≡ false
      → (after_bytes m x bs).replay.number ≡ (x.replay.number + length (replies_to m x bs)) % 2 ^ 64
  unfolding fold outputs
  number_on [] x s h = omega arith
  number_on (b ∷ bs) x s h =
      byte_cases x b
      (λ y r. (after_bytes m y bs).replay.stopped ≡ false
      → (after_bytes m y bs).replay.number ≡ (x.replay.number + length (r ++ replies_to m y bs)) % 2 ^ 64)
      (λ p e. absurd (went_on x bs p e))
      (λ p l e. number_on bs (reading x.replay (x.left ++ b ∷ [])) s e)
      (λ p l d. judged d (λ y t. number_on bs y t))
      h
    where
      judged : (d : Option Step) →
          let y = reading (after_decoded m x.replay d) [] in
          ((z : Reading) → z.replay.number < 2 ^ 64 → (after_bytes m z bs).replay.stopped ≡ false
          → (after_bytes m z bs).replay.number ≡ (z.replay.number + length (replies_to m z bs)) % 2 ^ 64)
          → (after_bytes m y bs).replay.stopped ≡ false → (after_bytes m y bs).replay.number ≡ (x.replay.number + suc (length (replies_to m y bs))) % 2 ^ 64
      judged (Some step) on e = omega (arith, on (reading (after_decoded m x.replay (Some step)) []) (omega arith) e)
      judged None on e = absurd (went_on (reading (stopped_at x.replay) []) bs refl e)

  -- ---- where refusal 8 comes

  pub record Stops (answers : List Reply) (from to : ℕ) : Type 0 where
    pub some : 1 ≤ length answers
    pub last : answers ≡ take (length answers - 1) answers ++ Broken to ∷ []
    pub number : from < 2 ^ 64 → to ≡ (from + (length answers - 1)) % 2 ^ 64

  pub stops : (bs : List ℕ) (x : Reading) → x.replay.stopped ≡ false → (after_bytes m x bs).replay.stopped ≡ true
      → Stops (replies_to m x bs) x.replay.number (after_bytes m x bs).replay.number
  unfolding fold outputs
  stops [] x s h = absurd (false≢true (sym s ∙ h))
  stops (b ∷ bs) x s h =
      byte_cases x b (λ y r. (after_bytes m y bs).replay.stopped ≡ true → Stops (r ++ replies_to m y bs) x.replay.number (after_bytes m y bs).replay.number)
      (λ p e. absurd (false≢true (sym s ∙ p)))
      (λ p l e. stops bs (reading x.replay (x.left ++ b ∷ [])) s e)
      (λ p l d. judged d (λ y t. stops bs y t))
      h
    where
      judged : (d : Option Step) →
          let y = reading (after_decoded m x.replay d) [] in
          ((z : Reading) → z.replay.stopped ≡ false → (after_bytes m z bs).replay.stopped ≡ true
          → Stops (replies_to m z bs) z.replay.number (after_bytes m z bs).replay.number)
          → (after_bytes m y bs).replay.stopped ≡ true → Stops (reply_to m x.replay d ∷ replies_to m y bs) x.replay.number (after_bytes m y bs).replay.number
      judged (Some step) on e =
          let y = reading (after_decoded m x.replay (Some step)) [] in
          let l = replies_to m y bs in
          let a = reply_to m x.replay (Some step) in
          let r = on y refl e in
          let k : suc (length l) - 1 ≡ suc (length l - 1) = omega (arith, r.some) in
          record {
            some = omega arith;
            last = ap (λ (t : List Reply). a ∷ t) r.last ∙ ap (λ (i : ℕ). take i (a ∷ l) ++ Broken (after_bytes m y bs).replay.number ∷ []) (sym k);
            number = λ b. r.number (omega arith) ∙ omega (arith, r.some);
          }
      judged None on e =
          let y = reading (stopped_at x.replay) [] in
          let i = bytes-ignored y refl bs in
          let n = x.replay.number in
          let base : Stops (Broken n ∷ []) n n = record { some = omega arith; last = refl; number = λ b. omega arith } in
          subst (λ (l : List Reply). Stops (Broken n ∷ l) n (after_bytes m y bs).replay.number) (sym i.1)
          (subst (λ (z : Reading). Stops (Broken n ∷ []) n z.replay.number) (sym i.0) base)
