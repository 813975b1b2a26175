-- Bytes in a row: short of a record, a record's 60, and whole records. Assumes nothing.
use Rattle.std.proofs.Common.{◌≡◌, ℕ, zero, suc, ◌+◌, ◌*◌, ◌≤◌, Bool, true, false, cond, List, [], ◌∷◌, ◌++◌, length, take, drop, sym, refl, ap, ◌∙◌, append_assoc, append-nil, arith, length-append, length-drop, length-take, length-take-le, take-add, le-ltb}
use Rattle.bits.specs.Fold.{fold, outputs}
use Rattle.bits.proofs.FoldLaws.{fold_append, outputs_append}
use Rattle.paging.specs.Memory.{Memory}
use Rattle.trace.specs.Replies.{Reply}
use Rattle.trace.specs.Reading.{Replay, Reading, reading, after_record, record_replies, after_byte, byte_replies, after_bytes, replies_to}
use Rattle.trace.specs.Batches.{records_of, after_records, records_replies}
use Rattle.trace.proofs.OneByte.{byte-short, bytes-ignored}
use Rattle.trace.proofs.Readers.{Kept}

module _ (m : Memory) where
  -- what bytes leave, and what they get
  abbrev pub Read : Reading → List ℕ → Reading → List Reply → Type 0
  Read x bytes y replies = (after_bytes m x bytes ≡ y) × (replies_to m x bytes ≡ replies)

  -- one part behind the other
  pub read_both : (x : Reading) (xs ys : List ℕ) {y z : Reading} {rs ss : List Reply} → Read x xs y rs → Read y ys z ss → Read x (xs ++ ys) z (rs ++ ss)
  read_both x xs ys {y} {z} {rs} {ss} f g = (
    fold_append (after_byte m) x xs ys ∙ (λ j. after_bytes m (f.0 j) ys) ∙ g.0,
    outputs_append (after_byte m) (byte_replies m) x xs ys ∙ (λ j. f.1 j ++ replies_to m (f.0 j) ys) ∙ ap (λ (l : List Reply). rs ++ l) g.1,
  )

  -- ---- before refusal 8

  module _ (r : Replay) (h : r.stopped ≡ false) where
    -- with the 60th the record is judged
    byte_last : (left : List ℕ) (b : ℕ) → 59 ≤ length left
        → (after_byte m (reading r left) b ≡ reading (after_record m r (left ++ b ∷ [])) []) × (byte_replies m (reading r left) b ≡ record_replies m r (left ++ b ∷ []))
    unfolding after_byte byte_replies
    byte_last left b l = (rw (h, le-ltb (length left) 59 l), rw (h, le-ltb (length left) 59 l))

    pub bytes-short : (left bytes : List ℕ) → length left + length bytes ≤ 59 → Read (reading r left) bytes (reading r (left ++ bytes)) []
    unfolding fold outputs
    bytes-short left [] l = (ap (reading r) (sym (append-nil left)), refl)
    bytes-short left (b ∷ bytes) l =
        let e = byte-short m (reading r left) b h (omega arith) in
        let rest = bytes-short (left ++ b ∷ []) bytes (omega (arith, length-append left (b ∷ []))) in (
          (λ j. after_bytes m (e.0 j) bytes) ∙ rest.0 ∙ ap (reading r) (append_assoc left (b ∷ []) bytes),
          (λ j. e.1 j ++ replies_to m (e.0 j) bytes) ∙ rest.1,
        )

    record_going : (left bytes : List ℕ) → length left ≤ 59 → length left + length bytes ≡ 60
        → Read (reading r left) bytes (reading (after_record m r (left ++ bytes)) []) (record_replies m r (left ++ bytes))
    unfolding fold outputs
    record_going left [] k l = absurd (omega arith)
    record_going left (b ∷ []) k l = let e = byte_last left b (omega arith) in (e.0, ap (λ (rs : List Reply). rs ++ []) e.1 ∙ append-nil (record_replies m r (left ++ b ∷ [])))
    record_going left (b ∷ c ∷ bytes) k l =
        let e = byte-short m (reading r left) b h (omega arith) in
        let more = length-append left (b ∷ []) in
        let rest = record_going (left ++ b ∷ []) (c ∷ bytes) (omega (arith, more)) (omega (arith, more)) in
        let text = append_assoc left (b ∷ []) (c ∷ bytes) in (
          (λ j. after_bytes m (e.0 j) (c ∷ bytes)) ∙ rest.0 ∙ (λ j. reading (after_record m r (text j)) []),
          (λ j. e.1 j ++ replies_to m (e.0 j) (c ∷ bytes)) ∙ rest.1 ∙ (λ j. record_replies m r (text j)),
        )

  -- ---- with what is known of a reading at any time

  record_passed : (r : Replay) (text : List ℕ) → r.stopped ≡ true → (after_record m r text ≡ r) × (record_replies m r text ≡ [])
  unfolding after_record record_replies
  record_passed r text h = (rw h, rw h)

  -- a record, judged unless refusal 8 went before
  pub bytes_record : (r : Replay) (left bytes : List ℕ) → Kept (reading r left) → length left + length bytes ≡ 60
      → Read (reading r left) bytes (reading (after_record m r (left ++ bytes)) []) (record_replies m r (left ++ bytes))
  bytes_record r left bytes k l = go r.stopped refl
    where
      go : (s : Bool) → r.stopped ≡ s → Read (reading r left) bytes (reading (after_record m r (left ++ bytes)) []) (record_replies m r (left ++ bytes))
      go true h =
          let still = bytes-ignored m (reading r left) h bytes in
          let e = record_passed r (left ++ bytes) h in
          (still.0 ∙ (λ j. reading (sym e.0 j) (k.none h j)), still.1 ∙ sym e.1)
      go false h = record_going r h left bytes k.short l

  -- fewer bytes
  abbrev pub ending : Replay → List ℕ → Reading
  ending r left = cond r.stopped (reading r []) (reading r left)

  pub bytes-ending : (r : Replay) (left bytes : List ℕ) → Kept (reading r left) → length left + length bytes ≤ 59 → Read (reading r left) bytes (ending r (left ++ bytes)) []
  bytes-ending r left bytes k l = go r.stopped refl
    where
      go : (s : Bool) → r.stopped ≡ s → Read (reading r left) bytes (cond s (reading r []) (reading r (left ++ bytes))) []
      go true h = let still = bytes-ignored m (reading r left) h bytes in (still.0 ∙ ap (reading r) (k.none h), still.1)
      go false h = bytes-short r h left bytes l

  unread_kept : (r : Replay) → Kept (reading r [])
  unread_kept r = record { short = omega arith; none = λ e. refl }

  -- whole records
  pub bytes_records : (n : ℕ) (r : Replay) (bytes : List ℕ) → 60 * n ≤ length bytes
      → Read (reading r []) (take (60 * n) bytes) (reading (after_records m r (records_of n bytes)) []) (records_replies m r (records_of n bytes))
  unfolding records_of fold outputs
  bytes_records zero r bytes h = (refl, refl)
  bytes_records (suc n) r bytes h =
      let text = take 60 bytes in
      let size : length text ≡ 60 = length-take-le 60 bytes (omega arith) in
      let split : take (60 * suc n) bytes ≡ text ++ take (60 * n) (drop 60 bytes) = (let e : 60 * suc n ≡ 60 + 60 * n = omega arith in rw e (take-add 60 (60 * n) bytes)) in
      let first = bytes_record r [] text (unread_kept r) (omega (arith, size)) in
      let rest = bytes_records n (after_record m r text) (drop 60 bytes) (omega (arith, length-drop 60 bytes)) in
      let all = read_both (reading r []) text (take (60 * n) (drop 60 bytes)) first rest in
      ((λ j. after_bytes m (reading r []) (split j)) ∙ all.0, (λ j. replies_to m (reading r []) (split j)) ∙ all.1)

  -- and fewer bytes than a record behind them
  pub bytes_body : (n t : ℕ) (r : Replay) (bytes : List ℕ) → 60 * n + t ≤ length bytes → t ≤ 59 →
      let after = after_records m r (records_of n bytes) in
      Read (reading r []) (take (60 * n + t) bytes) (ending after (take t (drop (60 * n) bytes))) (records_replies m r (records_of n bytes))
  bytes_body n t r bytes h s =
      let after = after_records m r (records_of n bytes) in
      let tail = take t (drop (60 * n) bytes) in
      let first = bytes_records n r bytes (omega arith) in
      let rest = bytes-ending after [] tail (unread_kept after) (omega (arith, length-take t (drop (60 * n) bytes))) in
      let all = read_both (reading r []) (take (60 * n) bytes) tail first rest in
      let split = take-add (60 * n) t bytes in
      ((λ j. after_bytes m (reading r []) (split j)) ∙ all.0, (λ j. replies_to m (reading r []) (split j)) ∙ all.1 ∙ append-nil (records_replies m r (records_of n bytes)))
