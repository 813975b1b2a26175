-- How many replies bytes get, and how much room their lines take. Assumes nothing.
use Rattle.std.proofs.Common.{ℕ, ◌+◌, ◌*◌, ◌/◌, ◌≤◌, Bool, true, false, cond, List, [], ◌∷◌, ◌++◌, length, arith, length-append}
use Rattle.bits.specs.Fold.{fold, outputs}
use Rattle.paging.specs.Memory.{Memory}
use Rattle.records.specs.Records.{read_step}
use Rattle.trace.specs.Replies.{reply_line, written}
use Rattle.trace.specs.Reading.{Replay, Reading, reading, after_decoded, reply_to, record_replies, after_bytes, replies_to}
use Rattle.trace.proofs.OneByte.{byte_cases}
use Rattle.trace.proofs.Readers.{Kept}
use Rattle.trace.specs.Widths.{line_fits}
use Rattle.trace.proofs.Replying.{written-length}

-- ---- a reply for every 60 bytes

module _ (m : Memory) where
  pub record_count : (r : Replay) (text : List ℕ) → length (record_replies m r text) ≤ 1
  unfolding record_replies
  record_count r text = go r.stopped
    where
      go : (b : Bool) → length (cond b [] (reply_to m r (read_step text) ∷ [])) ≤ 1
      go true = omega arith
      go false = omega arith

  -- every reply takes 60 bytes, and those left over come on top
  pub replies_count : (x : Reading) (bytes : List ℕ) → 60 * length (replies_to m x bytes) + length (after_bytes m x bytes).left ≤ length x.left + length bytes
  unfolding fold outputs
  replies_count x [] = omega arith
  replies_count x (b ∷ bytes) =
      byte_cases m x b (λ y r. 60 * length (r ++ replies_to m y bytes) + length (after_bytes m y bytes).left ≤ length x.left + length (b ∷ bytes))
      (λ p. omega (arith, replies_count x bytes))
      (λ p l. omega (arith, replies_count (reading x.replay (x.left ++ b ∷ [])) bytes, length-append x.left (b ∷ [])))
      (λ p l d. omega (arith, replies_count (reading (after_decoded m x.replay d) []) bytes))

  -- one record may be begun before the bytes
  pub lines-room : (x : Reading) (bytes : List ℕ) → Kept x → length (written reply_line (replies_to m x bytes)) ≤ 64 * (length bytes / 60 + 1)
  lines-room x bytes k = omega (arith, written-length reply_line 64 line_fits (replies_to m x bytes), replies_count x bytes, k.short)
