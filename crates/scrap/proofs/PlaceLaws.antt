-- What is read at a place, by whether 60 bytes are there. Assumes nothing.
use Rattle.std.proofs.Common.{◌≡◌, ℕ, ◌+◌, ◌<◌, ◌≤◌, List, length, take, drop, le-leb, None}
use borrow.Author.Tests.{lt-leb}
use Rattle.records.specs.Records.{read_numbers}
use Rattle.scrap.specs.Places.{record_at}

pub record_there : (bytes : List ℕ) (at size : ℕ) → at + 60 ≤ length bytes → size ≡ 60
    → record_at bytes at ≡ record { numbers = read_numbers (take size (drop at bytes)); at = at + 60 }
unfolding record_at
record_there bytes at size h e = rw (le-leb (at + 60) (length bytes) h, e)

pub record_missing : (bytes : List ℕ) (at : ℕ) → length bytes < at + 60 → record_at bytes at ≡ record { numbers = None; at = at }
unfolding record_at
record_missing bytes at h = rw (lt-leb (at + 60) (length bytes) h)
