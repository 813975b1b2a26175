-- 02, [1]: the record that begins at a place of a scrap, and the place behind it.
use Rattle.std.specs.Prelude.{ℕ, ◌+◌, cond, List, leb, length, take, drop, None}
use Rattle.records.specs.Records.{read_numbers}
use Rattle.scrap.specs.declared.Parsed.{Parsed}

-- the 60 bytes from the place on; where there are fewer, no record, and the place stays
unfoldable pub record_at : List ℕ → ℕ → Parsed
record_at bytes at =
    cond (leb (at + 60) (length bytes)) (record { numbers = read_numbers (take 60 (drop at bytes)); at = at + 60 }) (record { numbers = None; at = at })
