-- What the search for the lowest entry yields, and no rule of 01.
use Rattle.std.specs.Prelude.{ℕ, ◌+◌, cond, ◌&&◌, List, ltb, get_or, Option, Some, None}
use Rattle.pmp.specs.declared.Span.{Span}
use Rattle.pmp.specs.declared.Found.{Found}
use Rattle.pmp.specs.Entry.{entries}

-- a span that has bytes from `address` up to but not including the address `size` bytes on, as its ends tell, or none
abbrev pub meeting : Span → ℕ → ℕ → Option Span
meeting s address size = cond (ltb address s.high && ltb s.low (address + size)) (Some s) None

-- entry number i with its configuration byte and its bytes, where it is an entry
abbrev pub found : (ℕ → Span) → List ℕ → ℕ → Option Found
found spans cfgs i = cond (ltb i entries) (Some (record { entry = i; cfg = get_or cfgs i 0; span = spans i })) None
