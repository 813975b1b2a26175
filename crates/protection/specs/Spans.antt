-- 01, "Protection, byte by byte": the bytes of each entry, from the registers.
use Rattle.std.specs.Prelude.{ℕ}
use Rattle.pmp.specs.declared.Span.{Span}
use Rattle.pmp.specs.Entry.{entry_span}
use Rattle.protection.specs.declared.Pmp.{Pmp}

abbrev pub spans_of : Pmp → ℕ → Span
spans_of p = entry_span p.grain p.cfgs p.addrs
