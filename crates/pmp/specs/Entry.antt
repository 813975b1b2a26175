-- 01, "Protection, byte by byte": the bytes that an entry matches, and its lock; 02, [9]: by the grain G, 2^(G+2) bytes.
use Rattle.std.specs.Prelude.{ℕ, zero, suc, ◌+◌, ◌-◌, ◌*◌, ◌/◌, ◌%◌, ◌^◌, min, Bool, cond, ◌&&◌, List, leb, ltb, eqb, get_or}
use Rattle.pmp.specs.declared.Span.{Span}

-- physical memory is the bytes below this
abbrev pub top : ℕ
top = 2 ^ 56

-- sixteen protection entries, numbered from 0
abbrev pub entries : ℕ
entries = 16

-- the number of ones at the low end of a word of n bits
unfoldable pub trailing_ones : ℕ → ℕ → ℕ
trailing_ones zero word = 0
trailing_ones (suc n) word = cond (eqb (word % 2) 1) (suc (trailing_ones n (word / 2))) 0

-- the bytes from low up to but not including high, cut at the end of memory
abbrev pub span : ℕ → ℕ → Span
span low high = record { low = min low top; high = min high top }

-- NAPOT with t trailing ones in pmpaddr: the 2^(t+3) bytes from 4*(pmpaddr with those ones cleared)
abbrev pub napot : ℕ → ℕ → Span
napot addr t = span (4 * (addr - (2 ^ t - 1))) (4 * (addr - (2 ^ t - 1)) + 2 ^ (t + 3))

-- by the A field: 0 off, 1 TOR from the register before, 2 NA4, 3 NAPOT
unfoldable pub span_of : ℕ → ℕ → ℕ → Span
span_of zero addr before = span 0 0
span_of (suc zero) addr before = span (4 * before) (4 * addr)
span_of (suc (suc zero)) addr before = span (4 * addr) (4 * addr + 4)
span_of (suc (suc (suc a))) addr before = napot addr (trailing_ones 64 addr)

-- the A field of a configuration byte
abbrev pub field_a : ℕ → ℕ
field_a cfg = cfg / 8 % 4

-- L of a configuration byte
abbrev pub locked : ℕ → Bool
locked cfg = eqb (cfg / 128) 1

-- 02, [9]: "G, 0 to 10"
abbrev pub grain_holdable : ℕ → Bool
grain_holdable g = ltb g 11

-- "making a hart and step 0 turn a G above 10 into 0"; reading and matching take one as 0 too, in a state that no other step accepts
abbrev pub legal_grain : ℕ → ℕ
legal_grain g = cond (grain_holdable g) g 0

-- a word with its n lowest bits zeros
abbrev pub low_zeros : ℕ → ℕ → ℕ
low_zeros n word = word / 2 ^ n * 2 ^ n

-- a word with its n lowest bits ones
abbrev pub low_ones : ℕ → ℕ → ℕ
low_ones n word = low_zeros n word + (2 ^ n - 1)

-- 002, what pmpaddr reads: the low G bits zeros where A is OFF or TOR; else, G being 2 or more, the low G-1 bits ones
unfoldable pub address_read : ℕ → ℕ → ℕ → ℕ
address_read g a addr = cond (ltb a 2) (low_zeros (legal_grain g) addr) (low_ones (legal_grain g - 1) addr)

-- an entry matches by what is read. NA4 is 01's as it was: with G of 0 what is read is what is stored, and with any other no hart can hold NA4
abbrev pub address_matched : ℕ → ℕ → ℕ → ℕ
address_matched g a addr = cond (eqb a 2) addr (address_read g a addr)

-- TOR's lower bound is the register before without its low G bits, whatever A is there
abbrev pub span_read : ℕ → ℕ → ℕ → ℕ → Span
span_read g a addr before = span_of a (address_matched g a addr) (low_zeros (legal_grain g) before)

-- pmpaddr(i-1), and 0 for entry 0
abbrev pub address_before : List ℕ → ℕ → ℕ
address_before addrs zero = 0
address_before addrs (suc i) = get_or addrs i 0

-- the bytes of entry i, for the grain, the configuration bytes and the address registers
abbrev pub entry_span : ℕ → List ℕ → List ℕ → ℕ → Span
entry_span g cfgs addrs i = span_read g (field_a (get_or cfgs i 0)) (get_or addrs i 0) (address_before addrs i)

abbrev pub contains : Span → ℕ → Bool
contains s byte = leb s.low byte && ltb byte s.high

-- entry i matches the byte, where `spans` gives the bytes of each entry
abbrev pub matches : (ℕ → Span) → ℕ → ℕ → Bool
matches spans i byte = contains (spans i) byte
