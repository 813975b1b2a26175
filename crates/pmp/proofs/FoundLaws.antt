-- Laws of what the search for the lowest entry yields: the span that meets an access, by words, and the entry that is found. Assumes nothing.
use Rattle.std.proofs.Common.{◌≡◌, ℕ, ◌+◌, ◌-◌, ◌/◌, ◌≤◌, ◌<◌, Bool, true, false, cond, ◌&&◌, List, Some, None, get_or, ltb, refl, sym, ap, ◌∙◌, arith}
use Rattle.std.proofs.lemmas.Option.{cond_some, none-some}
use borrow.Author.Tests.{lt-ltb, le-ltb}
use Rattle.pmp.specs.declared.Span.{Span}
use Rattle.pmp.specs.Search.{any_byte}
use Rattle.pmp.specs.Entry.{top, trailing_ones, napot, span_of, field_a, legal_grain, low_zeros, low_ones, address_read, span_read, contains}
use Rattle.pmp.specs.Found.{meeting, found}
use Rattle.pmp.proofs.EntryLaws.{overlaps, off_overlaps, tor_overlaps, na4_overlaps, contains-none}

-- a choice of none was refused
unmet : {A : Type 0} (b : Bool) (x : A) → cond b (Some x) None ≡ None → b ≡ false
unmet true x e = absurd (none-some x (sym e))
unmet false x e = refl

-- ---- the span that meets an access

module _ (s : Span) (address size : ℕ) where
  meeting_at : (b : Bool) → overlaps s address size ≡ b → meeting s address size ≡ cond b (Some s) None
  meeting_at b e = ap (λ (t : Bool). cond t (Some s) None) e

  -- it is the span that was asked for
  pub meeting_same : (t : Span) → meeting s address size ≡ Some t → t ≡ s
  meeting_same t e = sym (cond_some (overlaps s address size) s t e).1

  -- and where there is none, no byte of the access lies in it
  pub meeting_none : meeting s address size ≡ None → any_byte (contains s) size address ≡ false
  meeting_none e = contains-none s size address (unmet (overlaps s address size) s e)

-- ---- the same by the A field and by words

module _ (g cfg addr before address size : ℕ) where
  abbrev whole : Span
  whole = span_read g (field_a cfg) addr before

  by_field : (a : ℕ) → field_a cfg ≡ a → (b : Bool) → overlaps (span_read g a addr before) address size ≡ b
      → meeting whole address size ≡ cond b (Some whole) None
  by_field a e b t =
      meeting_at whole address size b (ap (λ (k : ℕ). overlaps (span_read g k addr before) address size) e ∙ t)

  pub meeting_off : field_a cfg ≡ 0 → meeting whole address size ≡ None
  meeting_off e = by_field 0 e false (off_overlaps address size _ _)

  module _ (some : 0 < size) (inside : address + size ≤ top) where
    tor : field_a cfg ≡ 1 → (b : Bool)
        → (ltb (address / 4) (low_zeros (legal_grain g) addr) && ltb (low_zeros (legal_grain g) before) ((address + size + 3) / 4)) ≡ b
        → meeting whole address size ≡ cond b (Some whole) None
    unfolding address_read
    tor e b t = by_field 1 e b (tor_overlaps address size _ _ some inside ∙ t)

    pub tor_behind : field_a cfg ≡ 1 → low_zeros (legal_grain g) addr ≤ address / 4 → meeting whole address size ≡ None
    tor_behind e h = tor e false (rw (le-ltb _ _ h))

    pub tor_ahead : field_a cfg ≡ 1 → address / 4 < low_zeros (legal_grain g) addr
        → (address + size + 3) / 4 ≤ low_zeros (legal_grain g) before → meeting whole address size ≡ None
    tor_ahead e l h = tor e false (rw (lt-ltb _ _ l, le-ltb _ _ h))

    pub tor_meets : field_a cfg ≡ 1 → address / 4 < low_zeros (legal_grain g) addr
        → low_zeros (legal_grain g) before < (address + size + 3) / 4 → meeting whole address size ≡ Some whole
    tor_meets e l h = tor e true (rw (lt-ltb _ _ l, lt-ltb _ _ h))

    na4 : field_a cfg ≡ 2 → (b : Bool) → (ltb (address / 4) (addr + 1) && ltb addr ((address + size + 3) / 4)) ≡ b
        → meeting whole address size ≡ cond b (Some whole) None
    na4 e b t = by_field 2 e b (na4_overlaps address size _ _ some inside ∙ t)

    pub na4_behind : field_a cfg ≡ 2 → addr < address / 4 → meeting whole address size ≡ None
    na4_behind e h = let l : addr + 1 ≤ address / 4 = omega arith in na4 e false (rw (le-ltb _ _ l))

    pub na4_ahead : field_a cfg ≡ 2 → address / 4 ≤ addr → (address + size + 3) / 4 ≤ addr → meeting whole address size ≡ None
    na4_ahead e l h = let k : address / 4 < addr + 1 = omega arith in na4 e false (rw (lt-ltb _ _ k, le-ltb _ _ h))

    pub na4_meets : field_a cfg ≡ 2 → address / 4 ≤ addr → addr < (address + size + 3) / 4 → meeting whole address size ≡ Some whole
    na4_meets e l h = let k : address / 4 < addr + 1 = omega arith in na4 e true (rw (lt-ltb _ _ k, lt-ltb _ _ h))

  -- NAPOT has the bytes of the word that is read
  pub napot_read : field_a cfg ≡ 3 → napot (low_ones (legal_grain g - 1) addr) (trailing_ones 64 (low_ones (legal_grain g - 1) addr)) ≡ whole
  unfolding span_of address_read
  napot_read e = ap (λ (a : ℕ). span_read g a addr before) (sym e)

  pub napot_meets : overlaps whole address size ≡ true → meeting whole address size ≡ Some whole
  napot_meets e = meeting_at whole address size true e

  pub napot_misses : overlaps whole address size ≡ false → meeting whole address size ≡ None
  napot_misses e = meeting_at whole address size false e

pub ruleset meeting_cases = (meeting_off, tor_behind, tor_ahead, tor_meets, na4_behind, na4_ahead, na4_meets, napot_read, napot_meets, napot_misses)

-- ---- the entry that is found

module _ (spans : ℕ → Span) (cfgs : List ℕ) (i : ℕ) where
  pub found_entry : i < 16 → found spans cfgs i ≡ Some (record { entry = i; cfg = get_or cfgs i 0; span = spans i })
  found_entry h = rw (lt-ltb i 16 h)

  pub found_none : 16 ≤ i → found spans cfgs i ≡ None
  found_none h = rw (le-ltb i 16 h)

  -- where none is, it is no entry
  pub unfound : found spans cfgs i ≡ None → ltb i 16 ≡ false
  unfound e = unmet (ltb i 16) _ e
