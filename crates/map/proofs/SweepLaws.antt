-- The ranges found one after another from the lowest byte up are the map's. Assumes nothing.
use borrow.Author.Tests.{lt-ltb, le-ltb}
use Prim.Native.Nat.{ℕ, suc, ◌+◌, ◌-◌, ◌≤◌, ◌<◌}
use mathlib.Core.Path.{◌≡◌, refl, sym, ap, subst, ◌∙◌}
use mathlib.Core.List.{List, [], ◌∷◌, ◌++◌, append-nil}
use mathlib.Core.Logic.{◌⊎◌, inl, inr, ⊎_elim}
use native.Mathlib.Omega.{arith}
use native.Mathlib.Numerals.{add-one}
use lib.ListN.{length, set, replicate, length-append}
use lib.Seq.{append_snoc, set_at}
use Rattle.pmp.specs.declared.Span.{Span}
use Rattle.pmp.specs.Entry.{top, span}
use Rattle.pmp.specs.Rule.{owner_of}
use Rattle.map.specs.declared.Range.{Range}
use Rattle.map.specs.Painting.{painted, ranges_of}
use Rattle.map.specs.Compiled.{padding, map_of}
use Rattle.map.specs.Sweep.{normalized, Normalized, spans_in, range_from}
use Rattle.map.proofs.Lawful.{less, Lawful, head_run, same_run, from-bound}
use Rattle.map.proofs.Painting.{Short, painted-lawful, painted_same}
use Rattle.map.proofs.RangeFromLaws.{Reached, range_run}

-- ---- the ranges one after another: those found, in the array's first places, and those left, which start at the next byte

module _ (spans : ℕ → Span) (known : Normalized spans) where
  all-lawful : Short (owner_of spans) 17 0 (painted spans 16) 33
  unfolding owner_of
  all-lawful = painted-lawful spans known.below 16 (omega arith)

pub record Swept (spans : ℕ → Span) (ranges : List Range) (count at : ℕ) : Type 0 where
  pub done : List Range
  pub left : List Range
  pub before : ℕ
  pub whole : painted spans 16 ≡ done ++ left
  pub counted : length done ≡ count
  pub filled : ranges ≡ done ++ replicate (33 - count) padding
  pub lawful : Lawful (owner_of spans) before at left

module _ (spans : ℕ → Span) (known : Normalized spans) where
  pub swept_start : Swept spans (replicate 33 padding) 0 0
  swept_start = record {
    done = [];
    left = painted spans 16;
    before = 17;
    whole = refl;
    counted = refl;
    filled = refl;
    lawful = (all-lawful spans known).lawful;
  }

  module _ (ranges : List Range) (count at : ℕ) where
    bound : (s : Swept spans ranges count at) → count + length s.left ≤ 33
    bound s =
        omega (arith, (all-lawful spans known).short, ap length s.whole, length-append s.done s.left, s.counted)

    -- what is left where the next byte is in memory: there is room for it
    pub swept_room : Swept spans ranges count at → at < top → count < 33
    swept_room s h = go s.left s.lawful (bound s)
      where
        go : (left : List Range) → Lawful (owner_of spans) s.before at left → count + length left ≤ 33 → count < 33
        go [] l b = absurd (omega (arith, l))
        go (r ∷ rs) l b = omega arith

    pub swept_next : (r : Range) → Swept spans ranges count at → at < top → r ≡ range_from spans at 16 0 top
        → Swept spans (set ranges count r) (count + 1) (r.last + 1)
    swept_next r s h e = go s.left s.lawful s.whole (bound s)
      where
        run : Reached spans at known r
        run = subst (Reached spans at known) (sym e) (range_run spans at known h)

        go : (left : List Range) → Lawful (owner_of spans) s.before at left → painted spans 16 ≡ s.done ++ left → count + length left ≤ 33
            → Swept spans (set ranges count r) (count + 1) (r.last + 1)
        go [] l w b = absurd (omega (arith, l))
        go (t ∷ ts) l w b =
            let same : t ≡ r = same_run (owner_of spans) t r (head_run (owner_of spans) s.before at t ts l) run.1 (l.0.starts ∙ sym run.0) in
            let room : 33 - count ≡ suc (33 - (count + 1)) = omega arith in
            record {
              done = s.done ++ (r ∷ []);
              left = ts;
              before = r.owner;
              whole = w ∙ ap (λ (x : Range). s.done ++ (x ∷ ts)) same ∙ sym (append_snoc s.done r ts);
              counted = length-append s.done (r ∷ []) ∙ omega (arith, s.counted);
              filled =
                  rw (s.filled, room)
                  (set_at s.done padding (replicate (33 - (count + 1)) padding) r count s.counted
                  ∙ sym (append_snoc s.done r (replicate (33 - (count + 1)) padding)));
              lawful = rw add-one (subst (λ (x : Range). Lawful (owner_of spans) x.owner (suc x.last) ts) same l.1);
            }

    pub swept_end : Swept spans ranges count at → top ≤ at → record { count = count; ranges = ranges } ≡ map_of (painted spans 16)
    swept_end s h = go s.left s.lawful s.whole
      where
        go : (left : List Range) → Lawful (owner_of spans) s.before at left → painted spans 16 ≡ s.done ++ left
            → record { count = count; ranges = ranges } ≡ map_of (painted spans 16)
        go [] l w =
            let c : count ≡ length s.done = sym s.counted in
            let f : ranges ≡ s.done ++ replicate (33 - length s.done) padding = rw s.counted s.filled in
            let m : record { count = count; ranges = ranges } ≡ map_of s.done = λ j. record { count = c j; ranges = f j } in
            m ∙ ap map_of (sym (w ∙ append-nil s.done))
        go (t ∷ ts) l w = absurd (omega (arith, l.0.some, from-bound (owner_of spans) t.owner (suc t.last) ts l.1))

-- ---- the array of the entries' bytes

module _ (s t : Span) (e : t ≡ normalized s) where
  normalized_cases : (t ≡ s × s.low < s.high) ⊎ (t ≡ span 0 0)
  normalized_cases = go (less s.low s.high)
    where
      go : (s.low < s.high) ⊎ (s.high ≤ s.low) → (t ≡ s × s.low < s.high) ⊎ (t ≡ span 0 0)
      go (inl x) = inl (rw (lt-ltb s.low s.high x) at e, x)
      go (inr x) = inr (rw (le-ltb s.low s.high x) at e)

  -- one that does not start at 0 has a byte
  normalized-some : 0 < t.low → t.low < t.high
  normalized-some h =
      ⊎_elim (λ w. rw w.0 w.1) (λ w. let z : t.low ≡ 0 = ap (λ (x : Span). x.low) w in absurd (omega arith)) normalized_cases

  normalized-below : s.high ≤ top → t.high ≤ top
  normalized-below h = ⊎_elim (λ w. rw w.0 h) (λ w. rw w (omega arith)) normalized_cases

-- they hold the bytes of the entries below i
abbrev pub Filled : (ℕ → Span) → List Span → ℕ → Type 0
Filled spans held i = (k : ℕ) → k < i → spans_in held k ≡ normalized (spans k)

module _ (spans : ℕ → Span) (held : List Span) where
  pub filled_normalized : ((k : ℕ) → k < 16 → (spans k).high ≤ top) → Filled spans held 16 → Normalized (spans_in held)
  filled_normalized bounded f = record {
    some = λ k h l. normalized-some (spans k) (spans_in held k) (f k h) l;
    below = λ k h. normalized-below (spans k) (spans_in held k) (f k h) (bounded k h);
  }

  pub filled_compiled : Filled spans held 16 → map_of (painted (spans_in held) 16) ≡ map_of (ranges_of spans)
  unfolding ranges_of
  filled_compiled f = ap map_of (sym (painted_same spans (spans_in held) f 16 (omega arith)))
