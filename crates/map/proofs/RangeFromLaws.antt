-- The range from a byte on: how a loop over the entries finds it, and that it ends where the owner changes. Assumes nothing.
use Prim.Native.Nat.{ℕ, zero, suc, ◌+◌, ◌-◌, ◌≤◌, ◌<◌, min}
use mathlib.Core.Path.{◌≡◌, refl, sym, ap, subst, ◌∙◌}
use mathlib.Core.Bool.{true, false, cond}
use mathlib.Core.Logic.{◌⊎◌, inl, inr, ⊎_elim}
use native.Mathlib.Omega.{arith}
use native.Mathlib.Numerals.{add-one}
use lib.Dec.{ltb}
use borrow.Author.Tests.{lt-ltb, le-ltb}
use Rattle.bits.proofs.Conjunction.{contradiction}
use Rattle.pmp.specs.declared.Span.{Span}
use Rattle.pmp.specs.Entry.{top, contains}
use Rattle.pmp.specs.Rule.{owner_of}
use Rattle.pmp.proofs.SearchLaws.{lowest_fails, lowest_passes, lowest_unique}
use Rattle.pmp.proofs.EntryLaws.{contains_inside, contains-below, contains-beyond}
use Rattle.map.specs.declared.Range.{Range}
use Rattle.map.specs.Ranges.{range}
use Rattle.map.specs.Sweep.{Normalized, range_from}
use Rattle.map.proofs.Lawful.{less, Run}

-- ---- a loop over the entries: i is the next one

module _ (spans : ℕ → Span) (at i end : ℕ) where
  from_step : i < 16
      → range_from spans at (16 - i) i end
      ≡ cond (ltb at (spans i).low) (range_from spans at (16 - (i + 1)) (i + 1) (min end (spans i).low))
      (cond (ltb at (spans i).high) (range at (min end (spans i).high - 1) i) (range_from spans at (16 - (i + 1)) (i + 1) end))
  unfolding range_from
  from_step h = let e : 16 - i ≡ suc (16 - (i + 1)) = omega arith in rw (e, add-one i)

  pub from-later : i < 16 → at < (spans i).low
      → range_from spans at (16 - i) i end ≡ range_from spans at (16 - (i + 1)) (i + 1) (min end (spans i).low)
  from-later h l = from_step h ∙ rw (lt-ltb at (spans i).low l)

  pub from-owner : i < 16 → (spans i).low ≤ at → at < (spans i).high
      → range_from spans at (16 - i) i end ≡ range at (min end (spans i).high - 1) i
  from-owner h l k = from_step h ∙ rw (le-ltb at (spans i).low l, lt-ltb at (spans i).high k)

  pub from_past : i < 16 → (spans i).low ≤ at → (spans i).high ≤ at
      → range_from spans at (16 - i) i end ≡ range_from spans at (16 - (i + 1)) (i + 1) end
  from_past h l k = from_step h ∙ rw (le-ltb at (spans i).low l, le-ltb at (spans i).high k)

  pub from_end : i ≡ 16 → range_from spans at (16 - i) i end ≡ range at (end - 1) 16
  unfolding range_from
  from_end e = rw e

pub ruleset from_cases = (from-later, from-owner, from_past, from_end)

-- ---- the range from a byte on is a run

module _ (spans : ℕ → Span) (at : ℕ) (known : Normalized spans) where
  -- no entry below i matches a byte from `at` up to `end`, and one of them starts there unless memory ends
  record Free (i end : ℕ) : Type 0 where
    ahead : at < end
    bound : end ≤ top
    free : (k b : ℕ) → k < i → at ≤ b → b < end → contains (spans k) b ≡ false
    closed : (end ≡ top) ⊎ ((k : ℕ) × (k < i) × (contains (spans k) end ≡ true))

  -- past the entry a lower one matches, so it is not the owner
  not-owner : (i end : ℕ) → Free i end → end < top → owner_of spans end ≡ i → ⊥
  unfolding owner_of
  not-owner i end f h e =
      ⊎_elim (λ z. omega arith)
      (λ w. contradiction w.2 (lowest_fails (λ k. contains (spans k) end) 16 0 w.0 (omega arith) (omega (arith, e, w.1))))
      f.closed

  -- it starts at the byte and is a run
  abbrev pub Reached : Range → Type 0
  Reached r = (r.first ≡ at) × Run (owner_of spans) r

  -- the range that the bytes up to `stop` make, where entry i matches them (16 matches all) and the owner changes at `stop`
  reached : (i end stop : ℕ) → i ≤ 16 → Free i end → at < stop → stop ≤ end
      → (i < 16 → (b : ℕ) → at ≤ b → b < stop → contains (spans i) b ≡ true) → (stop < top → owner_of spans stop ≡ i → ⊥)
      → Reached (range at (stop - 1) i)
  unfolding owner_of
  reached i end stop h f some below match change =
      let s : suc (stop - 1) ≡ stop = omega arith in (
        refl,
        record {
          some = omega arith;
          below = omega (arith, f.bound);
          owned = λ b x y.
              lowest_unique (λ k. contains (spans k) b) 16 0 i (omega arith) h
              (λ k u v. f.free k b v x (omega arith)) (λ l. match l b x (omega arith));
          ends = λ l e. change (omega arith) (rw s at e);
        },
      )

  last_run : (i end : ℕ) → i ≡ 16 → Free i end → Reached (range at (end - 1) i)
  last_run i end h f = reached i end end (omega arith) f f.ahead (omega arith) (λ l. absurd (omega arith)) (not-owner i end f)

  owner_run : (i end : ℕ) → i < 16 → (spans i).low ≤ at → at < (spans i).high → Free i end → Reached (range at (min end (spans i).high - 1) i)
  unfolding owner_of
  owner_run i end h l k f =
      reached i end (min end (spans i).high) (omega arith) f (omega (arith, f.ahead)) (omega arith)
      (λ _ b x y. contains_inside (spans i) b (omega arith) (omega arith))
      (λ u e. go u e (less (spans i).high end))
    where
      go : min end (spans i).high < top → owner_of spans (min end (spans i).high) ≡ i → ((spans i).high < end) ⊎ (end ≤ (spans i).high) → ⊥
      go u e (inl w) =
          let s : min end (spans i).high ≡ (spans i).high = omega arith in
          let t : owner_of spans (spans i).high ≡ i = rw s at e in
          let q = lowest_passes (λ j. contains (spans j) (spans i).high) 16 0 (omega arith) in
          contradiction (ap (λ (j : ℕ). contains (spans j) (spans i).high) (sym t) ∙ q) (contains-beyond (spans i) (spans i).high (omega arith))
      go u e (inr w) =
          let s : min end (spans i).high ≡ end = omega arith in
          not-owner i end f (omega arith) (rw s at e)

  later_free : (i end : ℕ) → i < 16 → at < (spans i).low → Free i end → Free (suc i) (min end (spans i).low)
  later_free i end h l f = record {
    ahead = omega (arith, f.ahead);
    bound = omega (arith, f.bound);
    free = λ k b u x y.
        ⊎_elim (λ w. f.free k b w x (omega arith))
        (λ w. let e : i ≡ k = omega arith in subst (λ (j : ℕ). contains (spans j) b ≡ false) e (contains-below (spans i) b (omega arith)))
        (less k i);
    closed = go (less (spans i).low end);
  }
    where
      go : ((spans i).low < end) ⊎ (end ≤ (spans i).low)
          → (min end (spans i).low ≡ top) ⊎ ((k : ℕ) × (k < suc i) × (contains (spans k) (min end (spans i).low) ≡ true))
      go (inl w) =
          let e : min end (spans i).low ≡ (spans i).low = omega arith in
          inr (i, omega arith, rw e (contains_inside (spans i) (spans i).low (omega arith) (known.some i h (omega arith))))
      go (inr w) =
          let e : min end (spans i).low ≡ end = omega arith in
          ⊎_elim (λ z. inl (e ∙ z)) (λ z. inr (z.0, omega (arith, z.1), rw e z.2)) f.closed

  past_free : (i end : ℕ) → (spans i).high ≤ at → Free i end → Free (suc i) end
  past_free i end l f = record {
    ahead = f.ahead;
    bound = f.bound;
    free = λ k b u x y.
        ⊎_elim (λ w. f.free k b w x y)
        (λ w. let e : i ≡ k = omega arith in subst (λ (j : ℕ). contains (spans j) b ≡ false) e (contains-beyond (spans i) b (omega arith)))
        (less k i);
    closed = ⊎_elim (λ z. inl z) (λ z. inr (z.0, omega (arith, z.1), z.2)) f.closed;
  }

  run_from : (n i end : ℕ) → i + n ≡ 16 → Free i end → Reached (range_from spans at n i end)
  unfolding range_from
  run_from zero i end h f = last_run i end (omega arith) f
  run_from (suc n) i end h f =
      go (less at (spans i).low) (less at (spans i).high) (run_from n (suc i) (min end (spans i).low) (omega arith)) (run_from n (suc i) end (omega arith))
    where
      go : (at < (spans i).low) ⊎ ((spans i).low ≤ at) → (at < (spans i).high) ⊎ ((spans i).high ≤ at)
          → (Free (suc i) (min end (spans i).low) → Reached (range_from spans at n (suc i) (min end (spans i).low)))
          → (Free (suc i) end → Reached (range_from spans at n (suc i) end))
          → Reached (range_from spans at (suc n) i end)
      go (inl x) y a b = rw (lt-ltb at (spans i).low x) (a (later_free i end (omega arith) x f))
      go (inr x) (inl y) a b = rw (le-ltb at (spans i).low x, lt-ltb at (spans i).high y) (owner_run i end (omega arith) x y f)
      go (inr x) (inr y) a b = rw (le-ltb at (spans i).low x, le-ltb at (spans i).high y) (b (past_free i end y f))

  pub range_run : at < top → Reached (range_from spans at 16 0 top)
  range_run h =
      run_from 16 0 top refl
      (record { ahead = h; bound = omega arith; free = λ k b u x y. absurd (omega arith); closed = inl refl })

  -- it holds the byte and lies in memory
  pub range_bounds : (r : Range) → at < top → r ≡ range_from spans at 16 0 top → (at ≤ r.last) × (r.last < top)
  range_bounds r h e =
      let t = range_run h in
      subst (λ (x : Range). (at ≤ x.last) × (x.last < top)) (sym e) (omega (arith, t.0, t.1.some), t.1.below)
