-- The inner boundaries of a compiled map are edges of entries, since the owner changes there, and there are at most 32. Assumes nothing.
use Prim.Native.Nat.{ℕ, suc, ◌+◌, ◌≤◌, ◌<◌}
use mathlib.Core.Path.{◌≡◌, sym, subst, ◌∙◌}
use mathlib.Core.Bool.{true, false}
use mathlib.Core.List.{List, [], ◌∷◌, map}
use mathlib.Core.Logic.{◌⊎◌, inl, inr, ⊎_elim}
use native.Mathlib.Omega.{arith}
use native.Mathlib.Numerals.{add-one}
use lib.ListN.{length, drop, length-map}
use Rattle.bits.proofs.Conjunction.{contradiction}
use Rattle.pmp.specs.declared.Span.{Span}
use Rattle.pmp.specs.Entry.{entry_span, matches}
use Rattle.pmp.specs.Rule.{owner_of}
use Rattle.pmp.proofs.EntryLaws.{contains_bounds, contains_inside, contains-below, contains-beyond}
use Rattle.pmp.proofs.Owner.{owner-bound, owner-matches, below-owner}
use Rattle.map.specs.declared.Range.{Range}
use Rattle.map.specs.Painting.{ranges_of}
use Rattle.map.specs.Compiled.{compiled}
use Rattle.map.specs.Boundaries.{FirstByte, LastByte, Edge, AllEdges, Boundaries}
use Rattle.map.proofs.Lawful.{less, Lawful}
use Rattle.map.proofs.MapLaws.{lawful-ranges, count-bound, is_map, entry-below, compiled-ranges}

abbrev firsts : List Range → List ℕ
firsts rs = map (λ (r : Range). r.first) rs

module _ (spans : ℕ → Span) where
  -- an entry that matches a byte and not the next one has its last byte there
  last_byte : (i b : ℕ) → matches spans i b ≡ true → matches spans i (suc b) ≡ false → LastByte spans i b
  last_byte i b p q =
      let s = spans i in
      let w = contains_bounds s b p in
      let ended : s.high ≤ suc b =
      ⊎_elim (λ h. contradiction (contains_inside s (suc b) (omega arith) h) q) (λ h. h) (less (suc b) s.high) in
      (p, λ h l. contains-beyond s h (omega arith))

  -- an entry that matches a byte and not the one before has its first byte there
  first_byte : (i b : ℕ) → matches spans i b ≡ false → matches spans i (suc b) ≡ true → FirstByte spans i (suc b)
  first_byte i b p q =
      let s = spans i in
      let w = contains_bounds s (suc b) q in
      let later : b < s.low =
      ⊎_elim (λ h. h) (λ h. contradiction (contains_inside s b h (omega arith)) p) (less b s.low) in
      (q, λ l h. contains-below s l (omega arith))

  abbrev own : ℕ → ℕ
  own b = owner_of spans b

  -- where the owner changes, the lower of the two has begun or ended
  owner_edge : (b : ℕ) → (own b ≡ own (suc b) → ⊥) → Edge spans (suc b)
  owner_edge b d = go (less (own b) (own (suc b)))
    where
      go : (own b < own (suc b)) ⊎ (own (suc b) ≤ own b) → Edge spans (suc b)
      go (inl h) =
          let within : own b < 16 = omega (arith, owner-bound spans (suc b)) in
          let ended = last_byte (own b) b (owner-matches spans b within) (below-owner spans (suc b) (own b) h) in
          record { entry = own b; within = within; at = inr (b, sym (add-one b), ended) }
      go (inr h) =
          let lower : own (suc b) < own b = ⊎_elim (λ x. x) (λ x. absurd (d (omega arith))) (less (own (suc b)) (own b)) in
          let within : own (suc b) < 16 = omega (arith, owner-bound spans b) in
          let begun = first_byte (own (suc b)) b (below-owner spans b (own (suc b)) lower) (owner-matches spans (suc b) within) in
          record { entry = own (suc b); within = within; at = inl begun }

  -- each range but the first begins where the owner changes
  later-edges : (before from : ℕ) (r : Range) (rs : List Range) → Lawful own before from (r ∷ rs) → AllEdges spans (firsts rs)
  later-edges before from r [] l = tt
  later-edges before from r (s ∷ rs) l =
      let here : own r.last ≡ r.owner = l.0.owned r.last l.0.some (omega arith) in
      let next : own (suc r.last) ≡ s.owner = l.1.0.owned (suc r.last) (omega arith) l.1.0.some in (
        subst (Edge spans) (sym l.1.0.starts) (owner_edge r.last (λ e. l.1.0.differs (sym next ∙ sym e ∙ here))),
        later-edges r.owner (suc r.last) s rs l.1,
      )

  edges : (rs : List Range) → Lawful own 17 0 rs → AllEdges spans (drop 1 (firsts rs))
  edges [] l = tt
  edges (r ∷ rs) l = later-edges 17 0 r rs l

  -- ranges that cover memory are one more than the boundaries between them
  one_more : (rs : List Range) → Lawful own 17 0 rs → length rs ≡ length (drop 1 (firsts rs)) + 1
  one_more [] l = absurd (omega (arith, l))
  one_more (r ∷ rs) l = rw (length-map rs (λ (r : Range). r.first), add-one (length rs))

pub boundaries : (g : ℕ) (cfgs addrs : List ℕ) → Boundaries (entry_span g cfgs addrs) (compiled g cfgs addrs)
unfolding compiled
boundaries g cfgs addrs =
    let spans = entry_span g cfgs addrs in
    let below = entry-below g cfgs addrs in
    let e = compiled-ranges g cfgs addrs in
    let n = one_more spans (ranges_of spans) (lawful-ranges spans below) in
    record {
      laid = rw e (is_map spans below);
      most = rw e (omega (arith, n, count-bound spans below));
      edges = rw e (edges spans (ranges_of spans) (lawful-ranges spans below));
      count = rw e n;
      bounded = count-bound spans below;
    }
