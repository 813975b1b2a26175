-- What 01 says of a map's ranges, said range by range: there is one such list. Assumes nothing.
use Prim.Native.Nat.{ℕ, suc, ◌≤◌, ◌<◌}
use mathlib.Core.Path.{◌≡◌, refl, sym, subst, ◌∙◌}
use mathlib.Core.Bool.{Bool, true, false}
use mathlib.Core.List.{List, [], ◌∷◌}
use mathlib.Core.Logic.{◌⊎◌, inl, inr, ⊎_elim}
use native.Mathlib.Omega.{arith}
use lib.Dec.{ltb}
use borrow.Author.Tests.{ltb-true, ltb-false}
use Rattle.pmp.specs.declared.Span.{Span}
use Rattle.pmp.specs.Entry.{top}
use Rattle.pmp.specs.Rule.{owner_of}
use Rattle.pmp.proofs.Owner.{owner-bound}
use Rattle.map.specs.declared.Range.{Range}
use Rattle.map.specs.Ranges.{Owned, Covers, Parted, IsMap}

-- two numbers compared, as a sum
pub less : (a b : ℕ) → (a < b) ⊎ (b ≤ a)
less a b = go (ltb a b) refl
  where
    go : (t : Bool) → ltb a b ≡ t → (a < b) ⊎ (b ≤ a)
    go true e = inl (ltb-true a b e)
    go false e = inr (ltb-false a b e)

-- the range starts at `from`, holds a byte, has another owner than the range before, and owns each of its bytes
pub record Head (owner : ℕ → ℕ) (before from : ℕ) (r : Range) : Type 0 where
  pub starts : r.first ≡ from
  pub some : from ≤ r.last
  pub differs : r.owner ≡ before → ⊥
  pub owned : (byte : ℕ) → from ≤ byte → byte ≤ r.last → owner byte ≡ r.owner

abbrev pub Lawful : (ℕ → ℕ) → ℕ → ℕ → List Range → Type 0
Lawful owner before from [] = from ≡ top
Lawful owner before from (r ∷ rs) = Head owner before from r × Lawful owner r.owner (suc r.last) rs

-- the owner of the first range differs from `before`
abbrev Opens : ℕ → List Range → Type 0
Opens before [] = Unit {0}
Opens before (r ∷ rs) = r.owner ≡ before → ⊥

opens : (r : Range) (rs : List Range) → Parted (r ∷ rs) → Opens r.owner rs
opens r [] p = tt
opens r (s ∷ rs) p = λ e. p.0 (sym e)

parted_tail : (r : Range) (rs : List Range) → Parted (r ∷ rs) → Parted rs
parted_tail r [] p = tt
parted_tail r (s ∷ rs) p = p.1

module _ (owner : ℕ → ℕ) where
  covers : (before from : ℕ) (rs : List Range) → Lawful owner before from rs → Covers from rs
  covers before from [] l = l
  covers before from (r ∷ rs) l = (l.0.starts, omega (arith, l.0.starts, l.0.some), covers r.owner (suc r.last) rs l.1)

  parted : (before from : ℕ) (rs : List Range) → Lawful owner before from rs → Parted rs
  parted before from [] l = tt
  parted before from (r ∷ []) l = tt
  parted before from (r ∷ s ∷ rs) l = (λ e. l.1.0.differs (sym e), parted r.owner (suc r.last) (s ∷ rs) l.1)

  owned : (before from : ℕ) (rs : List Range) → Lawful owner before from rs → Owned owner rs
  owned before from [] l = tt
  owned before from (r ∷ rs) l =
      (λ byte x y. l.0.owned byte (omega (arith, l.0.starts)) y, owned r.owner (suc r.last) rs l.1)

  lawful : (before from : ℕ) (rs : List Range) → Opens before rs → Covers from rs → Parted rs → Owned owner rs → Lawful owner before from rs
  lawful before from [] d c p o = c
  lawful before from (r ∷ rs) d c p o = (
    record {
      starts = c.0;
      some = omega (arith, c.0, c.1);
      differs = d;
      owned = λ byte x y. o.0 byte (omega (arith, c.0)) y;
    },
    lawful r.owner (suc r.last) rs (opens r rs p) c.2 (parted_tail r rs p) o.1,
  )

  -- a lawful list ends at the end of memory
  pub from-bound : (before from : ℕ) (rs : List Range) → Lawful owner before from rs → from ≤ top
  from-bound before from [] l = omega (arith, l)
  from-bound before from (r ∷ rs) l = omega (arith, l.0.some, from-bound r.owner (suc r.last) rs l.1)

  -- right after a range the owner is another
  pub next_differs : (before from : ℕ) (r : Range) (rs : List Range) → Lawful owner before from (r ∷ rs)
      → suc r.last < top → owner (suc r.last) ≡ r.owner → ⊥
  next_differs before from r [] l h e = omega (arith, l.1)
  next_differs before from r (s ∷ rs) l h e =
      l.1.0.differs (sym (l.1.0.owned (suc r.last) (omega arith) l.1.0.some) ∙ e)

-- a range of bytes of one owner that ends only where the owner changes
pub record Run (owner : ℕ → ℕ) (r : Range) : Type 0 where
  pub some : r.first ≤ r.last
  pub below : r.last < top
  pub owned : (byte : ℕ) → r.first ≤ byte → byte ≤ r.last → owner byte ≡ r.owner
  pub ends : suc r.last < top → owner (suc r.last) ≡ r.owner → ⊥

module _ (owner : ℕ → ℕ) where
  -- the first range of a lawful list is a run, and any run that starts with it is that range
  pub head_run : (before from : ℕ) (r : Range) (rs : List Range) → Lawful owner before from (r ∷ rs) → Run owner r
  head_run before from r rs l = record {
    some = omega (arith, l.0.starts, l.0.some);
    below = omega (arith, from-bound owner r.owner (suc r.last) rs l.1);
    owned = λ byte x y. l.0.owned byte (omega (arith, l.0.starts)) y;
    ends = next_differs owner before from r rs l;
  }

  no_shorter : (r s : Range) → Run owner r → Run owner s → r.first ≡ s.first → r.last < s.last → ⊥
  no_shorter r s x y e h =
      x.ends (omega (arith, y.below))
      (y.owned (suc r.last) (omega (arith, x.some)) (omega arith)
      ∙ sym (y.owned s.first (omega arith) y.some) ∙ x.owned s.first (omega arith) (omega (arith, x.some)))

  pub same_run : (r s : Range) → Run owner r → Run owner s → r.first ≡ s.first → r ≡ s
  same_run r s x y ef =
      let el : r.last ≡ s.last =
      ⊎_elim (λ h. absurd (no_shorter r s x y ef h))
      (λ h. ⊎_elim (λ k. absurd (no_shorter s r y x (sym ef) k)) (λ k. omega arith) (less s.last r.last))
      (less r.last s.last) in
      let eo : r.owner ≡ s.owner = sym (x.owned s.first (omega arith) (omega (arith, x.some))) ∙ y.owned s.first (omega arith) y.some in
      λ j. record { first = ef j; last = el j; owner = eo j }

  pub one_list : (before from : ℕ) (rs ss : List Range) → Lawful owner before from rs → Lawful owner before from ss → rs ≡ ss
  one_list before from [] [] l m = refl
  one_list before from [] (s ∷ ss) l m =
      absurd (omega (arith, l, m.0.some, from-bound owner s.owner (suc s.last) ss m.1))
  one_list before from (r ∷ rs) [] l m =
      absurd (omega (arith, m, l.0.some, from-bound owner r.owner (suc r.last) rs l.1))
  one_list before from (r ∷ rs) (s ∷ ss) l m =
      let e : r ≡ s = same_run r s (head_run before from r rs l) (head_run before from s ss m) (l.0.starts ∙ sym m.0.starts) in
      let m' : Lawful owner r.owner (suc r.last) ss = subst (λ (x : Range). Lawful owner x.owner (suc x.last) ss) (sym e) m.1 in
      let t : rs ≡ ss = one_list r.owner (suc r.last) rs ss l.1 m' in
      λ j. e j ∷ t j

module _ (spans : ℕ → Span) where
  -- 17 is no byte's owner
  pub lawful-map : (rs : List Range) → Lawful (owner_of spans) 17 0 rs → IsMap spans rs
  lawful-map rs l = record {
    owned = owned (owner_of spans) 17 0 rs l;
    covers = covers (owner_of spans) 17 0 rs l;
    parted = parted (owner_of spans) 17 0 rs l;
  }

  start_opens : (rs : List Range) → Covers 0 rs → Owned (owner_of spans) rs → Opens 17 rs
  start_opens [] c o = tt
  start_opens (r ∷ rs) c o = λ e. omega (arith, o.0 r.first (omega arith) c.1, owner-bound spans r.first)

  pub map-lawful : (rs : List Range) → IsMap spans rs → Lawful (owner_of spans) 17 0 rs
  map-lawful rs m =
      lawful (owner_of spans) 17 0 rs (start_opens rs m.covers m.owned) m.covers m.parted m.owned

  -- no two lists are the map of the same registers
  pub unique : (rs ss : List Range) → IsMap spans rs → IsMap spans ss → rs ≡ ss
  unique rs ss m n = one_list (owner_of spans) 17 0 rs ss (map-lawful rs m) (map-lawful ss n)
