-- The painted ranges are lawful and few, and each starts where an entry's bytes start or end. Assumes nothing.
use Prim.Native.Nat.{ℕ, zero, suc, ◌+◌, ◌-◌, ◌*◌, ◌≤◌, ◌<◌, min, max}
use mathlib.Core.Path.{◌≡◌, refl, sym, ap, subst, fun_ext, ◌∙◌}
use mathlib.Core.Bool.{cond}
use mathlib.Core.List.{List, [], ◌∷◌, ◌++◌}
use mathlib.Core.Logic.{◌⊎◌, inl, inr, ⊎_elim}
use native.Mathlib.Omega.{arith}
use lib.ListN.{length}
use borrow.Author.Tests.{lt-ltb, le-ltb}
use Rattle.pmp.specs.declared.Span.{Span}
use Rattle.pmp.specs.Search.{lowest}
use Rattle.pmp.specs.Entry.{top, contains}
use Rattle.pmp.proofs.SearchLaws.{lowest-within}
use Rattle.pmp.proofs.EntryLaws.{contains_inside, contains-below, contains-beyond}
use Rattle.map.specs.declared.Range.{Range}
use Rattle.map.specs.Ranges.{range}
use Rattle.map.specs.Painting.{range_up_to, overlay_one, overlay, paint, painted}
use Rattle.map.specs.Sweep.{normalized}
use Rattle.map.proofs.Lawful.{less, Head, Lawful}
use Rattle.map.proofs.LookupLaws.{holds_in, holds-before, holds-behind}

-- ---- what is left of a range over which bytes are painted, with these

up_to-some : (first end owner : ℕ) → first < end → range_up_to first end owner ≡ range first (end - 1) owner ∷ []
up_to-some first end owner h = rw (lt-ltb first end h)

up_to-none : (first end owner : ℕ) → end ≤ first → range_up_to first end owner ≡ []
up_to-none first end owner h = rw (le-ltb first end h)

up_to-last : (first last end owner : ℕ) → first ≤ last → end ≡ suc last → range_up_to first end owner ≡ range first last owner ∷ []
up_to-last first last end owner h e =
    let l : end - 1 ≡ last = omega arith in
    up_to-some first end owner (omega arith) ∙ ap (λ (x : ℕ). range first x owner ∷ []) l

-- the owner of each byte once the bytes of s are given to i
abbrev over : Span → ℕ → (ℕ → ℕ) → ℕ → ℕ
over s i own b = cond (contains s b) i (own b)

over_in : (s : Span) (i : ℕ) (own : ℕ → ℕ) (b : ℕ) → s.low ≤ b → b < s.high → over s i own b ≡ i
over_in s i own b p q = rw (contains_inside s b p q)

over_before : (s : Span) (i : ℕ) (own : ℕ → ℕ) (b : ℕ) → b < s.low → over s i own b ≡ own b
over_before s i own b p = rw (contains-below s b p)

over_behind : (s : Span) (i : ℕ) (own : ℕ → ℕ) (b : ℕ) → s.high ≤ b → over s i own b ≡ own b
over_behind s i own b p = rw (contains-beyond s b p)

-- what is left of the range behind the bytes
abbrev rest : Span → Range → List Range
rest s r = range_up_to s.high (suc r.last) r.owner

module _ (s : Span) (i : ℕ) (lt : s.low < s.high) where
  overlay-before : (r : Range) → r.first ≤ r.last → r.last < s.low → overlay_one s i r ≡ r ∷ []
  overlay-before r h k =
      rw (
        up_to-last r.first r.last (min s.low (suc r.last)) r.owner h (omega arith),
        holds-behind r s.low k,
        up_to-none (max s.high r.first) (suc r.last) r.owner (omega arith),
      )

  overlay-behind : (r : Range) → r.first ≤ r.last → s.high ≤ r.first → overlay_one s i r ≡ r ∷ []
  overlay-behind r h k =
      rw (
        up_to-none r.first (min s.low (suc r.last)) r.owner (omega arith),
        holds-before r s.low (omega arith),
        up_to-last (max s.high r.first) r.last (suc r.last) r.owner (omega arith) refl,
      )
      (let e : max s.high r.first ≡ r.first = omega arith in λ j. range (e j) r.last r.owner ∷ [])

  overlay-within : (r : Range) → s.low < r.first → r.first ≤ s.high → overlay_one s i r ≡ rest s r
  overlay-within r h k =
      let e : max s.high r.first ≡ s.high = omega arith in
      rw (up_to-none r.first (min s.low (suc r.last)) r.owner (omega arith), holds-before r s.low h, e)

  overlay_over : (r : Range) → r.first ≤ s.low → s.low ≤ r.last
      → overlay_one s i r ≡ range_up_to r.first s.low r.owner ++ (range s.low (s.high - 1) i ∷ rest s r)
  overlay_over r h k =
      let e : max s.high r.first ≡ s.high = omega arith in
      let d : min s.low (suc r.last) ≡ s.low = omega arith in
      rw (holds_in r s.low h k, up_to-some s.low s.high i lt, e, d)

-- ---- one entry painted over a lawful list

-- lawful, and no longer than n
pub record Short (own : ℕ → ℕ) (before from : ℕ) (rs : List Range) (n : ℕ) : Type 0 where
  pub lawful : Lawful own before from rs
  pub short : length rs ≤ n

module _ (s : Span) (i : ℕ) (own : ℕ → ℕ) (lt : s.low < s.high) (le : s.high ≤ top) (fresh : (b : ℕ) → own b ≡ i → ⊥) where
  abbrev Overlaid : ℕ → ℕ → List Range → ℕ → Type 0
  Overlaid p a rs n = Short (over s i own) p a rs n

  other : (p a : ℕ) (r : Range) → Head own p a r → r.owner ≡ i → ⊥
  other p a r h e = fresh a (h.owned a (omega arith) h.some ∙ e)

  keep : (p q a n : ℕ) (r : Range) (rs : List Range) → Head own p a r → (r.owner ≡ q → ⊥) → (s.high ≤ a) ⊎ (r.last < s.low)
      → Overlaid r.owner (suc r.last) rs n → Overlaid q a (r ∷ rs) (suc n)
  keep p q a n r rs h d away t = record {
    lawful = (
      record {
        starts = h.starts;
        some = h.some;
        differs = d;
        owned =
            λ b x y. ⊎_elim (λ z. over_behind s i own b (omega arith)) (λ z. over_before s i own b (omega arith)) away ∙ h.owned b x y;
      },
      t.lawful,
    );
    short = omega (arith, t.short);
  }

  -- the list as it was, where it stands behind the bytes
  after : (rs : List Range) (p q a : ℕ) → s.high ≤ a → (q ≡ i) ⊎ (q ≡ p) → Lawful own p a rs → Overlaid q a (overlay s i rs) (length rs)
  after [] p q a h e l = record { lawful = l; short = omega arith }
  after (r ∷ rs) p q a h e l =
      rw (overlay-behind s i lt r (omega (arith, l.0.starts, l.0.some)) (omega (arith, l.0.starts)))
      (keep p q a (length rs) r (overlay s i rs) l.0
      (λ x. ⊎_elim (λ y. other p a r l.0 (x ∙ y)) (λ y. l.0.differs (x ∙ y)) e)
      (inl h)
      (after rs r.owner r.owner (suc r.last) (omega (arith, l.0.some)) (inr refl) l.1))

  -- what is left of a range behind the bytes, and then the list as it was
  behind : (r : Range) (rs : List Range) (p a : ℕ) → a ≤ s.high → s.high ≤ r.last → Lawful own p a (r ∷ rs)
      → Overlaid i s.high (rest s r ++ overlay s i rs) (suc (length rs))
  behind r rs p a x y l =
      let t = after rs r.owner r.owner (suc r.last) (omega arith) (inr refl) l.1 in
      rw (up_to-last s.high r.last (suc r.last) r.owner y refl)
      (record {
        lawful = (
          record {
            starts = refl;
            some = y;
            differs = other p a r l.0;
            owned = λ b u v. over_behind s i own b u ∙ l.0.owned b (omega arith) v;
          },
          t.lawful,
        );
        short = omega (arith, t.short);
      })

  -- the new list from the end of the bytes on, where the old one stands within them
  within : (rs : List Range) (p a : ℕ) → s.low < a → a ≤ s.high → Lawful own p a rs → Overlaid i s.high (overlay s i rs) (length rs)
  within [] p a x y l = record { lawful = omega (arith, l); short = omega arith }
  within (r ∷ rs) p a x y l =
      rw (overlay-within s i lt r (omega (arith, l.0.starts)) (omega (arith, l.0.starts)))
      (go (λ z. within rs r.owner (suc r.last) (omega (arith, l.0.some)) z l.1) (less r.last s.high))
    where
      go : (suc r.last ≤ s.high → Overlaid i s.high (overlay s i rs) (length rs)) → (r.last < s.high) ⊎ (s.high ≤ r.last)
          → Overlaid i s.high (rest s r ++ overlay s i rs) (suc (length rs))
      go ih (inl z) =
          rw (up_to-none s.high (suc r.last) r.owner z) (record { lawful = (ih z).lawful; short = omega (arith, (ih z).short) })
      go ih (inr z) = behind r rs p a y z l

  -- the bytes themselves, before the rest
  middle : (q n : ℕ) (ts : List Range) → (q ≡ i → ⊥) → Overlaid i s.high ts n → Overlaid q s.low (range s.low (s.high - 1) i ∷ ts) (suc n)
  middle q n ts d t =
      let e : s.high ≡ suc (s.high - 1) = omega arith in
      record {
        lawful = (
          record {
            starts = refl;
            some = omega arith;
            differs = λ x. d (sym x);
            owned = λ b u v. over_in s i own b u (omega arith);
          },
          subst (λ (k : ℕ). Lawful (over s i own) i k ts) e t.lawful,
        );
        short = omega (arith, t.short);
      }

  -- what is left of a range before the bytes
  front : (p a n : ℕ) (r : Range) (ts : List Range) → Head own p a r → a < s.low → s.low ≤ r.last → Overlaid r.owner s.low ts n
      → Overlaid p a (range r.first (s.low - 1) r.owner ∷ ts) (suc n)
  front p a n r ts h x y t =
      let e : s.low ≡ suc (s.low - 1) = omega arith in
      record {
        lawful = (
          record {
            starts = h.starts;
            some = omega arith;
            differs = h.differs;
            owned = λ b u v. over_before s i own b (omega arith) ∙ h.owned b u (omega arith);
          },
          subst (λ (k : ℕ). Lawful (over s i own) r.owner k ts) e t.lawful,
        );
        short = omega (arith, t.short);
      }

  longer : (p a n m : ℕ) (rs : List Range) → n ≤ m → Overlaid p a rs n → Overlaid p a rs m
  longer p a n m rs h t = record { lawful = t.lawful; short = omega (arith, t.short) }

  -- the whole list, where the old one stands before the bytes or starts with them
  before : (rs : List Range) (p a : ℕ) → a ≤ s.low → (p ≡ i → ⊥) → Lawful own p a rs → Overlaid p a (overlay s i rs) (length rs + 2)
  before [] p a x d l = absurd (omega (arith, l))
  before (r ∷ rs) p a x d l = go (λ z. before rs r.owner (suc r.last) z (other p a r l.0) l.1) (less r.last s.low) (less a s.low)
    where
      tail : s.low ≤ r.last → (r.last < s.high) ⊎ (s.high ≤ r.last) → Overlaid i s.high (rest s r ++ overlay s i rs) (suc (length rs))
      tail y (inl z) =
          rw (up_to-none s.high (suc r.last) r.owner z)
          (longer i s.high (length rs) (suc (length rs)) (overlay s i rs) (omega arith)
          (within rs r.owner (suc r.last) (omega arith) z l.1))
      tail y (inr z) = behind r rs p a (omega arith) z l

      go : (suc r.last ≤ s.low → Overlaid r.owner (suc r.last) (overlay s i rs) (length rs + 2))
          → (r.last < s.low) ⊎ (s.low ≤ r.last) → (a < s.low) ⊎ (s.low ≤ a) → Overlaid p a (overlay s i (r ∷ rs)) (suc (length rs) + 2)
      go ih (inl z) w =
          rw (overlay-before s i lt r (omega (arith, l.0.starts, l.0.some)) z)
          (longer p a (suc (length rs + 2)) (suc (length rs) + 2) (r ∷ overlay s i rs) (omega arith)
          (keep p p a (length rs + 2) r (overlay s i rs) l.0 l.0.differs (inr z) (ih z)))
      go ih (inr z) (inl w) =
          rw (
            overlay_over s i lt r (omega (arith, l.0.starts)) z,
            up_to-some r.first s.low r.owner (omega (arith, l.0.starts)),
          )
          (longer p a (suc (suc (suc (length rs)))) (suc (length rs) + 2) _ (omega arith)
          (front p a (suc (suc (length rs))) r _ l.0 w z
          (middle r.owner (suc (length rs)) _ (other p a r l.0) (tail z (less r.last s.high)))))
      go ih (inr z) (inr w) =
          let e : s.low ≡ a = omega arith in
          rw (
            overlay_over s i lt r (omega (arith, l.0.starts)) z,
            up_to-none r.first s.low r.owner (omega (arith, l.0.starts)),
          )
          (subst (λ (k : ℕ). Overlaid p k (range s.low (s.high - 1) i ∷ (rest s r ++ overlay s i rs)) (suc (length rs) + 2)) e
          (longer p s.low (suc (suc (length rs))) (suc (length rs) + 2) _ (omega arith)
          (middle p (suc (length rs)) _ d (tail z (less r.last s.high)))))

-- ---- all entries painted

over_none : (s : Span) (i : ℕ) (own : ℕ → ℕ) (b : ℕ) → s.high ≤ s.low → own b ≡ over s i own b
over_none s i own b h =
    ⊎_elim (λ x. sym (over_before s i own b x)) (λ x. sym (over_behind s i own b (omega arith))) (less b s.low)

-- an owner function may be put for one that agrees with it
same_owner : (own own' : ℕ → ℕ) (p a n : ℕ) (rs : List Range) → ((b : ℕ) → own b ≡ own' b) → Short own p a rs n → Short own' p a rs n
same_owner own own' p a n rs h t = subst (λ (f : ℕ → ℕ). Short f p a rs n) (fun_ext h) t

paint-lawful : (s : Span) (i : ℕ) (own : ℕ → ℕ) (n : ℕ) (rs : List Range) → s.high ≤ top → i < 17 → ((b : ℕ) → own b ≡ i → ⊥)
    → Short own 17 0 rs n → Short (over s i own) 17 0 (paint s i rs) (n + 2)
paint-lawful s i own n rs le small fresh t = go (less s.low s.high)
  where
    go : (s.low < s.high) ⊎ (s.high ≤ s.low) → Short (over s i own) 17 0 (paint s i rs) (n + 2)
    go (inl x) =
        rw (lt-ltb s.low s.high x)
        (let u = before s i own x le fresh rs 17 0 (omega arith) (λ e. omega arith) t.lawful in
        record { lawful = u.lawful; short = omega (arith, u.short, t.short) })
    go (inr x) =
        rw (le-ltb s.low s.high x)
        (same_owner own (over s i own) 17 0 (n + 2) rs (λ b. over_none s i own b x)
        (record { lawful = t.lawful; short = omega (arith, t.short) }))

-- the lowest of the last n of sixteen entries that matches the byte, or 16
abbrev pub owner_from : (ℕ → Span) → ℕ → ℕ → ℕ
owner_from spans n b = lowest (λ j. contains (spans j) b) n (16 - n)

owner-step : (spans : ℕ → Span) (n b : ℕ) → n < 16 → over (spans (16 - suc n)) (16 - suc n) (owner_from spans n) b ≡ owner_from spans (suc n) b
unfolding lowest
owner-step spans n b h = let e : suc (16 - suc n) ≡ 16 - n = omega arith in rw e

module _ (spans : ℕ → Span) (below : (k : ℕ) → k < 16 → (spans k).high ≤ top) where
  -- the ranges by the last n entries are lawful, and at most 1 + 2 n
  pub painted-lawful : (n : ℕ) → n ≤ 16 → Short (owner_from spans n) 17 0 (painted spans n) (1 + 2 * n)
  unfolding painted lowest
  painted-lawful zero h = record {
    lawful = (record { starts = refl; some = omega arith; differs = λ e. omega arith; owned = λ b x y. refl }, refl);
    short = omega arith;
  }
  painted-lawful (suc n) h =
      let t = paint-lawful (spans (16 - suc n)) (16 - suc n) (owner_from spans n) (1 + 2 * n) (painted spans n) (below (16 - suc n) (omega arith)) (omega arith)
      (λ b e. omega (arith, (lowest-within (λ j. contains (spans j) b) n (16 - n)).0))
      (painted-lawful n (omega arith)) in
      same_owner (over (spans (16 - suc n)) (16 - suc n) (owner_from spans n)) (owner_from spans (suc n)) 17 0 (1 + 2 * suc n) (painted spans (suc n))
      (λ b. owner-step spans n b (omega arith))
      (record { lawful = t.lawful; short = omega (arith, t.short) })

-- what is painted goes by the bytes of the sixteen entries that match some
pub painted_same : (spans spans' : ℕ → Span) → ((k : ℕ) → k < 16 → spans' k ≡ normalized (spans k)) → (n : ℕ) → n ≤ 16
    → painted spans n ≡ painted spans' n
unfolding painted
painted_same spans spans' h zero l = refl
painted_same spans spans' h (suc n) l =
    rw (h (16 - suc n) (omega arith), ← painted_same spans spans' h n (omega arith)) (go (spans (16 - suc n)) (less (spans (16 - suc n)).low (spans (16 - suc n)).high))
  where
    go : (s : Span) → (s.low < s.high) ⊎ (s.high ≤ s.low) → paint s (16 - suc n) (painted spans n) ≡ paint (normalized s) (16 - suc n) (painted spans n)
    go s (inl x) = let e : normalized s ≡ s = rw (lt-ltb s.low s.high x) in ap (λ (t : Span). paint t (16 - suc n) (painted spans n)) (sym e)
    go s (inr x) = rw (le-ltb s.low s.high x)
