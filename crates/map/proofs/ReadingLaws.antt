-- One pass over a map's ranges reads for each byte of an access the owner of the lowest-numbered range that holds it. Assumes nothing.
use Prim.Native.Nat.{ℕ, suc, ◌+◌, ◌-◌, ◌^◌, ◌≤◌, ◌<◌, min, max}
use mathlib.Core.Path.{◌≡◌, refl, sym, ap, subst, ◌∙◌}
use mathlib.Core.Bool.{Bool, true, false, cond, not, ◌&&◌, ◌||◌, and-true}
use mathlib.Core.List.{List, [], ◌∷◌}
use mathlib.Core.Logic.{◌⊎◌, inl, inr, ⊎_elim}
use mathlib.Core.Option.{Option, none, some}
use native.Mathlib.Omega.{arith}
use native.Mathlib.Nat.{mod-eq_of_lt}
use native.Mathlib.Numerals.{add-one}
use lib.Bits.{bit_and, and_zero_l, and_zero_r, and_le_l, and_mask}
use lib.Dec.{ltb, eqb}
use lib.ListN.{length, get_or, drop, drop_of_length-le}
use lib.Pow.{pow_mono, pow_pos}
use lib.Seq.{drop-cons}
use borrow.Author.Tests.{eqb-true, ltb-true, ltb-false, lt-ltb, le-ltb, ne_eqb, eq-eqb, eqb-false}
use Rattle.bits.specs.Mask.{test_bit, cleared}
use Rattle.bits.specs.Fold.{fold}
use Rattle.bits.proofs.Conjunction.{both, by_test, one_of, neither, contradiction}
use Rattle.bits.proofs.TestLaws.{test_and, test_zero, test_cleared, test_ones, some_bit}
use Rattle.bits.proofs.FoldLaws.{fold_nil, fold_cons, fold-keeps}
use Rattle.pmp.specs.declared.Mode.{Mode}
use Rattle.pmp.specs.declared.Access.{Access}
use Rattle.pmp.specs.declared.Decision.TheVariants.{Fault, Refused}
use Rattle.pmp.specs.declared.Refusal.{Refusal}
use Rattle.pmp.specs.Number.{fault_cause}
use Rattle.pmp.specs.Search.{any_byte}
use Rattle.pmp.specs.Rule.{owner_decides, lowest_owner, owners_decide, is_size}
use Rattle.pmp.proofs.RuleLaws.{size_bounds}
use Rattle.pmp.proofs.SearchLaws.{any_none, any_some, least_unique}
use Rattle.pmp.proofs.Owner.{one_decides, two_decide}
use Rattle.map.specs.declared.Range.{Range}
use Rattle.map.specs.declared.Reading.{Reading}
use Rattle.map.specs.Ranges.{no_range}
use Rattle.map.specs.Lookup.{holds_byte, find_range, owner_found}
use Rattle.map.specs.Query.{ranges_decide, readable, ranges_queried}
use Rattle.map.specs.Reading.{first_bytes, bytes_held, unread, read_range, read_ranges, reading_decides}
use Rattle.map.proofs.Lawful.{less}
use Rattle.map.proofs.LookupLaws.{holds_in, holds-before, holds-behind}

positive : (n : ℕ) → (n ≡ 0 → ⊥) → 0 < n
positive n h = omega arith

-- ---- bytes as bits

first-bytes-below : (n : ℕ) → first_bytes n < 2 ^ 8
first-bytes-below n =
    let l : min n 8 ≤ 8 = omega arith in
    let p : 2 ^ min n 8 ≤ 2 ^ 8 = pow_mono l in
    omega (arith, pow_pos (min n 8))

pub first-bytes_test : (n j : ℕ) → j < 8 → test_bit (first_bytes n) j ≡ ltb j n
first-bytes_test n j h = test_ones (min n 8) j ∙ go (less j n)
  where
    go : (j < n) ⊎ (n ≤ j) → ltb j (min n 8) ≡ ltb j n
    go (inl x) = lt-ltb j (min n 8) (omega arith) ∙ sym (lt-ltb j n x)
    go (inr x) = le-ltb j (min n 8) (omega arith) ∙ sym (le-ltb j n x)

-- a range that begins no later than the access has no byte before it
pub none_cleared : (n m : ℕ) → n ≡ 0 → cleared (first_bytes n) (first_bytes m) ≡ first_bytes m
none_cleared n m e = rw e (and_mask (first_bytes m) 64 ∙ mod-eq_of_lt (omega (arith, first-bytes-below m)))

pub held_test : (address : ℕ) (r : Range) (j : ℕ) → j < 8 → test_bit (bytes_held address r) j ≡ holds_byte r (address + j)
unfolding bytes_held
held_test address r j h = go (less r.last address)
  where
    bits : test_bit (cleared (first_bytes (r.first - address)) (first_bytes (suc (min (r.last - address) 7)))) j
        ≡ (ltb j (suc (min (r.last - address) 7)) && not (ltb j (r.first - address)))
    bits =
        test_cleared (first_bytes (r.first - address)) (first_bytes (suc (min (r.last - address) 7))) j
        (omega (arith, first-bytes-below (r.first - address))) (omega arith)
        ∙ (λ i. first-bytes_test (suc (min (r.last - address) 7)) j h i && not (first-bytes_test (r.first - address) j h i))

    inside : address ≤ r.last → (address + j < r.first) ⊎ (r.first ≤ address + j) → (r.last < address + j) ⊎ (address + j ≤ r.last)
        → (ltb j (suc (min (r.last - address) 7)) && not (ltb j (r.first - address))) ≡ holds_byte r (address + j)
    inside x (inl y) (inl z) =
        rw (le-ltb j (suc (min (r.last - address) 7)) (omega arith)) (sym (holds-before r (address + j) y))
    inside x (inl y) (inr z) =
        rw (lt-ltb j (suc (min (r.last - address) 7)) (omega arith), lt-ltb j (r.first - address) (omega arith)) (sym (holds-before r (address + j) y))
    inside x (inr y) (inl z) =
        rw (le-ltb j (suc (min (r.last - address) 7)) (omega arith)) (sym (holds-behind r (address + j) z))
    inside x (inr y) (inr z) =
        rw (lt-ltb j (suc (min (r.last - address) 7)) (omega arith), le-ltb j (r.first - address) (omega arith)) (sym (holds_in r (address + j) y z))

    go : (r.last < address) ⊎ (address ≤ r.last)
        → test_bit (cond (ltb r.last address) 0 (cleared (first_bytes (r.first - address)) (first_bytes (suc (min (r.last - address) 7))))) j
        ≡ holds_byte r (address + j)
    go (inl x) = rw (lt-ltb r.last address x) (test_zero j ∙ sym (holds-behind r (address + j) (omega arith)))
    go (inr x) = rw (le-ltb r.last address x) (bits ∙ inside x (less (address + j) r.first) (less r.last (address + j)))

-- ---- what has been read, where `found` gives the range that was read for each byte

abbrev missing : Option Range → Bool
missing (some r) = false
missing none = true

-- the first of two ranges
abbrev first_of : Option Range → Option Range → Option Range
first_of (some r) later = some r
first_of none later = later

-- a byte of the access whose range has the owner
pub record Owns (address size : ℕ) (found : ℕ → Option Range) (owner : ℕ) : Type 0 where
  pub byte : ℕ
  pub from : address ≤ byte
  pub to : byte < address + size
  pub range : Range
  pub read : found byte ≡ some range
  pub here : range.owner ≡ owner

pub record Read (address size : ℕ) (found : ℕ → Option Range) (reading : Reading) : Type 0 where
  -- a bit for each byte for which no range has been found
  pub bits : (j : ℕ) → j < 8 → test_bit reading.unread j ≡ (ltb j size && missing (found (address + j)))
  pub word : reading.unread < 2 ^ 8
  -- the owners read lie between the lowest and the highest, which are among them
  pub between : (b : ℕ) (r : Range) → address ≤ b → b < address + size → found b ≡ some r → (reading.low ≤ r.owner) × (r.owner ≤ reading.high)
  pub bound : reading.low ≤ 16
  pub lowest : reading.low < 16 → Owns address size found reading.low
  pub highest : 0 < reading.high → Owns address size found reading.high

-- nothing is read at first
pub read-start : (address size : ℕ) → Read address size (λ b. none) (unread size)
read-start address size = record {
  bits = λ j h. first-bytes_test size j h ∙ sym (and-true (ltb j size));
  word = first-bytes-below size;
  between = λ b r l h e. absurd (let z : ◌≡◌ {A = ℕ} 0 1 = cc in omega arith);
  bound = omega arith;
  lowest = λ l. absurd (omega arith);
  highest = λ l. absurd (omega arith);
}

-- ---- the next range

module _ (address size : ℕ) (found : ℕ → Option Range) (reading : Reading) (r : Range) (small : size ≤ 8) (read : Read address size found reading) where
  -- the range of a byte once this one is read too
  abbrev next : ℕ → Option Range
  next b = first_of (found b) (cond (holds_byte r b) (some r) none)

  abbrev held : ℕ
  held = bit_and reading.unread (bytes_held address r)

  held_bit : (j : ℕ) → j < 8 → test_bit held j ≡ ((ltb j size && missing (found (address + j))) && holds_byte r (address + j))
  held_bit j h = test_and reading.unread (bytes_held address r) j ∙ (λ i. read.bits j h i && held_test address r j h i)

  held_below : held < 2 ^ 8
  held_below = omega (arith, and_le_l reading.unread (bytes_held address r), read.word)

  stays : (b : ℕ) (s : Range) → found b ≡ some s → next b ≡ some s
  stays b s e = ap (λ (f : Option Range). first_of f (cond (holds_byte r b) (some r) none)) e

  older : (owner : ℕ) → Owns address size found owner → Owns address size next owner
  older owner t = record { byte = t.byte; from = t.from; to = t.to; range = t.range; read = stays t.byte t.range t.read; here = t.here }

  -- ---- the range is read for no byte

  module _ (none-held : held ≡ 0) where
    same : (b : ℕ) → address ≤ b → b < address + size → next b ≡ found b
    same b l h = go (found b) (holds_byte r b) refl refl
      where
        j : b ≡ address + (b - address)
        j = omega arith

        go : (f : Option Range) (t : Bool) → found b ≡ f → holds_byte r b ≡ t → first_of f (cond t (some r) none) ≡ f
        go (some s) t e q = refl
        go none false e q = refl
        go none true e q =
            let no : test_bit held (b - address) ≡ false = ap (λ (w : ℕ). test_bit w (b - address)) none-held ∙ test_zero (b - address) in
            let yes : test_bit held (b - address) ≡ true =
            held_bit (b - address) (omega arith) ∙ rw (← j, lt-ltb (b - address) size (omega arith), e, q) in
            contradiction yes no

    unchanged : Read address size next reading
    unchanged = record {
      bits = λ j h. read.bits j h ∙ left j (less j size);
      word = read.word;
      between = λ b s l h e. read.between b s l h (sym (same b l h) ∙ e);
      bound = read.bound;
      lowest = λ l. older reading.low (read.lowest l);
      highest = λ l. older reading.high (read.highest l);
    }
      where
        left : (j : ℕ) → (j < size) ⊎ (size ≤ j) → (ltb j size && missing (found (address + j))) ≡ (ltb j size && missing (next (address + j)))
        left j (inl x) = ap (λ (f : Option Range). ltb j size && missing f) (sym (same (address + j) (omega arith) (omega arith)))
        left j (inr x) = rw (le-ltb j size x)

  -- ---- it is read for some bytes

  module _ (some-held : 0 < held) where
    newly : Owns address size next r.owner
    newly =
        let t = some_bit 8 held held_below some-held in
        let b = both _ _ (sym (held_bit t.place t.below) ∙ t.one) in
        let u = both (ltb t.place size) (missing (found (address + t.place))) b.0 in
        record {
          byte = address + t.place;
          from = omega arith;
          to = omega (arith, ltb-true t.place size u.0);
          range = r;
          read = go (found (address + t.place)) u.1 ∙ rw b.1;
          here = refl;
        }
      where
        go : {later : Option Range} (f : Option Range) → missing f ≡ true → first_of f later ≡ later
        go (some s) e = absurd (contradiction e refl)
        go none e = refl

    bits_left : (l h : Bool) (f : Option Range)
        → ((l && missing f) && not ((l && missing f) && h)) ≡ (l && missing (first_of f (cond h (some r) none)))
    bits_left false h f = refl
    bits_left true h (some s) = refl
    bits_left true true none = refl
    bits_left true false none = refl

    abbrev now_read : Reading
    now_read = record { unread = cleared held reading.unread; low = min reading.low r.owner; high = max reading.high r.owner }

    low_owner : (reading.low ≤ r.owner) ⊎ (r.owner < reading.low) → min reading.low r.owner < 16 → Owns address size next (min reading.low r.owner)
    low_owner (inl x) l =
        let e : reading.low ≡ min reading.low r.owner = omega arith in
        subst (Owns address size next) e (older reading.low (read.lowest (omega arith)))
    low_owner (inr x) l = let e : r.owner ≡ min reading.low r.owner = omega arith in subst (Owns address size next) e newly

    high_owner : (reading.high ≤ r.owner) ⊎ (r.owner < reading.high) → Owns address size next (max reading.high r.owner)
    high_owner (inl x) = let e : r.owner ≡ max reading.high r.owner = omega arith in subst (Owns address size next) e newly
    high_owner (inr x) =
        let e : reading.high ≡ max reading.high r.owner = omega arith in
        subst (Owns address size next) e (older reading.high (read.highest (omega arith)))

    between_now : (b : ℕ) (s : Range) → address ≤ b → b < address + size → next b ≡ some s
        → (min reading.low r.owner ≤ s.owner) × (s.owner ≤ max reading.high r.owner)
    between_now b s l h e = go (found b) (holds_byte r b) refl e
      where
        go : (f : Option Range) (t : Bool) → found b ≡ f → first_of f (cond t (some r) none) ≡ some s
            → (min reading.low r.owner ≤ s.owner) × (s.owner ≤ max reading.high r.owner)
        go (some u) t e q = let w = read.between b s l h (e ∙ q) in (omega arith, omega arith)
        go none false e q = absurd (let z : ◌≡◌ {A = ℕ} 0 1 = cc in omega arith)
        go none true e q =
            let same : r ≡ s = cc in
            subst (λ (u : Range). (min reading.low r.owner ≤ u.owner) × (u.owner ≤ max reading.high r.owner)) same (omega arith, omega arith)

    changed : Read address size next now_read
    changed = record {
      bits = λ j h.
          test_cleared held reading.unread j (omega (arith, held_below)) (omega arith)
          ∙ (λ i. read.bits j h i && not (held_bit j h i))
          ∙ bits_left (ltb j size) (holds_byte r (address + j)) (found (address + j));
      word = omega (arith, and_le_l reading.unread (2 ^ 64 - 1 - held), read.word);
      between = between_now;
      bound = omega (arith, read.bound);
      lowest = low_owner (less_or reading.low r.owner);
      highest = λ l. high_owner (less_or reading.high r.owner);
    }
      where
        less_or : (a b : ℕ) → (a ≤ b) ⊎ (b < a)
        less_or a b = ⊎_elim inr inl (less b a)

  pub read_next : Read address size next (read_range address reading r)
  unfolding read_range
  read_next =
      by_test (Read address size next) (eqb held 0) reading
      (record { unread = cleared held reading.unread; low = min reading.low r.owner; high = max reading.high r.owner })
      (λ t. unchanged (eqb-true held 0 t))
      (λ t. changed (positive held (eqb-false held 0 t)))

-- ---- all ranges

module _ (address size : ℕ) (small : size ≤ 8) where
  first-none : (f : Option Range) → first_of f none ≡ f
  first-none (some r) = refl
  first-none none = refl

  first-first : (f later : Option Range) (h : Bool) (r : Range) → first_of (first_of f (cond h (some r) none)) later ≡ first_of f (cond h (some r) later)
  first-first (some s) later h r = refl
  first-first none later true r = refl
  first-first none later false r = refl

  read_all : (rs : List Range) (found : ℕ → Option Range) (reading : Reading) → Read address size found reading
      → Read address size (λ b. first_of (found b) (find_range rs b)) (fold (read_range address) reading rs)
  read_all [] found reading t =
      subst (λ (x : Reading). Read address size (λ b. first_of (found b) none) x) (sym (fold_nil (read_range address) reading))
      (subst (λ (f : ℕ → Option Range). Read address size f reading) (λ i b. sym (first-none (found b)) i) t)
  read_all (r ∷ rs) found reading t =
      subst (λ (x : Reading). Read address size (λ b. first_of (found b) (find_range (r ∷ rs) b)) x) (sym (fold_cons (read_range address) reading r rs))
      (subst (λ (f : ℕ → Option Range). Read address size f (fold (read_range address) (read_range address reading r) rs))
      (λ i b. first-first (found b) (find_range rs b) (holds_byte r b) r i)
      (read_all rs (λ b. first_of (found b) (cond (holds_byte r b) (some r) none)) (read_range address reading r)
      (read_next address size found reading r small t)))

  pub reads : (rs : List Range) → Read address size (find_range rs) (read_ranges address size rs)
  reads rs = read_all rs (λ b. none) (unread size) (read-start address size)

-- the lowest owner read is at most none, in an access of any number of bytes
low_kept : (address : ℕ) (reading : Reading) (r : Range) → reading.low ≤ 16 → (read_range address reading r).low ≤ 16
unfolding read_range
low_kept address reading r h =
    let held = bit_and reading.unread (bytes_held address r) in
    by_test (λ (x : Reading). x.low ≤ 16) (eqb held 0) reading
    (record { unread = cleared held reading.unread; low = min reading.low r.owner; high = max reading.high r.owner })
    (λ t. h) (λ t. omega arith)

pub low_bound : (address size : ℕ) (rs : List Range) → (read_ranges address size rs).low ≤ 16
low_bound address size rs = fold-keeps (read_range address) (λ (x : Reading). x.low ≤ 16) (low_kept address) (unread size) rs (omega arith)

-- once nothing is unread no range changes anything
pub read_done : (address : ℕ) (reading : Reading) (r : Range) → reading.unread ≡ 0 → read_range address reading r ≡ reading
unfolding read_range
read_done address reading r e =
    let z : bit_and reading.unread (bytes_held address r) ≡ 0 = ap (λ (w : ℕ). bit_and w (bytes_held address r)) e ∙ and_zero_l (bytes_held address r) in
    rw (eq-eqb (bit_and reading.unread (bytes_held address r)) 0 z)

-- nor does a range that ends before the access
pub read_behind : (address : ℕ) (reading : Reading) (r : Range) → r.last < address → read_range address reading r ≡ reading
unfolding read_range bytes_held
read_behind address reading r h = rw (lt-ltb r.last address h, and_zero_r reading.unread)

pub rest-unread : (address : ℕ) (reading : Reading) (rs : List Range) → reading.unread ≡ 0 → fold (read_range address) reading rs ≡ reading
rest-unread address reading [] e = fold_nil (read_range address) reading
rest-unread address reading (r ∷ rs) e =
    fold_cons (read_range address) reading r rs
    ∙ ap (λ (x : Reading). fold (read_range address) x rs) (read_done address reading r e)
    ∙ rest-unread address reading rs e

-- ---- the loop over the ranges

-- the next range
pub pass_next : (rs : List Range) (k address : ℕ) (reading : Reading) → k < length rs
    → fold (read_range address) reading (drop k rs) ≡ fold (read_range address) (read_range address reading (get_or rs k no_range)) (drop (k + 1) rs)
pass_next rs k address reading h =
    rw (drop-cons rs k no_range h, add-one) (fold_cons (read_range address) reading (get_or rs k no_range) (drop (suc k) rs))

-- no range is left
pub pass_end : (rs : List Range) (k address : ℕ) (reading : Reading) → length rs ≤ k → fold (read_range address) reading (drop k rs) ≡ reading
pass_end rs k address reading h = rw (drop_of_length-le rs h) (fold_nil (read_range address) reading)

pub ruleset pass_cases = (pass_next, pass_end, read_behind, rest-unread)

-- ---- what was read decides as the owners do that are read byte by byte

module _ (cfgs : List ℕ) (mode : Mode) (access : Access) (address size : ℕ) (small : size ≤ 8) (found : ℕ → Option Range) (reading : Reading)
    (read : Read address size found reading) where
  abbrev owner : ℕ → ℕ
  owner b = owner_found (found b)

  owner_here : (n : ℕ) (t : Owns address size found n) → owner t.byte ≡ n
  owner_here n t = ap owner_found t.read ∙ t.here

  -- a byte that is still unread, or an owner above none
  refusing : (ltb 0 reading.unread || ltb 16 reading.high) ≡ true → any_byte (λ b. ltb 16 (owner b)) size address ≡ true
  refusing t = ⊎_elim some-unread too_high (one_of _ _ t)
    where
      absent : (f : Option Range) → missing f ≡ true → ltb 16 (owner_found f) ≡ true
      absent (some r) e = absurd (contradiction e refl)
      absent none e = refl

      some-unread : ltb 0 reading.unread ≡ true → any_byte (λ b. ltb 16 (owner b)) size address ≡ true
      some-unread u =
          let b = some_bit 8 reading.unread read.word (ltb-true 0 reading.unread u) in
          let w = both (ltb b.place size) (missing (found (address + b.place))) (sym (read.bits b.place b.below) ∙ b.one) in
          any_some (λ b. ltb 16 (owner b)) size address (address + b.place) (omega arith) (omega (arith, ltb-true b.place size w.0))
          (absent (found (address + b.place)) w.1)

      too_high : ltb 16 reading.high ≡ true → any_byte (λ b. ltb 16 (owner b)) size address ≡ true
      too_high u =
          let h = ltb-true 16 reading.high u in
          let t = read.highest (omega arith) in
          any_some (λ b. ltb 16 (owner b)) size address t.byte t.from t.to (lt-ltb 16 (owner t.byte) (omega (arith, owner_here reading.high t)))

  module _ (done : reading.unread ≡ 0) (known : reading.high ≤ 16) (some_byte : 0 < size) where
    owner-between : (b : ℕ) → address ≤ b → b < address + size → (reading.low ≤ owner b) × (owner b ≤ reading.high)
    owner-between b l h = go (found b) refl
      where
        e : address + (b - address) ≡ b
        e = omega arith

        is_read : missing (found b) ≡ false
        is_read =
            let w = read.bits (b - address) (omega arith) in
            sym (rw (done, test_zero (b - address), lt-ltb (b - address) size (omega arith), e) at w)

        go : (f : Option Range) → found b ≡ f → (reading.low ≤ owner_found f) × (owner_found f ≤ reading.high)
        go (some r) q = read.between b r l h q
        go none q = contradiction (ap missing q) is_read

    lowest_is : lowest_owner owner address size ≡ reading.low
    lowest_is =
        least_unique 16 owner size address reading.low read.bound (λ b l h. (owner-between b l h).0)
        (λ l. let t = read.lowest l in record { byte = t.byte; from = t.from; to = t.to; here = owner_here reading.low t })

    owners_decide_lem : cond (eqb reading.low reading.high) (owner_decides cfgs mode access reading.low) (Fault (fault_cause access) reading.low)
        ≡ owners_decide cfgs mode access owner address size
    owners_decide_lem = go (less reading.low reading.high)
      where
        go : (reading.low < reading.high) ⊎ (reading.high ≤ reading.low)
            → cond (eqb reading.low reading.high) (owner_decides cfgs mode access reading.low) (Fault (fault_cause access) reading.low)
            ≡ owners_decide cfgs mode access owner address size
        go (inl x) =
            let low = read.lowest (omega arith) in
            let high = read.highest (omega arith) in
            rw (ne_eqb reading.low reading.high (λ e. omega arith))
            (sym (two_decide cfgs mode access address size owner low.byte high.byte low.from low.to high.from high.to
            (λ e. omega (arith, e, owner_here reading.low low, owner_here reading.high high))
            ∙ ap (λ (o : ℕ). Fault (fault_cause access) o) lowest_is))
        go (inr x) =
            let first = owner-between address (omega arith) (omega arith) in
            rw (eq-eqb reading.low reading.high (omega arith))
            (sym (one_decides cfgs mode access address size owner reading.low some_byte read.bound
            (λ b l h. let w = owner-between b l h in omega arith)))

  pub reading_decides_lem : 0 < size → reading_decides cfgs mode access reading ≡ ranges_decide cfgs mode access owner address size
  unfolding reading_decides ranges_decide
  reading_decides_lem p = go (ltb 0 reading.unread || ltb 16 reading.high) refl
    where
      go : (t : Bool) → (ltb 0 reading.unread || ltb 16 reading.high) ≡ t
          → cond t (Refused Refusal.Map) (cond (eqb reading.low reading.high) (owner_decides cfgs mode access reading.low) (Fault (fault_cause access) reading.low))
          ≡ cond (any_byte (λ b. ltb 16 (owner b)) size address) (Refused Refusal.Map) (owners_decide cfgs mode access owner address size)
      go true e = rw (refusing e)
      go false e =
          let n = neither _ _ e in
          let done : reading.unread ≡ 0 = omega (arith, ltb-false 0 reading.unread n.0) in
          let known = ltb-false 16 reading.high n.1 in
          rw (any_none (λ b. ltb 16 (owner b)) size address
          (λ b l h. le-ltb 16 (owner b) (omega (arith, owner-between done known p b l h))))
          (owners_decide_lem done known p)

-- a query is what is read of the ranges in one pass, where they are read
module _ (cfgs : List ℕ) (ranges : List Range) (mode : Mode) (access : Access) (address size : ℕ) where
  pub reading_queried : readable address size ≡ true
      → reading_decides cfgs mode access (read_ranges address size ranges) ≡ ranges_queried cfgs ranges mode access address size
  reading_queried e =
      let b = size_bounds size (both (is_size size) _ e).0 in
      rw e
      (reading_decides_lem cfgs mode access address size b.1 (find_range ranges) (read_ranges address size ranges)
      (reads address size b.1 ranges) b.0)
