-- The range that holds a byte: whether one does, and where it is found on a lawful list. Assumes nothing.
use Prim.Native.Nat.{ℕ, suc, ◌≤◌, ◌<◌}
use mathlib.Core.Path.{◌≡◌, sym, ap, ◌∙◌}
use mathlib.Core.Bool.{true, false}
use mathlib.Core.List.{List, [], ◌∷◌, map}
use mathlib.Core.Logic.{◌⊎◌, inl, inr}
use mathlib.Core.Option.{some}
use native.Mathlib.Omega.{arith}
use lib.Dec.{leb}
use lib.ListN.{length, length-map}
use borrow.Author.Tests.{leb-true, le-leb, lt-leb}
use Rattle.bits.proofs.Conjunction.{contradiction, not-true-false, both}
use Rattle.pmp.specs.Entry.{top}
use Rattle.map.specs.declared.Range.{Range}
use Rattle.map.specs.Lookup.{holds_byte, find_range, owner_found, owner_in}
use Rattle.map.proofs.Lawful.{less, Lawful, Run, head_run}

pub holds_in : (r : Range) (b : ℕ) → r.first ≤ b → b ≤ r.last → holds_byte r b ≡ true
holds_in r b x y = rw (le-leb r.first b x, le-leb b r.last y)

pub holds-before : (r : Range) (b : ℕ) → b < r.first → holds_byte r b ≡ false
holds-before r b x = rw (lt-leb r.first b x)

pub holds-behind : (r : Range) (b : ℕ) → r.last < b → holds_byte r b ≡ false
holds-behind r b x =
    not-true-false (holds_byte r b) (λ e. contradiction (both (leb r.first b) (leb b r.last) e).1 (lt-leb b r.last x))

pub holds_bounds : (r : Range) (b : ℕ) → holds_byte r b ≡ true → (r.first ≤ b) × (b ≤ r.last)
holds_bounds r b e = let w = both (leb r.first b) (leb b r.last) e in (leb-true _ _ w.0, leb-true _ _ w.1)

-- the length of a field that is an array of structs, which a parameter's relation states of the elements' tuples
pub unmapped : (X Y : Type 0) (f : X → Y) (l : List X) (n : ℕ) → length (map f l) ≡ n → length l ≡ n
unmapped X Y f l n p = sym (length-map l f) ∙ p

-- the byte's range, and what is known of it
pub record Hit (owner : ℕ → ℕ) (rs : List Range) (byte : ℕ) : Type 0 where
  pub it : Range
  pub found : find_range rs byte ≡ some it
  pub run : Run owner it
  pub from : it.first ≤ byte
  pub to : byte ≤ it.last

-- on a lawful list one range holds the byte
pub hit : (owner : ℕ → ℕ) (rs : List Range) (before from byte : ℕ) → Lawful owner before from rs → from ≤ byte → byte < top → Hit owner rs byte
hit owner [] before from byte l h k = absurd (omega (arith, l))
hit owner (r ∷ rs) before from byte l h k = go (less r.last byte) (λ x. hit owner rs r.owner (suc r.last) byte l.1 x k)
  where
    go : (r.last < byte) ⊎ (byte ≤ r.last) → (suc r.last ≤ byte → Hit owner rs byte) → Hit owner (r ∷ rs) byte
    go (inl x) ih = let t = ih x in
        record {
          it = t.it;
          found = rw (holds-behind r byte x) t.found;
          run = t.run;
          from = t.from;
          to = t.to;
        }
    go (inr x) ih = record {
      it = r;
      found = rw (holds_in r byte (omega (arith, l.0.starts)) x);
      run = head_run owner before from r rs l;
      from = omega (arith, l.0.starts);
      to = x;
    }

-- so the owner that is read there is the byte's
pub owner-read : (owner : ℕ → ℕ) (rs : List Range) (before from byte : ℕ) → Lawful owner before from rs → from ≤ byte → byte < top
    → owner_in rs byte ≡ owner byte
owner-read owner rs before from byte l h k =
    let t = hit owner rs before from byte l h k in
    ap owner_found t.found ∙ sym (t.run.owned byte t.from t.to)
