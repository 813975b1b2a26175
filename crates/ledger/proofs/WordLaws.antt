-- A ledger in twelve words, both ways: what a slice lends, and what it holds after a store. Assumes nothing.
use Prim.Native.Nat.{ℕ, zero, suc, ◌≤◌}
use mathlib.Core.Path.{◌≡◌, refl, sym, ap, ◌∙◌}
use mathlib.Core.Bool.{Bool, true, false, cond, false≢true}
use mathlib.Core.List.{List, [], ◌∷◌, ◌++◌}
use Rattle.std.specs.Prelude.{Some, None}
use native.Mathlib.Omega.{arith}
use lib.Dec.{eqb, leb}
use lib.ListN.{length, get_or, set, take, drop, length-append, take-append-drop}
use lib.Seq.{length-take-le, take_at, drop_at, get_or_at, get_or-drop}
use borrow.Author.Tests.{eqb-true, leb-true, eq-eqb}
use Rattle.bits.specs.Lists.{elements}
use Rattle.bits.proofs.ListLaws.{elements_are}
use Rattle.ledger.specs.declared.Ledger.{Ledger}
use Rattle.ledger.specs.Rules.{new_ledger}
use Rattle.ledger.specs.Words.{is_ledger, ledger_in, ledger_of, ledger_words, stored_in, lent_by}

-- ---- words that are a ledger's

-- there are twelve, and the last is 0 or 1
record LedgerWords (w : List ℕ) : Type 0 where
  pub twelve : length w ≡ 12
  pub flag : get_or w 11 0 ≤ 1

parts : (w : List ℕ) → is_ledger w ≡ true → LedgerWords w
unfolding is_ledger
parts w = go (eqb (length w) 12) refl
  where
    go : (t : Bool) → eqb (length w) 12 ≡ t → cond t (leb (get_or w 11 0) 1) false ≡ true → LedgerWords w
    go true e h = record { twelve = eqb-true (length w) 12 e; flag = leb-true (get_or w 11 0) 1 h }
    go false e h = absurd (false≢true h)

pub ledger-length : (w : List ℕ) → is_ledger w ≡ true → length w ≡ 12
ledger-length w h = (parts w h).twelve

pub read_twelve : (w : List ℕ) → length w ≡ 12 → ledger_of w ≡ ledger_in w
unfolding ledger_of
read_twelve w h = rw (eq-eqb (length w) 12 h)

pub ten-totals : (w : List ℕ) → length (ledger_of w).totals ≡ 10
unfolding ledger_of
ten-totals w = go (eqb (length w) 12) refl
  where
    go : (t : Bool) → eqb (length w) 12 ≡ t → length (cond t (ledger_in w) new_ledger).totals ≡ 10
    go true e = length-take-le 10 w (omega (arith, eqb-true (length w) 12 e))
    go false e = refl

flag_back : (x : ℕ) → x ≤ 1 → cond (eqb x 1) 1 0 ≡ x
flag_back zero h = refl
flag_back (suc zero) h = refl
flag_back (suc (suc x)) h = absurd (omega arith)

last-two : (w : List ℕ) → length w ≡ 12 → get_or w 10 0 ∷ get_or w 11 0 ∷ [] ≡ drop 10 w
unfolding elements
last-two w h = elements_are w 2 10 h

pub words_back : (w : List ℕ) → is_ledger w ≡ true → ledger_words (ledger_of w) ≡ w
words_back w h =
    let p = parts w h in
    ap ledger_words (read_twelve w p.twelve)
    ∙ (λ j. take 10 w ++ (get_or w 10 0 ∷ flag_back (get_or w 11 0) p.flag j ∷ []))
    ∙ ap (λ (v : List ℕ). take 10 w ++ v) (last-two w p.twelve)
    ∙ take-append-drop 10 w

-- ---- the words of a ledger

module _ (l : Ledger) (ten : length l.totals ≡ 10) where
  pub words-length : length (ledger_words l) ≡ 12
  words-length = omega (arith, ten, length-append l.totals (l.tenant ∷ cond l.idle 1 0 ∷ []))

  flag_read : get_or (ledger_words l) 11 0 ≡ cond l.idle 1 0
  flag_read =
      sym (get_or-drop 10 (ledger_words l) 1 0)
      ∙ ap (λ (v : List ℕ). get_or v 1 0) (drop_at l.totals (l.tenant ∷ cond l.idle 1 0 ∷ []) 10 ten)

  pub is_ledger_lem : is_ledger (ledger_words l) ≡ true
  unfolding is_ledger
  is_ledger_lem = rw (eq-eqb (length (ledger_words l)) 12 words-length, flag_read) (small l.idle)
    where
      small : (t : Bool) → leb (cond t 1 0) 1 ≡ true
      small true = refl
      small false = refl

  pub ledger-back : ledger_of (ledger_words l) ≡ l
  ledger-back =
      read_twelve (ledger_words l) words-length
      ∙ (λ j. record {
        totals = take_at l.totals (l.tenant ∷ cond l.idle 1 0 ∷ []) 10 ten j;
        tenant = get_or_at l.totals l.tenant (cond l.idle 1 0 ∷ []) 0 10 ten j;
        idle = idle-read j;
      })
    where
      told : (t : Bool) → eqb (cond t 1 0) 1 ≡ t
      told true = refl
      told false = refl

      idle-read : eqb (get_or (ledger_words l) 11 0) 1 ≡ l.idle
      idle-read = ap (λ (x : ℕ). eqb x 1) flag_read ∙ told l.idle

-- ---- what a slice lends

module _ (w : List ℕ) where
  pub lent_some : is_ledger w ≡ true → lent_by w ≡ Some (ledger_of w)
  unfolding lent_by
  lent_some h = rw h

  pub lent_none : is_ledger w ≡ false → lent_by w ≡ None
  unfolding lent_by
  lent_none h = rw h

pub lent_back : (l : Ledger) → length l.totals ≡ 10 → lent_by (ledger_words l) ≡ Some l
lent_back l ten = lent_some (ledger_words l) (is_ledger_lem l ten) ∙ ap Some (ledger-back l ten)

-- ---- reads and stores word by word

pub stored_twelve : (l : Ledger) (w : List ℕ) → length w ≡ 12 → stored_in l w ≡ ledger_words l
unfolding stored_in
stored_twelve l w h = rw (eq-eqb (length w) 12 h)

pub stored : (l : Ledger) (w : List ℕ) → is_ledger w ≡ true → stored_in l w ≡ ledger_words l
stored l w h = stored_twelve l w (ledger-length w h)

-- ten totals and two words leave nothing of what was there
pub stores : (w totals : List ℕ) (tenant flag : ℕ) → length w ≡ 12 → length totals ≡ 10
    → set (set (totals ++ drop 10 w) 10 tenant) 11 flag ≡ totals ++ (tenant ∷ flag ∷ [])
unfolding elements
stores w totals tenant flag h ten =
    ap (λ (v : List ℕ). set (set (totals ++ v) 10 tenant) 11 flag) (sym (last-two w h))
    ∙ ap (λ (t : List ℕ). set (set (t ++ (get_or w 10 0 ∷ get_or w 11 0 ∷ [])) 10 tenant) 11 flag) (sym (elements_are totals 10 0 ten))
    ∙ ap (λ (t : List ℕ). t ++ (tenant ∷ flag ∷ [])) (elements_are totals 10 0 ten)
