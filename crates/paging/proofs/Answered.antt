-- What an access comes to: refusal 13, refusal 1, or a grant or a fault with one of its kind's two causes, by an entry or none; and, untranslated, what the byte
-- rule decides. Assumes nothing.
use Rattle.std.proofs.Common.{◌≡◌, ℕ, zero, suc, ◌+◌, ◌-◌, ◌%◌, ◌^◌, ◌≤◌, min, Bool, true, false, cond, eqb, ◌⊎◌, refl, ap, ◌∙◌, inl, inr, Ok, Err, arith, eq-eqb}
use native.Mathlib.Decide.{dec_le}
use borrow.Author.Tests.{eqb-false}
use Rattle.bits.proofs.Conjunction.{by_test}
use Rattle.pmp.specs.declared.Mode.TheVariants.{Supervisor}
use Rattle.pmp.specs.declared.Access.{Access}
use Rattle.pmp.specs.declared.Access.TheVariants.{Fetch, Load, Store}
use Rattle.pmp.specs.declared.Decision.{Decision}
use Rattle.pmp.specs.declared.Decision.TheVariants.{Refused as RuleRefuses}
use Rattle.pmp.specs.declared.Refusal.{Refusal}
use Rattle.pmp.specs.Number.{fault_cause}
use Rattle.protection.specs.Spans.{spans_of}
use Rattle.pmp.specs.Rule.{none, is_size, checked}
use Rattle.pmp.proofs.Answered.{GrantOrFault, grants as rule-grants, faults as rule-faults, rule_answers}
use Rattle.protection.specs.declared.Pmp.{Pmp}
use Rattle.paging.specs.declared.Context.{Context}
use Rattle.paging.specs.declared.WalkFault.{WalkFault}
use Rattle.paging.specs.declared.WalkFault.TheVariants.{Page as PageFault, Denied}
use Rattle.paging.specs.declared.Found.TheVariants.{Table, Page}
use Rattle.paging.specs.declared.NotGranted.TheVariants.{Fault, Refused}
use Rattle.paging.specs.Memory.{Memory, Word, lawful, has_word, word_at}
use Rattle.paging.specs.Entry.{Says, ppn, well_formed, leaf, allows, reserved, physical, entry_says}
use Rattle.paging.specs.Walk.{Walked, canonical, entry_address, read_by, table_read, word_says, onward, found_at, walk_from, walked}
use Rattle.paging.specs.Access.{Reached, page_fault_cause, translated, by_rule, and_then, room, first_part, located, decided, arrived, part_reached, parts_reached, reached}

-- ---- a walk is denied by an entry or none

abbrev ByEntry : WalkFault → Type 0
ByEntry PageFault = Unit {0}
ByEntry (Denied entry) = entry ≤ none

abbrev ReadByEntry : Word → Type 0
ReadByEntry (Ok word) = Unit {0}
ReadByEntry (Err fault) = ByEntry fault

abbrev EndsByEntry : Walked → Type 0
EndsByEntry (Ok place) = Unit {0}
EndsByEntry (Err fault) = ByEntry fault

abbrev FoundByEntry : Says → Type 0
FoundByEntry (Ok found) = Unit {0}
FoundByEntry (Err fault) = ByEntry fault

read-by-entry : (access : Access) (d : Decision) (w : Word) → GrantOrFault access d → ReadByEntry w → ReadByEntry (read_by d w)
read-by-entry access _ w (rule-grants entry h) r = r
read-by-entry access _ w (rule-faults entry h) r = h

word_by-entry : (m : Memory) (address : ℕ) → ReadByEntry (word_at m address)
word_by-entry m address = by_test ReadByEntry (has_word m address) _ _ (λ t. tt) (λ t. omega arith)

entry-by-entry : (c : Context) (address level pte : ℕ) → FoundByEntry (entry_says c address level pte)
unfolding entry_says
entry-by-entry c address level pte =
    by_test FoundByEntry (well_formed pte) _ _
    (λ t.
    by_test FoundByEntry (leaf pte) _ _
    (λ u. by_test FoundByEntry (allows c level pte) (Ok (Page (physical level pte address))) (Err PageFault) (λ v. tt) (λ v. tt))
    (λ u. by_test FoundByEntry (reserved pte) (Err PageFault) (Ok (Table (ppn pte))) (λ v. tt) (λ v. tt)))
    (λ t. tt)

says-by-entry : (c : Context) (address level : ℕ) (w : Word) → ReadByEntry w → FoundByEntry (word_says c address level w)
says-by-entry c address level (Ok pte) r = entry-by-entry c address level pte
says-by-entry c address level (Err fault) r = r

onward-by-entry : (next : ℕ → Walked) (f : Says) → ((table : ℕ) → EndsByEntry (next table)) → FoundByEntry f → EndsByEntry (onward next f)
onward-by-entry next (Ok (Table table)) n f = n table
onward-by-entry next (Ok (Page place)) n f = tt
onward-by-entry next (Err fault) n f = f

module _ (p : Pmp) (m : Memory) (c : Context) (address : ℕ) where
  found_by-entry : (level table : ℕ) → FoundByEntry (found_at p m c address level table)
  unfolding found_at table_read
  found_by-entry level table =
      let place = entry_address table level address in
      says-by-entry c address level (table_read p m place)
      (read-by-entry Load _ (word_at m place) (rule_answers (spans_of p) p.cfgs Supervisor Load place 8) (word_by-entry m place))

  walk_by-entry : (level table : ℕ) → EndsByEntry (walk_from p m c address level table)
  unfolding walk_from
  walk_by-entry zero table = tt
  walk_by-entry (suc level) table =
      onward-by-entry (walk_from p m c address level) (found_at p m c address level table) (walk_by-entry level) (found_by-entry level table)

  located-by-entry : EndsByEntry (located p m c address)
  unfolding located walked
  located-by-entry =
      by_test EndsByEntry (translated c) _ _
      (λ t. by_test EndsByEntry (canonical address) _ _ (λ u. walk_by-entry 3 c.satp) (λ u. tt)) (λ t. tt)

-- ---- a grant or a fault

-- a grant by an entry or none; or, with the trap value at one of these starts, an access fault by an entry or none, or a page fault by none
pub data Answered (access : Access) (Start : ℕ → Type 0) : Reached → Type 0 where
  grants : (entry : ℕ) → entry ≤ none → Answered access Start (Ok entry)
  faults : (tval entry : ℕ) → Start tval → entry ≤ none → Answered access Start (Err (Fault (fault_cause access) tval entry))
  page_faults : (tval : ℕ) → Start tval → Answered access Start (Err (Fault (page_fault_cause access) tval none))

-- no cause is above 15
pub fault-bound : (access : Access) → fault_cause access ≤ 15
fault-bound Fetch = omega arith
fault-bound Load = omega arith
fault-bound Store = omega arith

pub page_fault-bound : (access : Access) → page_fault_cause access ≤ 15
page_fault-bound Fetch = omega arith
page_fault-bound Load = omega arith
page_fault-bound Store = omega arith

rule_answered : (access : Access) (tval : ℕ) (d : Decision) → GrantOrFault access d → Answered access (λ t. t ≡ tval) (by_rule tval d)
rule_answered access tval _ (rule-grants entry n) = grants entry n
rule_answered access tval _ (rule-faults entry n) = faults tval entry refl n

-- of two parts, each with starts of its own
then-answered : (access : Access) {S T R : ℕ → Type 0} (x y : Reached) → Answered access S x → Answered access T y → ((t : ℕ) → S t → R t)
    → ((t : ℕ) → T t → R t) → Answered access R (and_then x y)
then-answered access _ _ (grants entry n) (grants other k) s t = grants other k
then-answered access _ _ (grants entry n) (faults tval other a k) s t = faults tval other (t tval a) k
then-answered access _ _ (grants entry n) (page_faults tval a) s t = page_faults tval (t tval a)
then-answered access _ y (faults tval entry a n) q s t = faults tval entry (s tval a) n
then-answered access _ y (page_faults tval a) q s t = page_faults tval (s tval a)

-- where the parts of an access start: the second at the next boundary
abbrev pub Starts : ℕ → ℕ → Type 0
Starts address tval = (tval ≡ address) ⊎ (tval ≡ (address + room address) % 2 ^ 64)

-- a first part that is not all of the access ends at the boundary
first-room : (c : Context) (address size : ℕ) → (first_part c address size ≡ size → ⊥) → first_part c address size ≡ room address
first-room c address size n = go (translated c) n
  where
    go : (b : Bool) → (cond b (min size (room address)) size ≡ size → ⊥) → cond b (min size (room address)) size ≡ room address
    go true k = at_room (dec_le size (room address)) k
      where
        at_room : Dec (size ≤ room address) → (min size (room address) ≡ size → ⊥) → min size (room address) ≡ room address
        at_room (yes l) x = absurd (x (omega arith))
        at_room (no l) x = omega arith
    go false k = absurd (k refl)

module _ (p : Pmp) (m : Memory) (c : Context) where
  arrived-answered : (address size : ℕ) (w : Walked) → EndsByEntry w → Answered c.access (λ t. t ≡ address) (arrived p m c address size w)
  arrived-answered address size (Ok place) e =
      rule_answered c.access address _ (rule_answers (spans_of p) p.cfgs c.mode c.access place size)
  arrived-answered address size (Err PageFault) e = page_faults address refl
  arrived-answered address size (Err (Denied entry)) e = faults address entry refl e

  part_answered : (address size : ℕ) → Answered c.access (λ t. t ≡ address) (part_reached p m c address size)
  unfolding part_reached
  part_answered address size = arrived-answered address size (located p m c address) (located-by-entry p m c address)

  widened : (address : ℕ) (x : Reached) → Answered c.access (λ t. t ≡ address) x → Answered c.access (Starts address) x
  widened address _ (grants entry n) = grants entry n
  widened address _ (faults tval entry a n) = faults tval entry (inl a) n
  widened address _ (page_faults tval a) = page_faults tval (inl a)

  parts_answered : (first address size : ℕ) → ((first ≡ size → ⊥) → first ≡ room address)
      → Answered c.access (Starts address) (parts_reached p m c first address size)
  unfolding parts_reached
  parts_answered first address size ends =
      let next = (address + first) % 2 ^ 64 in
      by_test (Answered c.access (Starts address)) (eqb first size) _ _
      (λ t. widened address (part_reached p m c address size) (part_answered address size))
      (λ t.
      then-answered c.access (part_reached p m c address first) (part_reached p m c next (size - first)) (part_answered address first)
      (part_answered next (size - first)) (λ v e. inl e)
      (λ v e. inr (e ∙ ap (λ (k : ℕ). (address + k) % 2 ^ 64) (ends (eqb-false first size t)))))

  pub reached_unlawful : (address size : ℕ) → lawful m ≡ false → reached p m c address size ≡ Err (Refused Refusal.Memory)
  unfolding reached
  reached_unlawful address size l = rw l

  pub reached_missized : (address size : ℕ) → lawful m ≡ true → is_size size ≡ false → reached p m c address size ≡ Err (Refused Refusal.Size)
  unfolding reached
  reached_missized address size l s = rw (l, s)

  pub reached-answered : (address size : ℕ) → lawful m ≡ true → is_size size ≡ true
      → Answered c.access (Starts address) (reached p m c address size)
  unfolding reached
  reached-answered address size l s = rw (l, s) (parts_answered (first_part c address size) address size (first-room c address size))

  -- untranslated it is the decision on the address itself, refusal 1 too
  pub reached-physical : (address size : ℕ) → lawful m ≡ true → translated c ≡ false
      → reached p m c address size ≡ by_rule address (checked p.grain p.cfgs p.addrs c.mode c.access address size)
  unfolding reached parts_reached part_reached located checked
  reached-physical address size l n = rw (l, n, eq-eqb size size refl) (by_size (is_size size) (decided p m c address size))
    where
      by_size : (s : Bool) (d : Decision) → cond s (by_rule address d) (Err (Refused Refusal.Size)) ≡ by_rule address (cond s d (RuleRefuses Refusal.Size))
      by_size true d = refl
      by_size false d = refl
