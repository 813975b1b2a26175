-- An access part by part, and a part check by check. Assumes nothing.
use Rattle.std.proofs.Common.{◌≡◌, ℕ, zero, suc, ◌+◌, ◌-◌, ◌%◌, ◌^◌, Bool, true, false, eqb, sym, refl, ap, ◌∙◌, Ok, Err, arith, eq-eqb, ne_eqb, eqb-true}
use borrow.Author.Tests.{eqb-false}
use Rattle.pmp.specs.declared.Access.{Access}
use Rattle.pmp.specs.declared.Decision.{Decision}
use Rattle.pmp.specs.declared.Decision.TheVariants.{Granted as RuleGrants, Fault as RuleFaults, Refused as RuleRefuses}
use Rattle.protection.specs.Spans.{spans_of}
use Rattle.pmp.specs.Rule.{none, byte_rule}
use Rattle.pmp.proofs.Answered.{GrantOrFault, grants as rule-grants, faults as rule-faults, rule_answers}
use Rattle.protection.specs.declared.Pmp.{Pmp}
use Rattle.paging.specs.declared.Context.{Context}
use Rattle.paging.specs.declared.Check.{Check}
use Rattle.paging.specs.declared.WalkFault.TheVariants.{Page as PageFault, Denied}
use Rattle.paging.specs.Memory.{Memory, Word, word_at}
use Rattle.paging.specs.Entry.{Says}
use Rattle.paging.specs.Walk.{canonical, read_by, table_read, word_says, onward, found_at, walk_from, next_check}
use Rattle.paging.specs.Access.{Reached, translated, faulted, by_rule, and_then, located, arrived, part_reached, parts_reached}
use Rattle.paging.proofs.WalkLaws.{walk_whole, walk_stray}

-- ---- a part, check by check

-- the byte rule never refuses, and faults with the cause of the access's kind
abbrev pub denied : Access → ℕ → Decision → Reached
denied access tval (RuleGrants entry) = Ok entry
denied access tval (RuleFaults cause entry) = Err (faulted access tval (Denied entry))
denied access tval (RuleRefuses refusal) = Err (faulted access tval (Denied none))

denied_rule : (access : Access) (tval : ℕ) (d : Decision) → GrantOrFault access d → by_rule tval d ≡ denied access tval d
denied_rule access tval _ (rule-grants entry h) = refl
denied_rule access tval _ (rule-faults entry h) = refl

module _ (p : Pmp) (m : Memory) (c : Context) (address size : ℕ) where
  -- what a part comes to where so many levels are left: the walk from this table on, or the access at this physical address
  abbrev pub stage : ℕ → ℕ → Reached
  stage zero place = arrived p m c address size (Ok place)
  stage (suc level) table = arrived p m c address size (walk_from p m c address (suc level) table)

  pub stage_physical : translated c ≡ false → stage 0 address ≡ part_reached p m c address size
  unfolding part_reached located
  stage_physical n = rw n

  pub stage_walk : translated c ≡ true → canonical address ≡ true → stage 3 c.satp ≡ part_reached p m c address size
  unfolding part_reached located
  stage_walk t k = rw (t, walk_whole p m c address k)

  pub stage_stray : translated c ≡ true → canonical address ≡ false
      → Err (faulted c.access address PageFault) ≡ part_reached p m c address size
  unfolding part_reached located
  stage_stray t k = rw (t, walk_stray p m c address k)

  module _ (levels place : ℕ) (k : Check) (r d : Decision) (whole : Reached) (w : stage levels place ≡ whole)
      (asked : k ≡ next_check c address size levels place)
      (answer : r ≡ byte_rule (spans_of p) p.cfgs k.mode k.access k.place k.size) (e : r ≡ d) where
    decides : byte_rule (spans_of p) p.cfgs (next_check c address size levels place).mode
        (next_check c address size levels place).access (next_check c address size levels place).place (next_check c address size levels place).size ≡ d
    decides =
        ap (λ (x : Check). byte_rule (spans_of p) p.cfgs x.mode x.access x.place x.size) (sym asked)
        ∙ sym answer
        ∙ e

    -- the check of the access itself
    pub check_ends : levels ≡ 0 → by_rule address d ≡ whole
    check_ends z = go levels z w decides
      where
        go : (l : ℕ) → l ≡ 0 → stage l place ≡ whole
            → byte_rule (spans_of p) p.cfgs (next_check c address size l place).mode
            (next_check c address size l place).access (next_check c address size l place).place (next_check c address size l place).size ≡ d
            → by_rule address d ≡ whole
        go zero z v h = ap (by_rule address) (sym h) ∙ v
        go (suc l) z v h = absurd (omega arith)

    -- the check of a table read
    pub check_reads : (below : ℕ) (x : Word) → levels ≡ suc below → read_by d (word_at m k.place) ≡ x
        → arrived p m c address size (onward (walk_from p m c address below) (word_says c address below x)) ≡ whole
    unfolding walk_from found_at table_read
    check_reads below x s q = go levels s w decides (ap (λ (y : Check). y.place) asked)
      where
        go : (l : ℕ) → l ≡ suc below → stage l place ≡ whole
            → byte_rule (spans_of p) p.cfgs (next_check c address size l place).mode
            (next_check c address size l place).access (next_check c address size l place).place (next_check c address size l place).size ≡ d
            → k.place ≡ (next_check c address size l place).place
            → arrived p m c address size (onward (walk_from p m c address below) (word_says c address below x)) ≡ whole
        go zero s v h j = absurd (omega arith)
        go (suc l) s v h j = let b : below ≡ l = omega arith in rw (b, ← q, j, ← h) v

    -- .. where it is granted, and its word says this
    pub check_says : (entry below : ℕ) (f : Says) → d ≡ RuleGrants entry → levels ≡ suc below → word_says c address below (word_at m k.place) ≡ f
        → arrived p m c address size (onward (walk_from p m c address below) f) ≡ whole
    check_says entry below f g s v =
        rw (← v)
        (check_reads below (word_at m k.place) s (ap (λ (y : Decision). read_by y (word_at m k.place)) g))

    kind : levels ≡ 0 → k.access ≡ c.access
    kind z = rw (asked, z)

    answers : levels ≡ 0 → GrantOrFault c.access d
    answers z =
        rw (← (kind z), ← e, answer) (rule_answers (spans_of p) p.cfgs k.mode k.access k.place k.size)

    -- a check that is not granted, whichever it is, is a fault of the access's kind
    pub check_denies : (entry : ℕ) → ((word : Word) → read_by d word ≡ Err (Denied entry))
        → denied c.access address d ≡ Err (faulted c.access address (Denied entry)) → Err (faulted c.access address (Denied entry)) ≡ whole
    check_denies entry reads held = go levels refl
      where
        go : (l : ℕ) → levels ≡ l → Err (faulted c.access address (Denied entry)) ≡ whole
        go zero z = sym held ∙ sym (denied_rule c.access address d (answers z)) ∙ check_ends z
        go (suc l) z = check_reads l (Err (Denied entry)) z (reads (word_at m k.place))

  -- the walk from a level on
  pub stage_on : (level table : ℕ) → (level ≡ 0 → ⊥) → arrived p m c address size (walk_from p m c address level table) ≡ stage level table
  stage_on zero table n = absurd (n refl)
  stage_on (suc level) table n = refl

  pub stage_out : (level table : ℕ) → level ≡ 0
      → arrived p m c address size (walk_from p m c address level table) ≡ Err (faulted c.access address PageFault)
  unfolding walk_from
  stage_out level table z = rw z

-- ---- an access part by part

module _ (p : Pmp) (m : Memory) (c : Context) (first address size : ℕ) where
  parts_one : first ≡ size → parts_reached p m c first address size ≡ part_reached p m c address first
  unfolding parts_reached
  parts_one e = rw (e, eq-eqb size size refl)

  parts_two : (first ≡ size → ⊥)
      → parts_reached p m c first address size
      ≡ and_then (part_reached p m c address first) (part_reached p m c ((address + first) % 2 ^ 64) (size - first))
  unfolding parts_reached
  parts_two n = rw (ne_eqb first size n)

  module _ (whole : Reached) (w : parts_reached p m c first address size ≡ whole) where
    -- a first part that is all
    pub parts_last : (x : Reached) → first ≡ size → part_reached p m c address first ≡ x → x ≡ whole
    parts_last x e h = sym h ∙ sym (parts_one e) ∙ w

    -- a part that ends the access, as a fault does
    pub parts_stop : (x : Reached) → ((y : Reached) → and_then x y ≡ x) → part_reached p m c address first ≡ x → x ≡ whole
    parts_stop x stops h = go (eqb first size) refl
      where
        go : (b : Bool) → eqb first size ≡ b → x ≡ whole
        go true e = parts_last x (eqb-true first size e) h
        go false e =
            sym (stops (part_reached p m c ((address + first) % 2 ^ 64) (size - first)))
            ∙ ap (λ (y : Reached). and_then y (part_reached p m c ((address + first) % 2 ^ 64) (size - first))) (sym h)
            ∙ sym (parts_two (eqb-false first size e))
            ∙ w

    -- a part that is granted leaves the next, which is all of the rest
    pub parts_next : (entry : ℕ) → (first ≡ size → ⊥) → part_reached p m c address first ≡ Ok entry
        → parts_reached p m c (size - first) ((address + first) % 2 ^ 64) (size - first) ≡ whole
    unfolding parts_reached
    parts_next entry n h =
        rw (eq-eqb (size - first) (size - first) refl)
        (ap (λ (y : Reached). and_then y (part_reached p m c ((address + first) % 2 ^ 64) (size - first))) (sym h) ∙ sym (parts_two n) ∙ w)
