-- The byte rule and an owner grant, or fault with the cause of the access's kind, by an entry or none, and never refuse. Assumes nothing.
use Prim.Native.Nat.{ℕ, ◌≤◌, ◌<◌}
use mathlib.Core.Path.{◌≡◌}
use mathlib.Core.Bool.{cond}
use mathlib.Core.List.{List}
use native.Mathlib.Omega.{arith}
use lib.Dec.{leb, ltb, eqb}
use lib.ListN.{get_or}
use borrow.Author.Tests.{ltb-true}
use Rattle.bits.proofs.Conjunction.{by_test}
use Rattle.pmp.specs.declared.Mode.{Mode}
use Rattle.pmp.specs.declared.Mode.TheVariants.{User, Supervisor, Machine}
use Rattle.pmp.specs.declared.Access.{Access}
use Rattle.pmp.specs.declared.Decision.{Decision}
use Rattle.pmp.specs.declared.Decision.TheVariants.{Granted, Fault, Refused}
use Rattle.pmp.specs.declared.Refusal.{Refusal}
use Rattle.pmp.specs.declared.Span.{Span}
use Rattle.pmp.specs.Number.{fault_cause}
use Rattle.pmp.specs.Search.{any_byte, every_byte}
use Rattle.pmp.specs.Entry.{top, entries, locked, matches}
use Rattle.pmp.specs.Rule.{none, permission, by_permission, entry_decides, none_decides, owner_decides, match_decides, lowest_match, byte_rule, lowest_owner, owners_decide}
use Rattle.pmp.proofs.SearchLaws.{least-bound}

pub data GrantOrFault (access : Access) : Decision → Type 0 where
  grants : (entry : ℕ) → entry ≤ none → GrantOrFault access (Granted entry)
  faults : (entry : ℕ) → entry ≤ none → GrantOrFault access (Fault (fault_cause access) entry)

by-permission : (access : Access) (cfg i : ℕ) → i ≤ none → GrantOrFault access (by_permission access cfg i)
by-permission access cfg i h =
    by_test (GrantOrFault access) (eqb (permission access cfg) 1) (Granted i) (Fault (fault_cause access) i) (λ t. grants i h) (λ t. faults i h)

by-entry : (mode : Mode) (access : Access) (cfg i : ℕ) → i ≤ none → GrantOrFault access (entry_decides mode access cfg i)
by-entry User access cfg i h = by-permission access cfg i h
by-entry Supervisor access cfg i h = by-permission access cfg i h
by-entry Machine access cfg i h =
    by_test (GrantOrFault access) (locked cfg) (by_permission access cfg i) (Granted i) (λ t. by-permission access cfg i h) (λ t. grants i h)

by-none : (mode : Mode) (access : Access) → GrantOrFault access (none_decides mode access)
by-none User access = faults none (omega arith)
by-none Supervisor access = faults none (omega arith)
by-none Machine access = grants none (omega arith)

pub owner-answers : (cfgs : List ℕ) (mode : Mode) (access : Access) (owner : ℕ) → GrantOrFault access (owner_decides cfgs mode access owner)
owner-answers cfgs mode access owner =
    by_test (GrantOrFault access) (ltb owner entries) (entry_decides mode access (get_or cfgs owner 0) owner) (none_decides mode access)
    (λ t. by-entry mode access (get_or cfgs owner 0) owner (omega (arith, ltb-true owner entries t))) (λ t. by-none mode access)

pub owners_answer : (cfgs : List ℕ) (mode : Mode) (access : Access) (owner : ℕ → ℕ) (address size : ℕ)
    → GrantOrFault access (owners_decide cfgs mode access owner address size)
unfolding owners_decide
owners_answer cfgs mode access owner address size =
    let low = lowest_owner owner address size in
    by_test (GrantOrFault access) (every_byte (λ b. eqb (owner b) low) size address) (owner_decides cfgs mode access low) (Fault (fault_cause access) low)
    (λ t. owner-answers cfgs mode access low) (λ t. faults low (least-bound none owner size address))

pub rule_answers : (spans : ℕ → Span) (cfgs : List ℕ) (mode : Mode) (access : Access) (address size : ℕ)
    → GrantOrFault access (byte_rule spans cfgs mode access address size)
unfolding byte_rule
rule_answers spans cfgs mode access address size =
    let i = lowest_match spans address size in
    by_test (GrantOrFault access) (any_byte (leb top) size address) (Fault (fault_cause access) none)
    (match_decides spans cfgs mode access address size i)
    (λ t. faults none (omega arith))
    (λ t.
    by_test (GrantOrFault access) (ltb i entries)
    (cond (every_byte (matches spans i) size address) (entry_decides mode access (get_or cfgs i 0) i) (Fault (fault_cause access) i))
    (none_decides mode access)
    (λ u. let h : i < entries = ltb-true i entries u in
    by_test (GrantOrFault access) (every_byte (matches spans i) size address) (entry_decides mode access (get_or cfgs i 0) i)
    (Fault (fault_cause access) i) (λ v. by-entry mode access (get_or cfgs i 0) i (omega arith)) (λ v. faults i (omega arith)))
    (λ u. by-none mode access))

pub unrefused : (access : Access) (d : Decision) (refusal : Refusal) → GrantOrFault access d → d ≡ Refused refusal → ⊥
unrefused access _ refusal (grants entry h) e = let z : ◌≡◌ {A = ℕ} 0 1 = cc in omega arith
unrefused access _ refusal (faults entry h) e = let z : ◌≡◌ {A = ℕ} 0 1 = cc in omega arith
