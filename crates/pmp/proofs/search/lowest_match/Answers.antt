-- `pmp::search::lowest_match` meets its contract. Assumes nothing.
use Rattle.std.proofs.Common.{ℕ, ◌≡◌, ◌∙◌, Bool, true, false, List, Option, Some, get_or, ap, sym, add-one}
use Rattle.pmp.specs.declared.Span.{Span}
use Rattle.pmp.specs.Search.{any_byte}
use Rattle.pmp.specs.Entry.{span_read, field_a, address_before, entry_span, contains, matches}
use Rattle.pmp.specs.Found.{meeting, found}
use Rattle.pmp.specs.Rule.{lowest_match}
use Rattle.pmp.proofs.SearchLaws.{any_start, any_next, any_found, any_end, lowest_next, lowest_found}
use Rattle.pmp.proofs.FoundLaws.{meeting_same, meeting_none, found_entry}
use Rattle.pmp.proofs.search.lowest_match.Goals.{in-Some+else-loop-byte-test, in_default}
use Rattle.pmp.proofs.search.lowest_match.Goals as goal

pub loop-byte-init : goal.loop-byte-init
loop-byte-init c = any_start (contains c.in-Some.span) c.args.size c.args.address

pub loop-byte-preserved : goal.loop-byte-preserved
loop-byte-preserved c =
    c.loop-byte.invariant
    ∙ any_next (contains c.in-Some.span) c.args.size c.args.address c.loop-byte.byte c.loop-byte-test.true (sym c.contains.ensures ∙ c.if-contains.false)

-- the span that is looked at is the entry's
own_span : (grain i before : ℕ) (cfgs addrs : List ℕ) → before ≡ address_before addrs i
    → span_read grain (field_a (get_or cfgs i 0)) (get_or addrs i 0) before ≡ entry_span grain cfgs addrs i
own_span grain i before cfgs addrs e = ap (span_read grain (field_a (get_or cfgs i 0)) (get_or addrs i 0)) e

-- also where it is the one that meets the access
met : {r : Option Span} {s t : Span} (address size : ℕ) → r ≡ meeting s address size → r ≡ Some t → t ≡ s
met address size e is = meeting_same _ address size _ (sym e ∙ is)

pub loop-entry-preserved : goal.loop-entry-preserved
loop-entry-preserved c =
    let a = c.args in
    let e = c.loop-entry in
    let spans = entry_span a.grain a.cfgs a.addrs in
    let own = own_span a.grain e.entry e.before a.cfgs a.addrs e.invariant.before in
    let any : Span → Bool = λ s. any_byte (contains s) a.size a.address in
    let missed : any (spans e.entry) ≡ false =
    elim c.match-overlapping.branch [
      | in-Some+else-loop-byte-test w ↦
          ap any (sym own ∙ sym (met a.address a.size c.overlapping.ensures w.in-Some.is))
          ∙ w.loop-byte.invariant
          ∙ any_end (contains w.in-Some.span) a.size a.address w.loop-byte.byte w.loop-byte-test.false
      | in_default w ↦ ap any (sym own) ∙ meeting_none _ a.address a.size (sym c.overlapping.ensures ∙ w.in_default.is)
    ] in
    record {
      before = rw add-one;
      passed = e.invariant.passed ∙ lowest_next (λ i. any_byte (matches spans i) a.size a.address) 16 e.entry c.loop-entry-test.true missed;
    }

pub returns-then-contains : goal.returns-then-contains
returns-then-contains c =
    let a = c.args in
    let e = c.loop-entry in
    let spans = entry_span a.grain a.cfgs a.addrs in
    let is : c.in-Some.span ≡ spans e.entry =
    met a.address a.size c.overlapping.ensures c.in-Some.is ∙ own_span a.grain e.entry e.before a.cfgs a.addrs e.invariant.before in
    let hit : any_byte (matches spans e.entry) a.size a.address ≡ true =
    sym (ap (λ (s : Span). any_byte (contains s) a.size a.address) is)
    ∙ c.loop-byte.invariant
    ∙ any_found (contains c.in-Some.span) a.size a.address c.loop-byte.byte c.loop-byte-test.true (sym c.contains.ensures ∙ c.if-contains.true) in
    let here : lowest_match spans a.address a.size ≡ e.entry =
    e.invariant.passed ∙ lowest_found (λ i. any_byte (matches spans i) a.size a.address) 16 e.entry c.loop-entry-test.true hit in
    ap (λ (s : Span). Some (record { entry = e.entry; cfg = get_or a.cfgs e.entry 0; span = s })) is
    ∙ sym (found_entry spans a.cfgs e.entry c.loop-entry-test.true)
    ∙ ap (found spans a.cfgs) (sym here)
