-- Demand 3: from reset or a restored text, after any list of steps, the map left answers every physical access as the byte rule does.
-- Assumes nothing.
use Prim.Native.Nat.{ℕ, ◌≤◌}
use mathlib.Core.Path.{◌≡◌, refl, sym, ap, subst, ◌∙◌}
use mathlib.Core.Bool.{true, cond}
use mathlib.Core.List.{List}
use mathlib.Core.Logic.{⊎_elim}
use lib.ListN.{take}
use Rattle.std.specs.Prelude.{None}
use Rattle.bits.proofs.Conjunction.{both, by_test}
use Rattle.pmp.specs.declared.Mode.{Mode}
use Rattle.pmp.specs.declared.Access.{Access}
use Rattle.pmp.specs.declared.Decision.{Decision}
use Rattle.pmp.specs.declared.Decision.TheVariants.{Refused}
use Rattle.pmp.specs.declared.Refusal.{Refusal}
use Rattle.pmp.specs.Rule.{is_size, byte_rule, checked}
use Rattle.pmp.proofs.Answered.{rule_answers, unrefused}
use Rattle.steps.specs.declared.Answer.TheVariants.{Refused as RefusedAnswer}
use Rattle.steps.specs.Number.{refusal_of}
use Rattle.state.specs.Hold.{can_hold}
use Rattle.protection.specs.Spans.{spans_of}
use Rattle.state.proofs.Held.{reset-holds}
use Rattle.map.specs.declared.Map.{Map}
use Rattle.map.specs.Ranges.{IsMap}
use Rattle.map.specs.Painting.{ranges_of}
use Rattle.map.specs.Query.{queried}
use Rattle.map.proofs.Lawful.{unique}
use Rattle.map.proofs.MapLaws.{is_map, entry-below, compiled-ranges}
use Rattle.map.proofs.Boundaries.{boundaries}
use Rattle.map.proofs.QueryLaws.{query_rule, query-refused, same_ranges}
use Rattle.text.specs.declared.Form.{Form}
use Rattle.text.specs.Text.{read_text}
use Rattle.engine.specs.Runs.{Lent, after_all}
use Rattle.engine.proofs.Holds.{after_holds}
use Rattle.hart.specs.declared.Hart.{Hart}
use Rattle.hart.specs.declared.Mapped.{Mapped}
use Rattle.hart.specs.declared.Stepped.{Stepped}
use Rattle.hart.specs.Steps.{map_for, hart_with, handed_back, reset_mapped}
use Rattle.hart.specs.Queries.{query_answer}
use Rattle.hart.specs.Runs.{with}
use Rattle.hart.specs.Saved.{form_holds, text_holds, state_in, restored_done, restored}
use Rattle.hart.proofs.LeftLaws.{own-map}
use Rattle.claims.specs.Faithful.{FromText, Start, left, pmp_after, spans_after, query_after, FaithfulAfter, SameRanges, Faithful}
use Rattle.claims.specs.AfterRun.{rule_after}

-- a start is a state that a hart can hold, with its map
pub record Sound (start : Mapped) : Type 0 where
  pub held : can_hold start.hart.state ≡ true
  pub own : start.map ≡ map_for start.hart.state.pmp

-- the hart and map that were handed back
abbrev pub back : Stepped → Mapped
back s = with s.hart s.map

-- what reading a text back gives, where it is not refused
module _ (h : Hart) (map : Map) where
  abbrev Back : Stepped → Type 0
  Back s = refusal_of s.answer ≡ None → Sound (back s)

  pub text_sound : (form : Form) (text : List ℕ) → Back (restored form h map text)
  unfolding restored
  text_sound form text =
      let s = state_in form text in
      by_test Back (read_text form text).ok (cond (text_holds form s) (restored_done s) (handed_back h map (RefusedAnswer Refusal.TextState))) (handed_back h map (RefusedAnswer Refusal.Text))
      (λ o. by_test Back (text_holds form s) (restored_done s) (handed_back h map (RefusedAnswer Refusal.TextState))
      (λ q e. record { held = (both (can_hold s) (form_holds form s) q).0; own = refl })
      (λ q e. cc e))
      (λ q e. cc e)

from-text : (start : Mapped) → FromText start → Sound start
from-text start t =
    subst Sound (ap back t.read) (text_sound t.hart t.map t.form t.text (ap (λ (s : Stepped). refusal_of s.answer) t.read))

pub reset_sound : (g : ℕ) → Sound (reset_mapped g)
reset_sound g = record { held = reset-holds g; own = refl }

start_sound : (start : Mapped) → Start start → Sound start
start_sound start s = ⊎_elim (λ e. rw e.1 (reset_sound e.0)) (from-text start) s

-- a query on a hart that can be held, with its own map, for every size: any but 1, 2, 4, 8 is refused by both
own-query : (h : Hart) (mode : Mode) (access : Access) (address size : ℕ) → can_hold h.state ≡ true
    → query_answer h (map_for h.state.pmp) mode access address size ≡ checked h.state.pmp.grain h.state.pmp.cfgs h.state.pmp.addrs mode access address size
unfolding query_answer checked
own-query h mode access address size p =
    let p' = h.state.pmp in
    let cfgs = p'.cfgs in
    rw p (by_test (λ (d : Decision). queried cfgs (map_for h.state.pmp) mode access address size ≡ d) (is_size size)
    (byte_rule (spans_of p') cfgs mode access address size) (Refused Refusal.Size)
    (λ q. query_rule cfgs mode access address size p'.grain p'.addrs q)
    (λ q. query-refused cfgs mode access address size (map_for h.state.pmp) q))

module _ (start : Mapped) (sound : Sound start) (steps : List Lent) where
  left-own : left start steps ≡ with (hart_with (after_all start.hart.state steps)) (map_for (pmp_after start steps))
  left-own = own-map start.hart start.map steps sound.own

  pub query-after : (mode : Mode) (access : Access) (address size : ℕ)
      → query_after start steps mode access address size ≡ rule_after start.hart.state steps mode access address size
  query-after mode access address size =
      ap (λ (l : Mapped). query_answer l.hart l.map mode access address size) left-own
      ∙ own-query (hart_with (after_all start.hart.state steps)) mode access address size (after_holds steps start.hart.state sound.held)

  answers_rule : (mode : Mode) (access : Access) (address size : ℕ) → is_size size ≡ true
      → query_after start steps mode access address size ≡ byte_rule (spans_after start steps) (pmp_after start steps).cfgs mode access address size
  unfolding checked
  answers_rule mode access address size q = query-after mode access address size ∙ rw q

  ranges-left : take (left start steps).map.count (left start steps).map.ranges ≡ ranges_of (spans_after start steps)
  ranges-left =
      ap (λ (l : Mapped). take l.map.count l.map.ranges) left-own ∙ compiled-ranges (pmp_after start steps).grain (pmp_after start steps).cfgs (pmp_after start steps).addrs

  faithful_after : FaithfulAfter start steps
  faithful_after =
      let p = pmp_after start steps in
      let spans = spans_of p in
      record {
        state = ap (λ (l : Mapped). l.hart.state) left-own;
        lawful = subst (IsMap spans) (sym ranges-left) (is_map spans (entry-below p.grain p.cfgs p.addrs));
        ranges = ranges-left;
        count = subst (λ (l : Mapped). l.map.count ≤ 33) (sym left-own) (boundaries p.grain p.cfgs p.addrs).bounded;
        answers = answers_rule;
        unrefused =
            λ mode access address size refusal q e.
            unrefused access (byte_rule spans p.cfgs mode access address size) refusal
            (rule_answers spans p.cfgs mode access address size)
            (sym (answers_rule mode access address size q) ∙ e);
      }

query_same_ranges : SameRanges
unfolding query_answer
query_same_ranges g h m n mode access address size p q c e =
    rw (p, q) (same_ranges g.state.pmp.cfgs h.state.pmp.cfgs m n mode access address size c e)

pub faithful : Faithful
faithful =
    record {
      after = λ start s steps. faithful_after start (start_sound start s) steps;
      one_map = unique;
      same_ranges = query_same_ranges;
    }
