use Prim.Native.Nat.{ℕ}
use mathlib.Core.Path.{◌≡◌, ap, ◌∙◌}
use mathlib.Core.Bool.{true}
use mathlib.Core.List.{List}
use native.Mathlib.Omega.{arith}
use lib.ListN.{length, get_or}
use borrow.Author.Tests.{eq-eqb}
use Rattle.std.specs.Cmp.Derive.{both_true}
use Rattle.bits.specs.Lists.{Words}
use Rattle.capi.specs.Calls.{is_form, restorable}
use Rattle.capi.proofs.CallLaws.{chosen-some}
use Rattle.capi.proofs.SaveLaws.{restore-refused, restore-done}
use Rattle.capi.proofs.tegrwyllt_restore.Goals as goal

pub returns-in-Some-refusal : goal.returns-in-Some-refusal
returns-in-Some-refusal c =
    let a = c.args in
    let form = chosen-some (is_form a.form) c.in-Some.ensures in
    let hart = c.in-Some-as_mut_array.ensures.cases in
    let map = c.in-Some-as_mut_array-2.ensures.cases in
    let t : restorable a.form a.hart.now a.map.now ≡ true =
    both_true form.0 (both_true (eq-eqb (length a.hart.now) 43 hart.long) (eq-eqb (length a.map.now) 100 map.long)) in
    let words : Words 43 a.hart.now =
    record { count = hart.long; below = λ i. omega (arith, ap (λ (l : List ℕ). get_or l i 0) hart.same, c.type_inv.hart i) } in
    let all = restore-refused a.form a.text.now a.hart.now a.map.now t form.1 _ _ c.restore-read.ensures.value c.refusal.ensures words c.in-Some-refusal.is c.from.ensures in
    record {
      value = all.0;
      hart_after = hart.same ∙ all.1.0;
      map_after = map.same ∙ all.1.1;
    }

pub returns-in-None : goal.returns-in-None
returns-in-None c =
    let a = c.args in
    let form = chosen-some (is_form a.form) c.in-Some.ensures in
    let hart = c.in-Some-as_mut_array.ensures.cases in
    let map = c.in-Some-as_mut_array-2.ensures.cases in
    let t : restorable a.form a.hart.now a.map.now ≡ true =
    both_true form.0 (both_true (eq-eqb (length a.hart.now) 43 hart.long) (eq-eqb (length a.map.now) 100 map.long)) in
    let all = restore-done a.form a.text.now a.hart.now a.map.now t form.1 _ _ c.restore-read.ensures.value c.refusal.ensures
    c.in-None.is c.put.ensures.hart_after c.put.ensures.map_after in
    record {
      value = all.0;
      hart_after = all.1.0;
      map_after = all.1.1;
    }
