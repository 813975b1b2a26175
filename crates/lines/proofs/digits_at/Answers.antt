use Rattle.lines.proofs.Digits.{read_more, read_all, number_fits}
use Rattle.lines.specs.Lines.{hex_digit, digit_value}
use lib.ListN.{get_or}
use Prim.Native.Nat.{◌+◌, ◌%◌}
use mathlib.Core.Path.{◌≡◌, sym, ap, ◌∙◌}
use native.Mathlib.Omega.{arith}
use Rattle.lines.proofs.digits_at.Goals as goal

pub overflow_mul-word : goal.overflow_mul-word
overflow_mul-word c = let l = c.loop-j in omega (arith, (number_fits l.j l.word c.digit_value-value.result (omega arith) l.invariant.below (omega arith)).1)

pub overflow_add-word : goal.overflow_add-word
overflow_add-word c = let l = c.loop-j in omega (arith, (number_fits l.j l.word c.digit_value-value.result (omega arith) l.invariant.below (omega arith)).1)

pub loop-j-preserved : goal.loop-j-preserved
loop-j-preserved c =
    let l = c.loop-j in
    let a = c.args in
    let t = a.text.now in
    let v = c.digit_value-value in
    let m = read_more t a.place l.word l.ok l.j (omega arith) in
    let e : v.result % 16 ≡ v.result = omega arith in
    let d : c.hex_digit.result ≡ hex_digit (digit_value (get_or t (a.place + l.j) 0)) = c.hex_digit.ensures ∙ ap hex_digit (e ∙ v.ensures.value) in
    record {
      below = (number_fits l.j l.word v.result (omega arith) l.invariant.below (omega arith)).0;
      number = l.invariant.number ∙ m.0 ∙ rw (← v.ensures.value);
      digits = l.invariant.digits ∙ m.1 ∙ rw (← d);
    }

pub returns-clause-number : goal.returns-clause-number
returns-clause-number c =
    let l = c.loop-j in
    sym (l.invariant.number ∙ (read_all c.args.text.now c.args.place l.word l.ok l.j c.loop-j-test.false).0)

pub returns-clause-digits : goal.returns-clause-digits
returns-clause-digits c =
    let l = c.loop-j in
    sym (l.invariant.digits ∙ (read_all c.args.text.now c.args.place l.word l.ok l.j c.loop-j-test.false).1)
