use Rattle.trace.proofs.SavedTexts.{none-refused, refusal_put}
use Rattle.trace.proofs.saved.put_refusal.Goals as goal

pub returns-in-None : goal.returns-in-None
returns-in-None c = let a = c.args in
    let both = none-refused a.form a.answer a.out.now c.refusal.ensures c.in-None.is c.text_length.ensures.value in
    record {
      value = both.0;
      out_after = both.1;
    }

pub returns-in-Some : goal.returns-in-Some
returns-in-Some c = let a = c.args in
    let both = refusal_put a.form a.answer a.out.now c.refusal.ensures c.in-Some.is c.put_refused.ensures in
    record {
      value = both.0;
      out_after = both.1;
    }
