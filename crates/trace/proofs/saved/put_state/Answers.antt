use Rattle.trace.proofs.SavedTexts.{state-put}
use Rattle.trace.proofs.saved.put_state.Goals as goal

pub returns : goal.returns
returns c =
    state-put c.form_for-form.result c.args.out.now c.requires (c.put_refusal.ensures.value, c.put_refusal.ensures.out_after) c.args.hart c.form_for-form.ensures c.save-answer.ensures.value c.save-answer.ensures.buffer_after
