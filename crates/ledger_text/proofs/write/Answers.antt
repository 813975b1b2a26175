-- `ledger_text::write` meets its contract. Assumes nothing.
use Rattle.std.proofs.Common.{length, drop, ◌++◌, List, ℕ, ap, sym, ◌∙◌, length-take-le}
use Rattle.ledger_text.proofs.Form.{text-length, text-written}
use Rattle.ledger_text.proofs.write.Goals as goal

pub copy_from_slice-requires : goal.copy_from_slice-requires
copy_from_slice-requires c =
    length-take-le 295 c.args.buffer.now c.if-buffer-lt-LENGTH.false
    ∙ sym (ap length c.text_of-text.ensures ∙ text-length c.store.new.words)

pub returns : goal.returns
returns c =
    let a = c.args in
    let x = text-written a.ledger a.buffer.now c.text_of-text.result (c.copy_from_slice.new.self ++ drop 295 a.buffer.now) c.store.new.words c.if-buffer-lt-LENGTH.false c.store.ensures c.text_of-text.ensures (ap (λ (z : List ℕ). z ++ drop 295 a.buffer.now) c.copy_from_slice.ensures.after) in
    record { value = x.0; buffer_after = x.1 }
