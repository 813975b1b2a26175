use Rattle.memory_text.proofs.Form.{are_words}
use Rattle.memory_text.specs.MemoryText.{is_memory_text}
use Rattle.std.proofs.Common.{◌≡◌, ◌-◌, ◌*◌}
use Rattle.memory_text.proofs.is_memory_text.Given as goal

abbrev pub invariant-loop-i : goal.invariant-loop-i
invariant-loop-i l = is_memory_text l.text ≡ are_words (l.total - l.i) l.text (22 * l.i)
