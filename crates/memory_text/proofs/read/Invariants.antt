use Rattle.memory_text.proofs.Form.{are_words, words_from}
use Rattle.memory_text.specs.MemoryText.{memory_in}
use Rattle.std.proofs.Common.{◌≡◌, ◌+◌, ◌-◌, ◌*◌, true}
use lib.Seq.{sets}
use Rattle.memory_text.proofs.read.Given as goal

abbrev pub invariant-loop-i : goal.invariant-loop-i
invariant-loop-i l = record {
  formed : are_words (l.count - l.i) l.text (22 * (l.i + 1)) ≡ true;
  stored : sets l.initial.words 0 (memory_in l.text) ≡ sets l.words l.i (words_from (l.count - l.i) l.text (22 * l.i + 22));
}
