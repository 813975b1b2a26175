use Rattle.text.specs.Template.{in_order, lines_by}
use Rattle.lines.specs.Fields.{all_ok, words_read}
use Rattle.std.proofs.Common.{◌≡◌, true, length, drop}
use lib.Seq.{sets}
use Rattle.text.proofs.read_lines.Given as goal

abbrev pub invariant-loop-i : goal.invariant-loop-i
invariant-loop-i l = record {
  ordered : in_order (length l.template) (drop l.i l.places) l.start ≡ true;
  judged : all_ok (lines_by l.template l.places l.text 0) ≡ all_ok (lines_by l.template (drop l.i l.places) l.text l.start);
  read : sets l.initial.words 0 (words_read (lines_by l.template l.places l.text 0)) ≡ sets l.words l.i (words_read (lines_by l.template (drop l.i l.places) l.text l.start));
}
