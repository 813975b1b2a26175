-- The worked lines hold of the definition, by computation. Assumes nothing.
use Rattle.std.proofs.Common.{refl}
use Rattle.lines.specs.Lines.{bytes_of}
use Rattle.trace.specs.Answers.{decimal_in, trap_text, level_text, entry_text, told_text, answer_line, broken_line}
use Rattle.trace.specs.WorkedLines.{WorkedLines}

pub worked_lines : WorkedLines
unfolding bytes_of decimal_in trap_text level_text entry_text told_text answer_line broken_line
worked_lines = record { granted = refl; granted-by-none = refl; fault = refl; fault-by-none = refl; raised = refl; broken = refl }
