-- The lines so far, and those of the rest behind what is begun, are the lines of the text.
use Rattle.std.proofs.Common.{◌≡◌, ◌++◌, drop}
use Rattle.line_summary.specs.Summary.{lines_of, lines_after}
use Rattle.line_summary.proofs.lines.lines_of.Given as goal

abbrev pub invariant-loop-byte : goal.invariant-loop-byte
invariant-loop-byte l = l.lines ++ lines_after l.begun (drop l.byte-index l.text) ≡ lines_of l.text
