-- The tallies of the lines so far are told.
use Rattle.std.proofs.Common.{◌≡◌, map, flat_map}
use Rattle.line_summary.specs.Summary.{lines_of, tally_of}
use Rattle.line_summary.proofs.summary.summary_of.Given as goal

abbrev pub invariant-loop-line : goal.invariant-loop-line
invariant-loop-line l = l.summary.items ≡ flat_map (tally_of (lines_of l.text)) (map (λ line. line.now.items) l.yielded)
