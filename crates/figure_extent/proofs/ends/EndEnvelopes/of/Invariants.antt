-- Under each rule the envelope of the boundary ends of the lines before.
use Rattle.point_set.specs.declared.rule.Rule.{Rule}
use Rattle.figure_extent.specs.Kept.{ends_under}
use Rattle.figure_extent.proofs.Lines.{boundary_ends_of}
use Rattle.figure_extent.proofs.SoFar.{IsEnvelopeSoFar}
use Rattle.figure_extent.proofs.ends.EndEnvelopes.of.Given as goal

abbrev pub invariant-loop-line : goal.invariant-loop-line
invariant-loop-line l = (rule : Rule)
    → IsEnvelopeSoFar (boundary_ends_of rule l.figure) l.figure.lines l.line-index (ends_under rule l.envelopes)
