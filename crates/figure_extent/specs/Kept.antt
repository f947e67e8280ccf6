-- The envelopes of a figure as they are kept for every boundary node rule.
use Rattle.std.specs.Prelude.{List, ◌++◌, Option}
use Rattle.plane_exact.specs.declared.point.Pt.{Pt}
use Rattle.plane_exact.specs.declared.window.Window.{Window}
use Rattle.point_set.specs.Extents.{IsEnvelope, boundary_ends}
use Rattle.point_set.specs.Lines.{ends_of_lines}
use Rattle.point_set.specs.declared.extent.Extent.{Extent}
use Rattle.point_set.specs.declared.figure.Figure.{Figure}
use Rattle.point_set.specs.declared.rule.Rule.{Rule}
use Rattle.point_set.specs.declared.rule.Rule.TheVariants.{Mod2, Endpoint, Multivalent, Monovalent}
use Rattle.figure_extent.specs.declared.ends.EndEnvelopes.{EndEnvelopes}

-- The one of the envelopes of line ends that belongs to a rule.
abbrev pub ends_under : Rule → EndEnvelopes → Option Window
ends_under Mod2 kept = kept.mod2
ends_under Endpoint kept = kept.endpoint
ends_under Multivalent kept = kept.multivalent
ends_under Monovalent kept = kept.monovalent

-- The envelopes that no rule changes, and those of the line ends.
pub record SeenExtents : Type 0 where
  pub areas : Option Window
  pub lines : Option Window
  pub points : Option Window
  pub ends : EndEnvelopes

-- The four envelopes under a rule.
abbrev pub extent_under : Rule → SeenExtents → Extent
extent_under rule seen =
    record { areas = seen.areas; lines = seen.lines; points = seen.points; ends = ends_under rule seen.ends }

-- The new envelopes are those of the positions of the old ones, under each rule with those of some line ends of the figure that are
-- boundary.
abbrev pub AreWithEnds : Figure → EndEnvelopes → List Pt → EndEnvelopes → Type 0
AreWithEnds f old ends new = (rule : Rule) (xs : List Pt) → IsEnvelope xs (ends_under rule old)
    → IsEnvelope (xs ++ boundary_ends rule (ends_of_lines f.lines) ends) (ends_under rule new)
