-- Figures with their edges, line ends, spots and envelopes, as contracts see them.
use Rattle.std.specs.Prelude.{◌≡◌, List, map}
use Rattle.std.specs.List.{All}
use Rattle.plane_exact.specs.declared.point.Seg.{Seg}
use Rattle.point_set.specs.declared.edge.Edge.{Edge}
use Rattle.point_set.specs.declared.figure.Figure.{Figure}
use Rattle.point_set.specs.Edges.{edges_of_figure}
use Rattle.point_set.specs.Extents.{IsExtent}
use Rattle.point_set.specs.declared.rule.Rule.{Rule}
use Rattle.bound_rule.specs.Ends.{SeenEnds, AreEndsOf}
use Rattle.figure_extent.specs.Kept.{SeenExtents, extent_under}
use Rattle.ring_sides.specs.Rows.{owned_edges, HasItsHand}

-- The segments of rows.
abbrev pub segs_of : List Edge → List Seg
segs_of rows = map (λ row. row.seg) rows

-- A figure, the rows of its edges, the figure in whose areas nodes are located, the ends of its lines with its spots, and its envelopes.
pub record SeenPlain : Type 0 where
  pub figure : Figure
  pub rows : List Edge
  pub areas : Figure
  pub ends : SeenEnds
  pub extents : SeenExtents

-- The rows are the figure's edges in order, each with its hand, the areas, ends and spots are the
-- figure's, and so are the envelopes under every rule.
pub record IsPlain (seen : SeenPlain) : Type 0 where
  pub edges : owned_edges seen.rows ≡ edges_of_figure seen.figure
  pub hands : All (HasItsHand seen.figure) seen.rows
  pub areas : seen.areas ≡ seen.figure
  pub ends : AreEndsOf seen.figure seen.ends
  pub extents : (rule : Rule) → IsExtent seen.figure rule (extent_under rule seen.extents)
