-- Prepared figures: what is made of a figure at once, and the cells of what is made later.
use Rattle.std.specs.Prelude.{◌≡◌, ℕ, ◌≤◌, List, length}
use Rattle.std.specs.List.{All}
use Rattle.plane_exact.specs.declared.point.Seg.{Seg}
use Rattle.plane_exact.specs.declared.window.Window.{Window}
use Rattle.point_set.specs.declared.edge.Edge.{Edge}
use Rattle.point_set.specs.declared.figure.Figure.{Figure}
use Rattle.point_set.specs.declared.rule.Rule.{Rule}
use Rattle.point_set.specs.Edges.{edges_of_figure}
use Rattle.point_set.specs.Extents.{IsExtent}
use Rattle.point_set.specs.Shape.{IsWellShaped}
use Rattle.point_set.specs.Validity.{IsValid}
use Rattle.bound_rule.specs.Ends.{SeenEnds, AreEndsOf}
use Rattle.figure_extent.specs.Kept.{SeenExtents, extent_under}
use Rattle.ring_sides.specs.Rows.{owned_edges, HasItsHand}
use Rattle.union_locator.specs.Plains.{segs_of}
use Rattle.union_locator.specs.Shells.{AreShellBoxes}

-- A figure, its edges with their owners and hands, its edges alone, its line ends, its envelopes and the boxes of its areas' shells.
pub record SeenBasis : Type 0 where
  pub figure : Figure
  pub rows : List Edge
  pub segs : List Seg
  pub ends : SeenEnds
  pub extents : SeenExtents
  pub shells : List Window

-- What is seen of a basis, from its parts.
abbrev pub seen_basis : Figure → List Edge → List Seg → SeenEnds → SeenExtents → List Window → SeenBasis
seen_basis figure rows segs ends extents shells =
    record { figure = figure; rows = rows; segs = segs; ends = ends; extents = extents; shells = shells }

-- The figure is valid, the edges are its edges in order, each with its hand, the line ends and spots are the figure's, and so are
-- the envelopes under every rule and the boxes of the shells.
pub record IsBasis (seen : SeenBasis) : Type 0 where
  pub shaped : IsWellShaped seen.figure
  pub valid : IsValid seen.figure
  pub edges : owned_edges seen.rows ≡ edges_of_figure seen.figure
  pub hands : All (HasItsHand seen.figure) seen.rows
  pub few : length seen.segs ≤ 1048576
  pub alone : seen.segs ≡ segs_of seen.rows
  pub ends : AreEndsOf seen.figure seen.ends
  pub extents : (rule : Rule) → IsExtent seen.figure rule (extent_under rule seen.extents)
  pub shells : AreShellBoxes seen.figure.areas seen.shells

-- A figure, and the names of the cells of its indexes: of the one over all its edges, and of those of its areas.
pub record SeenPrepared : Type 0 where
  pub figure : Figure
  pub edge_cell : ℕ
  pub area_cells : List ℕ
