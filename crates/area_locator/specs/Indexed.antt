-- Edges of an area as spans of height, and their locations.
use Rattle.std.specs.Prelude.{◌≡◌, ℕ, ◌≤◌, List, length, map, slice_get, take}
use Rattle.std.specs.Int.{int_min, int_max}
use Rattle.std.specs.List.{All, filter}
use Rattle.im_matrix.specs.declared.Loc.{Loc}
use Rattle.plane_exact.specs.Places.{IsInLimit}
use Rattle.plane_laws.specs.Plane.{Point}
use Rattle.plane_exact.specs.declared.point.Seg.{Seg}
use Rattle.point_set.specs.Location.{location, rings_of, edges_of_rings}
use Rattle.point_set.specs.declared.figure.Area.{Area}
use Rattle.y_index.specs.Heights.{holds_height}
use Rattle.y_index.specs.Trees.{AreRowsOf}
use Rattle.y_index.specs.declared.rows.Span.{Span}
use Rattle.y_index.specs.declared.rows.SpanRow.{SpanRow}
use Rattle.area_locator.specs.Validity.{IsValidArea}

-- A segment has two different ends within the limit.
pub record IsEdge (e : Seg) : Type 0 where
  pub start : IsInLimit e.a
  pub end : IsInLimit e.b
  pub apart : ¬ (e.a ≡ e.b)

-- The heights that an edge has.
abbrev pub heights_of : Seg → Span
heights_of e = record { low = int_min e.a.y e.b.y; high = int_max e.a.y e.b.y }

-- The edges that have the height of a point, in order.
abbrev pub edges_at : Point → List Seg → List Seg
edges_at p edges = filter (λ e. holds_height p (heights_of e)) edges

-- The edges of an area in order, first of its shell and then of its holes.
abbrev pub edges_of_area : Area → List Seg
edges_of_area area = edges_of_rings (rings_of area)

-- The location of a point in each valid area that has these edges, in this order.
abbrev pub IsLocationBy : List Seg → Point → Loc → Type 0
IsLocationBy edges p loc = (area : Area) → IsValidArea area → edges_of_area area ≡ edges → loc ≡ location area p

-- The rows are those of the heights of the edges, each with the place of its edge as item.
abbrev pub AreRowsOfEdges : List Seg → List SpanRow → Type 0
AreRowsOfEdges edges rows = AreRowsOf (map heights_of edges) rows

-- Edges, and the rows of their heights.
pub record IsIndexed (edges : List Seg) (rows : List SpanRow) : Type 0 where
  pub few : length edges ≤ 1048576
  pub proper : All IsEdge edges
  pub indexed : AreRowsOfEdges edges rows

-- Two lists differ first at a place: they are the same up to it, and there they have two items, or only one of them has one.
pub record IsFirstDifference (edges others : List Seg) (place : ℕ) : Type 0 where
  pub same : take place edges ≡ take place others
  pub differ : ¬ (slice_get edges place ≡ slice_get others place)
