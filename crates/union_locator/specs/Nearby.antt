-- The edges of a figure near a point.
use Rattle.std.specs.Prelude.{◌≡◌, ℕ, List, None}
use Rattle.std.specs.List.{All}
use Rattle.plane_laws.specs.Plane.{Point, IsSamePoint}
use Rattle.plane_exact.specs.Windows.{IsLeastWindow}
use Rattle.plane_exact.specs.declared.window.Window.{Window}
use Rattle.point_set.specs.declared.edge.Edge.{Edge}
use Rattle.point_set.specs.declared.figure.Figure.{Figure}
use Rattle.point_set.specs.Edges.{edges_of_figure, ArePlacesIn, area_of}
use Rattle.point_set.specs.Shape.{IsWellShaped}
use Rattle.point_set.specs.Validity.{IsAtPlace, IsOnEdge, IsValid}
use Rattle.ring_sides.specs.Rows.{owned_edges, HasItsHand}

-- The places of exactly the edges that meet the least box round a point, ascending.
pub record ArePlacesRound (f : Figure) (p : Point) (places : List ℕ) : Type 0 where
  pub window : Window
  pub round : IsLeastWindow (IsSamePoint p) window
  pub are : ArePlacesIn window (edges_of_figure f) places

-- A valid figure, its edges each with its hand, and the places of those near a point.
pub record IsNearby (f : Figure) (p : Point) (rows : List Edge) (places : List ℕ) : Type 0 where
  pub shaped : IsWellShaped f
  pub valid : IsValid f
  pub edges : owned_edges rows ≡ edges_of_figure f
  pub hands : All (HasItsHand f) rows
  pub near : ArePlacesRound f p places

-- An edge of a line at a place of the rows, that holds the point.
pub record IsLineEdgeAt (rows : List Edge) (place : ℕ) (p : Point) (edge : Edge) : Type 0 where
  pub is : IsAtPlace rows place edge
  pub of_line : area_of edge.owner ≡ None
  pub on : IsOnEdge edge.seg p

-- An edge of an area at a place of the rows, that holds the point.
pub record IsAreaEdgeAt (rows : List Edge) (place : ℕ) (p : Point) (edge : Edge) : Type 0 where
  pub is : IsAtPlace rows place edge
  pub of_area : ¬ (area_of edge.owner ≡ None)
  pub on : IsOnEdge edge.seg p
