-- The rows of a figure's edges: each edge with its owner and its hand.
use Rattle.std.specs.Prelude.{◌≡◌, ℕ, List, ◌++◌, map}
use Rattle.std.specs.List.{All}
use Rattle.plane_exact.specs.declared.point.Pt.{Pt}
use Rattle.plane_exact.specs.declared.point.Seg.{Seg}
use Rattle.point_set.specs.declared.edge.Edge.{Edge}
use Rattle.point_set.specs.declared.edge.Hand.{Hand}
use Rattle.point_set.specs.declared.edge.Owner.{Owner}
use Rattle.point_set.specs.declared.figure.Area.{Area}
use Rattle.point_set.specs.declared.figure.Figure.{Figure}
use Rattle.point_set.specs.Edges.{OwnedEdge, edges_of_area_rings, HasHand, IsAreaHand}
use Rattle.point_set.specs.Location.{rings_of}
use Rattle.point_set.specs.Rings.{edges_of}
use Rattle.point_set.specs.Sides.{IsInsideHand}

-- A row's edge and its owner.
abbrev pub owned_edge : Edge → OwnedEdge
owned_edge row = record { seg = row.seg; owner = row.owner }

-- The edges and owners of rows.
abbrev pub owned_edges : List Edge → List OwnedEdge
owned_edges rows = map owned_edge rows

-- The row of an edge with an owner and a hand.
abbrev pub row_of : Owner → Hand → Seg → Edge
row_of owner side seg = record { seg = seg; owner = owner; hand = side }

-- A row's hand is that of its edge in the figure.
abbrev pub HasItsHand : Figure → Edge → Type 0
HasItsHand f row = HasHand f row.owner row.seg row.hand

-- Rows were added: the edges of a ring in order with one owner, and with the hand on which the ring's inside lies.
pub record AddsRing (ring : List Pt) (owner : Owner) (old new : List Edge) : Type 0 where
  pub side : Hand
  pub inside : IsInsideHand ring side
  pub joined : new ≡ old ++ map (row_of owner side) (edges_of ring)

-- Rows were added: the edges of some of an area's rings in order, of which the first is at a place among the area's rings, each
-- with its owner and with the hand on which the inside of the area lies.
pub record AddsRings (area : Area) (place first : ℕ) (rings : List (List Pt)) (old new : List Edge) : Type 0 where
  pub more : List Edge
  pub joined : new ≡ old ++ more
  pub edges : owned_edges more ≡ edges_of_area_rings place first rings
  pub hands : All (λ row. IsAreaHand area row.seg row.hand) more

-- Rows were added: the edges of all rings of an area, so with their owners and hands.
abbrev pub AddsArea : Area → ℕ → List Edge → List Edge → Type 0
AddsArea area place old new = AddsRings area place 0 (rings_of area) old new
