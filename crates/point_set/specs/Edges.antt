-- The edges of a figure in order, each with the line or ring to which it belongs.
use Rattle.std.specs.Prelude.{Bool, true, false, Option, Some, None, ◌≡◌, ℕ, ◌+◌, List, [], ◌∷◌, ◌++◌, map, Contains}
use Rattle.std.specs.List.{All}
use Rattle.std.specs.List.Sorted.{IsStrictlyIncreasing}
use Rattle.im_matrix.specs.declared.Loc.TheVariants.{Interior, Exterior}
use Rattle.plane_exact.specs.Places.{point_of}
use Rattle.plane_laws.specs.Plane.{Point, IsStrictlyBetween}
use Rattle.plane_exact.specs.Windows.{IsLeastWindow, HasCommonPoint}
use Rattle.plane_laws.specs.Directions.{Direction}
use Rattle.plane_exact.specs.declared.point.Pt.{Pt}
use Rattle.plane_exact.specs.declared.point.Seg.{Seg}
use Rattle.plane_exact.specs.declared.window.Window.{Window}
use Rattle.point_set.specs.declared.edge.Edge.{Edge}
use Rattle.point_set.specs.declared.edge.Hand.{Hand}
use Rattle.point_set.specs.declared.edge.Hand.TheVariants as hand
use Rattle.point_set.specs.declared.edge.Owner.{Owner}
use Rattle.point_set.specs.declared.edge.Owner.TheVariants.{Line, Ring}
use Rattle.point_set.specs.declared.figure.Area.{Area}
use Rattle.point_set.specs.declared.figure.Figure.{Figure}
use Rattle.point_set.specs.Rings.{edges_of}
use Rattle.point_set.specs.Location.{rings_of, edges_of_rings}
use Rattle.point_set.specs.Germ.{IsGerm}
use Rattle.point_set.specs.Sides.{PointsTo, other_hand}
use Rattle.point_set.specs.Validity.{IsAtPlace, IsOnEdge}

-- An edge and its owner.
pub record OwnedEdge : Type 0 where
  pub seg : Seg
  pub owner : Owner

-- Edges that have one owner.
abbrev pub owned_by : Owner → List Seg → List OwnedEdge
owned_by owner edges = map (λ seg. record { seg = seg; owner = owner }) edges

-- The edges of lines in order; the first line is at the given place.
abbrev pub edges_of_lines : ℕ → List (List Pt) → List OwnedEdge
edges_of_lines place [] = []
edges_of_lines place (line ∷ lines) = owned_by (Line place) (edges_of line) ++ edges_of_lines (place + 1) lines

-- The edges of rings of the area at a place, in order; the first ring is at the place `ring`.
abbrev pub edges_of_area_rings : ℕ → ℕ → List (List Pt) → List OwnedEdge
edges_of_area_rings place ring [] = []
edges_of_area_rings place ring (positions ∷ rings) =
    owned_by (Ring place ring) (edges_of positions) ++ edges_of_area_rings place (ring + 1) rings

-- The edges of areas in order, each area's shell first and then its holes; the first area is at the given place.
abbrev pub edges_of_areas : ℕ → List Area → List OwnedEdge
edges_of_areas place [] = []
edges_of_areas place (area ∷ areas) = edges_of_area_rings place 0 (rings_of area) ++ edges_of_areas (place + 1) areas

-- The edges of a figure in order: first of the lines, then of the areas.
abbrev pub edges_of_figure : Figure → List OwnedEdge
edges_of_figure f = edges_of_lines 0 f.lines ++ edges_of_areas 0 f.areas

-- An edge is the one at a place of a list, with its owner.
pub record IsEdgeAt (edges : List OwnedEdge) (place : ℕ) (edge : Edge) : Type 0 where
  pub is : IsAtPlace edges place (record { seg = edge.seg; owner = edge.owner })

-- A point strictly between the ends of an edge of an area that is on no other edge of the area.
pub record IsOnEdgeAlone (area : Area) (e : Seg) (p : Point) : Type 0 where
  pub between : IsStrictlyBetween (point_of e.a) (point_of e.b) p
  pub alone : (place : ℕ) (other : Seg) → IsAtPlace (edges_of_rings (rings_of area)) place other → IsOnEdge other p → other ≡ e

-- The inside of an area lies on one hand of one of its edges: from each point that is on this edge alone, the area's germ is
-- Interior along every direction to that hand, and Exterior along every direction to the other.
pub record IsAreaHand (area : Area) (e : Seg) (side : Hand) : Type 0 where
  pub sided : ¬ (side ≡ hand.Line)
  pub inside : (p : Point) → IsOnEdgeAlone area e p → (d : Direction) → PointsTo side e d → IsGerm area p d Interior
  pub outside : (p : Point) → IsOnEdgeAlone area e p → (d : Direction) → PointsTo (other_hand side) e d → IsGerm area p d Exterior

-- The hand of an edge of a figure: that of its area for an edge of a ring, and Line for an edge of a line.
abbrev pub HasHand : Figure → Owner → Seg → Hand → Type 0
HasHand f (Line place) e side = side ≡ hand.Line
HasHand f (Ring place ring) e side = (area : Area) → IsAtPlace f.areas place area → IsAreaHand area e side

-- The least whole box that holds the edge has a common point with a window.
pub record MeetsWindow (w : Window) (e : Seg) : Type 0 where
  pub box : Window
  pub least : IsLeastWindow (IsOnEdge e) box
  pub common : HasCommonPoint box w

-- The edge at a place of a list meets a window.
pub record MeetsAtPlace (w : Window) (edges : List OwnedEdge) (place : ℕ) : Type 0 where
  pub edge : OwnedEdge
  pub edge_is : IsAtPlace edges place edge
  pub meets : MeetsWindow w edge.seg

-- Exactly the places of the edges that meet a window, ascending.
pub record ArePlacesIn (w : Window) (edges : List OwnedEdge) (places : List ℕ) : Type 0 where
  pub ascending : IsStrictlyIncreasing places
  pub meet : All (MeetsAtPlace w edges) places
  pub whole : (place : ℕ) → MeetsAtPlace w edges place → Contains places place

-- The end towards which an edge is walked, forward or backward, the other end, and the hand of that way.
abbrev pub far_end : Bool → Seg → Pt
far_end true e = e.b
far_end false e = e.a

abbrev pub near_end : Bool → Seg → Pt
near_end true e = e.a
near_end false e = e.b

abbrev pub hand_of_way : Bool → Hand → Hand
hand_of_way true side = side
hand_of_way false side = other_hand side

-- The area of an edge's owner.
abbrev pub area_of : Owner → Option ℕ
area_of (Line place) = None
area_of (Ring place ring) = Some place
