-- The nodes of two figures, and the edge directions at a point.
use Rattle.std.specs.Prelude.{◌≡◌, true, ℕ, ◌⊎◌, List, [], ◌∷◌, ◌++◌, map}
use Rattle.std.specs.List.{All}
use Rattle.plane_laws.specs.Plane.{Point, IsSamePoint}
use Rattle.plane_exact.specs.Places.{point_of}
use Rattle.plane_laws.specs.Directions.{Direction}
use Rattle.plane_exact.specs.Orders.{direction_of}
use Rattle.plane_exact.specs.declared.point.Pt.{Pt}
use Rattle.plane_exact.specs.declared.point.Seg.{Seg}
use Rattle.plane_exact.specs.declared.dir.Dir.{Dir}
use Rattle.point_set.specs.declared.figure.Area.{Area}
use Rattle.point_set.specs.declared.figure.Figure.{Figure}
use Rattle.point_set.specs.Edges.{edges_of_figure}
use Rattle.point_set.specs.Lines.{is_at_some}
use Rattle.point_set.specs.Location.{rings_of}
use Rattle.point_set.specs.Rings.{is_on_edge}
use Rattle.point_set.specs.Shape.{has_item}
use Rattle.plane_laws.specs.Along.{IsInCone}
use Rattle.point_set.specs.Sectors.{AreRaysAt, IsLowest}
use Rattle.point_set.specs.Validity.{IsAtPlace, IsOnEdge}

-- The positions of several ways, in order.
abbrev pub positions_of_ways : List (List Pt) → List Pt
positions_of_ways [] = []
positions_of_ways (way ∷ ways) = way ++ positions_of_ways ways

-- The rings of several areas, in order.
abbrev pub rings_of_areas : List Area → List (List Pt)
rings_of_areas [] = []
rings_of_areas (area ∷ areas) = rings_of area ++ rings_of_areas areas

-- All positions of a figure: its points, and those of its lines and its rings.
abbrev pub all_positions : Figure → List Pt
all_positions f = f.points ++ (positions_of_ways f.lines ++ positions_of_ways (rings_of_areas f.areas))

-- The segments of a figure's edges, in order.
abbrev pub segs_of : Figure → List Seg
segs_of f = map (λ edge. edge.seg) (edges_of_figure f)

-- The edges of two figures together, those of the first before those of the second.
abbrev pub segs_of_both : Figure → Figure → List Seg
segs_of_both a b = segs_of a ++ segs_of b

-- A point is on both edges, and is the only one.
pub record IsOnlyCommonPoint (e f : Seg) (v : Point) : Type 0 where
  pub on_e : IsOnEdge e v
  pub on_f : IsOnEdge f v
  pub only : (p : Point) → IsOnEdge e p → IsOnEdge f p → IsSamePoint p v

-- A point is the only common point of an edge of one list and an edge of another.
pub record IsCrossing (edges others : List Seg) (v : Point) : Type 0 where
  pub i : ℕ
  pub j : ℕ
  pub e : Seg
  pub f : Seg
  pub e_is : IsAtPlace edges i e
  pub f_is : IsAtPlace others j f
  pub meet : IsOnlyCommonPoint e f v

-- A node of two figures: a position of one of them, or the only common point of two edges out of both figures' edges.
pub data IsNode (a b : Figure) (v : Point) : Type 0 where
  position : is_at_some v (all_positions a ++ all_positions b) ≡ true → IsNode a b v
  crossing : IsCrossing (segs_of_both a b) (segs_of_both a b) v → IsNode a b v

-- The few nodes: the positions, the crossings of an edge of the one figure and an edge of the other, and those of two edges
-- of one figure that has areas.
pub data IsFewNode (a b : Figure) (v : Point) : Type 0 where
  position : is_at_some v (all_positions a ++ all_positions b) ≡ true → IsFewNode a b v
  between : IsCrossing (segs_of a) (segs_of b) v → IsFewNode a b v
  of_a : has_item a.areas ≡ true → IsCrossing (segs_of a) (segs_of a) v → IsFewNode a b v
  of_b : has_item b.areas ≡ true → IsCrossing (segs_of b) (segs_of b) v → IsFewNode a b v

-- One of the edges holds v and has an end that isn't v, in a direction d from v.
pub record RunsFrom (v : Point) (edges : List Seg) (d : Direction) : Type 0 where
  pub place : ℕ
  pub edge : Seg
  pub edge_is : IsAtPlace edges place edge
  pub holds : is_on_edge v edge ≡ true
  pub leads : IsInCone v d d (point_of edge.a) ⊎ IsInCone v d d (point_of edge.b)

-- The edge directions at v of some edges, each in lowest terms, in the order of their angles: these and no others.
pub record AreEdgeDirections (v : Point) (edges : List Seg) (rays : List Dir) : Type 0 where
  pub rays_at : AreRaysAt v edges rays
  pub only : All (λ ray. RunsFrom v edges (direction_of ray)) rays
  pub lowest : All IsLowest rays
