-- Where an edge runs on from a point into a part of an area.
use Rattle.std.specs.Prelude.{◌≡◌, ℕ, true, List}
use Rattle.std.specs.List.{Any}
use Rattle.im_matrix.specs.declared.Loc.{Loc}
use Rattle.plane_exact.specs.Places.{point_of}
use Rattle.plane_exact.specs.declared.point.Pt.{Pt}
use Rattle.plane_exact.specs.declared.point.Seg.{Seg}
use Rattle.plane_laws.specs.Along.{IsInCone}
use Rattle.plane_laws.specs.Directions.{Direction}
use Rattle.plane_laws.specs.Plane.{Point}
use Rattle.point_set.specs.declared.edge.Edge.{Edge}
use Rattle.point_set.specs.declared.figure.Area.{Area}
use Rattle.point_set.specs.Germ.{IsGerm}
use Rattle.point_set.specs.Location.{location}
use Rattle.point_set.specs.Rings.{is_on_edges}
use Rattle.point_set.specs.Validity.{IsAtPlace, IsOnEdge, ShareSegment}
use Rattle.valid_laws.specs.Entering.{edges_in, RunsAlong}

-- From a point that an edge holds, and that isn't its end, the edge runs on into a part of an area.
pub record RunsOn (e : Seg) (area : Area) (part : Loc) (v : Point) : Type 0 where
  pub on : IsOnEdge e v
  pub way : Direction
  pub toward : IsInCone v way way (point_of e.b)
  pub germ : IsGerm area v way part

-- The same from a point of another edge.
pub record RunsOnFrom (e f : Seg) (area : Area) (part : Loc) : Type 0 where
  pub v : Point
  pub there : IsOnEdge f v
  pub runs : RunsOn e area part v

-- The same from a point of the edge of the row at a place.
pub record RunsOnFromRow (e : Seg) (rows : List Edge) (area : Area) (part : Loc) (place : ℕ) : Type 0 where
  pub row : Edge
  pub row_is : IsAtPlace rows place row
  pub from : RunsOnFrom e row.seg area part

-- The edge of the row at a place runs on so from a point of another edge.
pub record RunsOnAtPlace (rows : List Edge) (f : Seg) (area : Area) (part : Loc) (place : ℕ) : Type 0 where
  pub row : Edge
  pub row_is : IsAtPlace rows place row
  pub from : RunsOnFrom row.seg f area part

-- The edge of some row runs on so from a point of the edge of another row.
abbrev pub SomeRunsOnFrom : List Edge → Area → Loc → Edge → Type 0
SomeRunsOnFrom rows area part other = Any (λ row. RunsOnFrom row.seg other.seg area part) rows

-- The same from some point of the area's edges.
pub record RunsInto (area : Area) (part : Loc) (e : Seg) : Type 0 where
  pub v : Point
  pub there : is_on_edges v (edges_in area) ≡ true
  pub runs : RunsOn e area part v

-- An edge has no segment in common with an edge of the area.
abbrev pub IsUnshared : Area → Seg → Type 0
IsUnshared area e = (place : ℕ) (f : Seg) → IsAtPlace (edges_in area) place f → ¬ ShareSegment e f

-- None of the area's edges runs from a point along a direction.
abbrev pub IsFree : Area → Point → Direction → Type 0
IsFree area v d = (place : ℕ) (f : Seg) → IsAtPlace (edges_in area) place f → ¬ RunsAlong v d f

-- The first position of a ring lies so in an area.
abbrev pub BeginsIn : List Pt → Area → Loc → Type 0
BeginsIn ring area part = (p : Pt) → IsAtPlace ring 0 p → location area (point_of p) ≡ part
