-- What of an area its neighbours enter, and the laws that join this to the clauses over all points.
use Rattle.std.specs.Prelude.{◌≡◌, ◌≢◌, ℕ, ◌↔◌, ◌⊎◌, true, false, List, []}
use Rattle.std.specs.List.{All}
use Rattle.im_matrix.specs.declared.Loc.{Loc}
use Rattle.im_matrix.specs.declared.Loc.TheVariants.{Interior, Boundary, Exterior}
use Rattle.plane_laws.specs.Directions.{Direction}
use Rattle.plane_exact.specs.Places.{point_of}
use Rattle.plane_laws.specs.Plane.{Point, IsSamePoint}
use Rattle.plane_exact.specs.declared.point.Pt.{Pt}
use Rattle.plane_exact.specs.declared.point.Seg.{Seg}
use Rattle.point_set.specs.declared.edge.Hand.TheVariants as hand
use Rattle.point_set.specs.declared.figure.Area.{Area}
use Rattle.point_set.specs.Rings.{edges_of, is_on_edge, is_on_edges, is_inside}
use Rattle.point_set.specs.Location.{location, rings_of, edges_of_rings}
use Rattle.point_set.specs.Shape.{IsRingShaped, IsAreaShaped}
use Rattle.plane_laws.specs.Along.{HoldsAlong, IsInCone}
use Rattle.point_set.specs.Germ.{IsGerm}
use Rattle.point_set.specs.Edges.{IsOnEdgeAlone}
use Rattle.point_set.specs.Validity.{IsAtPlace, CrossesItself, SomeRing, EdgesShareSegment, RingsShareSegment, HasHoleOutside}
use Rattle.point_set.specs.Validity.{HasHolesThatOverlap, AreasShareSegment, AreasOverlap}

-- The edges of an area's rings in order
abbrev pub edges_in : Area → List Seg
edges_in area = edges_of_rings (rings_of area)

-- The area that a ring bounds alone
abbrev pub disc_of : List Pt → Area
disc_of ring = record { shell = ring; holes = []; group = 0 }

-- A point on one of the edges lies in the area at the stated location
pub record Enters (edges : List Seg) (area : Area) (part : Loc) : Type 0 where
  pub x : Point
  pub on : is_on_edges x edges ≡ true
  pub lies : location area x ≡ part

-- The rings of an area are clean: what its first five clauses say, as one record
pub record IsClean (area : Area) : Type 0 where
  pub shaped : IsAreaShaped area
  pub simple : All (λ ring. ¬ CrossesItself ring) (rings_of area)
  pub unshared : ¬ RingsShareSegment area
  pub within : ¬ HasHoleOutside area
  pub unlapped : ¬ HasHolesThatOverlap area

-- A ring that the clauses on one ring leave
pub record IsSimpleRing (ring : List Pt) : Type 0 where
  pub shaped : IsRingShaped ring
  pub simple : ¬ CrossesItself ring

-- An end of an edge that holds v lies from v along d
pub record RunsAlong (v : Point) (d : Direction) (f : Seg) : Type 0 where
  pub on : is_on_edge v f ≡ true
  pub end : IsInCone v d d (point_of f.a) ⊎ IsInCone v d d (point_of f.b)

-- From a point inside one area that lies in a part of another: an edge of the one enters that part, or an edge of the other the inside.
abbrev pub LawReach : Type 0
LawReach =
    (one other : Area) → IsAreaShaped one → IsAreaShaped other → ¬ AreasShareSegment one other
    → (p : Point) → location one p ≡ Interior → (part : Loc) → part ≢ Boundary → location other p ≡ part
    → Enters (edges_in one) other part ⊎ Enters (edges_in other) one Interior

-- Along an edge of a clean area, near any of its points, no other edge of the area is met.
abbrev pub LawAlone : Type 0
LawAlone =
    (area : Area) → IsClean area → (i : ℕ) (e : Seg) → IsAtPlace (edges_in area) i e → (v : Point) (d : Direction) → RunsAlong v d e
    → HoldsAlong (IsOnEdgeAlone area e) v d

-- Where an edge of a clean area enters a part of another area, some point inside the one lies in that part.
abbrev pub LawBeside : Type 0
LawBeside =
    (one other : Area) → IsClean one → IsAreaShaped other → (part : Loc) → part ≢ Boundary
    → Enters (edges_in one) other part → (p : Point) × (location one p ≡ Interior) × (location other p ≡ part)

-- No edge runs on from a point of the area's edges into the part
abbrev pub IsHeldOut : List Seg → Area → Loc → Type 0
IsHeldOut edges area part =
    (i : ℕ) (e : Seg) → IsAtPlace edges i e → (v : Point) → is_on_edge v e ≡ true → is_on_edges v (edges_in area) ≡ true
    → (d : Direction) → IsInCone v d d (point_of e.b) → ¬ IsGerm area v d part

-- A ring whose first position does not lie in the part, and of which no edge runs on into it, does not enter it.
abbrev pub LawWalk : Type 0
LawWalk =
    (ring : List Pt) (area : Area) → IsSimpleRing ring → IsAreaShaped area → (part : Loc) → part ≢ Boundary
    → ((e : Seg) → IsAtPlace (edges_of ring) 0 e → location area (point_of e.a) ≢ part)
    → IsHeldOut (edges_of ring) area part → ¬ Enters (edges_of ring) area part

-- A point is inside the hole and not inside the shell
pub record LeavesShell (shell hole : List Pt) : Type 0 where
  pub p : Point
  pub in_hole : is_inside p hole ≡ true
  pub off_shell : is_inside p shell ≡ false

-- Some point is inside both rings.
pub record AreBothInside (one other : List Pt) : Type 0 where
  pub p : Point
  pub in_one : is_inside p one ≡ true
  pub in_other : is_inside p other ≡ true

-- A hole leaves the shell exactly where its edges enter the outside of the shell, or those of the shell the inside of the hole.
abbrev pub LawHoleOutside : Type 0
LawHoleOutside =
    (shell hole : List Pt) → IsSimpleRing shell → IsSimpleRing hole → ¬ EdgesShareSegment (edges_of shell) (edges_of hole)
    → LeavesShell shell hole ↔ (Enters (edges_of hole) (disc_of shell) Exterior ⊎ Enters (edges_of shell) (disc_of hole) Interior)

-- Two holes overlap exactly where the edges of one enter the inside of the other.
abbrev pub LawHolesOverlap : Type 0
LawHolesOverlap =
    (one other : List Pt) → IsSimpleRing one → IsSimpleRing other → ¬ EdgesShareSegment (edges_of one) (edges_of other)
    → AreBothInside one other ↔ (Enters (edges_of one) (disc_of other) Interior ⊎ Enters (edges_of other) (disc_of one) Interior)

-- Two areas overlap exactly where the edges of one enter the inside of the other.
abbrev pub LawElementsOverlap : Type 0
LawElementsOverlap =
    (one other : Area) → IsClean one → IsClean other → ¬ AreasShareSegment one other
    → AreasOverlap one other ↔ (Enters (edges_in one) other Interior ⊎ Enters (edges_in other) one Interior)

-- The edges of an area enter a part exactly where those of one of its rings do
abbrev pub LawRingEnters : Type 0
LawRingEnters =
    (area other : Area) (part : Loc) → Enters (edges_in area) other part ↔ SomeRing (λ ring. Enters (edges_of ring) other part) area

-- The two ends of an edge are two points.
abbrev pub LawMoving : Type 0
LawMoving = (area : Area) (i : ℕ) (e : Seg) → IsAtPlace (edges_in area) i e → ¬ IsSamePoint (point_of e.a) (point_of e.b)
