-- Areas and rings with the rows of their edges.
use Rattle.std.specs.Prelude.{◌≡◌, ℕ, ◌<◌, ◌≤◌, List, Option, IfSome}
use Rattle.std.specs.List.{All}
use Rattle.plane_exact.specs.declared.point.Pt.{Pt}
use Rattle.plane_exact.specs.declared.point.Seg.{Seg}
use Rattle.point_set.specs.declared.edge.Edge.{Edge}
use Rattle.point_set.specs.declared.figure.Area.{Area}
use Rattle.point_set.specs.Location.{rings_of}
use Rattle.point_set.specs.Shape.{IsAreaShaped, positions_of_area}
use Rattle.point_set.specs.Validity.{IsAtPlace, HasTooFewPoints, HasTouchCycle, RingsShareSegment}
use Rattle.valid_laws.specs.Entering.{disc_of, IsClean, IsSimpleRing, AreBothInside}
use Rattle.area_entry.specs.Grounds.{AreRowsOf}
use Rattle.area_entry.specs.RowSections.{AreOfOneArea, IsRowSound, segs_of_rows}

-- A ring that doesn't cross itself, and the rows of its edges, read as those of the area inside it.
pub record IsDisc (ring : List Pt) (rows : List Edge) : Type 0 where
  pub simple : IsSimpleRing ring
  pub rows_are : AreRowsOf (disc_of ring) rows
  pub sound : All IsRowSound rows
  pub one_area : AreOfOneArea rows

-- The edges of an index over heights, where there is one, are those of rows.
abbrev pub AreHeightsOf : List Edge → Option (List Seg) → Type 0
AreHeightsOf rows heights = IfSome heights (λ segs. segs ≡ segs_of_rows rows)

-- The same ring and rows, with such an index.
pub record IsLocatedDisc (ring : List Pt) (rows : List Edge) (heights : Option (List Seg)) : Type 0 where
  pub disc : IsDisc ring rows
  pub heights_are : AreHeightsOf rows heights

-- The rings of an area, which has no more positions than a figure can have. No two rings have a common segment.
pub record AreRingsOf (area : Area) (shell : List Pt) (holes : List (List Pt)) : Type 0 where
  pub few : positions_of_area area ≤ 1048576
  pub shaped : IsAreaShaped area
  pub shell_is : shell ≡ area.shell
  pub holes_are : holes ≡ area.holes
  pub unshared : ¬ RingsShareSegment area

-- A clean area of which each ring has three distinct positions and the rings touch in no cycle, with no more positions than a figure
-- can have.
pub record IsSoundArea (area : Area) : Type 0 where
  pub few : positions_of_area area ≤ 1048576
  pub clean : IsClean area
  pub enough : All (λ ring. ¬ HasTooFewPoints ring) (rings_of area)
  pub joined : ¬ HasTouchCycle area

-- A clean area, and the rows of its edges.
pub record IsSoundWith (area : Area) (rows : List Edge) : Type 0 where
  pub sound : IsSoundArea area
  pub rows_are : AreRowsOf area rows
  pub sound_rows : All IsRowSound rows
  pub one_area : AreOfOneArea rows

-- The same area and rows, with such an index.
pub record IsLocatedArea (area : Area) (rows : List Edge) (heights : Option (List Seg)) : Type 0 where
  pub sound : IsSoundWith area rows
  pub heights_are : AreHeightsOf rows heights

-- Some point is inside the ring at a place of a list and inside an earlier one.
pub record OverlapsEarlierHole (holes : List (List Pt)) (place : ℕ) : Type 0 where
  pub before : ℕ
  pub earlier : before < place
  pub one : List Pt
  pub other : List Pt
  pub one_is : IsAtPlace holes before one
  pub other_is : IsAtPlace holes place other
  pub both : AreBothInside one other
