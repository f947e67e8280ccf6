-- Where a point lies in a figure. The union of areas, lines and points of a collection, and what hides what, is this
-- project's own reading.
use Rattle.std.specs.Prelude.{◌≡◌, Bool, true, false, ◌||◌, List, [], ◌∷◌, ◌++◌}
use Rattle.std.specs.List.{list_any}
use Rattle.im_matrix.specs.declared.Loc.{Loc}
use Rattle.im_matrix.specs.declared.Loc.TheVariants.{Interior, Boundary, Exterior}
use Rattle.plane_laws.specs.Plane.{Point, IsInTriangle, IsStrictlyInTriangle}
use Rattle.plane_exact.specs.declared.point.Pt.{Pt}
use Rattle.plane_exact.specs.declared.point.Seg.{Seg}
use Rattle.point_set.specs.declared.figure.Area.{Area}
use Rattle.point_set.specs.declared.figure.Figure.{Figure}
use Rattle.point_set.specs.declared.rule.Rule.{Rule}
use Rattle.point_set.specs.declared.dim_loc.DimLoc.{DimLoc}
use Rattle.point_set.specs.declared.dim_loc.DimLoc.TheVariants as kind
use Rattle.point_set.specs.Rings.{edges_of, is_on_edges, is_inside}
use Rattle.point_set.specs.Lines.{ends_of_lines, count_at, is_boundary_count, is_on_lines, is_at_some, is_at_still_line}

-- The rings of an area: its shell, and then its holes.
abbrev pub rings_of : Area → List (List Pt)
rings_of area = area.shell ∷ area.holes

-- The areas of a figure without its lines and points.
abbrev pub areas_alone : Figure → Figure
areas_alone f = record { points = []; lines = []; areas = f.areas }

-- The edges of several rings in order.
abbrev pub edges_of_rings : List (List Pt) → List Seg
edges_of_rings [] = []
edges_of_rings (ring ∷ rings) = edges_of ring ++ edges_of_rings rings

-- The location that three tests give: on an edge, inside the shell, inside a hole.
abbrev pub location_by : Bool → Bool → Bool → Loc
location_by true shell hole = Boundary
location_by false true false = Interior
location_by false true true = Exterior
location_by false false hole = Exterior

-- Where a point lies in one area (OGC 06-103r4, 6.1.11): Boundary on an edge of one of its rings, else Interior where it is
-- inside the shell and inside no hole, else Exterior.
abbrev pub location : Area → Point → Loc
location area p =
    location_by (is_on_edges p (edges_of_rings (rings_of area))) (is_inside p area.shell)
    (list_any (is_inside p) area.holes)

-- Whether a location is in the area or on its boundary.
abbrev pub is_not_exterior : Loc → Bool
is_not_exterior Interior = true
is_not_exterior Boundary = true
is_not_exterior Exterior = false

-- Whether one of the areas covers a point.
abbrev pub is_covered_by : Point → List Area → Bool
is_covered_by p areas = list_any (λ area. is_not_exterior (location area p)) areas

-- Whether the areas of a figure cover a point.
abbrev pub is_covered : Figure → Point → Bool
is_covered f p = is_covered_by p f.areas

-- A point is interior to the union of the areas: some triangle has it strictly in it and is covered whole.
pub record IsAreaInterior (f : Figure) (p : Point) : Type 0 where
  pub a : Point
  pub b : Point
  pub c : Point
  pub strictly : IsStrictlyInTriangle a b c p
  pub covered : (q : Point) → IsInTriangle a b c q → is_covered f q ≡ true

-- Whether a point is on an edge of a line of the figure.
abbrev pub is_on_line : Figure → Point → Bool
is_on_line f p = is_on_lines p f.lines

-- Whether the boundary node rule holds of the number of line ends at a point.
abbrev pub is_line_boundary : Figure → Rule → Point → Bool
is_line_boundary f rule p = is_boundary_count rule (count_at p (ends_of_lines f.lines))

-- Whether a point is at a point of the figure, or at the position of a line whose positions are all equal.
abbrev pub is_at_point : Figure → Point → Bool
is_at_point f p = is_at_some p f.points || is_at_still_line p f.lines

-- The kind of a point's location is that of the case that decides: areas before lines, and lines before points.
abbrev pub IsKind : Figure → Rule → Point → DimLoc → Type 0
IsKind f rule p kind.AreaInterior = IsAreaInterior f p
IsKind f rule p kind.AreaBoundary = (is_covered f p ≡ true) × (¬ IsAreaInterior f p)
IsKind f rule p kind.LineBoundary =
    (is_covered f p ≡ false) × (is_on_line f p ≡ true) × (is_line_boundary f rule p ≡ true)
IsKind f rule p kind.LineInterior =
    (is_covered f p ≡ false) × (is_on_line f p ≡ true) × (is_line_boundary f rule p ≡ false)
IsKind f rule p kind.PointInterior =
    (is_covered f p ≡ false) × (is_on_line f p ≡ false) × (is_at_point f p ≡ true)
IsKind f rule p kind.Exterior =
    (is_covered f p ≡ false) × (is_on_line f p ≡ false) × (is_at_point f p ≡ false)

-- The part of the plane that a kind of location belongs to.
abbrev pub part_of : DimLoc → Loc
part_of kind.AreaInterior = Interior
part_of kind.AreaBoundary = Boundary
part_of kind.LineInterior = Interior
part_of kind.LineBoundary = Boundary
part_of kind.PointInterior = Interior
part_of kind.Exterior = Exterior

-- Where a point lies in a figure: in the part to which the kind of its location belongs.
pub record IsLocation (f : Figure) (rule : Rule) (p : Point) (part : Loc) : Type 0 where
  pub decided_by : DimLoc
  pub decides : IsKind f rule p decided_by
  pub gives : part_of decided_by ≡ part
