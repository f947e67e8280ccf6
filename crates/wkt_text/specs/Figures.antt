-- What figure a geometry says, by its tree alone.
use Rattle.std.specs.Prelude.{ℕ, suc, ℤ, pos, List, [], ◌∷◌, ◌++◌, map}
use Rattle.std.specs.List.{flat_map}
use Rattle.plane_exact.specs.declared.point.Pt.{Pt}
use Rattle.point_set.specs.declared.figure.Area.{Area}
use Rattle.point_set.specs.declared.figure.Figure.{Figure}
use Rattle.wkt_text.specs.declared.word.Tag.{Tag}
use Rattle.wkt_text.specs.declared.number.Numeral.{Numeral}
use Rattle.wkt_text.specs.declared.number.Numeral.TheVariants.{Whole}
use Rattle.wkt_text.specs.Grammar.{Position, Way, empty_way, along, Element, empty_element, bare, bracketed, Surface, empty_surface, hollow}
use Rattle.wkt_text.specs.Grammar.{area, Many, empty_many, several, Simple, point, line, polygon, points, lines, polygons, tag_of_writing}
use Rattle.wkt_text.specs.Grammar.{Geometry, simple, empty_collection, collection, Geometries, none, more}

-- The coordinate that a number is. One without a whole value within the limit is given 0: the rules exclude it.
abbrev pub coordinate_of : Numeral → ℤ
coordinate_of (Whole z) = z
coordinate_of other = pos 0

-- The point of a position. Third and fourth ordinates are dropped.
abbrev pub point_of_position : {tag : Tag} → Position tag → Pt
point_of_position p = record { x = coordinate_of p.x; y = coordinate_of p.y }

-- The line or ring of a way: its points in order. EMPTY gives none.
abbrev pub paths_of_way : {tag : Tag} → Way tag → List (List Pt)
paths_of_way empty_way = []
paths_of_way (along p ps) = map point_of_position (p ∷ ps) ∷ []

-- The point of an element of a MULTIPOINT, with brackets or without. EMPTY gives none.
abbrev pub points_of_element : {tag : Tag} → Element tag → List Pt
points_of_element empty_element = []
points_of_element (bare p) = point_of_position p ∷ []
points_of_element (bracketed p) = point_of_position p ∷ []

-- An area whose group has no number yet.
pub record Region : Type 0 where
  pub shell : List Pt
  pub holes : List (List Pt)

-- The area of a polygon. A polygon that is EMPTY or whose shell is EMPTY gives none; an EMPTY hole is dropped.
abbrev pub regions_of_surface : {tag : Tag} → Surface tag → List Region
regions_of_surface empty_surface = []
regions_of_surface (hollow n) = []
regions_of_surface (area p ps holes) = record { shell = map point_of_position (p ∷ ps); holes = flat_map paths_of_way holes } ∷ []

-- The items of a MULTI type.
abbrev pub items_of : {A : Type 0} → Many A → List A
items_of empty_many = []
items_of (several x xs) = x ∷ xs

-- The loose points: of a POINT and of a MULTIPOINT.
abbrev pub points_of_simple : {tag : Tag} → Simple tag → List Pt
points_of_simple (point p) = point_of_position p ∷ []
points_of_simple (points es) = flat_map points_of_element (items_of es)
points_of_simple other = []

-- The lines: of a LINESTRING and of a MULTILINESTRING.
abbrev pub lines_of_simple : {tag : Tag} → Simple tag → List (List Pt)
lines_of_simple (line w) = paths_of_way w
lines_of_simple (lines ws) = flat_map paths_of_way (items_of ws)
lines_of_simple other = []

-- The areas: of a POLYGON and of a MULTIPOLYGON. They are one group.
abbrev pub regions_of_simple : {tag : Tag} → Simple tag → List Region
regions_of_simple (polygon s) = regions_of_surface s
regions_of_simple (polygons ss) = flat_map regions_of_surface (items_of ss)
regions_of_simple other = []

-- A geometry that is no collection, with its tag.
abbrev pub Part : Type 0
Part = (tag : Tag) × Simple tag

-- The parts of a geometry: itself, or those of a collection's elements, one element after the other.
abbrev mutual
  pub parts_of : Geometry → List Part
  parts_of (simple w s) = (tag_of_writing w, s) ∷ []
  parts_of (empty_collection w) = []
  parts_of (collection w g gs) = parts_of g ++ parts_of_all gs

  pub parts_of_all : Geometries → List Part
  parts_of_all none = []
  parts_of_all (more g gs) = parts_of g ++ parts_of_all gs

-- What a part gives.
abbrev pub points_of_part : Part → List Pt
points_of_part p = points_of_simple p.1

abbrev pub lines_of_part : Part → List (List Pt)
lines_of_part p = lines_of_simple p.1

abbrev pub regions_of_part : Part → List Region
regions_of_part p = regions_of_simple p.1

-- The area of the group with this number.
abbrev pub area_of : ℕ → Region → Area
area_of group r = record { shell = r.shell; holes = r.holes; group = group }

-- The areas of groups, numbered from this number on. A group without an area takes no number.
abbrev pub numbered : ℕ → List (List Region) → List Area
numbered n [] = []
numbered n ([] ∷ groups) = numbered n groups
numbered n ((r ∷ rs) ∷ groups) = map (area_of n) (r ∷ rs) ++ numbered (suc n) groups

-- The figure: the points, the lines and the areas of all parts, one after the other. The groups that have an area are numbered
-- from 0 in the order of their first areas.
unfoldable pub figure_of : Geometry → Figure
figure_of g = record {
  points = flat_map points_of_part (parts_of g);
  lines = flat_map lines_of_part (parts_of g);
  areas = numbered 0 (map regions_of_part (parts_of g));
}
