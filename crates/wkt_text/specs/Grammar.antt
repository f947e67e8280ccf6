-- The grammar: what a geometry's text says, as a tree.
use Rattle.std.specs.Prelude.{ℕ, Option, List}
use Rattle.wkt_text.specs.declared.word.TypeWord.{TypeWord}
use Rattle.wkt_text.specs.declared.word.TypeWord.TheVariants as type
use Rattle.wkt_text.specs.declared.word.Tag.{Tag}
use Rattle.wkt_text.specs.declared.word.Tag.TheVariants.{Plain, Z, M, Zm}
use Rattle.wkt_text.specs.declared.number.Numeral.{Numeral}

-- A third or fourth ordinate.
pub data Ordinate : Type 0 where
  number : Numeral → Ordinate
  nan : Ordinate

-- The ordinates after the second: none, one or two without a tag, one with Z or M, two with ZM.
abbrev pub More : Tag → Type 0
More Plain = Option (Ordinate × Option Ordinate)
More Z = Ordinate
More M = Ordinate
More Zm = Ordinate × Ordinate

pub record Position (tag : Tag) : Type 0 where
  pub x : Numeral
  pub y : Numeral
  pub more : More tag

-- A line or a ring: EMPTY, or positions in brackets. A list isn't empty, so its first item stands apart.
pub data Way (tag : Tag) : Type 0 where
  empty_way : Way tag
  along : Position tag → List (Position tag) → Way tag

-- An element of a MULTIPOINT: EMPTY, a position, or a position in brackets.
pub data Element (tag : Tag) : Type 0 where
  empty_element : Element tag
  bare : Position tag → Element tag
  bracketed : Position tag → Element tag

-- A polygon: EMPTY; or an EMPTY shell and so many further EMPTY rings; or a shell and holes, which may be EMPTY.
pub data Surface (tag : Tag) : Type 0 where
  empty_surface : Surface tag
  hollow : ℕ → Surface tag
  area : Position tag → List (Position tag) → List (Way tag) → Surface tag

-- The bodies of a MULTI type: EMPTY, or items in brackets.
pub data Many (A : Type 0) : Type 0 where
  empty_many : Many A
  several : A → List A → Many A

-- The types but for GEOMETRYCOLLECTION, each with its body.
pub data Simple (tag : Tag) : Type 0 where
  empty_point : Simple tag
  point : Position tag → Simple tag
  line : Way tag → Simple tag
  polygon : Surface tag → Simple tag
  points : Many (Element tag) → Simple tag
  lines : Many (Way tag) → Simple tag
  polygons : Many (Surface tag) → Simple tag

-- How a tag is written: joined to the type word, or as a word of its own. No tag is a joined tag without letters.
pub data Writing : Type 0 where
  joined : Tag → Writing
  apart : Tag → Writing

abbrev pub tag_of_writing : Writing → Tag
tag_of_writing (joined t) = t
tag_of_writing (apart t) = t

-- A geometry. The tag of a collection says nothing of its elements.
mutual
  pub data Geometry : Type 0 where
    simple : (w : Writing) → Simple (tag_of_writing w) → Geometry
    empty_collection : Writing → Geometry
    collection : Writing → Geometry → Geometries → Geometry

  pub data Geometries : Type 0 where
    none : Geometries
    more : Geometry → Geometries → Geometries

-- The type word of a body.
abbrev pub type_of_simple : {tag : Tag} → Simple tag → TypeWord
type_of_simple empty_point = type.Point
type_of_simple (point p) = type.Point
type_of_simple (line w) = type.LineString
type_of_simple (polygon s) = type.Polygon
type_of_simple (points es) = type.MultiPoint
type_of_simple (lines ws) = type.MultiLineString
type_of_simple (polygons ss) = type.MultiPolygon
