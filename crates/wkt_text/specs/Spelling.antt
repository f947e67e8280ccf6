-- How a geometry's tree is spelled, token by token, each with its rule. Each part is spelled in front of what follows it.
use Rattle.std.specs.Prelude.{ℕ, zero, suc, Option, Some, None, List, [], ◌∷◌, map}
use Rattle.plane_exact.specs.declared.point.Pt.{Pt}
use Rattle.wkt_text.specs.declared.word.TypeWord.{TypeWord}
use Rattle.wkt_text.specs.declared.word.TypeWord.TheVariants as type
use Rattle.wkt_text.specs.declared.word.Tag.{Tag}
use Rattle.wkt_text.specs.declared.word.Tag.TheVariants.{Plain, Z, M, Zm}
use Rattle.wkt_text.specs.declared.token.Token.{Token}
use Rattle.wkt_text.specs.declared.token.Token.TheVariants as token
use Rattle.wkt_text.specs.Grammar.{Ordinate, number, nan, More, Position, Way, empty_way, along, Element, empty_element, bare, bracketed}
use Rattle.wkt_text.specs.Grammar.{Surface, empty_surface, hollow, area, Many, empty_many, several, Simple, empty_point, point, line}
use Rattle.wkt_text.specs.Grammar.{polygon, points, lines, polygons, Writing, joined, apart, Geometry, simple, empty_collection, collection}
use Rattle.wkt_text.specs.Grammar.{Geometries, none, more, type_of_simple}
use Rattle.wkt_text.specs.Figures.{point_of_position}
use Rattle.wkt_text.specs.Rules.{TokenRule, unruled, nested, first, second, demanded, further, ends_line, ends_ring, Slot, slot}

abbrev pub ordinate_token : Ordinate → Token
ordinate_token (number n) = token.Number n
ordinate_token nan = token.Nan

-- The ordinates after the second.
abbrev pub ordinate_then : TokenRule → Ordinate → List Slot → List Slot
ordinate_then rule o rest = slot (ordinate_token o) rule ∷ rest

abbrev pub further_then : Option Ordinate → List Slot → List Slot
further_then None rest = rest
further_then (Some o) rest = ordinate_then further o rest

abbrev pub more_then : (tag : Tag) → More tag → List Slot → List Slot
more_then Plain None rest = rest
more_then Plain (Some m) rest = ordinate_then further m.0 (further_then m.1 rest)
more_then Z m rest = ordinate_then demanded m rest
more_then M m rest = ordinate_then demanded m rest
more_then Zm m rest = ordinate_then demanded m.0 (ordinate_then demanded m.1 rest)

abbrev pub position_then : {tag : Tag} → Position tag → List Slot → List Slot
position_then {tag} p rest = slot (token.Number p.x) first ∷ slot (token.Number p.y) second ∷ more_then tag p.more rest

-- Further items of a list, each after a comma.
abbrev pub others_then : {A : Type 0} → (A → List Slot → List Slot) → List A → List Slot → List Slot
others_then spell [] rest = rest
others_then spell (x ∷ xs) rest = slot token.Comma unruled ∷ spell x (others_then spell xs rest)

-- Positions in brackets, and the rule of the bracket that ends them.
abbrev pub along_then : {tag : Tag} → (List Pt → TokenRule) → Position tag → List (Position tag) → List Slot → List Slot
along_then end p ps rest =
    let closed = slot token.Close (end (map point_of_position (p ∷ ps))) ∷ rest in
    slot token.Open unruled ∷ position_then p (others_then position_then ps closed)

abbrev pub gap_then : List Slot → List Slot
gap_then rest = slot token.Empty unruled ∷ rest

abbrev pub way_then : {tag : Tag} → (List Pt → TokenRule) → Way tag → List Slot → List Slot
way_then end empty_way rest = gap_then rest
way_then end (along p ps) rest = along_then end p ps rest

abbrev pub element_then : {tag : Tag} → Element tag → List Slot → List Slot
element_then empty_element rest = gap_then rest
element_then (bare p) rest = position_then p rest
element_then (bracketed p) rest = slot token.Open unruled ∷ position_then p (slot token.Close unruled ∷ rest)

-- So many EMPTY rings, each after a comma.
abbrev pub gaps_then : ℕ → List Slot → List Slot
gaps_then zero rest = rest
gaps_then (suc n) rest = slot token.Comma unruled ∷ gap_then (gaps_then n rest)

abbrev pub surface_then : {tag : Tag} → Surface tag → List Slot → List Slot
surface_then empty_surface rest = gap_then rest
surface_then (hollow n) rest = slot token.Open unruled ∷ gap_then (gaps_then n (slot token.Close unruled ∷ rest))
surface_then (area p ps holes) rest =
    slot token.Open unruled ∷ along_then ends_ring p ps (others_then (way_then ends_ring) holes (slot token.Close unruled ∷ rest))

-- The items of a MULTI type.
abbrev pub many_then : {A : Type 0} → (A → List Slot → List Slot) → Many A → List Slot → List Slot
many_then spell empty_many rest = gap_then rest
many_then spell (several x xs) rest = slot token.Open unruled ∷ spell x (others_then spell xs (slot token.Close unruled ∷ rest))

abbrev pub simple_then : {tag : Tag} → Simple tag → List Slot → List Slot
simple_then empty_point rest = gap_then rest
simple_then (point p) rest = slot token.Open unruled ∷ position_then p (slot token.Close unruled ∷ rest)
simple_then (line w) rest = way_then ends_line w rest
simple_then (polygon s) rest = surface_then s rest
simple_then (points es) rest = many_then element_then es rest
simple_then (lines ws) rest = many_then (way_then ends_line) ws rest
simple_then (polygons ss) rest = many_then surface_then ss rest

-- The type word, and the tag.
abbrev pub head_then : TokenRule → TypeWord → Writing → List Slot → List Slot
head_then rule kind (joined t) rest = slot (token.Type kind t) rule ∷ rest
head_then rule kind (apart t) rest = slot (token.Type kind Plain) rule ∷ slot (token.Tag t) unruled ∷ rest

-- A geometry in so many collections, and further geometries, each after a comma.
abbrev mutual
  pub geometry_then : Geometry → ℕ → List Slot → List Slot
  geometry_then (simple w s) depth rest = head_then unruled (type_of_simple s) w (simple_then s rest)
  geometry_then (empty_collection w) depth rest = head_then (nested depth) type.GeometryCollection w (gap_then rest)
  geometry_then (collection w g gs) depth rest =
      let closed = slot token.Close unruled ∷ rest in
      head_then (nested depth) type.GeometryCollection w
      (slot token.Open unruled ∷ geometry_then g (suc depth) (geometries_then gs (suc depth) closed))

  pub geometries_then : Geometries → ℕ → List Slot → List Slot
  geometries_then none depth rest = rest
  geometries_then (more g gs) depth rest =
      slot token.Comma unruled ∷ geometry_then g depth (geometries_then gs depth rest)

-- The text of a geometry, token by token.
abbrev pub spelling : Geometry → List Slot
spelling g = geometry_then g 0 []
