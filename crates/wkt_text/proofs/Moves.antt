-- How the reader takes the tokens of a tree: each with its role. Each part stands in front of what follows it, as in its spelling.
use Rattle.std.proofs.Common.{ℕ, zero, suc, Option, Some, None, List, [], ◌∷◌, map}
use Rattle.wkt_text.specs.declared.word.TypeWord.{TypeWord}
use Rattle.wkt_text.specs.declared.word.TypeWord.TheVariants as type
use Rattle.wkt_text.specs.declared.word.Tag.{Tag}
use Rattle.wkt_text.specs.declared.word.Tag.TheVariants.{Plain, Z, M, Zm}
use Rattle.wkt_text.specs.declared.token.Token.{Token}
use Rattle.wkt_text.specs.declared.token.Token.TheVariants as token
use Rattle.wkt_text.specs.declared.state.Role.{Role}
use Rattle.wkt_text.specs.declared.state.Role.TheVariants.{Head, Mark, Group, X, PointY, WayY, Demanded, Further, EndLine, EndShell}
use Rattle.wkt_text.specs.declared.state.Role.TheVariants.{EndHole, EndArea}
use Rattle.wkt_text.specs.Machine.{depth_role}
use Rattle.wkt_text.specs.Grammar.{Ordinate, More, Position, Way, empty_way, along, Element, empty_element, bare, bracketed, Surface}
use Rattle.wkt_text.specs.Grammar.{empty_surface, hollow, area, Many, empty_many, several, Simple, empty_point, point, line, polygon}
use Rattle.wkt_text.specs.Grammar.{points, lines, polygons, Writing, joined, apart, Geometry, simple, empty_collection, collection}
use Rattle.wkt_text.specs.Grammar.{Geometries, none, more, type_of_simple}
use Rattle.wkt_text.specs.Spelling.{ordinate_token}

-- A token with its role.
abbrev pub Move : Type 0
Move = Token × Role

abbrev pub move : Token → Role → Move
move t r = (t, r)

abbrev pub tokens_in : List Move → List Token
tokens_in moves = map (λ x. x.0) moves

-- The ordinates after the second.

abbrev pub ordinate_then : Role → Ordinate → List Move → List Move
ordinate_then role o rest = move (ordinate_token o) role ∷ rest

abbrev pub further_then : Option Ordinate → List Move → List Move
further_then None rest = rest
further_then (Some o) rest = ordinate_then Further o rest

abbrev pub more_then : (tag : Tag) → More tag → List Move → List Move
more_then Plain None rest = rest
more_then Plain (Some m) rest = ordinate_then Further m.0 (further_then m.1 rest)
more_then Z m rest = ordinate_then Demanded m rest
more_then M m rest = ordinate_then Demanded m rest
more_then Zm m rest = ordinate_then Demanded m.0 (ordinate_then Demanded m.1 rest)

-- A position, its second ordinate being of a loose point or of a way.
abbrev pub position_then : {tag : Tag} → Role → Position tag → List Move → List Move
position_then {tag} second p rest = move (token.Number p.x) X ∷ move (token.Number p.y) second ∷ more_then tag p.more rest

-- Further items of a list, each after a comma.
abbrev pub others_then : {A : Type 0} → (A → List Move → List Move) → List A → List Move → List Move
others_then spell [] rest = rest
others_then spell (x ∷ xs) rest = move token.Comma Mark ∷ spell x (others_then spell xs rest)

-- Positions in brackets.
abbrev pub along_then : {tag : Tag} → Role → Position tag → List (Position tag) → List Move → List Move
along_then end p ps rest =
    move token.Open Mark ∷ position_then WayY p (others_then (position_then WayY) ps (move token.Close end ∷ rest))

abbrev pub gap_then : List Move → List Move
gap_then rest = move token.Empty Mark ∷ rest

abbrev pub way_then : {tag : Tag} → Role → Way tag → List Move → List Move
way_then end empty_way rest = gap_then rest
way_then end (along p ps) rest = along_then end p ps rest

abbrev pub element_then : {tag : Tag} → Element tag → List Move → List Move
element_then empty_element rest = gap_then rest
element_then (bare p) rest = position_then PointY p rest
element_then (bracketed p) rest = move token.Open Mark ∷ position_then PointY p (move token.Close Mark ∷ rest)

-- So many EMPTY rings, each after a comma.
abbrev pub gaps_then : ℕ → List Move → List Move
gaps_then zero rest = rest
gaps_then (suc n) rest = move token.Comma Mark ∷ gap_then (gaps_then n rest)

-- A polygon. Its opening bracket begins a group, unless it is one of a MULTIPOLYGON.
abbrev pub surface_then : {tag : Tag} → Role → Surface tag → List Move → List Move
surface_then opening empty_surface rest = gap_then rest
surface_then opening (hollow n) rest = move token.Open opening ∷ gap_then (gaps_then n (move token.Close Mark ∷ rest))
surface_then opening (area p ps holes) rest =
    move token.Open opening ∷ along_then EndShell p ps (others_then (way_then EndHole) holes (move token.Close EndArea ∷ rest))

abbrev pub many_then : {A : Type 0} → Role → (A → List Move → List Move) → Many A → List Move → List Move
many_then opening spell empty_many rest = gap_then rest
many_then opening spell (several x xs) rest = move token.Open opening ∷ spell x (others_then spell xs (move token.Close Mark ∷ rest))

abbrev pub simple_then : {tag : Tag} → Simple tag → List Move → List Move
simple_then empty_point rest = gap_then rest
simple_then (point p) rest = move token.Open Mark ∷ position_then PointY p (move token.Close Mark ∷ rest)
simple_then (line w) rest = way_then EndLine w rest
simple_then (polygon s) rest = surface_then Group s rest
simple_then (points es) rest = many_then Mark element_then es rest
simple_then (lines ws) rest = many_then Mark (way_then EndLine) ws rest
simple_then (polygons ss) rest = many_then Group (surface_then Mark) ss rest

-- The type word, and the tag.
abbrev pub head_then : Role → TypeWord → Writing → List Move → List Move
head_then role kind (joined t) rest = move (token.Type kind t) role ∷ rest
head_then role kind (apart t) rest = move (token.Type kind Plain) role ∷ move (token.Tag t) Mark ∷ rest

-- A geometry in so many collections, and further geometries, each after a comma.
abbrev mutual
  pub geometry_then : Geometry → ℕ → List Move → List Move
  geometry_then (simple w s) depth rest = head_then Head (type_of_simple s) w (simple_then s rest)
  geometry_then (empty_collection w) depth rest = head_then (depth_role depth) type.GeometryCollection w (gap_then rest)
  geometry_then (collection w g gs) depth rest =
      head_then (depth_role depth) type.GeometryCollection w
      (move token.Open Mark ∷ geometry_then g (suc depth) (geometries_then gs (suc depth) (move token.Close Mark ∷ rest)))

  pub geometries_then : Geometries → ℕ → List Move → List Move
  geometries_then none depth rest = rest
  geometries_then (more g gs) depth rest = move token.Comma Mark ∷ geometry_then g depth (geometries_then gs depth rest)

-- The course of the reader along the text of a geometry.
abbrev pub course : Geometry → List Move
course g = geometry_then g 0 []
