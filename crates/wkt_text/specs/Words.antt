-- Words: maximal runs of letters, read in any case.
use Rattle.std.specs.Prelude.{ℕ, ◌+◌, Bool, true, slice_range, is_some, ◌||◌, ◌&&◌, ◌==◌, if◌then◌else◌, Option, Some, None, option_map}
use Rattle.std.specs.Prelude.{option_and_then, List, [], ◌∷◌, drop, take_while, codes}
use Rattle.std.specs.List.{prefix_len}
use Rattle.std.specs.Char.{to_ascii_uppercase}
use Rattle.wkt_text.specs.Bytes.{in_class, is_white}
use Rattle.wkt_text.specs.declared.runs.Class.TheVariants.{White, Letter}
use Rattle.wkt_text.specs.declared.word.TypeWord.{TypeWord}
use Rattle.wkt_text.specs.declared.word.TypeWord.TheVariants.{Point, LineString, Polygon, MultiPoint, MultiLineString, MultiPolygon}
use Rattle.wkt_text.specs.declared.word.TypeWord.TheVariants.{GeometryCollection}
use Rattle.wkt_text.specs.declared.word.Tag.{Tag}
use Rattle.wkt_text.specs.declared.word.Tag.TheVariants.{Plain, Z, M, Zm}

-- What follows a name of capitals where a word begins with it.
abbrev pub after_name : List ℕ → List ℕ → Option (List ℕ)
after_name [] word = Some word
after_name (n ∷ name) [] = None
after_name (n ∷ name) (b ∷ word) = if to_ascii_uppercase b == n then after_name name word else None

-- The tag that letters are: none, Z, M or ZM.
abbrev pub tag_of : List ℕ → Option Tag
tag_of [] = Some Plain
tag_of (a ∷ []) = if (a == 90) || (a == 122) then Some Z else (if (a == 77) || (a == 109) then Some M else None)
tag_of (a ∷ b ∷ []) = if ((a == 90) || (a == 122)) && ((b == 77) || (b == 109)) then Some Zm else None
tag_of (a ∷ b ∷ c ∷ letters) = None

-- A type with the letters after its name, where there is such a name; else the next try.
abbrev pub or_else : TypeWord → Option (List ℕ) → Option (TypeWord × List ℕ) → Option (TypeWord × List ℕ)
or_else type (Some letters) next = Some (type, letters)
or_else type None next = next

-- The type with whose name a word begins, and the letters after it. No name begins another.
abbrev pub split_type : List ℕ → Option (TypeWord × List ℕ)
split_type word =
    or_else Point (after_name (codes "POINT") word)
    (or_else LineString (after_name (codes "LINESTRING") word)
    (or_else Polygon (after_name (codes "POLYGON") word)
    (or_else MultiPoint (after_name (codes "MULTIPOINT") word)
    (or_else MultiLineString (after_name (codes "MULTILINESTRING") word)
    (or_else MultiPolygon (after_name (codes "MULTIPOLYGON") word)
    (or_else GeometryCollection (after_name (codes "GEOMETRYCOLLECTION") word) None))))))

-- The type and the tag that a word names, the tag joined to the type or left out.
abbrev pub type_of : List ℕ → Option (TypeWord × Tag)
type_of word = option_and_then (λ r. option_map (λ t. (r.0, t)) (tag_of r.1)) (split_type word)

-- The bytes from a place on, without the white space in front.
abbrev pub from_token : List ℕ → ℕ → List ℕ
from_token bytes at = let rest = drop at bytes in drop (prefix_len (in_class White) rest) rest

-- The type that the first token from a place on names, where it is a type word, with or without a joined tag.
abbrev pub type_at : List ℕ → ℕ → Option TypeWord
type_at bytes at = option_map (λ r. r.0) (type_of (take_while (in_class Letter) (from_token bytes at)))

-- Whether a word is a name in any case, with or without a joined tag.
abbrev pub is_named : List ℕ → List ℕ → Bool
is_named name word = is_some (option_and_then tag_of (after_name name word))

-- The types of curves in other profiles, which aren't read.
abbrev pub is_unread_curve : List ℕ → Bool
is_unread_curve word =
    ((is_named (codes "CIRCULARSTRING") word || is_named (codes "COMPOUNDCURVE") word) || is_named (codes "MULTICURVE") word)
    || is_named (codes "LINEARRING") word

-- The types of surfaces in other profiles, which aren't read.
abbrev pub is_unread_surface : List ℕ → Bool
is_unread_surface word =
    (((is_named (codes "CURVEPOLYGON") word || is_named (codes "MULTISURFACE") word) || is_named (codes "TRIANGLE") word)
    || is_named (codes "TIN") word) || is_named (codes "POLYHEDRALSURFACE") word

-- Whether a word is the type of a geometry, read or not.
abbrev pub is_type_name : List ℕ → Bool
is_type_name word = (is_some (type_of word) || is_unread_curve word) || is_unread_surface word

-- Whether a word may end before these bytes: they are none, or begin with white space or an opening bracket.
abbrev pub is_delimited_so : List ℕ → Bool
is_delimited_so [] = true
is_delimited_so (b ∷ rest) = is_white b || (b == 40)

-- Whether a value is a geometry's text and no file's name: after white space or none it begins with letters that name a
-- type, read or not, and then ends, or has white space or an opening bracket.
abbrev pub is_text : List ℕ → Bool
is_text value =
    let start = prefix_len (in_class White) value in
    let end = start + prefix_len (in_class Letter) (drop start value) in
    is_type_name (slice_range value start end) && is_delimited_so (drop end value)
