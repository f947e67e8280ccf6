-- How the reader goes from token to token. Nothing that the crate promises is said by these words: see Grammar and Faults.
use Rattle.std.specs.Prelude.{ℕ, zero, suc, nat_lt, Bool, true, false, if◌then◌else◌, Option, Some, None, option_map}
use Rattle.wkt_text.specs.declared.word.TypeWord.{TypeWord}
use Rattle.wkt_text.specs.declared.word.TypeWord.TheVariants as type
use Rattle.wkt_text.specs.declared.word.Tag.{Tag}
use Rattle.wkt_text.specs.declared.word.Tag.TheVariants.{Plain, Z, M, Zm}
use Rattle.wkt_text.specs.declared.token.Token.{Token}
use Rattle.wkt_text.specs.declared.token.Token.TheVariants as token
use Rattle.wkt_text.specs.declared.state.Role.{Role}
use Rattle.wkt_text.specs.declared.state.Role.TheVariants.{Head, Deep, Mark, Group, X, PointY, WayY, Demanded, Further, EndLine, EndShell}
use Rattle.wkt_text.specs.declared.state.Role.TheVariants.{EndHole, EndArea}
use Rattle.wkt_text.specs.declared.state.Rings.TheVariants.{Shell, Hole, Hollow}
use Rattle.wkt_text.specs.declared.state.Membership.TheVariants.{Alone, Member}
use Rattle.wkt_text.specs.declared.state.RingKind.TheVariants as ring
use Rattle.wkt_text.specs.declared.state.Site.{Site}
use Rattle.wkt_text.specs.declared.state.Site.TheVariants as site
use Rattle.wkt_text.specs.declared.state.Step.{Step}
use Rattle.wkt_text.specs.declared.state.Step.TheVariants.{Start, Tagged, Body, Item, First, Second, Two, Three, After, Full, Done}
use Rattle.wkt_text.specs.declared.state.Control.{Control}
use Rattle.wkt_text.specs.declared.control.WktKind.{WktKind}
use Rattle.wkt_text.specs.Limits.{most_depth}
use Rattle.wkt_text.specs.declared.control.WktKind.TheVariants.{Syntax, UnknownType, Ragged}

-- What a token is for, and where the reader is after it; None where the token isn't allowed.
abbrev pub Next : Type 0
Next = Option (Role × Control)

abbrev pub is_done : Step → Bool
is_done Done = true
is_done other = false

abbrev pub to : Control → Step → Site → Control
to c step site = record { step = step; site = site; depth = c.depth; tag = c.tag }

-- After a geometry: the end of the text's geometry, or an item of a collection.
abbrev pub step_ended : ℕ → Step
step_ended zero = Done
step_ended (suc depth) = After

abbrev pub ended : Control → ℕ → Control
ended c depth = record { step = step_ended depth; site = site.Top; depth = depth; tag = c.tag }

abbrev pub step_tagged : TypeWord → Tag → Step
step_tagged kind Plain = Tagged kind
step_tagged kind Z = Body kind
step_tagged kind M = Body kind
step_tagged kind Zm = Body kind

-- The role of the type word of a collection in so many others.
abbrev pub depth_role : ℕ → Role
depth_role depth = if nat_lt depth most_depth then Head else Deep

abbrev pub started : Control → TypeWord → Tag → Role × Control
started c type.GeometryCollection tag =
    (depth_role c.depth, record { step = step_tagged type.GeometryCollection tag; site = c.site; depth = suc c.depth; tag = tag })
started c kind tag = (Head, record { step = step_tagged kind tag; site = c.site; depth = c.depth; tag = tag })

abbrev pub at_start : Control → Token → Next
at_start c (token.Type kind tag) = Some (started c kind tag)
at_start c other = None

abbrev pub opened : Control → TypeWord → Role × Control
opened c type.Point = (Mark, to c First site.Point)
opened c type.LineString = (Mark, to c First (site.Line Alone))
opened c type.Polygon = (Group, to c Item (site.Polygon Alone Shell))
opened c type.MultiPoint = (Mark, to c Item site.Points)
opened c type.MultiLineString = (Mark, to c Item site.Lines)
opened c type.MultiPolygon = (Group, to c Item site.Polygons)
opened c type.GeometryCollection = (Mark, to c Start site.Top)

-- One collection fewer.
abbrev pub outer : ℕ → ℕ
outer zero = zero
outer (suc depth) = depth

-- How many collections are open after a geometry of this type.
abbrev pub depth_after : TypeWord → ℕ → ℕ
depth_after type.GeometryCollection depth = outer depth
depth_after kind depth = depth

abbrev pub at_body : Control → TypeWord → Token → Next
at_body c kind token.Empty = Some (Mark, ended c (depth_after kind c.depth))
at_body c kind token.Open = Some (opened c kind)
at_body c kind other = None

abbrev pub inner : Site → Option (Step × Site)
inner site.Points = Some (First, site.Element)
inner site.Lines = Some (First, site.Line Member)
inner site.Polygons = Some (Item, site.Polygon Member Shell)
inner (site.Polygon many Shell) = Some (First, site.Ring many ring.Shell)
inner (site.Polygon many Hole) = Some (First, site.Ring many ring.Hole)
inner other = None

abbrev pub after_gap : Site → Site
after_gap (site.Polygon many Shell) = site.Polygon many Hollow
after_gap other = other

-- A bare position of a MULTIPOINT.
abbrev pub bare : Control → Site → Next
bare c site.Points = Some (X, to c Second site.Points)
bare c other = None

abbrev pub at_item : Control → Token → Next
at_item c token.Empty = Some (Mark, to c After (after_gap c.site))
at_item c token.Open = option_map (λ r. (Mark, to c r.0 r.1)) (inner c.site)
at_item c (token.Number n) = bare c c.site
at_item c other = None

abbrev pub second_role : Site → Role
second_role site.Point = PointY
second_role site.Points = PointY
second_role site.Element = PointY
second_role other = WayY

abbrev pub end_role : Site → Role
end_role (site.Line many) = EndLine
end_role (site.Ring many ring.Shell) = EndShell
end_role (site.Ring many ring.Hole) = EndHole
end_role (site.Polygon many Hole) = EndArea
end_role other = Mark

abbrev pub after_close_of : Control → Site → Control
after_close_of c site.Top = ended c (outer c.depth)
after_close_of c (site.Line Member) = to c After site.Lines
after_close_of c site.Element = to c After site.Points
after_close_of c (site.Ring many kind) = to c After (site.Polygon many Hole)
after_close_of c (site.Polygon Member rings) = to c After site.Polygons
after_close_of c other = ended c c.depth

abbrev pub after_close : Control → Control
after_close c = after_close_of (to c After c.site) c.site

abbrev pub after_comma : Site → Option Step
after_comma site.Top = Some Start
after_comma (site.Line many) = Some First
after_comma (site.Ring many kind) = Some First
after_comma site.Point = None
after_comma site.Element = None
after_comma (site.Polygon many Shell) = None
after_comma other = Some Item

abbrev pub at_after : Control → Token → Next
at_after c token.Comma = option_map (λ step. (Mark, to c step c.site)) (after_comma c.site)
at_after c token.Close = Some (end_role c.site, after_close c)
at_after c other = None

abbrev pub more_role : Tag → Role
more_role Plain = Further
more_role other = Demanded

-- Where a position may end.
abbrev pub at_end : Control → Tag → Token → Next
at_end c Plain token = at_after c token
at_end c other token = None

abbrev pub at_more : Control → Step → Token → Next
at_more c next (token.Number n) = Some (more_role c.tag, to c next c.site)
at_more c next token.Nan = Some (more_role c.tag, to c next c.site)
at_more c next other = at_end c c.tag other

abbrev pub after_two : Tag → Step
after_two Z = Full
after_two M = Full
after_two other = Three

abbrev pub at_tag : Control → TypeWord → Token → Next
at_tag c kind (token.Tag tag) = Some (Mark, record { step = Body kind; site = c.site; depth = c.depth; tag = tag })
at_tag c kind other = at_body c kind other

abbrev pub at_first : Control → Token → Next
at_first c (token.Number n) = Some (X, to c Second c.site)
at_first c other = None

abbrev pub at_second : Control → Token → Next
at_second c (token.Number n) = Some (second_role c.site, to c Two c.site)
at_second c other = None

abbrev pub advance_by : Step → Control → Token → Next
advance_by Start c token = at_start c token
advance_by (Tagged kind) c token = at_tag c kind token
advance_by (Body kind) c token = at_body c kind token
advance_by Item c token = at_item c token
advance_by First c token = at_first c token
advance_by Second c token = at_second c token
advance_by Two c token = at_more c (after_two c.tag) token
advance_by Three c token = at_more c Full token
advance_by After c token = at_after c token
advance_by Full c token = at_after c token
advance_by Done c token = None

unfoldable pub advance : Control → Token → Next
advance c token = advance_by c.step c token

-- The kind of a token that isn't allowed.
abbrev pub at_start_kind : Token → WktKind
at_start_kind (token.Tag tag) = UnknownType
at_start_kind token.Empty = UnknownType
at_start_kind token.Nan = UnknownType
at_start_kind token.Word = UnknownType
at_start_kind other = Syntax

abbrev pub at_more_kind : Tag → WktKind
at_more_kind Plain = Syntax
at_more_kind other = Ragged

abbrev pub at_full_kind : Token → WktKind
at_full_kind (token.Number n) = Ragged
at_full_kind token.Nan = Ragged
at_full_kind other = Syntax

abbrev pub refused_by : Step → Tag → Token → WktKind
refused_by Start tag token = at_start_kind token
refused_by Two tag token = at_more_kind tag
refused_by Three tag token = at_more_kind tag
refused_by Full tag token = at_full_kind token
refused_by other tag token = Syntax

unfoldable pub refused_kind : Control → Token → WktKind
refused_kind c token = refused_by c.step c.tag token
