-- What the reader accepts is spelled by a tree: from what follows a token, what follows before it.
use Rattle.std.proofs.Common.{◌≡◌, ℕ, zero, suc, Option, Some, None, List, [], ◌∷◌, ◌⊎◌, inl, inr, refl, sym, ap, subst, ◌∙◌}
use Rattle.wkt_text.specs.declared.word.TypeWord.{TypeWord}
use Rattle.wkt_text.specs.declared.word.TypeWord.TheVariants as type
use Rattle.wkt_text.specs.declared.word.Tag.{Tag}
use Rattle.wkt_text.specs.declared.word.Tag.TheVariants.{Plain, Z, M, Zm}
use Rattle.wkt_text.specs.declared.number.Numeral.{Numeral}
use Rattle.wkt_text.specs.declared.token.Token.{Token}
use Rattle.wkt_text.specs.declared.token.Token.TheVariants as token
use Rattle.wkt_text.specs.declared.state.Role.{Role}
use Rattle.wkt_text.specs.declared.state.Role.TheVariants.{Head, Mark, Group, PointY, WayY, Demanded, EndLine, EndShell, EndHole, EndArea}
use Rattle.wkt_text.specs.declared.state.Rings.TheVariants.{Shell, Hole, Hollow}
use Rattle.wkt_text.specs.declared.state.Membership.{Membership}
use Rattle.wkt_text.specs.declared.state.Membership.TheVariants.{Alone, Member}
use Rattle.wkt_text.specs.declared.state.RingKind.TheVariants as ring
use Rattle.wkt_text.specs.declared.state.Site.{Site}
use Rattle.wkt_text.specs.declared.state.Site.TheVariants as site
use Rattle.wkt_text.specs.declared.state.Step.{Step}
use Rattle.wkt_text.specs.declared.state.Step.TheVariants.{Start, Tagged, Body, Item, First, Second, Two, Three, After, Full, Done}
use Rattle.wkt_text.specs.declared.state.Control.{Control}
use Rattle.wkt_text.specs.Machine.{Next, advance, outer, second_role, step_ended, advance_by, at_after, at_body}
use Rattle.wkt_text.specs.Grammar.{Ordinate, number, nan, More, Position, Way, empty_way, along, Element, empty_element, bare, bracketed}
use Rattle.wkt_text.specs.Grammar.{Surface, empty_surface, hollow, area, empty_many, several, Simple, empty_point, point, line, polygon}
use Rattle.wkt_text.specs.Grammar.{points, lines, polygons, Writing, joined, apart, Geometry, simple, empty_collection, collection}
use Rattle.wkt_text.specs.Grammar.{Geometries, none, more, type_of_simple, tag_of_writing}
use Rattle.wkt_text.specs.Machine.{depth_role}
use Rattle.wkt_text.proofs.Moves.{Move, move, ordinate_then, further_then, more_then, position_then, others_then, along_then, gap_then}
use Rattle.wkt_text.proofs.Moves.{way_then, element_then, gaps_then, surface_then, simple_then, geometry_then, geometries_then, head_then}
use Rattle.wkt_text.proofs.Moves.{course}

abbrev Ended : ℕ → List Move → Type 0
Ended zero s = s ≡ []
Ended (suc d) s = (gs : Geometries) × (rest : List Move) × (s ≡ geometries_then gs (suc d) (move token.Close Mark ∷ rest)) × Ended d rest

-- Where the reader can't come, nothing is said.
abbrev AfterTop : ℕ → List Move → Type 0
AfterTop zero s = Unit {0}
AfterTop (suc d) s = Ended (suc d) s

abbrev AfterPoints : Tag → ℕ → List Move → Type 0
AfterPoints tag d s =
    (xs : List (Element tag)) × (rest : List Move) × (s ≡ others_then element_then xs (move token.Close Mark ∷ rest)) × Ended d rest

abbrev AfterLines : Tag → ℕ → List Move → Type 0
AfterLines tag d s =
    (xs : List (Way tag)) × (rest : List Move) × (s ≡ others_then (way_then EndLine) xs (move token.Close Mark ∷ rest)) × Ended d rest

abbrev AfterPolygons : Tag → ℕ → List Move → Type 0
AfterPolygons tag d s =
    (xs : List (Surface tag)) × (rest : List Move) × (s ≡ others_then (surface_then Mark) xs (move token.Close Mark ∷ rest)) × Ended d rest

abbrev UpLine : Membership → Tag → ℕ → List Move → Type 0
UpLine Alone tag d s = Ended d s
UpLine Member tag d s = AfterLines tag d s

abbrev UpPolygon : Membership → Tag → ℕ → List Move → Type 0
UpPolygon Alone tag d s = Ended d s
UpPolygon Member tag d s = AfterPolygons tag d s

abbrev AfterHoles : Membership → Tag → ℕ → List Move → Type 0
AfterHoles many tag d s =
    (xs : List (Way tag)) × (rest : List Move)
    × (s ≡ others_then (way_then EndHole) xs (move token.Close EndArea ∷ rest)) × UpPolygon many tag d rest

abbrev AfterHollow : Membership → Tag → ℕ → List Move → Type 0
AfterHollow many tag d s = (n : ℕ) × (rest : List Move) × (s ≡ gaps_then n (move token.Close Mark ∷ rest)) × UpPolygon many tag d rest

abbrev AfterPositions : Tag → Role → (List Move → Type 0) → List Move → Type 0
AfterPositions tag end Up s =
    (ps : List (Position tag)) × (rest : List Move) × (s ≡ others_then (position_then WayY) ps (move token.Close end ∷ rest)) × Up rest

abbrev AfterClose : (List Move → Type 0) → List Move → Type 0
AfterClose Up s = (rest : List Move) × (s ≡ move token.Close Mark ∷ rest) × Up rest

abbrev AfterSite : Site → Tag → ℕ → List Move → Type 0
AfterSite site.Top tag d s = AfterTop d s
AfterSite site.Point tag d s = AfterClose (Ended d) s
AfterSite (site.Line many) tag d s = AfterPositions tag EndLine (UpLine many tag d) s
AfterSite site.Points tag d s = AfterPoints tag d s
AfterSite site.Element tag d s = AfterClose (AfterPoints tag d) s
AfterSite site.Lines tag d s = AfterLines tag d s
AfterSite (site.Polygon many Shell) tag d s = Unit {0}
AfterSite (site.Polygon many Hole) tag d s = AfterHoles many tag d s
AfterSite (site.Polygon many Hollow) tag d s = AfterHollow many tag d s
AfterSite (site.Ring many ring.Shell) tag d s = AfterPositions tag EndShell (AfterHoles many tag d) s
AfterSite (site.Ring many ring.Hole) tag d s = AfterPositions tag EndHole (AfterHoles many tag d) s
AfterSite site.Polygons tag d s = AfterPolygons tag d s

abbrev OneOf : {A : Type 0} → (A → List Move → List Move) → (List Move → Type 0) → List Move → Type 0
OneOf {A} spell Up s = (x : A) × (rest : List Move) × (s ≡ spell x rest) × Up rest

abbrev AlongOf : Tag → Role → (List Move → Type 0) → List Move → Type 0
AlongOf tag end Up s = (p : Position tag) × (ps : List (Position tag)) × (rest : List Move) × (s ≡ along_then end p ps rest) × Up rest

abbrev GapOf : (List Move → Type 0) → List Move → Type 0
GapOf Up s = (rest : List Move) × (s ≡ gap_then rest) × Up rest

abbrev ItemOf : Site → Tag → ℕ → List Move → Type 0
ItemOf site.Points tag d s = OneOf (element_then {tag = tag}) (AfterPoints tag d) s
ItemOf site.Lines tag d s = OneOf (way_then {tag = tag} EndLine) (AfterLines tag d) s
ItemOf site.Polygons tag d s = OneOf (surface_then {tag = tag} Mark) (AfterPolygons tag d) s
ItemOf (site.Polygon many Shell) tag d s = GapOf (AfterHollow many tag d) s ⊎ AlongOf tag EndShell (AfterHoles many tag d) s
ItemOf (site.Polygon many Hole) tag d s = OneOf (way_then {tag = tag} EndHole) (AfterHoles many tag d) s
ItemOf (site.Polygon many Hollow) tag d s = GapOf (AfterHollow many tag d) s
ItemOf other tag d s = Unit {0}

abbrev PositionOf : Site → Tag → ℕ → List Move → Type 0
PositionOf at tag d s = (p : Position tag) × (rest : List Move) × (s ≡ position_then (second_role at) p rest) × AfterSite at tag d rest

abbrev SecondOf : Site → Tag → ℕ → List Move → Type 0
SecondOf at tag d s =
    (y : Numeral) × (m : More tag) × (rest : List Move)
    × (s ≡ move (token.Number y) (second_role at) ∷ more_then tag m rest) × AfterSite at tag d rest

abbrev TwoOf : Site → Tag → ℕ → List Move → Type 0
TwoOf at tag d s = (m : More tag) × (rest : List Move) × (s ≡ more_then tag m rest) × AfterSite at tag d rest

abbrev ThreeOf : Site → Tag → ℕ → List Move → Type 0
ThreeOf at Plain d s = (o : Option Ordinate) × (rest : List Move) × (s ≡ further_then o rest) × AfterSite at Plain d rest
ThreeOf at Z d s = Unit {0}
ThreeOf at M d s = Unit {0}
ThreeOf at Zm d s = (o : Ordinate) × (rest : List Move) × (s ≡ ordinate_then Demanded o rest) × AfterSite at Zm d rest

abbrev SimpleOf : TypeWord → Tag → ℕ → List Move → Type 0
SimpleOf kind tag d s = (b : Simple tag) × (rest : List Move) × (type_of_simple b ≡ kind) × (s ≡ simple_then b rest) × Ended d rest

abbrev CollectionOf : ℕ → List Move → Type 0
CollectionOf d s =
    (g : Geometry) × (gs : Geometries) × (rest : List Move)
    × (s ≡ move token.Open Mark ∷ geometry_then g d (geometries_then gs d (move token.Close Mark ∷ rest))) × Ended (outer d) rest

abbrev BodyOf : TypeWord → Tag → ℕ → List Move → Type 0
BodyOf type.GeometryCollection tag zero s = Unit {0}
BodyOf type.GeometryCollection tag (suc d) s = GapOf (Ended d) s ⊎ CollectionOf (suc d) s
BodyOf kind tag d s = SimpleOf kind tag d s

abbrev TaggedOf : TypeWord → Tag → ℕ → List Move → Type 0
TaggedOf kind tag d s = ((t : Tag) × (rest : List Move) × (s ≡ move (token.Tag t) Mark ∷ rest) × BodyOf kind t d rest) ⊎ BodyOf kind tag d s

abbrev StartOf : ℕ → List Move → Type 0
StartOf d s = (g : Geometry) × (rest : List Move) × (s ≡ geometry_then g d rest) × Ended d rest

-- What may follow, by what is expected.
abbrev pub Follows : Step → Site → ℕ → Tag → List Move → Type 0
Follows Start at d tag s = StartOf d s
Follows (Tagged kind) at d tag s = TaggedOf kind tag d s
Follows (Body kind) at d tag s = BodyOf kind tag d s
Follows Item at d tag s = ItemOf at tag d s
Follows First at d tag s = PositionOf at tag d s
Follows Second at d tag s = SecondOf at tag d s
Follows Two at d tag s = TwoOf at tag d s
Follows Three at d tag s = ThreeOf at tag d s
Follows After at d tag s = AfterSite at tag d s
Follows Full at d tag s = AfterSite at tag d s
Follows Done at d tag s = s ≡ []

abbrev pub at : Step → Site → ℕ → Tag → Control
at step s d tag = record { step = step; site = s; depth = d; tag = tag }

abbrev FollowsAt : Control → List Move → Type 0
FollowsAt c s = Follows c.step c.site c.depth c.tag s

-- From what follows a token, what follows before it.
abbrev Back : Next → (List Move → Type 0) → Token → List Move → Type 0
Back None F t rest = Unit {0}
Back (Some n) F t rest = FollowsAt n.1 rest → F (move t n.0 ∷ rest)

put : (x : Move) {a b : List Move} → a ≡ b → x ∷ a ≡ x ∷ b
put x e = ap (λ u. x ∷ u) e

is_ended : (n : ℕ) (tag : Tag) (s : List Move) → Follows (step_ended n) site.Top n tag s → Ended n s
is_ended zero tag s h = h
is_ended (suc n) tag s h = h

nothing : (n : Next) (t : Token) (rest : List Move) → Back n (λ s. Unit {0}) t rest
nothing None t rest = tt
nothing (Some n) t rest = λ h. tt

back_after : (s : Site) (d : ℕ) (tag : Tag) (t : Token) (rest : List Move) → (step : Step) →
    Back (at_after (at step s d tag) t) (AfterSite s tag d) t rest
back_after site.Top zero tag t rest step = nothing (at_after (at step site.Top zero tag) t) t rest
back_after site.Top (suc d) tag token.Comma rest step =
    λ (g, r, e, (gs, r₂, e₂, up)). (more g gs, r₂, put _ (e ∙ ap (geometry_then g (suc d)) e₂), up)
back_after site.Top (suc d) tag token.Close rest step = λ h. (none, rest, refl, is_ended d tag rest h)
back_after site.Top (suc d) tag other rest step = tt
back_after site.Point d tag token.Close rest step = λ h. (rest, refl, is_ended d tag rest h)
back_after site.Point d tag other rest step = tt
back_after (site.Line many) d tag token.Comma rest step =
    λ (p, r, e, (ps, r₂, e₂, up)). (p ∷ ps, r₂, put _ (e ∙ ap (position_then WayY p) e₂), up)
back_after (site.Line Alone) d tag token.Close rest step = λ h. ([], rest, refl, is_ended d tag rest h)
back_after (site.Line Member) d tag token.Close rest step = λ h. ([], rest, refl, h)
back_after (site.Line many) d tag other rest step = tt
back_after site.Points d tag token.Comma rest step = λ (x, r, e, (xs, r₂, e₂, up)). (x ∷ xs, r₂, put _ (e ∙ ap (element_then x) e₂), up)
back_after site.Points d tag token.Close rest step = λ h. ([], rest, refl, is_ended d tag rest h)
back_after site.Points d tag other rest step = tt
back_after site.Element d tag token.Close rest step = λ h. (rest, refl, h)
back_after site.Element d tag other rest step = tt
back_after site.Lines d tag token.Comma rest step = λ (x, r, e, (xs, r₂, e₂, up)). (x ∷ xs, r₂, put _ (e ∙ ap (way_then EndLine x) e₂), up)
back_after site.Lines d tag token.Close rest step = λ h. ([], rest, refl, is_ended d tag rest h)
back_after site.Lines d tag other rest step = tt
back_after site.Polygons d tag token.Comma rest step =
    λ (x, r, e, (xs, r₂, e₂, up)). (x ∷ xs, r₂, put _ (e ∙ ap (surface_then Mark x) e₂), up)
back_after site.Polygons d tag token.Close rest step = λ h. ([], rest, refl, is_ended d tag rest h)
back_after site.Polygons d tag other rest step = tt
back_after (site.Polygon many Shell) d tag token.Close rest step = λ h. tt
back_after (site.Polygon many Shell) d tag other rest step = tt
back_after (site.Polygon many Hole) d tag token.Comma rest step =
    λ (x, r, e, (xs, r₂, e₂, up)). (x ∷ xs, r₂, put _ (e ∙ ap (way_then EndHole x) e₂), up)
back_after (site.Polygon Alone Hole) d tag token.Close rest step = λ h. ([], rest, refl, is_ended d tag rest h)
back_after (site.Polygon Member Hole) d tag token.Close rest step = λ h. ([], rest, refl, h)
back_after (site.Polygon many Hole) d tag other rest step = tt
back_after (site.Polygon many Hollow) d tag token.Comma rest step = λ (r, e, (n, r₂, e₂, up)). (suc n, r₂, put _ (e ∙ put _ e₂), up)
back_after (site.Polygon Alone Hollow) d tag token.Close rest step = λ h. (0, rest, refl, is_ended d tag rest h)
back_after (site.Polygon Member Hollow) d tag token.Close rest step = λ h. (0, rest, refl, h)
back_after (site.Polygon many Hollow) d tag other rest step = tt
back_after (site.Ring many ring.Shell) d tag token.Comma rest step =
    λ (p, r, e, (ps, r₂, e₂, up)). (p ∷ ps, r₂, put _ (e ∙ ap (position_then WayY p) e₂), up)
back_after (site.Ring many ring.Hole) d tag token.Comma rest step =
    λ (p, r, e, (ps, r₂, e₂, up)). (p ∷ ps, r₂, put _ (e ∙ ap (position_then WayY p) e₂), up)
back_after (site.Ring many ring.Shell) d tag token.Close rest step = λ h. ([], rest, refl, h)
back_after (site.Ring many ring.Hole) d tag token.Close rest step = λ h. ([], rest, refl, h)
back_after (site.Ring many kind) d tag other rest step = tt

-- ---- items, positions

back_item : (s : Site) (d : ℕ) (tag : Tag) (t : Token) (rest : List Move) →
    Back (advance_by Item (at Item s d tag) t) (ItemOf s tag d) t rest
back_item site.Points d tag token.Empty rest = λ h. (empty_element, rest, refl, h)
back_item site.Points d tag token.Open rest = λ (p, r, e, (r₂, e₂, up)). (bracketed p, r₂, put _ (e ∙ ap (position_then PointY p) e₂), up)
back_item site.Points d tag (token.Number n) rest = λ (y, m, r, e, up). (bare (record { x = n; y = y; more = m }), r, put _ e, up)
back_item site.Points d tag other rest = tt
back_item site.Lines d tag token.Empty rest = λ h. (empty_way, rest, refl, h)
back_item site.Lines d tag token.Open rest = λ (p, r, e, (ps, r₂, e₂, up)). (along p ps, r₂, put _ (e ∙ ap (position_then WayY p) e₂), up)
back_item site.Lines d tag other rest = tt
back_item site.Polygons d tag token.Empty rest = λ h. (empty_surface, rest, refl, h)
back_item site.Polygons d tag token.Open rest = λ h. open_surface h
  where
    open_surface : ItemOf (site.Polygon Member Shell) tag d rest → OneOf (surface_then {tag =
        tag} Mark) (AfterPolygons tag d) (move token.Open Mark ∷ rest)
    open_surface (inl (r, e, (n, r₂, e₂, up))) = (hollow n, r₂, put _ (e ∙ put _ e₂), up)
    open_surface (inr (p, ps, r, e, (ws, r₂, e₂, up))) = (area p ps ws, r₂, put _ (e ∙ ap (along_then EndShell p ps) e₂), up)
back_item site.Polygons d tag other rest = tt
back_item (site.Polygon many Shell) d tag token.Empty rest = λ h. inl (rest, refl, h)
back_item (site.Polygon many Shell) d tag token.Open rest =
    λ (p, r, e, (ps, r₂, e₂, up)). inr (p, ps, r₂, put _ (e ∙ ap (position_then WayY p) e₂), up)
back_item (site.Polygon many Shell) d tag other rest = tt
back_item (site.Polygon many Hole) d tag token.Empty rest = λ h. (empty_way, rest, refl, h)
back_item (site.Polygon many Hole) d tag token.Open rest =
    λ (p, r, e, (ps, r₂, e₂, up)). (along p ps, r₂, put _ (e ∙ ap (position_then WayY p) e₂), up)
back_item (site.Polygon many Hole) d tag other rest = tt
back_item (site.Polygon many Hollow) d tag token.Empty rest = λ h. (rest, refl, h)
back_item (site.Polygon many Hollow) d tag other rest = tt
back_item site.Top d tag t rest = nothing (advance_by Item (at Item site.Top d tag) t) t rest
back_item site.Point d tag t rest = nothing (advance_by Item (at Item site.Point d tag) t) t rest
back_item (site.Line many) d tag t rest = nothing (advance_by Item (at Item (site.Line many) d tag) t) t rest
back_item site.Element d tag t rest = nothing (advance_by Item (at Item site.Element d tag) t) t rest
back_item (site.Ring many kind) d tag t rest = nothing (advance_by Item (at Item (site.Ring many kind) d tag) t) t rest

back_first : (s : Site) (d : ℕ) (tag : Tag) (t : Token) (rest : List Move) →
    Back (advance_by First (at First s d tag) t) (PositionOf s tag d) t rest
back_first s d tag (token.Number n) rest = λ (y, m, r, e, up). (record { x = n; y = y; more = m }, r, put _ e, up)
back_first s d tag other rest = tt

back_second : (s : Site) (d : ℕ) (tag : Tag) (t : Token) (rest : List Move) →
    Back (advance_by Second (at Second s d tag) t) (SecondOf s tag d) t rest
back_second s d tag (token.Number n) rest = λ (m, r, e, up). (n, m, r, put _ e, up)
back_second s d tag other rest = tt

-- The front of a set is passed on.
weaken : (n : Next) (F G : List Move → Type 0) (t : Token) (rest : List Move) → ((s : List Move) → F s → G s) → Back n F t rest →
    Back n G t rest
weaken None F G t rest up h = tt
weaken (Some n) F G t rest up h = λ k. up _ (h k)

back_two : (s : Site) (d : ℕ) (tag : Tag) (t : Token) (rest : List Move) → Back (advance_by Two (at Two s d tag) t) (TwoOf s tag d) t rest
back_two s d Plain (token.Number n) rest = λ (o, r, e, up). (Some (number n, o), r, put _ e, up)
back_two s d Plain token.Nan rest = λ (o, r, e, up). (Some (nan, o), r, put _ e, up)
back_two s d Plain other rest =
    weaken (at_after (at Two s d Plain) other) (AfterSite s Plain d) (TwoOf s Plain d) other rest
    (λ u h. (None, u, refl, h)) (back_after s d Plain other rest Two)
back_two s d Z (token.Number n) rest = λ h. (number n, rest, refl, h)
back_two s d Z token.Nan rest = λ h. (nan, rest, refl, h)
back_two s d Z other rest = tt
back_two s d M (token.Number n) rest = λ h. (number n, rest, refl, h)
back_two s d M token.Nan rest = λ h. (nan, rest, refl, h)
back_two s d M other rest = tt
back_two s d Zm (token.Number n) rest = λ (o, r, e, up). ((number n, o), r, put _ e, up)
back_two s d Zm token.Nan rest = λ (o, r, e, up). ((nan, o), r, put _ e, up)
back_two s d Zm other rest = tt

back_three : (s : Site) (d : ℕ) (tag : Tag) (t : Token) (rest : List Move) →
    Back (advance_by Three (at Three s d tag) t) (ThreeOf s tag d) t rest
back_three s d Plain (token.Number n) rest = λ h. (Some (number n), rest, refl, h)
back_three s d Plain token.Nan rest = λ h. (Some nan, rest, refl, h)
back_three s d Plain other rest =
    weaken (at_after (at Three s d Plain) other) (AfterSite s Plain d) (ThreeOf s Plain d) other rest
    (λ u h. (None, u, refl, h)) (back_after s d Plain other rest Three)
back_three s d Z t rest = nothing (advance_by Three (at Three s d Z) t) t rest
back_three s d M t rest = nothing (advance_by Three (at Three s d M) t) t rest
back_three s d Zm (token.Number n) rest = λ h. (number n, rest, refl, h)
back_three s d Zm token.Nan rest = λ h. (nan, rest, refl, h)
back_three s d Zm other rest = tt

-- ---- bodies

open_point : (d : ℕ) (tag : Tag) (rest : List Move) → PositionOf site.Point tag d rest →
    SimpleOf type.Point tag d (move token.Open Mark ∷ rest)
open_point d tag rest (p, r, e, (r₂, e₂, up)) = (point p, r₂, refl, put _ (e ∙ ap (position_then PointY p) e₂), up)

open_line : (d : ℕ) (tag : Tag) (rest : List Move) → PositionOf (site.Line Alone) tag d rest →
    SimpleOf type.LineString tag d (move token.Open Mark ∷ rest)
open_line d tag rest (p, r, e, (ps, r₂, e₂, up)) = (line (along p ps), r₂, refl, put _ (e ∙ ap (position_then WayY p) e₂), up)

open_polygon : (d : ℕ) (tag : Tag) (rest : List Move) → ItemOf (site.Polygon Alone Shell) tag d rest →
    SimpleOf type.Polygon tag d (move token.Open Group ∷ rest)
open_polygon d tag rest (inl (r, e, (n, r₂, e₂, up))) = (polygon (hollow n), r₂, refl, put _ (e ∙ put _ e₂), up)
open_polygon d tag rest (inr (p, ps, r, e, (ws, r₂, e₂, up))) =
    (polygon (area p ps ws), r₂, refl, put _ (e ∙ ap (along_then EndShell p ps) e₂), up)

open_collection : (d : ℕ) (rest : List Move) → StartOf (suc d) rest → CollectionOf (suc d) (move token.Open Mark ∷ rest)
open_collection d rest (g, r, e, (gs, r₂, e₂, up)) = (g, gs, r₂, put _ (e ∙ ap (geometry_then g (suc d)) e₂), up)

back_body : (kind : TypeWord) (s : Site) (d : ℕ) (tag : Tag) (t : Token) (rest : List Move) (step : Step) →
    Back (at_body (at step s d tag) kind t) (BodyOf kind tag d) t rest
back_body type.Point s d tag token.Empty rest step = λ h. (empty_point, rest, refl, refl, is_ended d tag rest h)
back_body type.Point s d tag token.Open rest step = λ h. open_point d tag rest h
back_body type.Point s d tag other rest step = tt
back_body type.LineString s d tag token.Empty rest step = λ h. (line empty_way, rest, refl, refl, is_ended d tag rest h)
back_body type.LineString s d tag token.Open rest step = λ h. open_line d tag rest h
back_body type.LineString s d tag other rest step = tt
back_body type.Polygon s d tag token.Empty rest step = λ h. (polygon empty_surface, rest, refl, refl, is_ended d tag rest h)
back_body type.Polygon s d tag token.Open rest step = λ h. open_polygon d tag rest h
back_body type.Polygon s d tag other rest step = tt
back_body type.MultiPoint s d tag token.Empty rest step = λ h. (points empty_many, rest, refl, refl, is_ended d tag rest h)
back_body type.MultiPoint s d tag token.Open rest step =
    λ (x, r, e, (xs, r₂, e₂, up)). (points (several x xs), r₂, refl, put _ (e ∙ ap (element_then x) e₂), up)
back_body type.MultiPoint s d tag other rest step = tt
back_body type.MultiLineString s d tag token.Empty rest step = λ h. (lines empty_many, rest, refl, refl, is_ended d tag rest h)
back_body type.MultiLineString s d tag token.Open rest step =
    λ (x, r, e, (xs, r₂, e₂, up)). (lines (several x xs), r₂, refl, put _ (e ∙ ap (way_then EndLine x) e₂), up)
back_body type.MultiLineString s d tag other rest step = tt
back_body type.MultiPolygon s d tag token.Empty rest step = λ h. (polygons empty_many, rest, refl, refl, is_ended d tag rest h)
back_body type.MultiPolygon s d tag token.Open rest step =
    λ (x, r, e, (xs, r₂, e₂, up)). (polygons (several x xs), r₂, refl, put _ (e ∙ ap (surface_then Mark x) e₂), up)
back_body type.MultiPolygon s d tag other rest step = tt
back_body type.GeometryCollection s zero tag t rest step = nothing (at_body (at step s zero tag) type.GeometryCollection t) t rest
back_body type.GeometryCollection s (suc d) tag token.Empty rest step = λ h. inl (rest, refl, is_ended d tag rest h)
back_body type.GeometryCollection s (suc d) tag token.Open rest step = λ h. inr (open_collection d rest h)
back_body type.GeometryCollection s (suc d) tag other rest step = tt

back_tagged : (kind : TypeWord) (s : Site) (d : ℕ) (tag : Tag) (t : Token) (rest : List Move) →
    Back (advance_by (Tagged kind) (at (Tagged kind) s d tag) t) (TaggedOf kind tag d) t rest
back_tagged kind s d tag (token.Tag u) rest = λ h. inl (u, rest, refl, h)
back_tagged kind s d tag other rest =
    weaken (at_body (at (Tagged kind) s d tag) kind other) (BodyOf kind tag d) (TaggedOf kind tag d) other rest (λ u h. inr h)
    (back_body kind s d tag other rest (Tagged kind))

-- ---- geometries

with_body : (kind : TypeWord) (w : Writing) (d : ℕ) (rest : List Move) → SimpleOf kind (tag_of_writing w) d rest →
    StartOf d (head_then Head kind w rest)
with_body kind w d rest (b, r, k, e, up) = (simple w b, r, rw (← k) (head_put Head (type_of_simple b) w e), up)
  where
    head_put : (role : Role) (kind : TypeWord) (w : Writing) {a b : List Move} → a ≡ b → head_then role kind w a ≡ head_then role kind w b
    head_put role kind w e = ap (head_then role kind w) e

with_collection : (w : Writing) (d : ℕ) (rest : List Move) → BodyOf type.GeometryCollection (tag_of_writing w) (suc d) rest →
    StartOf d (head_then (depth_role d) type.GeometryCollection w rest)
with_collection w d rest (inl (r, e, up)) = (empty_collection w, r, ap (head_then (depth_role d) type.GeometryCollection w) e, up)
with_collection w d rest (inr (g, gs, r, e, up)) = (collection w g gs, r, ap (head_then (depth_role d) type.GeometryCollection w) e, up)

-- A type word without a tag, and then a tag or a body.
with_tag : (kind : TypeWord) (d : ℕ) (rest : List Move) →
    ((w : Writing) (r : List Move) → SimpleOf kind (tag_of_writing w) d r → StartOf d (head_then Head kind w r)) →
    ((t : Tag) × (r : List Move) × (rest ≡ move (token.Tag t) Mark ∷ r) × SimpleOf kind t d r) ⊎ SimpleOf kind Plain d rest →
    StartOf d (move (token.Type kind Plain) Head ∷ rest)
with_tag kind d rest make (inl (t, r, e, h)) = let (g, r₂, e₂, up) = make (apart t) r h in (g, r₂, put _ e ∙ e₂, up)
with_tag kind d rest make (inr h) = make (joined Plain) rest h

with_collection_tag : (d : ℕ) (rest : List Move) → TaggedOf type.GeometryCollection Plain (suc d) rest →
    StartOf d (move (token.Type type.GeometryCollection Plain) (depth_role d) ∷ rest)
with_collection_tag d rest (inl (t, r, e, h)) = let (g, r₂, e₂, up) = with_collection (apart t) d r h in (g, r₂, put _ e ∙ e₂, up)
with_collection_tag d rest (inr h) = with_collection (joined Plain) d rest h

back_start : (s : Site) (d : ℕ) (tag : Tag) (t : Token) (rest : List Move) → Back (advance_by Start (at Start s d tag) t) (StartOf d) t rest
back_start s d tag (token.Type type.GeometryCollection Plain) rest = λ h. with_collection_tag d rest h
back_start s d tag (token.Type type.GeometryCollection Z) rest = λ h. with_collection (joined Z) d rest h
back_start s d tag (token.Type type.GeometryCollection M) rest = λ h. with_collection (joined M) d rest h
back_start s d tag (token.Type type.GeometryCollection Zm) rest = λ h. with_collection (joined Zm) d rest h
back_start s d tag (token.Type kind Plain) rest = λ h. with_tag kind d rest (λ w r k. with_body kind w d r k) h
back_start s d tag (token.Type kind Z) rest = λ h. with_body kind (joined Z) d rest h
back_start s d tag (token.Type kind M) rest = λ h. with_body kind (joined M) d rest h
back_start s d tag (token.Type kind Zm) rest = λ h. with_body kind (joined Zm) d rest h
back_start s d tag other rest = tt

back : (step : Step) (s : Site) (d : ℕ) (tag : Tag) (t : Token) (rest : List Move) →
    Back (advance_by step (at step s d tag) t) (Follows step s d tag) t rest
back Start s d tag t rest = back_start s d tag t rest
back (Tagged kind) s d tag t rest = back_tagged kind s d tag t rest
back (Body kind) s d tag t rest = back_body kind s d tag t rest (Body kind)
back Item s d tag t rest = back_item s d tag t rest
back First s d tag t rest = back_first s d tag t rest
back Second s d tag t rest = back_second s d tag t rest
back Two s d tag t rest = back_two s d tag t rest
back Three s d tag t rest = back_three s d tag t rest
back After s d tag t rest = back_after s d tag t rest After
back Full s d tag t rest = back_after s d tag t rest Full
back Done s d tag t rest = tt

-- ---- runs

-- The reader takes these tokens for these purposes, and then the geometry has ended.
abbrev pub Run : Control → List Move → Type 0
Run c [] = c.step ≡ Done
Run c (x ∷ rest) = (c' : Control) × (advance c x.0 ≡ Some (x.1, c')) × Run c' rest

-- The reader takes these tokens for these purposes, and then is there.
abbrev pub Goes : Control → List Move → Control → Type 0
Goes c [] d = c ≡ d
Goes c (x ∷ front) d = (c' : Control) × (advance c x.0 ≡ Some (x.1, c')) × Goes c' front d

step_back : (n : Next) (F : List Move → Type 0) (t : Token) (role : Role) (c' : Control) (rest : List Move) → n ≡ Some (role, c') →
    Back n F t rest → FollowsAt c' rest → F (move t role ∷ rest)
step_back n F t role c' rest e b h = subst (λ n. Back n F t rest) e b h

done_follows : (step : Step) (s : Site) (d : ℕ) (tag : Tag) → step ≡ Done → Follows step s d tag []
done_follows step s d tag e = subst (λ u. Follows u s d tag []) (sym e) refl

-- What the reader takes to the end is what may follow.
pub run_follows : (moves : List Move) (c : Control) → Run c moves → FollowsAt c moves
unfolding advance
run_follows [] c h = done_follows c.step c.site c.depth c.tag h
run_follows (x ∷ rest) c (c', e, h) =
    step_back (advance c x.0) (Follows c.step c.site c.depth c.tag) x.0 x.1 c' rest e
    (back c.step c.site c.depth c.tag x.0 rest) (run_follows rest c' h)

-- Before a geometry.
abbrev pub start : Control
start = at Start site.Top 0 Plain

-- What the reader takes to the end from the start is the text of a geometry.
pub run_spelled : (moves : List Move) → Run start moves → (g : Geometry) × (moves ≡ course g)
run_spelled moves h = let (g, rest, e, done) = run_follows moves start h in (g, e ∙ ap (geometry_then g 0) done)

-- What is taken up to the end is a run.
pub goes_run : (front : List Move) (c d : Control) → Goes c front d → d.step ≡ Done → Run c front
goes_run [] c d e done = ap (λ (u : Control). u.step) e ∙ done
goes_run (x ∷ front) c d (c', e, g) done = (c', e, goes_run front c' d g done)
