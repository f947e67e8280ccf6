-- What a tree spells, the reader takes to the end.
use Rattle.std.proofs.Common.{◌≡◌, ℕ, zero, suc, Option, Some, None, option_map, List, [], ◌∷◌, refl, ap, ◌∙◌}
use Rattle.std.proofs.lemmas.Option.{none-some}
use Rattle.wkt_text.specs.declared.word.TypeWord.{TypeWord}
use Rattle.wkt_text.specs.declared.word.TypeWord.TheVariants as type
use Rattle.wkt_text.specs.declared.word.Tag.{Tag}
use Rattle.wkt_text.specs.declared.word.Tag.TheVariants.{Plain, Z, M, Zm}
use Rattle.wkt_text.specs.declared.token.Token.TheVariants as token
use Rattle.wkt_text.specs.declared.state.Role.{Role}
use Rattle.wkt_text.specs.declared.state.Role.TheVariants.{Head, Mark, WayY, Demanded, EndLine, EndShell, EndHole, EndArea}
use Rattle.wkt_text.specs.declared.state.Rings.TheVariants.{Shell, Hole, Hollow}
use Rattle.wkt_text.specs.declared.state.Membership.{Membership}
use Rattle.wkt_text.specs.declared.state.Membership.TheVariants.{Alone, Member}
use Rattle.wkt_text.specs.declared.state.RingKind.{RingKind}
use Rattle.wkt_text.specs.declared.state.RingKind.TheVariants as ring
use Rattle.wkt_text.specs.declared.state.Site.{Site}
use Rattle.wkt_text.specs.declared.state.Site.TheVariants as site
use Rattle.wkt_text.specs.declared.state.Step.{Step}
use Rattle.wkt_text.specs.declared.state.Step.TheVariants.{Start, Tagged, Body, Item, First, Second, Two, Three, After, Full, Done}
use Rattle.wkt_text.specs.declared.state.Control.{Control}
use Rattle.wkt_text.specs.Machine.{advance, started, opened, second_role, end_role, step_ended, step_tagged, after_comma, after_close}
use Rattle.wkt_text.specs.Grammar.{Ordinate, number, nan, More, Position, Way, empty_way, along, Element, empty_element, bare, bracketed}
use Rattle.wkt_text.specs.Grammar.{Surface, empty_surface, hollow, area, empty_many, several, Simple, empty_point, point, line, polygon}
use Rattle.wkt_text.specs.Grammar.{points, lines, polygons, Writing, joined, apart, Geometry, simple, empty_collection, collection}
use Rattle.wkt_text.specs.Grammar.{Geometries, none, more, type_of_simple, tag_of_writing}
use Rattle.wkt_text.specs.Machine.{depth_role}
use Rattle.wkt_text.proofs.Moves.{Move, move, ordinate_then, further_then, more_then, position_then, others_then, along_then, gap_then}
use Rattle.wkt_text.proofs.Moves.{way_then, element_then, gaps_then, surface_then, simple_then, geometry_then, geometries_then, head_then}
use Rattle.wkt_text.proofs.Moves.{course}
use Rattle.wkt_text.proofs.Parses.{at, start, Run}

after_done : After ≡ Done → ⊥
after_done e = cc

body_done : (kind : TypeWord) → Body kind ≡ Done → ⊥
body_done kind e = cc

-- A step that takes a comma and a closing bracket as the step after an item does.
run_ending : (step : Step) (s : Site) (d : ℕ) (tag : Tag) → advance (at step s d tag) token.Comma ≡ advance (at After s d tag) token.Comma →
    advance (at step s d tag) token.Close ≡ advance (at After s d tag) token.Close → (rest : List Move) → Run (at After s d tag) rest →
    Run (at step s d tag) rest
unfolding advance
run_ending step s d tag comma close [] e = absurd (after_done e)
run_ending step s d tag comma close ((token.Comma, r) ∷ rest) (c, e, h) = (c, comma ∙ e, h)
run_ending step s d tag comma close ((token.Close, r) ∷ rest) (c, e, h) = (c, close ∙ e, h)
run_ending step s d tag comma close ((other, r) ∷ rest) h = absurd (none-some _ h.1)

run_full : (s : Site) (d : ℕ) (tag : Tag) (rest : List Move) → Run (at After s d tag) rest → Run (at Full s d tag) rest
unfolding advance
run_full s d tag = run_ending Full s d tag refl refl

run_two_plain : (s : Site) (d : ℕ) (rest : List Move) → Run (at After s d Plain) rest → Run (at Two s d Plain) rest
unfolding advance
run_two_plain s d = run_ending Two s d Plain refl refl

run_three_plain : (s : Site) (d : ℕ) (rest : List Move) → Run (at After s d Plain) rest → Run (at Three s d Plain) rest
unfolding advance
run_three_plain s d = run_ending Three s d Plain refl refl

run_further : (s : Site) (d : ℕ) (o : Option Ordinate) (rest : List Move) → Run (at After s d Plain) rest →
    Run (at Three s d Plain) (further_then o rest)
unfolding advance
run_further s d None rest h = run_three_plain s d rest h
run_further s d (Some (number n)) rest h = (at Full s d Plain, refl, run_full s d Plain rest h)
run_further s d (Some nan) rest h = (at Full s d Plain, refl, run_full s d Plain rest h)

run_last : (s : Site) (d : ℕ) (o : Ordinate) (rest : List Move) → Run (at After s d Zm) rest →
    Run (at Three s d Zm) (ordinate_then Demanded o rest)
unfolding advance
run_last s d (number n) rest h = (at Full s d Zm, refl, run_full s d Zm rest h)
run_last s d nan rest h = (at Full s d Zm, refl, run_full s d Zm rest h)

run_more : (s : Site) (d : ℕ) (tag : Tag) (m : More tag) (rest : List Move) → Run (at After s d tag) rest →
    Run (at Two s d tag) (more_then tag m rest)
unfolding advance
run_more s d Plain None rest h = run_two_plain s d rest h
run_more s d Plain (Some (number n, o)) rest h = (at Three s d Plain, refl, run_further s d o rest h)
run_more s d Plain (Some (nan, o)) rest h = (at Three s d Plain, refl, run_further s d o rest h)
run_more s d Z (number n) rest h = (at Full s d Z, refl, run_full s d Z rest h)
run_more s d Z nan rest h = (at Full s d Z, refl, run_full s d Z rest h)
run_more s d M (number n) rest h = (at Full s d M, refl, run_full s d M rest h)
run_more s d M nan rest h = (at Full s d M, refl, run_full s d M rest h)
run_more s d Zm (number n, o) rest h = (at Three s d Zm, refl, run_last s d o rest h)
run_more s d Zm (nan, o) rest h = (at Three s d Zm, refl, run_last s d o rest h)

run_position : (s : Site) (d : ℕ) (tag : Tag) (p : Position tag) (rest : List Move) → Run (at After s d tag) rest →
    Run (at First s d tag) (position_then (second_role s) p rest)
unfolding advance
run_position s d tag p rest h = (at Second s d tag, refl, (at Two s d tag, refl, run_more s d tag p.more rest h))

-- Further items of a list, and the end of its bracket.
run_others : {A : Type 0} (spell : A → List Move → List Move) (s : Site) (d : ℕ) (tag : Tag) (step : Step) → after_comma s ≡ Some step →
    ((x : A) (u : List Move) → Run (at After s d tag) u → Run (at step s d tag) (spell x u)) →
    (xs : List A) (rest : List Move) → Run (after_close (at After s d tag)) rest →
    Run (at After s d tag) (others_then spell xs (move token.Close (end_role s) ∷ rest))
unfolding advance
run_others spell s d tag step e item [] rest h = (after_close (at After s d tag), refl, h)
run_others spell s d tag step e item (x ∷ xs) rest h =
    (at step s d tag, ap (option_map (λ u. (Mark, at u s d tag))) e, item x _ (run_others spell s d tag step e item xs rest h))

abbrev ended_at : ℕ → Tag → Control
ended_at d tag = at (step_ended d) site.Top d tag

-- ---- lines and rings

run_line : (many : Membership) (d : ℕ) (tag : Tag) (p : Position tag) (ps : List (Position tag)) (rest : List Move) →
    Run (after_close (at After (site.Line many) d tag)) rest →
    Run (at First (site.Line many) d tag) (position_then WayY p (others_then (position_then WayY) ps (move token.Close EndLine ∷ rest)))
run_line many d tag p ps rest h =
    run_position (site.Line many) d tag p _
    (run_others (position_then WayY) (site.Line many) d tag First refl (run_position (site.Line many) d tag) ps rest h)

run_ring : (many : Membership) (kind : RingKind) (d : ℕ) (tag : Tag) (p : Position tag) (ps : List (Position tag)) (rest : List Move) →
    Run (at After (site.Polygon many Hole) d tag) rest →
    Run (at First (site.Ring many kind) d tag)
    (position_then WayY p (others_then (position_then WayY) ps (move token.Close (end_role (site.Ring many kind)) ∷ rest)))
run_ring many kind d tag p ps rest h =
    run_position (site.Ring many kind) d tag p _
    (run_others (position_then WayY) (site.Ring many kind) d tag First refl (run_position (site.Ring many kind) d tag) ps rest h)

run_line_item : (d : ℕ) (tag : Tag) (w : Way tag) (rest : List Move) → Run (at After site.Lines d tag) rest →
    Run (at Item site.Lines d tag) (way_then EndLine w rest)
unfolding advance
run_line_item d tag empty_way rest h = (at After site.Lines d tag, refl, h)
run_line_item d tag (along p ps) rest h = (at First (site.Line Member) d tag, refl, run_line Member d tag p ps rest h)

run_hole_item : (many : Membership) (d : ℕ) (tag : Tag) (w : Way tag) (rest : List Move) →
    Run (at After (site.Polygon many Hole) d tag) rest →
    Run (at Item (site.Polygon many Hole) d tag) (way_then EndHole w rest)
unfolding advance
run_hole_item many d tag empty_way rest h = (at After (site.Polygon many Hole) d tag, refl, h)
run_hole_item many d tag (along p ps) rest h = (at First (site.Ring many ring.Hole) d tag, refl, run_ring many ring.Hole d tag p ps rest h)

run_gaps : (many : Membership) (d : ℕ) (tag : Tag) (n : ℕ) (rest : List Move) →
    Run (after_close (at After (site.Polygon many Hollow) d tag)) rest →
    Run (at After (site.Polygon many Hollow) d tag) (gaps_then n (move token.Close Mark ∷ rest))
unfolding advance
run_gaps many d tag zero rest h = (after_close (at After (site.Polygon many Hollow) d tag), refl, h)
run_gaps many d tag (suc n) rest h =
    (at Item (site.Polygon many Hollow) d tag, refl, (at After (site.Polygon many Hollow) d tag, refl, run_gaps many d tag n rest h))

run_hollow : (many : Membership) (d : ℕ) (tag : Tag) (n : ℕ) (rest : List Move) →
    Run (after_close (at After (site.Polygon many Hollow) d tag)) rest →
    Run (at Item (site.Polygon many Shell) d tag) (gap_then (gaps_then n (move token.Close Mark ∷ rest)))
unfolding advance
run_hollow many d tag n rest h = (at After (site.Polygon many Hollow) d tag, refl, run_gaps many d tag n rest h)

run_area : (many : Membership) (d : ℕ) (tag : Tag) (p : Position tag) (ps : List (Position tag)) (ws : List (Way tag)) (rest : List Move) →
    Run (after_close (at After (site.Polygon many Hole) d tag)) rest →
    Run (at Item (site.Polygon many Shell) d tag)
    (along_then EndShell p ps (others_then (way_then EndHole) ws (move token.Close EndArea ∷ rest)))
unfolding advance
run_area many d tag p ps ws rest h = (
  at First (site.Ring many ring.Shell) d tag,
  refl,
  run_ring many ring.Shell d tag p ps _
      (run_others (way_then EndHole) (site.Polygon many Hole) d tag Item refl (run_hole_item many d tag) ws rest h),
)

run_surface_item : (d : ℕ) (tag : Tag) (x : Surface tag) (rest : List Move) → Run (at After site.Polygons d tag) rest →
    Run (at Item site.Polygons d tag) (surface_then Mark x rest)
unfolding advance
run_surface_item d tag empty_surface rest h = (at After site.Polygons d tag, refl, h)
run_surface_item d tag (hollow n) rest h = (at Item (site.Polygon Member Shell) d tag, refl, run_hollow Member d tag n rest h)
run_surface_item d tag (area p ps ws) rest h = (at Item (site.Polygon Member Shell) d tag, refl, run_area Member d tag p ps ws rest h)

run_element_item : (d : ℕ) (tag : Tag) (x : Element tag) (rest : List Move) → Run (at After site.Points d tag) rest →
    Run (at Item site.Points d tag) (element_then x rest)
unfolding advance
run_element_item d tag empty_element rest h = (at After site.Points d tag, refl, h)
run_element_item d tag (bare p) rest h =
    (at Second site.Points d tag, refl, (at Two site.Points d tag, refl, run_more site.Points d tag p.more rest h))
run_element_item d tag (bracketed p) rest h =
    (at First site.Element d tag, refl, run_position site.Element d tag p _ (at After site.Points d tag, refl, h))

-- ---- bodies

run_simple : (s : Site) (d : ℕ) (tag : Tag) (b : Simple tag) (rest : List Move) → Run (ended_at d tag) rest →
    Run (at (Body (type_of_simple b)) s d tag) (simple_then b rest)
unfolding advance
run_simple s d tag empty_point rest h = (ended_at d tag, refl, h)
run_simple s d tag (point p) rest h = (at First site.Point d tag, refl, run_position site.Point d tag p _ (ended_at d tag, refl, h))
run_simple s d tag (line empty_way) rest h = (ended_at d tag, refl, h)
run_simple s d tag (line (along p ps)) rest h = (at First (site.Line Alone) d tag, refl, run_line Alone d tag p ps rest h)
run_simple s d tag (polygon empty_surface) rest h = (ended_at d tag, refl, h)
run_simple s d tag (polygon (hollow n)) rest h = (at Item (site.Polygon Alone Shell) d tag, refl, run_hollow Alone d tag n rest h)
run_simple s d tag (polygon (area p ps ws)) rest h = (at Item (site.Polygon Alone Shell) d tag, refl, run_area Alone d tag p ps ws rest h)
run_simple s d tag (points empty_many) rest h = (ended_at d tag, refl, h)
run_simple s d tag (points (several x xs)) rest h =
    let others = run_others element_then site.Points d tag Item refl (run_element_item d tag) xs rest h in
    (at Item site.Points d tag, refl, run_element_item d tag x _ others)
run_simple s d tag (lines empty_many) rest h = (ended_at d tag, refl, h)
run_simple s d tag (lines (several x xs)) rest h =
    let others = run_others (way_then EndLine) site.Lines d tag Item refl (run_line_item d tag) xs rest h in
    (at Item site.Lines d tag, refl, run_line_item d tag x _ others)
run_simple s d tag (polygons empty_many) rest h = (ended_at d tag, refl, h)
run_simple s d tag (polygons (several x xs)) rest h =
    let others = run_others (surface_then Mark) site.Polygons d tag Item refl (run_surface_item d tag) xs rest h in
    (at Item site.Polygons d tag, refl, run_surface_item d tag x _ others)

-- ---- type words and tags

same_opened : (kind : TypeWord) (s : Site) (d : ℕ) (tag : Tag) →
    opened (at (Tagged kind) s d tag) kind ≡ opened (at (Body kind) s d tag) kind
same_opened type.Point s d tag = refl
same_opened type.LineString s d tag = refl
same_opened type.Polygon s d tag = refl
same_opened type.MultiPoint s d tag = refl
same_opened type.MultiLineString s d tag = refl
same_opened type.MultiPolygon s d tag = refl
same_opened type.GeometryCollection s d tag = refl

run_tagged : (kind : TypeWord) (s : Site) (d : ℕ) (tag : Tag) (rest : List Move) → Run (at (Body kind) s d tag) rest →
    Run (at (Tagged kind) s d tag) rest
unfolding advance
run_tagged kind s d tag [] e = absurd (body_done kind e)
run_tagged kind s d tag ((token.Open, r) ∷ rest) (c', e, h) = (c', ap Some (same_opened kind s d tag) ∙ e, h)
run_tagged kind s d tag ((token.Empty, r) ∷ rest) h = h
run_tagged kind s d tag ((other, r) ∷ rest) h = absurd (none-some _ h.1)

-- The type word leads to its tag or body.
abbrev Leads : Site → ℕ → TypeWord → Role → ℕ → Type 0
Leads s d kind role inside = (before tag : Tag) → started (at Start s d before) kind tag ≡ (role, at (step_tagged kind tag) s inside tag)

run_head : (s : Site) (d inside : ℕ) (before : Tag) (kind : TypeWord) (role : Role) (w : Writing) (rest : List Move) →
    Leads s d kind role inside →
    Run (at (Body kind) s inside (tag_of_writing w)) rest → Run (at Start s d before) (head_then role kind w rest)
unfolding advance
run_head s d inside before kind role (joined Plain) rest l h =
    (at (Tagged kind) s inside Plain, ap Some (l before Plain), run_tagged kind s inside Plain rest h)
run_head s d inside before kind role (joined Z) rest l h = (at (Body kind) s inside Z, ap Some (l before Z), h)
run_head s d inside before kind role (joined M) rest l h = (at (Body kind) s inside M, ap Some (l before M), h)
run_head s d inside before kind role (joined Zm) rest l h = (at (Body kind) s inside Zm, ap Some (l before Zm), h)
run_head s d inside before kind role (apart t) rest l h =
    (at (Tagged kind) s inside Plain, ap Some (l before Plain), (at (Body kind) s inside t, refl, h))

leads_simple : (s : Site) (d : ℕ) {tag : Tag} (b : Simple tag) → Leads s d (type_of_simple b) Head d
leads_simple s d empty_point before tag = refl
leads_simple s d (point p) before tag = refl
leads_simple s d (line w) before tag = refl
leads_simple s d (polygon x) before tag = refl
leads_simple s d (points x) before tag = refl
leads_simple s d (lines x) before tag = refl
leads_simple s d (polygons x) before tag = refl

-- ---- geometries

mutual
  unfolding advance

  run_geometry : (g : Geometry) (s : Site) (d : ℕ) (before : Tag) (rest : List Move) → ((tag : Tag) → Run (ended_at d tag) rest) →
      Run (at Start s d before) (geometry_then g d rest)
  run_geometry (simple w b) s d before rest h =
      run_head s d d before (type_of_simple b) Head w _ (leads_simple s d b)
      (run_simple s d (tag_of_writing w) b rest (h (tag_of_writing w)))
  run_geometry (empty_collection w) s d before rest h =
      run_head s d (suc d) before type.GeometryCollection (depth_role d) w _ (λ b t. refl)
      (ended_at d (tag_of_writing w), refl, h (tag_of_writing w))
  run_geometry (collection w g gs) s d before rest h =
      run_head s d (suc d) before type.GeometryCollection (depth_role d) w _ (λ b t. refl) (
        at Start site.Top (suc d) (tag_of_writing w),
        refl,
        run_geometry g site.Top (suc d) (tag_of_writing w) _ (λ tag. run_geometries gs d tag rest h),
      )

  run_geometries : (gs : Geometries) (d : ℕ) (tag : Tag) (rest : List Move) → ((tag : Tag) → Run (ended_at d tag) rest) →
      Run (at After site.Top (suc d) tag) (geometries_then gs (suc d) (move token.Close Mark ∷ rest))
  run_geometries none d tag rest h = (ended_at d tag, refl, h tag)
  run_geometries (more g gs) d tag rest h =
      (at Start site.Top (suc d) tag, refl, run_geometry g site.Top (suc d) tag _ (λ t. run_geometries gs d t rest h))

-- The text of a geometry is taken to the end.
pub spelled_run : (g : Geometry) → Run start (course g)
spelled_run g = run_geometry g site.Top 0 Plain [] (λ tag. refl)
