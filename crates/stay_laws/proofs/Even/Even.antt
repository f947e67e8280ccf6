-- From p to q every edge of a figure holds all points or none, and no position is met: then all but 'area interior' is the same at both
-- ends.
use Rattle.std.proofs.Common.{◌≡◌, ℕ, zero, suc, ◌+◌, Bool, true, false, ◌||◌, ◌&&◌, if◌then◌else◌, List, [], ◌∷◌, ◌++◌, ap, refl, sym, ◌∙◌}
use Rattle.std.proofs.Common.{subst}
use Rattle.std.specs.List.{list_any}
use Rattle.std.proofs.lemmas.Bool.{true≢false, or_parts, or_from}
use Rattle.im_matrix.specs.declared.Loc.TheVariants.{Boundary}
use Rattle.plane_laws.proofs.Segments.Mixes.{start_on_segment, end_on_segment}
use Rattle.plane_laws.specs.Plane.{Point, IsOnSegment}
use Rattle.plane_exact.specs.declared.point.Pt.{Pt}
use Rattle.plane_exact.specs.declared.point.Seg.{Seg}
use Rattle.point_set.specs.declared.dim_loc.DimLoc.{DimLoc}
use Rattle.point_set.specs.declared.dim_loc.DimLoc.TheVariants as kind
use Rattle.point_set.specs.declared.figure.Area.{Area}
use Rattle.point_set.specs.declared.figure.Figure.{Figure}
use Rattle.point_set.specs.declared.rule.Rule.{Rule}
use Rattle.point_set.specs.Lines.{is_at, is_at_some, is_at_still_line, is_on_lines, is_still, count_at, ends_of, ends_of_lines, last_after}
use Rattle.point_set.specs.Lines.{is_boundary_count}
use Rattle.point_set.specs.Location.{location, location_by, is_not_exterior, is_covered, is_covered_by, IsAreaInterior, is_on_line}
use Rattle.point_set.specs.Location.{is_line_boundary, is_at_point, IsKind, edges_of_rings, rings_of}
use Rattle.point_set.specs.Rings.{edges_of, is_on_edge, is_on_edges, is_inside}
use Rattle.point_set.specs.Shape.{IsAreaShaped, IsWellShaped}
use Rattle.point_set.specs.Validity.{IsAtPlace}
use Rattle.ring_laws.proofs.Germs.Areas.{location_stays}
use Rattle.figure_laws.proofs.Points.Kinds.{one_kind, kind_by, uncovered_kind, kind_of_uncovered}
use Rattle.figure_laws.proofs.Lists.Places.{some_same}
use Rattle.side_laws.proofs.Areas.Hands.{area_shaped}
use Rattle.germ_laws.proofs.Room.Germs.{AreAllAlike, alike_on_edges}
use Rattle.point_set.specs.Nodes.{positions_of_ways, rings_of_areas, all_positions, segs_of}
use Rattle.figure_laws.proofs.Edges.Lists.{segs_are, rings_append, none_append, none_joined}

-- ---- lists of edges that hold both or neither
-- two lists: alike on both
pub alike_split : (p q : Point) (xs ys : List Seg) → AreAllAlike p q (xs ++ ys) → AreAllAlike p q xs × AreAllAlike p q ys
alike_split p q [] ys h = (tt, h)
alike_split p q (x ∷ xs) ys h = let rest = alike_split p q xs ys h.1 in ((h.0, rest.0), rest.1)

-- where both are off, both are alike
pub alike_off : (p q : Point) (edges : List Seg) → is_on_edges p edges ≡ false → is_on_edges q edges ≡ false → AreAllAlike p q edges
alike_off p q [] h k = tt
alike_off p q (e ∷ edges) h k =
    let at_p = or_parts (is_on_edge p e) (is_on_edges p edges) h in
    let at_q = or_parts (is_on_edge q e) (is_on_edges q edges) k in
    (at_p.0 ∙ sym at_q.0, alike_off p q edges at_p.1 at_q.1)

-- ---- even between
-- from p to q every edge of the figure holds all points or none, and there is no position
pub record IsEvenBetween (f : Figure) (p q : Point) : Type 0 where
  pub alike : (m : Point) → IsOnSegment p q m → AreAllAlike p m (segs_of f)
  pub lone : (m : Point) → IsOnSegment p q m → is_at_some m (all_positions f) ≡ false

-- the edges of one of the areas
pub area_alike :
    (p q : Point) (areas : List Area) → AreAllAlike p q (edges_of_rings (rings_of_areas areas)) → (k : ℕ) (area : Area)
    → IsAtPlace areas k area → AreAllAlike p q (edges_of_rings (rings_of area))
area_alike p q [] h k area is = cc
area_alike p q (first ∷ areas) h zero area is =
    subst (λ (a : Area). AreAllAlike p q (edges_of_rings (rings_of a))) (some_same is)
    (alike_split p q (edges_of_rings (rings_of first)) (edges_of_rings (rings_of_areas areas))
    (subst (λ edges. AreAllAlike p q edges) (rings_append (rings_of first) (rings_of_areas areas)) h)).0
area_alike p q (first ∷ areas) h (suc k) area is =
    area_alike p q areas
    (alike_split p q (edges_of_rings (rings_of first)) (edges_of_rings (rings_of_areas areas))
    (subst (λ edges. AreAllAlike p q edges) (rings_append (rings_of first) (rings_of_areas areas)) h)).1
    k area is

-- on an edge the location is Boundary
pub on_boundary : (area : Area) (p : Point) → is_on_edges p (edges_of_rings (rings_of area)) ≡ true → location area p ≡ Boundary
on_boundary area p h = ap (λ z. location_by z (is_inside p area.shell) (list_any (is_inside p) area.holes)) h

-- one area's location is the same at both ends
pub location_even :
    (area : Area) → IsAreaShaped area → (p q : Point) → ((m : Point) → IsOnSegment p q m → AreAllAlike p m (edges_of_rings (rings_of area)))
    → location area p ≡ location area q
location_even area shaped p q alike = by_test (is_on_edges p edges) refl
  where
    edges : List Seg
    edges = edges_of_rings (rings_of area)

    by_test : (b : Bool) → is_on_edges p edges ≡ b → location area p ≡ location area q
    by_test true h = on_boundary area p h ∙ sym (on_boundary area q (sym (alike_on_edges p q edges (alike q (end_on_segment p q))) ∙ h))
    by_test false h = location_stays p q area shaped (record { off = λ m on. sym (alike_on_edges p m edges (alike m on)) ∙ h })

-- cover is the same where each area's location is
covered_alike :
    (p q : Point) (areas : List Area) → ((k : ℕ) (area : Area) → IsAtPlace areas k area → location area p ≡ location area q)
    → is_covered_by p areas ≡ is_covered_by q areas
covered_alike p q [] same = refl
covered_alike p q (area ∷ areas) same = λ i. is_not_exterior (same 0 area refl i) || covered_alike p q areas
    (λ k other is. same (suc k) other is) i

-- lines that hold both or neither
lines_alike : (p q : Point) (lines : List (List Pt)) → AreAllAlike p q (edges_of_rings lines) → is_on_lines p lines ≡ is_on_lines q lines
lines_alike p q [] h = refl
lines_alike p q (line ∷ lines) h =
    let both = alike_split p q (edges_of line) (edges_of_rings lines) h in
    λ i. alike_on_edges p q (edges_of line) both.0 i || lines_alike p q lines both.1 i

-- ---- where there is no position there is no line end and no point
-- the last position isn't here either
last_none : (m : Point) (p : Pt) (others : List Pt) → is_at_some m (p ∷ others) ≡ false → is_at m (last_after p others) ≡ false
last_none m p [] h = (or_parts (is_at m p) false h).0
last_none m p (q ∷ others) h = last_none m q others (or_parts (is_at m p) (is_at_some m (q ∷ others)) h).1

-- none of the counted positions is here
pub count_none : (m : Point) (positions : List Pt) → is_at_some m positions ≡ false → count_at m positions ≡ 0
count_none m [] h = refl
count_none m (p ∷ positions) h =
    let tests = or_parts (is_at m p) (is_at_some m positions) h in
    λ i. (if tests.0 i then 1 else 0) + count_none m positions tests.1 i

-- the ends of one line
ends_none : (m : Point) (line : List Pt) → is_at_some m line ≡ false → is_at_some m (ends_of line) ≡ false
ends_none m [] h = refl
ends_none m (p ∷ others) h = by_still (is_still (p ∷ others))
  where
    by_still : (b : Bool) → is_at_some m (if b then [] else p ∷ last_after p others ∷ []) ≡ false
    by_still true = refl
    by_still false =
        or_from (is_at m p) (is_at m (last_after p others) || false) (or_parts (is_at m p) (is_at_some m others) h).0
        (or_from (is_at m (last_after p others)) false (last_none m p others h) refl)

-- the ends of all lines
pub line_ends_none :
    (m : Point) (lines : List (List Pt)) → is_at_some m (positions_of_ways lines) ≡ false → is_at_some m (ends_of_lines lines) ≡ false
line_ends_none m [] h = refl
line_ends_none m (line ∷ lines) h =
    let both = none_append (is_at m) line (positions_of_ways lines) h in
    none_joined (is_at m) (ends_of line) (ends_of_lines lines) (ends_none m line both.0) (line_ends_none m lines both.1)

-- no line that is still is here
pub still_none : (m : Point) (lines : List (List Pt)) → is_at_some m (positions_of_ways lines) ≡ false → is_at_still_line m lines ≡ false
still_none m [] h = refl
still_none m (line ∷ lines) h =
    let both = none_append (is_at m) line (positions_of_ways lines) h in
    or_from (is_still line && is_at_some m line) (is_at_still_line m lines) (neither (is_still line) (is_at_some m line) both.0)
    (still_none m lines both.1)
  where
    neither : (b c : Bool) → c ≡ false → b && c ≡ false
    neither true c h = h
    neither false c h = refl

-- ---- a figure
module _ (f : Figure) (shaped : IsWellShaped f) (p q : Point) (even : IsEvenBetween f p q) where
  -- the edges of lines and of areas apart
  parts :
      (m : Point) → IsOnSegment p q m → AreAllAlike p m (edges_of_rings f.lines) × AreAllAlike p m (edges_of_rings (rings_of_areas f.areas))
  parts m on =
      alike_split p m (edges_of_rings f.lines) (edges_of_rings (rings_of_areas f.areas))
      (subst (λ edges. AreAllAlike p m edges) (segs_are f) (even.alike m on))

  -- an area's edges are alike at each point between
  pub even_area :
      (k : ℕ) (area : Area) → IsAtPlace f.areas k area → (m : Point) → IsOnSegment p q m → AreAllAlike p m (edges_of_rings (rings_of area))
  even_area k area is m on = area_alike p m f.areas (parts m on).1 k area is

  -- an area's location is the same at both ends
  pub even_location : (k : ℕ) (area : Area) → IsAtPlace f.areas k area → location area p ≡ location area q
  even_location k area is = location_even area (area_shaped f shaped k area is) p q (even_area k area is)

  -- the union covers both ends or neither
  pub even_cover : is_covered f p ≡ is_covered f q
  even_cover = covered_alike p q f.areas even_location

  -- a line holds both ends or none does
  even_line : is_on_line f p ≡ is_on_line f q
  even_line = lines_alike p q f.lines (parts q (end_on_segment p q)).0

  -- no position of points, lines or rings between
  lone_parts : (m : Point) → IsOnSegment p q m → (is_at_some m f.points ≡ false) × (is_at_some m (positions_of_ways f.lines) ≡ false)
  lone_parts m on =
      let both = none_append (is_at m) f.points (positions_of_ways f.lines ++ positions_of_ways (rings_of_areas f.areas)) (even.lone m on)
      in
      (both.0, (none_append (is_at m) (positions_of_ways f.lines) (positions_of_ways (rings_of_areas f.areas)) both.1).0)

  -- no line ends between, so the rule is asked of none
  no_ends : (rule : Rule) (m : Point) → IsOnSegment p q m → is_line_boundary f rule m ≡ is_boundary_count rule 0
  no_ends rule m on = ap (is_boundary_count rule) (count_none m (ends_of_lines f.lines) (line_ends_none m f.lines (lone_parts m on).1))

  -- no point of the figure between
  no_point : (m : Point) → IsOnSegment p q m → is_at_point f m ≡ false
  no_point m on =
      let both = lone_parts m on in
      or_from (is_at_some m f.points) (is_at_still_line m f.lines) both.0 (still_none m f.lines both.1)

  -- the kind that holds off the areas is the same at both ends
  even_uncovered : (rule : Rule) → uncovered_kind f rule p ≡ uncovered_kind f rule q
  even_uncovered rule = λ i.
      kind_by (even_line i) ((no_ends rule p (start_on_segment p q) ∙ sym (no_ends rule q (end_on_segment p q))) i)
      ((no_point p (start_on_segment p q) ∙ sym (no_point q (end_on_segment p q))) i)

  -- the kind is the same, where 'area interior' is
  pub even_kind :
      (IsAreaInterior f p → IsAreaInterior f q) → (IsAreaInterior f q → IsAreaInterior f p) → (rule : Rule) (k : DimLoc) → IsKind f rule p k
      → IsKind f rule q k
  even_kind there back rule k is = by_cover (is_covered f p) refl k is
    where
      by_cover : (b : Bool) → is_covered f p ≡ b → (k : DimLoc) → IsKind f rule p k → IsKind f rule q k
      by_cover true on kind.AreaInterior h = there h
      by_cover true on kind.AreaBoundary h = (sym even_cover ∙ on, λ inside. h.1 (back inside))
      by_cover true on kind.LineBoundary h = absurd (true≢false (sym on ∙ h.0))
      by_cover true on kind.LineInterior h = absurd (true≢false (sym on ∙ h.0))
      by_cover true on kind.PointInterior h = absurd (true≢false (sym on ∙ h.0))
      by_cover true on kind.Exterior h = absurd (true≢false (sym on ∙ h.0))
      by_cover false off k h =
          subst (λ l. IsKind f rule q l)
          (sym (even_uncovered rule) ∙ one_kind f rule p (uncovered_kind f rule p) k (kind_of_uncovered f rule p off) h)
          (kind_of_uncovered f rule q (sym even_cover ∙ off))
