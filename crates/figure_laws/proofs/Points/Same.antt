-- Where a point lies is said of the point and not of its triple: every test and relation of the definitions answers alike for
-- the same point.
use Rattle.std.proofs.Common.{◌≡◌, ◌+◌, ℤ, pos, ◌*ℤ◌, ◌≤ℤ◌, Bool, true, false, not, ◌&&◌, ◌||◌, List, [], ◌∷◌, if◌then◌else◌, ap, refl, sym}
use Rattle.std.proofs.Common.{◌∙◌, arith}
use Rattle.std.specs.List.{list_any}
use Rattle.std.specs.Prelude.{int_lt}
use Rattle.std.proofs.lemmas.Bool.Decides.{Decides-like, same_from_decides}
use Rattle.im_matrix.specs.declared.Loc.{Loc}
use Rattle.whole_algebra.proofs.Laws.{linear}
use Rattle.plane_laws.proofs.Points.Same.{same_refl, same_sym, same_test}
use Rattle.plane_laws.proofs.Turns.Turns.{OneSign, OneSign-pos, OneSign-neg, OneSign-nonneg, turn_same, rise_same}
use Rattle.plane_laws.proofs.Segments.Mixes.{strict_triangle_same}
use Rattle.plane_laws.proofs.Segments.On.{Decides-int_le, Decides-int_lt, on_test_same}
use Rattle.plane_laws.specs.Plane.{Point, IsSamePoint, turn, rise}
use Rattle.plane_exact.specs.Places.{point_of}
use Rattle.plane_exact.specs.declared.point.Pt.{Pt}
use Rattle.plane_exact.specs.declared.point.Seg.{Seg}
use Rattle.point_set.specs.declared.dim_loc.DimLoc.{DimLoc}
use Rattle.point_set.specs.declared.dim_loc.DimLoc.TheVariants as kind
use Rattle.point_set.specs.declared.figure.Area.{Area}
use Rattle.point_set.specs.declared.figure.Figure.{Figure}
use Rattle.point_set.specs.declared.rule.Rule.{Rule}
use Rattle.point_set.specs.Rings.{edges_of, is_on_edge, is_on_edges, is_low, crosses_from, crosses, differ, is_odd, is_inside}
use Rattle.point_set.specs.Lines.{is_at, is_at_some, count_at, ends_of_lines, is_boundary_count, is_still}
use Rattle.point_set.specs.Location.{location, location_by, rings_of, edges_of_rings, is_not_exterior, is_covered, IsAreaInterior}
use Rattle.point_set.specs.Location.{is_on_line, is_line_boundary, is_at_point, IsKind, IsLocation}

-- two tests that agree on each item agree on a list
pub list_any_alike : {X : Type 0} (test test' : X → Bool) → ((x : X) → test x ≡ test' x) → (xs : List X)
    → list_any test xs ≡ list_any test' xs
list_any_alike test test' h [] = refl
list_any_alike test test' h (x ∷ xs) = λ i. h x i || list_any_alike test test' h xs i

-- ---- positions
pub is_at-same : {p p' : Point} → IsSamePoint p p' → (q : Pt) → is_at p q ≡ is_at p' q
is_at-same h q = same_test h (same_refl (point_of q))

pub is_at_some-same : {p p' : Point} → IsSamePoint p p' → (positions : List Pt) → is_at_some p positions ≡ is_at_some p' positions
is_at_some-same {p} {p'} h = list_any_alike (is_at p) (is_at p') (is_at-same h)

pub count_at-same : {p p' : Point} → IsSamePoint p p' → (positions : List Pt) → count_at p positions ≡ count_at p' positions
count_at-same h [] = refl
count_at-same h (q ∷ others) = λ i. (if is_at-same h q i then 1 else 0) + count_at-same h others i

-- ---- edges
pub is_on_edge-same : {p p' : Point} → IsSamePoint p p' → (e : Seg) → is_on_edge p e ≡ is_on_edge p' e
is_on_edge-same h e = on_test_same (same_refl (point_of e.a)) (same_refl (point_of e.b)) h

pub is_on_edges-same : {p p' : Point} → IsSamePoint p p' → (edges : List Seg) → is_on_edges p edges ≡ is_on_edges p' edges
is_on_edges-same {p} {p'} h = list_any_alike (is_on_edge p) (is_on_edge p') (is_on_edge-same h)

-- a is at most as high as p exactly where the rise from a to p isn't negative
low_rise : (p a : Point) → (a.y *ℤ p.w) ≤ℤ (p.y *ℤ a.w) → pos 0 ≤ℤ rise a p
unfolding rise
low_rise p a h = omega (arith, linear, h)

rise_low : (p a : Point) → pos 0 ≤ℤ rise a p → (a.y *ℤ p.w) ≤ℤ (p.y *ℤ a.w)
unfolding rise
rise_low p a h = omega (arith, linear, h)

pub is_low-same : {p p' : Point} → IsSamePoint p p' → (a : Point) → is_low p a ≡ is_low p' a
is_low-same {p} {p'} h a =
    let signs = OneSign-nonneg (rise_same (same_refl a) h) in
    same_from_decides (is_low p a) (is_low p' a) (Decides-int_le (a.y *ℤ p.w) (p.y *ℤ a.w))
    (Decides-like (is_low p' a) (λ k. rise_low p a (signs.1 (low_rise p' a k))) (λ k. rise_low p' a (signs.0 (low_rise p a k)))
    (Decides-int_le (a.y *ℤ p'.w) (p'.y *ℤ a.w)))

crosses_from-same : (low high : Bool) {u v : ℤ} → OneSign u v → crosses_from low high u ≡ crosses_from low high v
crosses_from-same true true h = refl
crosses_from-same true false {u} {v} h =
    same_from_decides (int_lt (pos 0) u) (int_lt (pos 0) v) (Decides-int_lt (pos 0) u)
    (Decides-like (int_lt (pos 0) v) (OneSign-pos h).1 (OneSign-pos h).0 (Decides-int_lt (pos 0) v))
crosses_from-same false true {u} {v} h =
    same_from_decides (int_lt u (pos 0)) (int_lt v (pos 0)) (Decides-int_lt u (pos 0))
    (Decides-like (int_lt v (pos 0)) (OneSign-neg h).1 (OneSign-neg h).0 (Decides-int_lt v (pos 0)))
crosses_from-same false false h = refl

pub crosses-same : {p p' : Point} → IsSamePoint p p' → (e : Seg) → crosses p e ≡ crosses p' e
crosses-same {p} {p'} h e =
    (λ i. crosses_from (is_low-same h (point_of e.a) i) (is_low-same h (point_of e.b) i) (turn (point_of e.a) (point_of e.b) p))
    ∙ crosses_from-same (is_low p' (point_of e.a)) (is_low p' (point_of e.b))
    (turn_same (same_refl (point_of e.a)) (same_refl (point_of e.b)) h)

pub is_odd-same : {p p' : Point} → IsSamePoint p p' → (edges : List Seg) → is_odd p edges ≡ is_odd p' edges
is_odd-same h [] = refl
is_odd-same h (e ∷ edges) = λ i. differ (crosses-same h e i) (is_odd-same h edges i)

pub is_inside-same : {p p' : Point} → IsSamePoint p p' → (ring : List Pt) → is_inside p ring ≡ is_inside p' ring
is_inside-same h ring = λ i. not (is_on_edges-same h (edges_of ring) i) && is_odd-same h (edges_of ring) i

-- ---- areas
pub location-same : {p p' : Point} → IsSamePoint p p' → (area : Area) → location area p ≡ location area p'
location-same {p} {p'} h area = λ i.
    location_by (is_on_edges-same h (edges_of_rings (rings_of area)) i) (is_inside-same h area.shell i)
    (list_any_alike (is_inside p) (is_inside p') (is_inside-same h) area.holes i)

pub is_covered-same : {p p' : Point} → IsSamePoint p p' → (f : Figure) → is_covered f p ≡ is_covered f p'
is_covered-same {p} {p'} h f =
    list_any_alike (λ area. is_not_exterior (location area p)) (λ area. is_not_exterior (location area p'))
    (λ area. ap is_not_exterior (location-same h area)) f.areas

pub IsAreaInterior-same : {f : Figure} {p p' : Point} → IsSamePoint p p' → IsAreaInterior f p → IsAreaInterior f p'
IsAreaInterior-same h inside = record {
  a = inside.a;
  b = inside.b;
  c = inside.c;
  strictly = strict_triangle_same (same_refl inside.a) (same_refl inside.b) (same_refl inside.c) h inside.strictly;
  covered = inside.covered;
}

-- ---- lines and points
pub is_on_line-same : {p p' : Point} → IsSamePoint p p' → (f : Figure) → is_on_line f p ≡ is_on_line f p'
is_on_line-same {p} {p'} h f =
    list_any_alike (λ line. is_on_edges p (edges_of line)) (λ line. is_on_edges p' (edges_of line))
    (λ line. is_on_edges-same h (edges_of line)) f.lines

pub is_line_boundary-same : {p p' : Point} → IsSamePoint p p' → (f : Figure) (rule : Rule)
    → is_line_boundary f rule p ≡ is_line_boundary f rule p'
is_line_boundary-same h f rule = ap (is_boundary_count rule) (count_at-same h (ends_of_lines f.lines))

pub is_at_point-same : {p p' : Point} → IsSamePoint p p' → (f : Figure) → is_at_point f p ≡ is_at_point f p'
is_at_point-same {p} {p'} h f = λ i.
    is_at_some-same h f.points i
    || list_any_alike (λ line. is_still line && is_at_some p line) (λ line. is_still line && is_at_some p' line)
    (λ line. ap (λ b. is_still line && b) (is_at_some-same h line)) f.lines i

-- ---- kinds and parts
pub IsKind-same : {p p' : Point} → IsSamePoint p p' → (f : Figure) (rule : Rule) (k : DimLoc) → IsKind f rule p k → IsKind f rule p' k
IsKind-same h f rule kind.AreaInterior k = IsAreaInterior-same h k
IsKind-same h f rule kind.AreaBoundary k = (sym (is_covered-same h f) ∙ k.0, λ inside. k.1 (IsAreaInterior-same (same_sym h) inside))
IsKind-same h f rule kind.LineBoundary k =
    (sym (is_covered-same h f) ∙ k.0, sym (is_on_line-same h f) ∙ k.1, sym (is_line_boundary-same h f rule) ∙ k.2)
IsKind-same h f rule kind.LineInterior k =
    (sym (is_covered-same h f) ∙ k.0, sym (is_on_line-same h f) ∙ k.1, sym (is_line_boundary-same h f rule) ∙ k.2)
IsKind-same h f rule kind.PointInterior k =
    (sym (is_covered-same h f) ∙ k.0, sym (is_on_line-same h f) ∙ k.1, sym (is_at_point-same h f) ∙ k.2)
IsKind-same h f rule kind.Exterior k =
    (sym (is_covered-same h f) ∙ k.0, sym (is_on_line-same h f) ∙ k.1, sym (is_at_point-same h f) ∙ k.2)

pub IsLocation-same : {p p' : Point} → IsSamePoint p p' → (f : Figure) (rule : Rule) {part : Loc} → IsLocation f rule p part
    → IsLocation f rule p' part
IsLocation-same h f rule l = record { decided_by = l.decided_by; decides = IsKind-same h f rule l.decided_by l.decides; gives = l.gives }
