-- Above the limit on coordinates nothing is there, so the cell of the two exteriors holds a triangle.
use Rattle.std.proofs.Common.{◌≡◌, ◌&&◌, ℤ, pos, negsuc, ◌+ℤ◌, ◌*ℤ◌, ◌≤ℤ◌, ◌<ℤ◌, true, false, not, List, [], ◌∷◌, refl, arith}
use Rattle.std.specs.List.{All, list_any}
use Rattle.std.proofs.lemmas.Bool.{or_from, and_right, false_from_ne_true}
use Rattle.std.proofs.lemmas.List.Elements.{All-head, All-tail, All-cons, All-nil, All-append, All-weaker}
use Rattle.std.proofs.lemmas.List.Folds.{list_any_none}
use Rattle.whole_algebra.proofs.Laws.{linear, *ℤ_one}
use Rattle.whole_algebra.proofs.Polynomials.{var, num, ◌⊕◌, ◌⊖◌, ◌⊗◌, minus}
use Rattle.whole_algebra.proofs.Certificates.{natural, positive, at_most, same, at_most_from, impossible_by, scaled, ◌⊞◌, ◌⊠◌}
use Rattle.whole_algebra.proofs.Signs.{<ℤ_weaken, ≤ℤ_trans, scale_≤ℤ_right}
use Rattle.im_matrix.specs.Cells.{cell}
use Rattle.im_matrix.specs.declared.Loc.TheVariants.{Exterior}
use Rattle.plane_laws.specs.Plane.{Point, IsOnSegment, rise, turn}
use Rattle.plane_exact.specs.Places.{point_of, IsInLimit}
use Rattle.plane_exact.specs.declared.point.Pt.{Pt}
use Rattle.plane_exact.specs.declared.point.Seg.{Seg}
use Rattle.point_set.specs.declared.dim_loc.DimLoc.TheVariants as kind
use Rattle.point_set.specs.declared.figure.Area.{Area}
use Rattle.point_set.specs.declared.figure.Figure.{Figure}
use Rattle.point_set.specs.declared.rule.Rule.{Rule}
use Rattle.point_set.specs.Dimension.{HoldsTriangle}
use Rattle.point_set.specs.Lines.{is_at, is_at_some, is_still, is_on_lines, is_at_still_line}
use Rattle.point_set.specs.Location.{location, location_by, is_not_exterior, IsLocation, is_covered_by, is_at_point, rings_of}
use Rattle.point_set.specs.Location.{edges_of_rings}
use Rattle.point_set.specs.Relation.{IsInCell}
use Rattle.point_set.specs.Rings.{edges_of, is_on_edge, is_on_edges, is_low, crosses, crosses_from, differ, is_odd, is_inside}
use Rattle.point_set.specs.Shape.{IsWayInLimit, IsLineShaped, IsRingShaped, IsAreaShaped, IsWellShaped}
use Rattle.point_set.specs.Visible.{AreValid}
use Rattle.plane_laws.proofs.Near.Near.{IsNear}
use Rattle.plane_laws.proofs.Near.Triangles.{HasNearTriangle, near_triangle}
use Rattle.plane_laws.proofs.Points.Same.{Decides-is_same_point}
use Rattle.plane_laws.proofs.Segments.On.{Decides-int_le}
use Rattle.figure_laws.proofs.Edges.Limits.{IsProper, proper_way}
use Rattle.ring_laws.proofs.Germs.Edges.{on_true}

-- a point is above all positions within the limit
abbrev IsHigh : Point → Type 0
IsHigh p = (pos 1048576 *ℤ p.w) ≤ℤ p.y

-- ---- positions and edges
-- it is higher than each position
is_lower : (p : Point) → IsHigh p → (q : Pt) → IsInLimit q → is_low p (point_of q) ≡ true
is_lower p high q within = (Decides-int_le (q.y *ℤ p.w) (p.y *ℤ pos 1)).1 (omega (arith, linear, at_most_p, *ℤ_one p.y))
  where
    at_most_p : (q.y *ℤ p.w) ≤ℤ p.y
    at_most_p =
        let top = within.top in
        let low : q.y ≤ℤ pos 1048576 = omega (arith, linear, top) in
        ≤ℤ_trans (scale_≤ℤ_right (<ℤ_weaken p.heavy) low) high

-- a height within the limit isn't its height
not_level : (y w b : ℤ) → pos 0 <ℤ w → b ≤ℤ pos 1048575 → (pos 1048576 *ℤ w) ≤ℤ y → y *ℤ pos 1 ≡ b *ℤ w → ⊥
not_level y w b hw hb high e =
    impossible_by (y ∷ w ∷ b ∷ [])
    (positive (var 1) hw ⊞ at_most (num (pos 1048576) ⊗ var 1) (var 0) high ⊞ positive (var 1) hw ⊠ at_most (var 2) (num (pos 1048575)) hb
    ⊞ scaled (num (negsuc 0)) (same (var 0 ⊗ num (pos 1)) (var 2 ⊗ var 1) e)) refl

-- so it is at none
not_at : (p : Point) → IsHigh p → (q : Pt) → IsInLimit q → is_at p q ≡ false
not_at p high q within =
    false_from_ne_true (is_at p q)
    (λ h. not_level p.y p.w q.y p.heavy within.top high ((Decides-is_same_point p (point_of q)).0 h).above)

-- no mix of two heights within the limit is so high
not_mixed :
    (k s t y w a b : ℤ) → pos 0 <ℤ k → pos 0 ≤ℤ s → pos 0 ≤ℤ t → pos 0 <ℤ w → a ≤ℤ pos 1048575 → b ≤ℤ pos 1048575
    → (pos 1048576 *ℤ w) ≤ℤ y → k *ℤ y ≡ (s *ℤ a) +ℤ (t *ℤ b) → k *ℤ w ≡ (s *ℤ pos 1) +ℤ (t *ℤ pos 1) → ⊥
not_mixed k s t y w a b hk hs ht hw ha hb high e f =
    impossible_by (k ∷ s ∷ t ∷ y ∷ w ∷ a ∷ b ∷ [])
    (positive (var 0) hk ⊠ positive (var 4) hw ⊞ positive (var 0) hk ⊠ at_most (num (pos 1048576) ⊗ var 4) (var 3) high
    ⊞ natural (var 1) hs ⊠ at_most (var 5) (num (pos 1048575)) ha ⊞ natural (var 2) ht ⊠ at_most (var 6) (num (pos 1048575)) hb
    ⊞ scaled (num (negsuc 0)) (same (var 0 ⊗ var 3) (var 1 ⊗ var 5 ⊕ var 2 ⊗ var 6) e)
    ⊞ scaled (num (pos 1048575)) (same (var 0 ⊗ var 4) (var 1 ⊗ num (pos 1) ⊕ var 2 ⊗ num (pos 1)) f)) refl

-- so it is on no edge
not_on : (p : Point) → IsHigh p → (e : Seg) → IsProper e → is_on_edge p e ≡ false
not_on p high e ends = false_from_ne_true (is_on_edge p e) (λ h. at (on_true {p = p} {f = e} h))
  where
    at : IsOnSegment (point_of e.a) (point_of e.b) p → ⊥
    at on =
        not_mixed on.mix.times on.s on.t p.y p.w e.a.y e.b.y on.mix.some on.mix.first on.mix.second p.heavy ends.first.top ends.second.top
        high on.mix.above on.mix.mass

-- and its ray to the right crosses none
not_crossed : (p : Point) → IsHigh p → (e : Seg) → IsProper e → crosses p e ≡ false
not_crossed p high e ends =
    λ i. crosses_from (is_lower p high e.a ends.first i) (is_lower p high e.b ends.second i) (turn (point_of e.a) (point_of e.b) p)

-- the same of a list of edges
not_on_any : (p : Point) → IsHigh p → (edges : List Seg) → All IsProper edges → is_on_edges p edges ≡ false
not_on_any p high [] h = refl
not_on_any p high (e ∷ edges) h =
    or_from (is_on_edge p e) (is_on_edges p edges) (not_on p high e (All-head IsProper e edges h))
    (not_on_any p high edges (All-tail IsProper e edges h))

-- so an even number of them, none, is crossed
not_odd : (p : Point) → IsHigh p → (edges : List Seg) → All IsProper edges → is_odd p edges ≡ false
not_odd p high [] h = refl
not_odd p high (e ∷ edges) h =
    λ i. differ (not_crossed p high e (All-head IsProper e edges h) i) (not_odd p high edges (All-tail IsProper e edges h) i)

-- ---- areas
-- it is inside no ring
not_inside : (p : Point) → IsHigh p → (ring : List Pt) → IsRingShaped ring → is_inside p ring ≡ false
not_inside p high ring shaped =
    and_right (not (is_on_edges p (edges_of ring))) (is_odd p (edges_of ring))
    (not_odd p high (edges_of ring) (proper_way ring shaped.within))

-- the edges of rings
proper_rings : (rings : List (List Pt)) → All IsRingShaped rings → All IsProper (edges_of_rings rings)
proper_rings [] h = All-nil IsProper
proper_rings (ring ∷ rings) h =
    All-append IsProper (edges_of ring) (edges_of_rings rings)
    (proper_way ring (All-head IsRingShaped ring rings h).within) (proper_rings rings (All-tail IsRingShaped ring rings h))

-- it lies outside each area
outside_area : (p : Point) → IsHigh p → (area : Area) → IsAreaShaped area → location area p ≡ Exterior
outside_area p high area shaped =
    λ i. location_by (off i) (not_inside p high area.shell shaped.shell i) (list_any (is_inside p) area.holes)
  where
    off : is_on_edges p (edges_of_rings (rings_of area)) ≡ false
    off =
        not_on_any p high (edges_of_rings (rings_of area))
        (proper_rings (rings_of area) (All-cons IsRingShaped area.shell area.holes shaped.shell shaped.holes))

-- no area covers it
not_covered : (p : Point) → IsHigh p → (areas : List Area) → All IsAreaShaped areas → is_covered_by p areas ≡ false
not_covered p high areas shaped =
    list_any_none (λ area. is_not_exterior (location area p)) areas
    (All-weaker IsAreaShaped (λ area. is_not_exterior (location area p) ≡ false)
    (λ area h i. is_not_exterior (outside_area p high area h i)) areas shaped)

-- ---- lines and points
-- it is on no line
not_on_lines : (p : Point) → IsHigh p → (lines : List (List Pt)) → All IsLineShaped lines → is_on_lines p lines ≡ false
not_on_lines p high lines shaped =
    list_any_none (λ line. is_on_edges p (edges_of line)) lines
    (All-weaker IsLineShaped (λ line. is_on_edges p (edges_of line) ≡ false)
    (λ line h. not_on_any p high (edges_of line) (proper_way line h.within)) lines shaped)

-- at no position of a list
not_at_some : (p : Point) → IsHigh p → (positions : List Pt) → IsWayInLimit positions → is_at_some p positions ≡ false
not_at_some p high positions within =
    list_any_none (is_at p) positions (All-weaker IsInLimit (λ q. is_at p q ≡ false) (λ q h. not_at p high q h) positions within)

-- and at no point of the figure
not_at_point : (p : Point) → IsHigh p → (f : Figure) → IsWellShaped f → is_at_point f p ≡ false
not_at_point p high f shaped =
    or_from (is_at_some p f.points) (is_at_still_line p f.lines) (not_at_some p high f.points shaped.points)
    (list_any_none (λ line. is_still line && is_at_some p line) f.lines
    (All-weaker IsLineShaped (λ line. (is_still line && is_at_some p line) ≡ false)
    (λ line h. and_right (is_still line) (is_at_some p line) (not_at_some p high line h.within)) f.lines shaped.lines))

-- so it lies outside the figure
outside_above : (p : Point) → IsHigh p → (f : Figure) → IsWellShaped f → (rule : Rule) → IsLocation f rule p Exterior
outside_above p high f shaped rule = record {
  decided_by = kind.Exterior;
  decides = (not_covered p high f.areas shaped.areas, not_on_lines p high f.lines shaped.lines, not_at_point p high f shaped);
  gives = refl;
}

-- ---- a triangle above the limit
-- a point higher than the limit by 2
above : Point
above = record { x = pos 0; y = pos 1048577; w = pos 1; heavy = omega (arith, linear) }

-- what is no farther than 1 from it is high
high_near : (p : Point) → IsNear above 1 p → IsHigh p
unfolding rise above
high_near p near =
    at_most_from (num (pos 1048576) ⊗ var 1) (var 0) (p.y ∷ p.w ∷ [])
    (at_most (minus (num (pos 1) ⊗ var 1)) (num (pos 1) ⊗ (var 0 ⊗ num (pos 1) ⊖ num (pos 1048577) ⊗ var 1)) near.bottom) refl

-- the cell of the two exteriors holds a triangle round it
pub outside_holds_triangle : (a b : Figure) → AreValid a b → (rule : Rule) → HoldsTriangle (IsInCell a b rule (cell Exterior Exterior))
outside_holds_triangle a b valid rule = record {
  a = t.a;
  b = t.b;
  c = t.c;
  broad = t.strictly.broad;
  held = λ p within.
      let high = high_near p (t.near p within) in
      record { in_a = outside_above p high a valid.a_shaped rule; in_b = outside_above p high b valid.b_shaped rule };
}
  where
    t : HasNearTriangle above 1
    t = near_triangle above 1
