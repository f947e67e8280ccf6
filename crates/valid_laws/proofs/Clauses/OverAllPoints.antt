-- The clauses over all points, from the lemma beside an edge.
use Rattle.std.proofs.Common.{◌≡◌, ◌≢◌, ◌⊎◌, inl, inr, ℕ, zero, suc, ◌<◌, Bool, true, false, not, ◌&&◌, List, [], ◌∷◌, ◌++◌, ap, refl, sym}
use Rattle.std.proofs.Common.{◌∙◌, subst, subst₂, arith}
use Rattle.std.specs.List.{All}
use Rattle.std.proofs.lemmas.Bool.{and_parts}
use Rattle.std.proofs.lemmas.List.Elements.{All-nil, All-cons}
use Rattle.im_matrix.specs.declared.Loc.{Loc}
use Rattle.im_matrix.specs.declared.Loc.TheVariants.{Interior, Boundary, Exterior}
use Rattle.plane_laws.specs.Plane.{Point}
use Rattle.plane_exact.specs.declared.point.Pt.{Pt}
use Rattle.plane_exact.specs.declared.point.Seg.{Seg}
use Rattle.point_set.specs.declared.figure.Area.{Area}
use Rattle.point_set.specs.Rings.{edges_of, is_on_edges, is_odd, is_inside}
use Rattle.point_set.specs.Location.{location, location_by}
use Rattle.point_set.specs.Shape.{IsRingShaped, IsAreaShaped}
use Rattle.point_set.specs.Validity.{IsAtPlace, CrossesItself, EdgesShareSegment, AreasShareSegment, AreasOverlap}
use Rattle.side_laws.proofs.Areas.Hands.{share_back}
use Rattle.valid_laws.specs.Entering.{edges_in, disc_of, Enters, IsClean, IsSimpleRing, LeavesShell, AreBothInside, LawBeside, LawReach}
use Rattle.valid_laws.specs.Entering.{LawHoleOutside, LawHolesOverlap, LawElementsOverlap}

interior_apart : Interior ≢ Boundary
interior_apart e = cc

exterior_apart : Exterior ≢ Boundary
exterior_apart e = cc

no_more : (xs : List Seg) → xs ++ [] ≡ xs
no_more [] = refl
no_more (x ∷ xs) = ap (λ ys. x ∷ ys) (no_more xs)

-- the edges of a ring read as an area are its own
pub disc_edges : (ring : List Pt) → edges_in (disc_of ring) ≡ edges_of ring
disc_edges ring = no_more (edges_of ring)

-- such an area has the shape of one, and is clean
pub disc_shaped : (ring : List Pt) → IsRingShaped ring → IsAreaShaped (disc_of ring)
disc_shaped ring shaped = record { shell = shaped; holes = All-nil IsRingShaped }

pub disc_clean : (ring : List Pt) → IsSimpleRing ring → IsClean (disc_of ring)
disc_clean ring r = record {
  shaped = disc_shaped ring r.shaped;
  simple = All-cons (λ w. ¬ CrossesItself w) ring [] r.simple (All-nil (λ w. ¬ CrossesItself w));
  unshared = λ h. no_second h.j h.other h.earlier h.other_is;
  within = λ h. no_hole h.i h.hole h.hole_is;
  unlapped = λ h. no_hole h.i h.one h.one_is;
}
  where
    no_hole : (i : ℕ) (hole : List Pt) → ¬ IsAtPlace {T = List Pt} [] i hole
    no_hole i hole is = cc

    no_second : {i : ℕ} (j : ℕ) (other : List Pt) → i < j → ¬ IsAtPlace (ring ∷ []) j other
    no_second zero other less is = absurd (omega (arith, less))
    no_second (suc j) other less is = cc

-- ---- where a point lies in a disc
inside_off : (p : Point) (ring : List Pt) → is_inside p ring ≡ true → is_on_edges p (edges_of ring) ≡ false
inside_off p ring h = flip (is_on_edges p (edges_of ring)) (and_parts (not (is_on_edges p (edges_of ring))) (is_odd p (edges_of ring)) h).0
  where
    flip : (b : Bool) → not b ≡ true → b ≡ false
    flip true e = cc
    flip false e = refl

on_outside : (p : Point) (ring : List Pt) → is_on_edges p (edges_of ring) ≡ true → is_inside p ring ≡ false
on_outside p ring h = ap (λ b. not b && is_odd p (edges_of ring)) h

-- by the two tests of the ring
pub disc_location : (p : Point) (ring : List Pt) → location (disc_of ring) p ≡ location_by (is_on_edges p (edges_of ring))
    (is_inside p ring) false
disc_location p ring = ap (λ es. location_by (is_on_edges p es) (is_inside p ring) false) (disc_edges ring)

to_interior : (p : Point) (ring : List Pt) → is_inside p ring ≡ true → location (disc_of ring) p ≡ Interior
to_interior p ring h = disc_location p ring ∙ (λ i. location_by (inside_off p ring h i) (h i) false)

to_exterior : (p : Point) (ring : List Pt) → is_on_edges p (edges_of ring) ≡ false → is_inside p ring ≡ false
    → location (disc_of ring) p ≡ Exterior
to_exterior p ring off h = disc_location p ring ∙ (λ i. location_by (off i) (h i) false)

-- where the location is that of a point off the edges, it tells whether the point is inside
from_location : (held : Bool) (p : Point) (ring : List Pt) → location (disc_of ring) p ≡ location_by false held false
    → is_inside p ring ≡ held
from_location held p ring h = go (is_on_edges p (edges_of ring)) (is_inside p ring) held (sym (disc_location p ring) ∙ h)
  where
    go : (b s held : Bool) → location_by b s false ≡ location_by false held false → s ≡ held
    go b true true e = refl
    go b false false e = refl
    go true s held e = cc
    go false s held e = cc

-- ---- edges of discs
-- a common segment is one of both
pub swapped : {xs ys : List Seg} → EdgesShareSegment xs ys → EdgesShareSegment ys xs
swapped h = record { i = h.j; j = h.i; e = h.f; f = h.e; e_is = h.f_is; f_is = h.e_is; share = share_back h.share }

-- rings without a common segment, read as areas
pub discs_unshared : (one other : List Pt) → ¬ EdgesShareSegment (edges_of one) (edges_of other)
    → ¬ AreasShareSegment (disc_of one) (disc_of other)
discs_unshared one other unshared h = unshared (subst₂ EdgesShareSegment (disc_edges one) (disc_edges other) h)

of_ring : (ring : List Pt) {area : Area} {part : Loc} → Enters (edges_in (disc_of ring)) area part → Enters (edges_of ring) area part
of_ring ring {area} {part} e = subst (λ es. Enters es area part) (disc_edges ring) e

of_disc : (ring : List Pt) {area : Area} {part : Loc} → Enters (edges_of ring) area part → Enters (edges_in (disc_of ring)) area part
of_disc ring {area} {part} e = subst (λ es. Enters es area part) (sym (disc_edges ring)) e

module _ (beside : LawBeside) (reaches : LawReach) where
  pub hole_outside : LawHoleOutside
  hole_outside shell hole s h unshared = (λ leaves. by_edge leaves (is_on_edges leaves.p (edges_of shell)) refl, back)
    where
      by_reach : Enters (edges_in (disc_of hole)) (disc_of shell) Exterior ⊎ Enters (edges_in (disc_of shell)) (disc_of hole) Interior
          → Enters (edges_of hole) (disc_of shell) Exterior ⊎ Enters (edges_of shell) (disc_of hole) Interior
      by_reach (inl e) = inl (of_ring hole e)
      by_reach (inr e) = inr (of_ring shell e)

      by_edge : (leaves : LeavesShell shell hole) (b : Bool) → is_on_edges leaves.p (edges_of shell) ≡ b
          → Enters (edges_of hole) (disc_of shell) Exterior ⊎ Enters (edges_of shell) (disc_of hole) Interior
      by_edge leaves true on = inr (record { x = leaves.p; on = on; lies = to_interior leaves.p hole leaves.in_hole })
      by_edge leaves false off =
          by_reach (reaches (disc_of hole) (disc_of shell) (disc_shaped hole h.shaped) (disc_shaped shell s.shaped)
          (discs_unshared hole shell (λ k. unshared (swapped k))) leaves.p
          (to_interior leaves.p hole leaves.in_hole) Exterior exterior_apart (to_exterior leaves.p shell off leaves.off_shell))

      back : Enters (edges_of hole) (disc_of shell) Exterior ⊎ Enters (edges_of shell) (disc_of hole) Interior → LeavesShell shell hole
      back (inl e) =
          let p = beside (disc_of hole) (disc_of shell) (disc_clean hole h) (disc_shaped shell s.shaped) Exterior exterior_apart
          (of_disc hole e) in
          record { p = p.0; in_hole = from_location true p.0 hole p.1; off_shell = from_location false p.0 shell p.2 }
      back (inr e) = record { p = e.x; in_hole = from_location true e.x hole e.lies; off_shell = on_outside e.x shell e.on }

  pub holes_overlap : LawHolesOverlap
  holes_overlap one other s h unshared = (
    λ both. by_reach (reaches (disc_of one) (disc_of other) (disc_shaped one s.shaped) (disc_shaped other h.shaped)
        (discs_unshared one other unshared) both.p (to_interior both.p one both.in_one) Interior interior_apart
        (to_interior both.p other both.in_other)),
    back,
  )
    where
      by_reach : Enters (edges_in (disc_of one)) (disc_of other) Interior ⊎ Enters (edges_in (disc_of other)) (disc_of one) Interior
          → Enters (edges_of one) (disc_of other) Interior ⊎ Enters (edges_of other) (disc_of one) Interior
      by_reach (inl e) = inl (of_ring one e)
      by_reach (inr e) = inr (of_ring other e)

      back : Enters (edges_of one) (disc_of other) Interior ⊎ Enters (edges_of other) (disc_of one) Interior → AreBothInside one other
      back (inl e) =
          let p = beside (disc_of one) (disc_of other) (disc_clean one s) (disc_shaped other h.shaped) Interior interior_apart
          (of_disc one e) in
          record { p = p.0; in_one = from_location true p.0 one p.1; in_other = from_location true p.0 other p.2 }
      back (inr e) =
          let p = beside (disc_of other) (disc_of one) (disc_clean other h) (disc_shaped one s.shaped) Interior interior_apart
          (of_disc other e) in
          record { p = p.0; in_one = from_location true p.0 one p.2; in_other = from_location true p.0 other p.1 }

  pub elements_overlap : LawElementsOverlap
  elements_overlap one other s h unshared =
      (λ both. reaches one other s.shaped h.shaped unshared both.p both.in_area Interior interior_apart both.in_other, back)
    where
      back : Enters (edges_in one) other Interior ⊎ Enters (edges_in other) one Interior → AreasOverlap one other
      back (inl e) =
          let p = beside one other s h.shaped Interior interior_apart e in
          record { p = p.0; in_area = p.1; in_other = p.2 }
      back (inr e) =
          let p = beside other one h s.shaped Interior interior_apart e in
          record { p = p.0; in_area = p.2; in_other = p.1 }
