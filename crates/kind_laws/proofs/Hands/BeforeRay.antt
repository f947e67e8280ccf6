-- The hand of an edge for the sector that ends at it: inside where the hand is Right, outside where it is Left.
use Rattle.std.proofs.Common.{◌≡◌, ℕ, ◌+◌, ℤ, pos, ◌-ℤ◌, ◌*ℤ◌, neg_ℤ, ◌<ℤ◌, Bool, true, false, refl, sym, ap, subst, arith}
use Rattle.std.proofs.Common.{[], ◌∷◌}
use Rattle.im_matrix.specs.declared.Loc.{Loc}
use Rattle.im_matrix.specs.declared.Loc.TheVariants.{Interior, Exterior}
use Rattle.whole_algebra.proofs.Laws.{linear}
use Rattle.whole_algebra.proofs.Polynomials.{var, num, ◌⊖◌, ◌⊗◌, minus}
use Rattle.whole_algebra.proofs.Certificates.{positive, less, less_by, ◌⊞◌}
use Rattle.plane_laws.specs.Plane.{Point}
use Rattle.plane_exact.specs.Places.{point_of}
use Rattle.plane_laws.specs.Directions.{Direction, bend_of, IsStrictlyWithin}
use Rattle.plane_exact.specs.declared.point.Seg.{Seg}
use Rattle.point_set.specs.declared.edge.Hand.{Hand}
use Rattle.point_set.specs.declared.edge.Hand.TheVariants as hand
use Rattle.point_set.specs.declared.figure.Area.{Area}
use Rattle.point_set.specs.declared.figure.Figure.{Figure}
use Rattle.point_set.specs.Edges.{IsAreaHand, IsOnEdgeAlone, far_end, hand_of_way}
use Rattle.point_set.specs.Germ.{IsGerm}
use Rattle.plane_laws.specs.Along.{IsInCone}
use Rattle.point_set.specs.Location.{edges_of_rings, rings_of}
use Rattle.point_set.specs.Sectors.{HasNoEdgeWithin}
use Rattle.point_set.specs.Shape.{IsAreaShaped, IsWellShaped}
use Rattle.point_set.specs.Sides.{slope, other_hand}
use Rattle.side_laws.proofs.Areas.Hands.{other_twice}
use Rattle.point_set.specs.Validity.{IsAtPlace, IsOnEdge, IsValid}
use Rattle.plane_laws.proofs.Near.Away.{away_point}
use Rattle.side_laws.proofs.Areas.Hands.{area_clean}
use Rattle.germ_laws.proofs.Sectors.JustRight.{right_turn, right_turn_right}
use Rattle.germ_laws.proofs.Sectors.BesideRay.{reach, germ_before}
use Rattle.kind_laws.proofs.Hands.InSector.{left_forward, right_backward, by_hand, way_bound, alone_on_way}

-- ---- the slope of a direction to the right of the way
-- the direction straight back; what is to the right of r has its opposite to the left
opposite_way : Direction → Direction
opposite_way d = record {
  x = neg_ℤ d.x;
  y = neg_ℤ d.y;
  moves = λ z. d.moves (let e = z.0 in omega (arith, linear, e), let e = z.1 in omega (arith, linear, e));
}

-- as two signs
opposite_left : (r t : Direction) → pos 0 <ℤ bend_of t r → pos 0 <ℤ bend_of r (opposite_way t)
unfolding bend_of opposite_way
opposite_left r t h =
    less_by (num (pos 0)) (var 0 ⊗ minus (var 3) ⊖ var 1 ⊗ minus (var 2)) (r.x ∷ r.y ∷ t.x ∷ t.y ∷ [])
    (λ denied. denied ⊞ positive (var 2 ⊗ var 1 ⊖ var 3 ⊗ var 0) h) refl

-- to the right of the way is to the right of an edge that is walked forward
right_forward : (e : Seg) {v : Point} {r : Direction} → IsOnEdge e v → IsInCone v r r (point_of e.b) → (t : Direction)
    → pos 0 <ℤ bend_of t r → slope e t <ℤ pos 0
unfolding opposite_way
right_forward e {v} {r} on c t h =
    turned (e.b.x -ℤ e.a.x) (e.b.y -ℤ e.a.y) t.x t.y (left_forward e on c (opposite_way t) (opposite_left r t h))
  where
    turned : (bx by tx ty : ℤ) → pos 0 <ℤ ((bx *ℤ neg_ℤ ty) -ℤ (by *ℤ neg_ℤ tx)) → ((bx *ℤ ty) -ℤ (by *ℤ tx)) <ℤ pos 0
    turned bx by tx ty k =
        less_by (var 0 ⊗ var 3 ⊖ var 1 ⊗ var 2) (num (pos 0)) (bx ∷ by ∷ tx ∷ ty ∷ [])
        (λ denied. denied ⊞ positive (var 0 ⊗ minus (var 3) ⊖ var 1 ⊗ minus (var 2)) k) refl

-- and to the left of one that is walked backward
left_backward : (e : Seg) {v : Point} {r : Direction} → IsOnEdge e v → IsInCone v r r (point_of e.a) → (t : Direction)
    → pos 0 <ℤ bend_of t r → pos 0 <ℤ slope e t
unfolding opposite_way
left_backward e {v} {r} on c t h =
    turned (e.b.x -ℤ e.a.x) (e.b.y -ℤ e.a.y) t.x t.y (right_backward e on c (opposite_way t) (opposite_left r t h))
  where
    turned : (bx by tx ty : ℤ) → ((bx *ℤ neg_ℤ ty) -ℤ (by *ℤ neg_ℤ tx)) <ℤ pos 0 → pos 0 <ℤ ((bx *ℤ ty) -ℤ (by *ℤ tx))
    turned bx by tx ty k =
        less_by (num (pos 0)) (var 0 ⊗ var 3 ⊖ var 1 ⊗ var 2) (bx ∷ by ∷ tx ∷ ty ∷ [])
        (λ denied. denied ⊞ less (var 0 ⊗ minus (var 3) ⊖ var 1 ⊗ minus (var 2)) (num (pos 0)) k) refl

-- what an area's hand says of a direction to the right of the way, which is the left of its edge walked the other way
way_outside : (area : Area) (e : Seg) (forward : Bool) (side : Hand) → IsAreaHand area e (hand_of_way forward side) → {v : Point}
    {r : Direction} → IsOnEdge e v → IsInCone v r r (point_of (far_end forward e)) → (t : Direction) → pos 0 <ℤ bend_of t r
    → (q : Point) → IsOnEdgeAlone area e q
    → (side ≡ hand.Left → IsGerm area q t Exterior) × (side ≡ hand.Right → IsGerm area q t Interior)
way_outside area e true side h on c t right q one =
    let turned = by_hand area e false (other_hand side) (subst (IsAreaHand area e) (sym (other_twice side)) h) q t one
    (right_forward e on c t right) in
    (λ z. turned.1 (ap other_hand z), λ z. turned.0 (ap other_hand z))
way_outside area e false side h on c t right q one =
    let turned = by_hand area e true (other_hand side) h q t one (left_backward e on c t right) in
    (λ z. turned.1 (ap other_hand z), λ z. turned.0 (ap other_hand z))

-- in the sector that ends at the way the area is inside where it is on the right
module _ (f : Figure) (shaped : IsWellShaped f) (valid : IsValid f) (place : ℕ) (area : Area) (is : IsAtPlace f.areas place area)
    (e : Seg) (i : ℕ) (e_is : IsAtPlace (edges_of_rings (rings_of area)) i e) (forward : Bool) (v : Point) (on : IsOnEdge e v)
    (r : Direction) (c : IsInCone v r r (point_of (far_end forward e))) where
  pub hand_before_ray : (side : Hand) → IsAreaHand area e (hand_of_way forward side) → (q : Direction) → HasNoEdgeWithin area v q r
      → (d : Direction) → IsStrictlyWithin q r d
      → (side ≡ hand.Left → IsGerm area v d Exterior) × (side ≡ hand.Right → IsGerm area v d Interior)
  hand_before_ray side h q free d within = (λ z. to_germ Exterior (ways.0 z), λ z. to_germ Interior (ways.1 z))
    where
      sh : IsAreaShaped area
      sh = (area_clean f shaped valid place area is).shaped

      bound : ℕ
      bound = way_bound f shaped valid place area is e i e_is forward v on r c

      n : ℕ
      n = bound + reach area sh v r

      t : Direction
      t = right_turn r

      p : Point
      p = away_point v r n

      ways : (side ≡ hand.Left → IsGerm area p t Exterior) × (side ≡ hand.Right → IsGerm area p t Interior)
      ways =
          way_outside area e forward side h on c t (right_turn_right r) p
          (alone_on_way f shaped valid place area is e i e_is forward v on r c n (omega arith))

      to_germ : (g : Loc) → IsGerm area p t g → IsGerm area v d g
      to_germ g g_is = germ_before area sh v q r free n (omega arith) t (right_turn_right r) g g_is d within
