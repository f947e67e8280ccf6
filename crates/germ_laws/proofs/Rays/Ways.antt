-- The ways in which edges run from a point, and the rays along them.
use Rattle.std.proofs.Common.{◌≡◌, ℕ, zero, suc, ℤ, pos, ◌+ℤ◌, ◌-ℤ◌, ◌*ℤ◌, ◌<ℤ◌}
use Rattle.std.proofs.Common.{Some, List, [], ◌∷◌, map, length, ap, refl, sym, ◌∙◌, arith}
use Rattle.std.specs.List.{Any}
use Rattle.std.proofs.lemmas.Option.{slice_get_read, slice_get_within, get_or_from_slice_get}
use lib.IntN.{zero-*ℤ}
use Rattle.whole_algebra.proofs.Laws.{linear}
use Rattle.whole_algebra.proofs.Polynomials.{var, num, ◌⊕◌, ◌⊗◌, minus}
use Rattle.whole_algebra.proofs.Certificates.{same, same_from, scaled, ◌⊞◌}
use Rattle.whole_algebra.proofs.Signs.{by_sign, pos_nonzero, zero_factor, pos-*-pos}
use Rattle.plane_laws.proofs.Segments.On.{mix_shift_end, mix_rise_end, same_from_steps}
use Rattle.plane_laws.proofs.Points.Same.{same_sym}
use Rattle.plane_exact.proofs.Laws.{shift-positions, rise-positions}
use Rattle.plane_laws.proofs.Directions.Angles.{joined_ways}
use Rattle.plane_laws.specs.Plane.{Point, IsSamePoint, IsOnSegment, rise, shift}
use Rattle.plane_exact.specs.Places.{point_of}
use Rattle.plane_laws.specs.Directions.{Direction, PointSameWay}
use Rattle.plane_exact.specs.Orders.{direction_of}
use Rattle.plane_exact.specs.declared.dir.Dir.{Dir}
use Rattle.plane_exact.specs.declared.point.Pt.{Pt}
use Rattle.plane_exact.specs.declared.point.Seg.{Seg}
use Rattle.point_set.specs.Edges.{OwnedEdge}
use Rattle.plane_laws.specs.Along.{IsInCone}
use Rattle.point_set.specs.Validity.{IsAtPlace}
use Rattle.figure_laws.proofs.Lists.Places.{some_same}

-- ---- two directions in which a point lies are one way
pub one_way : (v : Point) (t d : Direction) (p : Point) → IsInCone v t t p → IsInCone v d d p → PointSameWay t d
one_way v t d p c k = record {
  m = (c.i +ℤ c.j) *ℤ k.times;
  n = (k.i +ℤ k.j) *ℤ c.times;
  some = pos-*-pos c.some k.positive;
  other = pos-*-pos k.some c.positive;
  across = alike c.i c.j c.times k.i k.j k.times t.x d.x (shift v p) c.across k.across;
  above = alike c.i c.j c.times k.i k.j k.times t.y d.y (rise v p) c.above k.above;
}
  where
    alike : (i j m k l n x y z : ℤ) → m *ℤ z ≡ (i *ℤ x) +ℤ (j *ℤ x) → n *ℤ z ≡ (k *ℤ y) +ℤ (l *ℤ y)
        → ((i +ℤ j) *ℤ n) *ℤ x ≡ ((k +ℤ l) *ℤ m) *ℤ y
    alike i j m k l n x y z e f =
        same_from (((var 0 ⊕ var 1) ⊗ var 5) ⊗ var 6) (((var 3 ⊕ var 4) ⊗ var 2) ⊗ var 7) (i ∷ j ∷ m ∷ k ∷ l ∷ n ∷ x ∷ y ∷ z ∷ [])
        (scaled (minus (var 5)) (same (var 2 ⊗ var 8) (var 0 ⊗ var 6 ⊕ var 1 ⊗ var 6) e)
        ⊞ scaled (var 2) (same (var 5 ⊗ var 8) (var 3 ⊗ var 7 ⊕ var 4 ⊗ var 7) f)) refl

-- ---- from a point of an edge an end lies in the direction of the whole edge
no_step : (k s z : ℤ) → pos 0 <ℤ k → s ≡ pos 0 → (x : ℤ) → k *ℤ z ≡ s *ℤ x → z ≡ pos 0
no_step k s z hk e x f = zero_factor k z (pos_nonzero hk) (f ∙ ap (λ (y : ℤ). y *ℤ x) e ∙ zero-*ℤ x)

-- for the end b of an edge from a to b
pub way_cone : (a b : Pt) (v : Point) → IsOnSegment (point_of a) (point_of b) v → ¬ IsSamePoint (point_of b) v → (d : Direction)
    → d.x ≡ b.x -ℤ a.x → d.y ≡ b.y -ℤ a.y → IsInCone v d d (point_of b)
way_cone a b v on apart d across above = record {
  i = on.s;
  j = pos 0;
  first = on.mix.first;
  second = omega (arith, linear);
  some = omega (arith, linear, ahead);
  times = on.mix.times;
  positive = on.mix.some;
  across =
      step on.mix.times on.s (shift v (point_of b)) (shift (point_of a) (point_of b)) d.x (mix_shift_end on.mix)
      (shift-positions a b ∙ sym across);
  above =
      step on.mix.times on.s (rise v (point_of b)) (rise (point_of a) (point_of b)) d.y (mix_rise_end on.mix)
      (rise-positions a b ∙ sym above);
}
  where
    ahead : pos 0 <ℤ on.s
    ahead =
        by_sign on.s (λ h. absurd (let k = on.mix.first in omega (arith, linear, h, k)))
        (λ z. absurd (apart (same_sym (same_from_steps v (point_of b)
        (no_step on.mix.times on.s (shift v (point_of b)) on.mix.some z (shift (point_of a) (point_of b)) (mix_shift_end on.mix))
        (no_step on.mix.times on.s (rise v (point_of b)) on.mix.some z (rise (point_of a) (point_of b)) (mix_rise_end on.mix))))))
        (λ h. h)

    step : (k s z w x : ℤ) → k *ℤ z ≡ s *ℤ w → w ≡ x → k *ℤ z ≡ (s *ℤ x) +ℤ (pos 0 *ℤ x)
    step k s z w x e f =
        same_from (var 0 ⊗ var 2) (var 1 ⊗ var 4 ⊕ num (pos 0) ⊗ var 4) (k ∷ s ∷ z ∷ w ∷ x ∷ [])
        (same (var 0 ⊗ var 2) (var 1 ⊗ var 3) e ⊞ scaled (var 1) (same (var 3) (var 4) f)) refl

-- ---- the ray of a section
pub record HasRay (rays : List Dir) (d : Direction) : Type 0 where
  pub place : ℕ
  pub ray : Dir
  pub is : IsAtPlace rays place ray
  pub same : PointSameWay d (direction_of ray)

-- the two forms of 'a ray of the list points this way'
pub any_ray : (rays : List Dir) (t d : Direction) → PointSameWay t d → HasRay rays d → Any (λ ray. PointSameWay t (direction_of ray)) rays
any_ray rays t d q h =
    (h.place, h.ray, slice_get_within rays h.place h.ray h.is, get_or_from_slice_get rays h.place h.ray h.ray h.is, joined_ways q h.same)

-- and back
pub ray_of_any : (rays : List Dir) (t : Direction) → Any (λ ray. PointSameWay t (direction_of ray)) rays → HasRay rays t
ray_of_any rays t a = record { place = a.0; ray = a.1; is = slice_get_read rays (length rays) a.0 a.1 refl a.2 (sym a.3); same = a.4 }

-- ---- the rays of all edges
-- the edges of a list, without their owners
abbrev pub segs : List OwnedEdge → List Seg
segs edges = map (λ edge. edge.seg) edges

-- the owned edge at a place
pub record IsSegOf (edges : List OwnedEdge) (place : ℕ) (e : Seg) : Type 0 where
  pub edge : OwnedEdge
  pub is : IsAtPlace edges place edge
  pub same : edge.seg ≡ e

-- each edge of the list without owners has one
pub seg_of : (edges : List OwnedEdge) (place : ℕ) (e : Seg) → IsAtPlace (segs edges) place e → IsSegOf edges place e
seg_of [] place e is = cc
seg_of (edge ∷ edges) zero e is = record { edge = edge; is = refl; same = some_same is }
seg_of (edge ∷ edges) (suc place) e is = let r = seg_of edges place e is in record { edge = r.edge; is = r.is; same = r.same }

-- and each owned edge stands there without its owner
pub place_of_seg : (edges : List OwnedEdge) (place : ℕ) (edge : OwnedEdge) → IsAtPlace edges place edge
    → IsAtPlace (segs edges) place edge.seg
place_of_seg [] place edge is = cc
place_of_seg (g ∷ edges) zero edge is = ap (λ (z : OwnedEdge). Some z.seg) (some_same is)
place_of_seg (g ∷ edges) (suc place) edge is = place_of_seg edges place edge is
