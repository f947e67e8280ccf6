-- Edges that run from a point along one direction have a segment in common.
use Rattle.std.proofs.Common.{◌≡◌, suc, ◌+◌, ◌*ℤ◌, true, arith}
use Rattle.plane_laws.proofs.Points.Same.{same_refl, same_sym}
use Rattle.plane_laws.proofs.Segments.Mixes.{start_on_segment, segment_same}
use Rattle.plane_laws.proofs.Segments.On.{Decides-is_on_segment}
use Rattle.plane_laws.specs.Along.{IsInCone}
use Rattle.plane_laws.specs.Directions.{Direction}
use Rattle.plane_laws.specs.Plane.{Point, IsOnSegment, IsSamePoint}
use Rattle.plane_laws.proofs.Near.Away.{away_point, away_point_is}
use Rattle.plane_laws.proofs.Near.Near.{size_of}
use Rattle.plane_exact.specs.Places.{point_of}
use Rattle.plane_exact.specs.declared.point.Seg.{Seg}
use Rattle.point_set.specs.Rings.{is_on_edge}
use Rattle.point_set.specs.Validity.{ShareSegment}
use Rattle.ring_laws.proofs.Germs.Areas.{segment_within, toward_on}
use Rattle.ring_laws.proofs.Germs.Edges.{on_true, direction_pointed}
use Rattle.valid_laws.proofs.Entering.Walk.{cone_mix, away_cone}

-- points between q and another point of an edge are on the edge
pub between_on : (q : Point) (g : Seg) (a : Point) → is_on_edge q g ≡ true → IsOnSegment (point_of g.a) (point_of g.b) a → (x : Point)
    → IsOnSegment q a x → is_on_edge x g ≡ true
between_on q g a on on_a x within = (Decides-is_on_segment (point_of g.a) (point_of g.b) x).1 (segment_within (on_true on) on_a within)

-- two edges that run from q along one direction have a common segment
pub share_along : (q : Point) (d : Direction) (g h : Seg) → is_on_edge q g ≡ true → is_on_edge q h ≡ true → (a b : Point)
    → IsOnSegment (point_of g.a) (point_of g.b) a → IsOnSegment (point_of h.a) (point_of h.b) b → IsInCone q d d a → IsInCone q d d b
    → ShareSegment g h
share_along q d g h on_g on_h a b on_a on_b c k =
    let n = size_of ((c.times *ℤ q.w) *ℤ a.w) + size_of ((k.times *ℤ q.w) *ℤ b.w) in
    let x = away_point q d n in
    let away = away_point_is q d n in
    let x_g = between_on q g a on_g on_a x (toward_on q d a c (suc n) x (omega arith) away) in
    let x_h = between_on q h b on_h on_b x (toward_on q d b k (suc n) x (omega arith) away) in
    record {
      a = q;
      b = x;
      apart = λ same. direction_pointed q d (segment_cone (away_cone (omega arith) away) same);
      held = λ m on. (segment_within (on_true on_g) (on_true x_g) on, segment_within (on_true on_h) (on_true x_h) on);
    }
  where
    segment_cone : {x : Point} → IsInCone q d d x → IsSamePoint q x → IsInCone q d d q
    segment_cone {x} c same = cone_mix c c (segment_same (same_refl x) (same_refl x) (same_sym same) (start_on_segment x x))
