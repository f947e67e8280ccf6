-- Two edges have a common segment exactly where they meet along one.
use Rattle.std.proofs.Common.{◌≡◌, ◌⊎◌, inl, inr, subst}
use Rattle.plane_laws.specs.Plane.{Point, IsOnSegment}
use Rattle.plane_laws.proofs.Points.Same.{same_sym, same_trans}
use Rattle.plane_laws.proofs.Segments.Mixes.{start_on_segment, end_on_segment}
use Rattle.plane_exact.specs.Places.{point_of}
use Rattle.plane_exact.specs.declared.point.Pt.{Pt}
use Rattle.plane_exact.specs.declared.point.Seg.{Seg}
use Rattle.plane_exact.specs.declared.node.Node.{Node}
use Rattle.seg_cross.specs.Meets.{IsMeet, IsCommon}
use Rattle.seg_cross.specs.declared.answer.Meet.{Meet}
use Rattle.seg_cross.specs.declared.answer.Meet.TheVariants.{Apart, At, Along}
use Rattle.seg_cross.proofs.Laws.{overlap_ends_apart, overlap_held}
use Rattle.point_set.specs.Validity.{ShareSegment}

-- an overlap is a common segment
pub along_shares : (e f : Seg) (p q : Pt) → IsMeet e f (Along p q) → ShareSegment e f
along_shares e f p q over =
    record { a = point_of p; b = point_of q; apart = overlap_ends_apart e f p q over; held = overlap_held e f p q over }

-- the points of a common segment are common
shared_common : (e f : Seg) (s : ShareSegment e f) (r : Point) → IsOnSegment s.a s.b r → IsCommon e f r
shared_common e f s r on = let h = s.held r on in record { first = h.0; second = h.1 }

-- edges that are apart have none
pub apart_unshared : (e f : Seg) → IsMeet e f Apart → ¬ ShareSegment e f
apart_unshared e f none s = none s.a (shared_common e f s s.a (start_on_segment s.a s.b))

-- edges that meet at one point have none
pub at_unshared : (e f : Seg) (n : Node) → IsMeet e f (At n) → ¬ ShareSegment e f
at_unshared e f n only s =
    s.apart (same_trans (only.only s.a (shared_common e f s s.a (start_on_segment s.a s.b)))
    (same_sym (only.only s.b (shared_common e f s s.b (end_on_segment s.a s.b)))))

-- so edges that are apart or meet at one point have none
pub off_unshared : (e f : Seg) (m : Meet) → IsMeet e f m → (m ≡ Apart) ⊎ ((n : Node) × (m ≡ At n)) → ¬ ShareSegment e f
off_unshared e f m meets (inl apart) = apart_unshared e f (subst (λ (a : Meet). IsMeet e f a) apart meets)
off_unshared e f m meets (inr at) = at_unshared e f at.0 (subst (λ (a : Meet). IsMeet e f a) at.1 meets)
