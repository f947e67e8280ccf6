-- What a set of points holds: with a triangle it holds a segment, and with a segment a point; so it has at most one dimension.
use Rattle.std.proofs.Common.{◌≡◌, refl}
use Rattle.im_matrix.specs.declared.Dim.{Dim}
use Rattle.im_matrix.specs.declared.Dim.TheVariants.{Empty, Zero, One, Two}
use Rattle.plane_laws.proofs.Segments.Mixes.{side_in_triangle, start_on_segment}
use Rattle.plane_laws.proofs.Turns.Turns.{turn_of_same}
use Rattle.plane_laws.specs.Plane.{Point}
use Rattle.point_set.specs.Dimension.{HoldsTriangle, HoldsSegment, HoldsPoint, IsDimension}

pub segment_of_triangle : {Set : Point → Type 0} → HoldsTriangle Set → HoldsSegment Set
segment_of_triangle h = record {
  a = h.a;
  b = h.b;
  apart = λ same. h.broad (turn_of_same h.c same);
  held = λ p on. h.held p (side_in_triangle h.c on);
}

pub point_of_segment : {Set : Point → Type 0} → HoldsSegment Set → HoldsPoint Set
point_of_segment h = record { p = h.a; held = h.held h.a (start_on_segment h.a h.b) }

pub one_dimension : (Set : Point → Type 0) (d e : Dim) → IsDimension Set d → IsDimension Set e → d ≡ e
one_dimension Set Two Two h k = refl
one_dimension Set Two One h k = absurd (k.0 h)
one_dimension Set Two Zero h k = absurd (k.0 h)
one_dimension Set Two Empty h k = absurd (k (point_of_segment (segment_of_triangle h)))
one_dimension Set One Two h k = absurd (h.0 k)
one_dimension Set One One h k = refl
one_dimension Set One Zero h k = absurd (k.1 h.1)
one_dimension Set One Empty h k = absurd (k (point_of_segment h.1))
one_dimension Set Zero Two h k = absurd (h.0 k)
one_dimension Set Zero One h k = absurd (h.1 k.1)
one_dimension Set Zero Zero h k = refl
one_dimension Set Zero Empty h k = absurd (k h.2)
one_dimension Set Empty Two h k = absurd (h (point_of_segment (segment_of_triangle k)))
one_dimension Set Empty One h k = absurd (h (point_of_segment k.1))
one_dimension Set Empty Zero h k = absurd (h k.2)
one_dimension Set Empty Empty h k = refl
