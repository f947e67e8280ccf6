use Rattle.figure_laws.proofs.laws.law_finitely_many_points_have_no_extent.Goals as goal
use Rattle.figure_laws.proofs.Sets.FinitePoints.{finite-no-segment, finite-no-triangle, finite-avoided, segment_leaves}

pub returns : goal.returns
returns c = record {
  no_segment = finite-no-segment;
  no_triangle = finite-no-triangle;
  point_left = λ positions a b apart. let left = segment_leaves positions a b apart in (left.p, left.on, left.off);
  triangle_left = finite-avoided;
}
