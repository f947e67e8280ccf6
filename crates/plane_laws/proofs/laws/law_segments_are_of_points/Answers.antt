use Rattle.plane_laws.proofs.laws.law_segments_are_of_points.Goals as goal
use Rattle.plane_laws.proofs.Segments.Mixes.{segment_same, between_same}

pub returns : goal.returns
returns c = record {
  on = λ a a' b b' p p'. segment_same;
  between = λ a a' b b' p p'. between_same;
}
