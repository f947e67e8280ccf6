use Rattle.plane_laws.proofs.laws.law_segment_of_same_ends_is_a_point.Goals as goal
use Rattle.plane_laws.proofs.Segments.On.{on_segment_of_same}

pub returns : goal.returns
returns c = record {
  only = λ a b p. on_segment_of_same;
}
