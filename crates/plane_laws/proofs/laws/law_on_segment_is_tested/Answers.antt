use Rattle.plane_laws.proofs.laws.law_on_segment_is_tested.Goals as goal
use Rattle.plane_laws.proofs.Segments.On.{Decides-is_on_segment}

pub returns : goal.returns
returns c = record {
  test = Decides-is_on_segment;
}
