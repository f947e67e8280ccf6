use Rattle.plane_laws.proofs.laws.law_order_of_ends_is_free.Goals as goal
use Rattle.plane_laws.proofs.Segments.Mixes.{mix_flip, segment_flip, start_on_segment, end_on_segment}

pub returns : goal.returns
returns c = record {
  mix = λ a b p s t m. mix_flip m;
  segment = λ a b p on. segment_flip on;
  start = start_on_segment;
  end = end_on_segment;
}
