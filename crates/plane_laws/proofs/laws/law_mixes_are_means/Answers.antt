use Rattle.plane_laws.proofs.laws.law_mixes_are_means.Goals as goal
use Rattle.plane_laws.proofs.Segments.Mixes.{mix_is_mean, mean_is_mix}

pub returns : goal.returns
returns c = record {
  mean = λ a b p s t m. mix_is_mean m;
  mix = λ a b p s t m. mean_is_mix m;
}
