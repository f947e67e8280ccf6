use Rattle.figure_laws.proofs.laws.law_areas_hold_points.Goals as goal
use Rattle.figure_laws.proofs.Points.Same.{location-same}

pub returns : goal.returns
returns c = record {
  same = λ p q. location-same;
}
