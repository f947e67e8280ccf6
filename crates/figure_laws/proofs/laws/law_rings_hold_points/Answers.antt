use Rattle.figure_laws.proofs.laws.law_rings_hold_points.Goals as goal
use Rattle.figure_laws.proofs.Points.Same.{is_inside-same}

pub returns : goal.returns
returns c = record {
  same = λ p q. is_inside-same;
}
