use Rattle.figure_laws.proofs.laws.law_edges_hold_points.Goals as goal
use Rattle.figure_laws.proofs.Points.Same.{is_on_edges-same}

pub returns : goal.returns
returns c = record {
  same = λ p q. is_on_edges-same;
}
