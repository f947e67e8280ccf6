use Rattle.figure_laws.proofs.laws.law_kind_is_of_points.Goals as goal
use Rattle.figure_laws.proofs.Points.Same.{IsKind-same, IsLocation-same}

pub returns : goal.returns
returns c = record {
  kind = λ f rule p q k h. IsKind-same h f rule k;
  part = λ f rule p q part h. IsLocation-same h f rule;
}
