use Rattle.figure_laws.proofs.laws.law_kinds_exclude_each_other.Goals as goal
use Rattle.figure_laws.proofs.Points.Kinds.{one_kind, one_part}

pub returns : goal.returns
returns c = record {
  kind = one_kind;
  part = λ f rule p a b. one_part;
}
