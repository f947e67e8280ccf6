use Rattle.figure_laws.proofs.laws.law_lines_and_points_decide.Goals as goal
use Rattle.figure_laws.proofs.Points.Kinds.{one_of_four, uncovered_without_areas}

pub returns : goal.returns
returns c = record {
  decided = λ f rule p e. one_of_four f rule p (uncovered_without_areas f p e);
}
