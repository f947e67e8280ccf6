use Rattle.figure_laws.proofs.laws.law_cover_is_of_points.Goals as goal
use Rattle.figure_laws.proofs.Points.Same.{is_covered-same, IsAreaInterior-same}

pub returns : goal.returns
returns c = record {
  covered = λ f p q h. is_covered-same h f;
  interior = λ f p q. IsAreaInterior-same;
}
