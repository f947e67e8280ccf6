use Rattle.plane_laws.proofs.laws.law_same_point_is_tested.Goals as goal
use Rattle.plane_laws.proofs.Points.Same.{Decides-is_same_point}

pub returns : goal.returns
returns c = record { test = Decides-is_same_point }
