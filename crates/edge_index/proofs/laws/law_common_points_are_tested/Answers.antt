use Rattle.edge_index.proofs.Meetings.{Decides-common}
use Rattle.edge_index.proofs.laws.law_common_points_are_tested.Goals as goal

pub returns : goal.returns
returns c = record { test = Decides-common }
