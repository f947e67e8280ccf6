use Rattle.topo_pred.proofs.Feeds.{known-final}
use Rattle.topo_pred.proofs.known_is_final.Goals as goal

pub returns : goal.returns
returns c = record { known = known-final }
