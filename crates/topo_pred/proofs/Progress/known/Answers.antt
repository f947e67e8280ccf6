use Rattle.topo_pred.proofs.QueriesKnown.{known-none, known-relate}
use Rattle.topo_pred.proofs.Progress.known.Goals as goal

pub returns-clause-none : goal.returns-clause-none
returns-clause-none c = known-none c.args.self.now c.query_known.result c.query_known.ensures.settled

pub returns-clause-relate : goal.returns-clause-relate
returns-clause-relate c = known-relate c.args.self.now c.query_known.result c.query_known.ensures.settled
