use Rattle.topo_pred.proofs.QueriesKnown.{truth_known, truth_undecided, truth_open, matrix_unknown}
use Rattle.topo_pred.specs.Values.{asks_matrix}
use Rattle.topo_pred.specs.declared.Query.TheVariants.{Named, Match}
use Rattle.im_matrix.specs.Names.{name_value}
use Rattle.im_matrix.specs.Patterns.{text_matches, pattern_text}
use Rattle.topo_pred.proofs.query_known.Goals as goal

pub returns-in-Relate-clause-settled : goal.returns-in-Relate-clause-settled
returns-in-Relate-clause-settled c = rw c.in-Relate.is (matrix_unknown c.args.m.now)

pub returns-in-Relate-clause-open : goal.returns-in-Relate-clause-open
returns-in-Relate-clause-open c = asks_matrix c.in-Relate.is

pub returns-in-Named-clause-settled : goal.returns-in-Named-clause-settled
returns-in-Named-clause-settled c =
    rw c.in-Named.is
    (truth_known (name_value c.in-Named.name c.args.dim_a c.args.dim_b) c.args.m.now c.name_known.result c.name_known.ensures.known)

pub returns-in-Named-clause-open : goal.returns-in-Named-clause-open
returns-in-Named-clause-open c =
    rw c.in-Named.is
    (truth_open (Named c.in-Named.name) c.args.dim_a c.args.dim_b c.args.m.now c.name_known.result
    (truth_undecided (name_value c.in-Named.name c.args.dim_a c.args.dim_b) c.args.m.now c.name_known.result c.name_known.ensures.known))

pub returns-in-Match-clause-settled : goal.returns-in-Match-clause-settled
returns-in-Match-clause-settled c =
    rw c.in-Match.is
    (truth_known (text_matches (pattern_text c.in-Match.pattern)) c.args.m.now c.pattern_known.result c.pattern_known.ensures.known)

pub returns-in-Match-clause-open : goal.returns-in-Match-clause-open
returns-in-Match-clause-open c =
    rw c.in-Match.is
    (truth_open (Match c.in-Match.pattern) c.args.dim_a c.args.dim_b c.args.m.now c.pattern_known.result
    (truth_undecided (text_matches (pattern_text c.in-Match.pattern)) c.args.m.now c.pattern_known.result c.pattern_known.ensures.known))
