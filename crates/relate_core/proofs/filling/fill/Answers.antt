use Rattle.std.specs.Prelude.{Some}
use Rattle.std.proofs.lemmas.Result.{IfOk-weaker}
use Rattle.near_laws.specs.Near.{IsNearNode}
use Rattle.point_set.specs.Nodes.{IsFewNode}
use Rattle.relate_core.specs.Tables.{IsTableOf}
use Rattle.relate_core.proofs.Everywhere.{everywhere, table_of_all}
use Rattle.relate_core.proofs.filling.fill.Goals as goal

pub returns-clause-table : goal.returns-clause-table
returns-clause-table g c =
    let a = g.A.Target.figure c.args.a.now in
    let b = g.B.Target.figure c.args.b.now in
    IfOk-weaker c.fill_in.result (IsTableOf (IsNearNode (Some everywhere) a b) a b) (IsTableOf (IsFewNode a b) a b)
    (table_of_all a b c.are_valid.ensures.valid) c.fill_in.ensures.table
