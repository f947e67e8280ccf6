use Rattle.std.proofs.Common.{◌≡◌, length, ap, arith, rules}
use Rattle.std.proofs.lemmas.List.{length-map}
use Rattle.point_set.specs.Edges.{edges_of_figure}
use Rattle.figure_laws.proofs.Edges.Limits.{few_edges}
use Rattle.ring_sides.specs.Rows.{owned_edge, owned_edges}
use Rattle.ring_sides.proofs.edges.edges_of.Goals as goal

pub returns-clause-few : goal.returns-clause-few
returns-clause-few c =
    let rows = c.add_areas.new.rows in
    let edges : owned_edges rows ≡ edges_of_figure c.args.v.now = search rules in
    omega (arith, few_edges c.args.v.now c.figure.ensures.shaped, length-map rows owned_edge, ap length edges)
