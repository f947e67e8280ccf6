use Rattle.std.proofs.Common.{◌∙◌, sym, rules}
use Rattle.plane_exact.proofs.Laws.{one_node}
use Rattle.plane_laws.proofs.Points.Order.{same_compare_points}
use Rattle.ring_faults.proofs.link.is_same_node.Goals as goal

pub returns-in-Equal : goal.returns-in-Equal
returns-in-Equal c = record {
  same = (
    λ _. one_node c.args.one.now c.args.other.now (same_compare_points _ _ (sym c.cmp_nodes.ensures.order ∙ c.in-Equal.is)),
    λ _. search rules,
  );
}
