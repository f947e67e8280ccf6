use Rattle.plane_laws.proofs.Points.Order.{compare_points_total, compare_points_same, same_compare_points}
use Rattle.plane_laws.proofs.order_laws.law_points_are_ordered.Goals as goal

pub returns : goal.returns
returns c = record { total = compare_points_total; same = λ p q. (same_compare_points p q, compare_points_same p q) }
