use Rattle.plane_laws.proofs.Points.Order.{by_y_total}
use Rattle.plane_laws.proofs.order_laws.law_heights_are_ordered.Goals as goal

pub returns : goal.returns
returns c = record { total = by_y_total }
