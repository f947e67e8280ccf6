use Rattle.plane_laws.proofs.Segments.Order.{compare_along_total, compare_along_same, same_compare_along, not_beyond, on_the_way}
use Rattle.plane_laws.proofs.order_laws.law_points_of_a_segment_are_ordered.Goals as goal

pub returns : goal.returns
returns c = record {
  total = compare_along_total;
  same = λ a b p q f g. (same_compare_along a b p q f g, compare_along_same a b p q f g);
  way = λ a b p q n f g. (not_beyond a b p q f g, on_the_way a b p q f g n);
}
