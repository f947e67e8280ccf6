use Rattle.plane_laws.proofs.Directions.Angles.{compare_ways_total, compare_ways-same, same_compare_ways}
use Rattle.plane_laws.proofs.order_laws.law_directions_are_ordered.Goals as goal

pub returns : goal.returns
returns c = record { total = compare_ways_total; same = λ d e. (same_compare_ways d e, compare_ways-same d e) }
