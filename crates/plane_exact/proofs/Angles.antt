-- Directions of the code in the order of their angles: equal exactly at one way, and a total order.
use Rattle.std.proofs.Common.{◌≡◌, Equal}
use Rattle.std.specs.Cmp.{IsTotalOrder}
use Rattle.std.proofs.lemmas.Cmp.{on_total}
use Rattle.plane_laws.proofs.Directions.Angles.{compare_ways_total, compare_ways-same, same_compare_ways}
use Rattle.plane_exact.specs.Orders.{compare_angles, direction_of, IsSameDirection}
use Rattle.plane_exact.specs.declared.dir.Dir.{Dir}

pub compare_angles-same : (d e : Dir) → IsSameDirection d e → compare_angles d e ≡ Equal
compare_angles-same d e s = compare_ways-same (direction_of d) (direction_of e) s

pub same_compare_angles : (d e : Dir) → compare_angles d e ≡ Equal → IsSameDirection d e
same_compare_angles d e h = same_compare_ways (direction_of d) (direction_of e) h

pub compare_angles_total : IsTotalOrder compare_angles
compare_angles_total = on_total direction_of compare_ways_total
