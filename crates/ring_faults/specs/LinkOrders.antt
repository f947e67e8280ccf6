-- The order of links by node and then by ring is a total order.
use Rattle.std.specs.Cmp.{IsTotalOrder}
use Rattle.std.proofs.lemmas.Cmp.{nat_cmp_total, on_total, then_total}
use Rattle.plane_exact.specs.NodePoints.{point_at}
use Rattle.plane_laws.proofs.Points.Order.{compare_points_total}
use Rattle.ring_faults.specs.declared.link.Link.{Link}
use Rattle.ring_faults.specs.Links.{compare_links}

-- The order is total: by the points of the nodes, and then by the rings.
pub compare_links_total : IsTotalOrder compare_links
compare_links_total =
    then_total (on_total (λ (l : Link). point_at l.node) compare_points_total) (on_total (λ (l : Link). l.ring) nat_cmp_total)
