-- An edge that holds a point near a box meets the box.
use Rattle.std.proofs.Common.{refl}
use Rattle.std.specs.Int.{int_max, int_min}
use Rattle.plane_laws.specs.Plane.{Point}
use Rattle.plane_exact.specs.Places.{point_of}
use Rattle.plane_exact.specs.Windows.{IsInWindow, IsLeastWindow}
use Rattle.plane_exact.specs.declared.point.Seg.{Seg}
use Rattle.plane_exact.specs.declared.window.Window.{Window}
use Rattle.point_set.specs.declared.figure.Figure.{Figure}
use Rattle.point_set.specs.Edges.{MeetsWindow}
use Rattle.point_set.specs.Validity.{IsOnEdge}
use Rattle.box_laws.specs.Boxes.{IsNearBox, LawNearEdgesMeet}
use Rattle.plane_laws.proofs.Points.Same.{same_refl}
use Rattle.plane_laws.proofs.Segments.Mixes.{segment_same}
use Rattle.plane_exact.proofs.Laws.{least_of_ends}
use Rattle.ring_laws.proofs.Germs.Edges.{on_true}
use Rattle.plane_exact.proofs.Laws.{within_holds}

-- the box of an edge
abbrev pub box_of : Seg → Window
box_of e = record {
  low_x = int_min e.a.x e.b.x;
  low_y = int_min e.a.y e.b.y;
  high_x = int_max e.a.x e.b.x;
  high_y = int_max e.a.y e.b.y;
}

-- it is the least that holds the edge
pub box_least : (e : Seg) → IsLeastWindow (IsOnEdge e) (box_of e)
box_least e = least_of_ends (box_of e) e.a e.b refl refl refl refl

-- each least box of an edge holds what a box and the least box round a near point of the edge have in common
pub holds_near : (e : Seg) (box : Window) → IsLeastWindow (IsOnEdge e) box → (w : Window) (v : Point) (near : IsNearBox w v) → IsOnEdge e v
    → IsInWindow box near.common.point
holds_near e box least w v near on =
    within_holds
    (near.least.least box (λ p same. least.holds p (segment_same (same_refl (point_of e.a)) (same_refl (point_of e.b)) same on)))
    near.common.point near.common.here

-- so the edge meets that box
edge_meets : (w : Window) (v : Point) → IsNearBox w v → (e : Seg) → IsOnEdge e v → MeetsWindow w e
edge_meets w v near e on = record {
  box = box_of e;
  least = box_least e;
  common = record { point = near.common.point; here = holds_near e (box_of e) (box_least e) w v near on; there = near.common.there };
}

-- so each edge of a figure that holds a point near a box meets the box
pub near_edges_meet : (f : Figure) → LawNearEdgesMeet f
near_edges_meet f w v near place edge is holds =
    record { edge = edge; edge_is = is; meets = edge_meets w v near edge.seg (on_true {p = v} {f = edge.seg} holds) }
