-- Near a point there is no other node; so all points near a free point are free, and its cell holds a triangle.
use Rattle.std.proofs.Common.{◌≡◌, ◌⊎◌, inl, inr, ℕ, ◌+◌, ◌≤◌, Bool, true, false, ◌++◌, refl, sym, ◌∙◌, arith}
use Rattle.std.proofs.lemmas.Bool.{true≢false}
use Rattle.im_matrix.specs.declared.Cell.{Cell}
use Rattle.plane_laws.specs.Plane.{Point, IsSamePoint}
use Rattle.plane_exact.specs.declared.point.Seg.{Seg}
use Rattle.point_set.specs.declared.figure.Figure.{Figure}
use Rattle.point_set.specs.declared.rule.Rule.{Rule}
use Rattle.point_set.specs.Dimension.{HoldsTriangle}
use Rattle.point_set.specs.Nodes.{IsNode, position, crossing, all_positions, segs_of_both}
use Rattle.point_set.specs.Relation.{IsInCell}
use Rattle.point_set.specs.Rings.{is_on_edge, is_on_edges}
use Rattle.point_set.specs.Validity.{IsAtPlace, IsOnEdge}
use Rattle.point_set.specs.Visible.{AreValid}
use Rattle.plane_laws.proofs.Near.Near.{IsNear, near_mix}
use Rattle.plane_laws.proofs.Near.Triangles.{HasNearTriangle, near_triangle}
use Rattle.plane_laws.proofs.Points.Same.{same_sym}
use Rattle.ring_laws.proofs.Germs.Edges.{on_true}
use Rattle.ring_laws.proofs.Room.Edges.{HasRoom, room}
use Rattle.side_laws.proofs.Edges.Beside.{held_at}
use Rattle.germ_laws.proofs.Room.Lonely.{IsLonely, lonely}
use Rattle.germ_laws.proofs.Room.Starry.{near_self}
use Rattle.germ_laws.proofs.Sectors.Closed.{none_held}
use Rattle.meeting_laws.proofs.Ways.OneLine.{same_or_not}
use Rattle.stay_laws.proofs.Stays.OffEdges.{pair_stays}
use Rattle.node_laws.proofs.Nodes.Decided.{node_same}
use Rattle.node_laws.proofs.Nodes.Edges.{edge_true}

-- ---- near a point there is no other node
-- nearer to v than 1/n no other point is a node
pub record AreNodesLonely (a b : Figure) (v : Point) : Type 0 where
  pub n : ℕ
  pub none : (k : ℕ) → n ≤ k → (q : Point) → IsNear v k q → ¬ IsSamePoint v q → ¬ IsNode a b q

-- for edges that cross at a near point both hold v, which is then that point
pub nodes_lonely : (a b : Figure) (v : Point) → AreNodesLonely a b v
nodes_lonely a b v = record { n = spots.n + r.n; none = none }
  where
    spots : IsLonely v (all_positions a ++ all_positions b)
    spots = lonely v (all_positions a ++ all_positions b)

    r : HasRoom v (segs_of_both a b)
    r = room v (segs_of_both a b)

    on_edge :
        (k : ℕ) → spots.n + r.n ≤ k → (q : Point) → IsNear v k q → (place : ℕ) (e : Seg) → IsAtPlace (segs_of_both a b) place e
        → IsOnEdge e q → IsOnEdge e v
    on_edge k far q near place e is on = by_test (is_on_edge v e) refl
      where
        by_test : (t : Bool) → is_on_edge v e ≡ t → IsOnEdge e v
        by_test true h = on_true h
        by_test false h =
            absurd (true≢false (sym (edge_true e on)
            ∙ held_at v q (segs_of_both a b) (r.free k (omega (arith, far)) q near) place e is h))

    none : (k : ℕ) → spots.n + r.n ≤ k → (q : Point) → IsNear v k q → ¬ IsSamePoint v q → ¬ IsNode a b q
    none k far q near apart (position h) = true≢false (sym h ∙ (spots.none k (omega (arith, far)) q near apart).0)
    none k far q near apart (crossing c) =
        apart (c.meet.only v (on_edge k far q near c.i c.e c.e_is c.meet.on_e) (on_edge k far q near c.j c.f c.f_is c.meet.on_f))

-- ---- free points
-- a point is on no edge and is no node
pub record IsFree (a b : Figure) (p : Point) : Type 0 where
  pub off : is_on_edges p (segs_of_both a b) ≡ false
  pub lone : ¬ IsNode a b p

-- nearer to p than 1/n all points are free
pub record HasFreeRoom (a b : Figure) (p : Point) : Type 0 where
  pub n : ℕ
  pub free : (k : ℕ) → n ≤ k → (q : Point) → IsNear p k q → IsFree a b q

-- a free point has such room
pub free_room : (a b : Figure) (p : Point) → IsFree a b p → HasFreeRoom a b p
free_room a b p here = record { n = r.n + nodes.n; free = free }
  where
    r : HasRoom p (segs_of_both a b)
    r = room p (segs_of_both a b)

    nodes : AreNodesLonely a b p
    nodes = nodes_lonely a b p

    lone : (k : ℕ) → r.n + nodes.n ≤ k → (q : Point) → IsNear p k q → ¬ IsNode a b q
    lone k far q near = by_point (same_or_not p q)
      where
        by_point : IsSamePoint p q ⊎ (¬ IsSamePoint p q) → ¬ IsNode a b q
        by_point (inl same) = λ node. here.lone (node_same a b (same_sym same) node)
        by_point (inr apart) = nodes.none k (omega (arith, far)) q near apart

    free : (k : ℕ) → r.n + nodes.n ≤ k → (q : Point) → IsNear p k q → IsFree a b q
    free k far q near = record {
      off = none_held p q (segs_of_both a b) here.off (r.free k (omega (arith, far)) q near);
      lone = lone k far q near;
    }

-- a triangle round it has its pair
pub open_cell :
    (a b : Figure) → AreValid a b → (rule : Rule) (p : Point) → IsFree a b p → (c : Cell) → IsInCell a b rule c p
    → HoldsTriangle (IsInCell a b rule c)
open_cell a b valid rule p here c in_c = record {
  a = t.a;
  b = t.b;
  c = t.c;
  broad = t.strictly.broad;
  held = λ q within.
      pair_stays a b valid.a_shaped valid.b_shaped rule p q
      (λ m on. let f = r.free r.n (omega arith) m (near_mix (near_self p r.n) (t.near q within) on) in (f.off, f.lone)) c in_c;
}
  where
    r : HasFreeRoom a b p
    r = free_room a b p here

    t : HasNearTriangle p r.n
    t = near_triangle p r.n
