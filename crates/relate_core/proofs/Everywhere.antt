-- The box of all coordinates within the limit: each of the few nodes is near it.
use Rattle.std.proofs.Common.{pos, neg_ℤ, List, sym, subst}
use Rattle.std.specs.Prelude.{Some}
use Rattle.plane_laws.proofs.Points.Same.{same_refl, same_sym}
use Rattle.plane_laws.proofs.Segments.Mixes.{segment_same, start_on_segment}
use Rattle.plane_laws.specs.Plane.{Point, IsOnSegment}
use Rattle.plane_exact.proofs.Laws.{in_window-mix}
use Rattle.plane_exact.specs.Limits.{limit}
use Rattle.plane_exact.specs.Places.{IsInLimit, point_of}
use Rattle.plane_exact.specs.Windows.{IsInWindow}
use Rattle.plane_exact.specs.declared.point.Pt.{Pt}
use Rattle.plane_exact.specs.declared.point.Seg.{Seg}
use Rattle.plane_exact.specs.declared.window.Window.{Window}
use Rattle.point_set.specs.declared.figure.Figure.{Figure}
use Rattle.point_set.specs.Nodes.{IsFewNode, IsCrossing, position, between, of_a, of_b, all_positions, segs_of}
use Rattle.point_set.specs.Shape.{IsLineShaped, IsWellShaped}
use Rattle.point_set.specs.Validity.{IsOnEdge, IsValid}
use Rattle.point_set.specs.Visible.{AreValid}
use Rattle.figure_laws.proofs.Lists.Items.{Each, each_both}
use Rattle.figure_laws.proofs.Lists.Places.{all_at}
use Rattle.node_laws.proofs.Nodes.Positions.{positions_of_both, at_some}
use Rattle.box_laws.proofs.Boxes.Round.{in_is_near}
use Rattle.near_laws.specs.Near.{IsNearNode}
use Rattle.node_table.specs.declared.entry.Entry.{Entry}
use Rattle.relate_core.specs.NodeSets.{HasTwoEnds}
use Rattle.relate_core.specs.Tables.{IsTableOf}
use Rattle.relate_core.proofs.FigureEdges.{edge_of_seg, two_ends_at}
use Rattle.relate_core.proofs.Positions.{each_position}

-- the box of all coordinates within the limit
abbrev pub everywhere : Window
everywhere = record { low_x = neg_ℤ (pos limit); low_y = neg_ℤ (pos limit); high_x = pos limit; high_y = pos limit }

-- all positions of a valid figure are within the limit
positions_in_limit : (f : Figure) → IsWellShaped f → IsValid f → Each IsInLimit (all_positions f)
positions_in_limit f shaped valid =
    each_position f valid IsInLimit (λ place p is. all_at IsInLimit f.points place p shaped.points is)
    (λ place line is p first. all_at IsInLimit line 0 p (all_at IsLineShaped f.lines place line shaped.lines is).within first)
    (λ place e is.
    let t = edge_of_seg f place e is in
    let ends = subst (λ (z : Seg). HasTwoEnds z) t.seg_is (two_ends_at f place t.edge shaped t.edge_is) in
    (ends.first, ends.second))

-- a segment whose ends are within the limit is in the box
holds_between : (a b : Pt) → IsInLimit a → IsInLimit b → (v : Point) → IsOnSegment (point_of a) (point_of b) v → IsInWindow everywhere v
holds_between a b h k v on = in_window-mix everywhere a b v h.left k.left h.right k.right h.bottom k.bottom h.top k.top on

-- so is a point on an edge of a well shaped figure
holds_crossing : (f : Figure) → IsWellShaped f → (others : List Seg) (v : Point) → IsCrossing (segs_of f) others v → IsInWindow everywhere v
holds_crossing f shaped others v c =
    let t = edge_of_seg f c.i c.e c.e_is in
    let ends = two_ends_at f c.i t.edge shaped t.edge_is in
    holds_between t.edge.seg.a t.edge.seg.b ends.first ends.second v (subst (λ (z : Seg). IsOnEdge z v) (sym t.seg_is) c.meet.on_e)

module _ (a b : Figure) (valid : AreValid a b) where
  -- so each of the few nodes is in it
  holds_few : (v : Point) → IsFewNode a b v → IsInWindow everywhere v
  holds_few v (position at) =
      let p = at_some v (positions_of_both a b) at in
      let within =
      each_both IsInLimit (all_positions a) (all_positions b) (positions_in_limit a valid.a_shaped valid.a_valid)
      (positions_in_limit b valid.b_shaped valid.b_valid) p.place p.item p.item_is in
      let q = point_of p.item in
      holds_between p.item p.item within within v (segment_same (same_refl q) (same_refl q) (same_sym p.is_so) (start_on_segment q q))
  holds_few v (between c) = holds_crossing a valid.a_shaped (segs_of b) v c
  holds_few v (of_a has c) = holds_crossing a valid.a_shaped (segs_of a) v c
  holds_few v (of_b has c) = holds_crossing b valid.b_shaped (segs_of b) v c

  -- and a table of those near it is one of them all
  pub table_of_all : (table : List Entry) → IsTableOf (IsNearNode (Some everywhere) a b) a b table → IsTableOf (IsFewNode a b) a b table
  table_of_all table h = record {
    in_order = h.in_order;
    nodes = record {
      only = λ k d below. (h.nodes.only k d below).0;
      whole = λ v few. h.nodes.whole v (few, in_is_near everywhere v (holds_few v few));
    };
    sections = h.sections;
  }
