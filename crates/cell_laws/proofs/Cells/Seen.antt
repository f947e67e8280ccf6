-- A sample shows what it is a sample of: a triangle, a segment or a point. And each triangle, segment or point of a cell other than that
-- of the two exteriors is seen in a sample that is at least as great.
use Rattle.std.proofs.Common.{◌≡◌, ◌≢◌, ◌⊎◌, inl, inr, Bool, true, false, refl}
use Rattle.im_matrix.specs.Cells.{cell}
use Rattle.im_matrix.specs.declared.Cell.{Cell}
use Rattle.im_matrix.specs.declared.Dim.{Dim}
use Rattle.im_matrix.specs.declared.Dim.TheVariants.{Empty, Zero, One, Two}
use Rattle.im_matrix.specs.declared.Loc.TheVariants.{Exterior}
use Rattle.plane_laws.specs.Plane.{Point, IsSamePoint}
use Rattle.plane_laws.specs.Directions.{Direction}
use Rattle.plane_laws.specs.Along.{IsInCone}
use Rattle.plane_exact.specs.Orders.{direction_of}
use Rattle.point_set.specs.declared.figure.Figure.{Figure}
use Rattle.point_set.specs.declared.rule.Rule.{Rule}
use Rattle.point_set.specs.Dimension.{HoldsTriangle, HoldsSegment, HoldsPoint, ShowsDimension}
use Rattle.point_set.specs.Nodes.{IsNode, segs_of_both}
use Rattle.point_set.specs.Relation.{IsInCell}
use Rattle.point_set.specs.Rings.{is_on_edges}
use Rattle.point_set.specs.Samples.{IsSeenOnEdge, IsSeenInSector, IsSample}
use Rattle.point_set.specs.Visible.{AreValid, IsVisibleOff, IsVisibleOn}
use Rattle.germ_laws.proofs.Rays.WayTo.{way_to, way_to_is}
use Rattle.stay_laws.proofs.Stays.Seen.{seen_is_germ}
use Rattle.node_laws.proofs.Nodes.Decided.{node_is_decided, node_same}
use Rattle.node_laws.proofs.Visible.OffEdges.{visible_off}
use Rattle.node_laws.proofs.Visible.OnEdge.{visible_on}
use Rattle.cell_laws.proofs.Cells.Bare.{cell_without_nodes}
use Rattle.cell_laws.proofs.Directions.Middles.{middle_in_sector}
use Rattle.cell_laws.proofs.Free.Points.{HasFreePoint, HasLonePoint, free_in_triangle, lone_on_segment}
use Rattle.cell_laws.proofs.Germs.Along.{germ_holds_segment}
use Rattle.cell_laws.proofs.Germs.Sectors.{sector_is_one}
use Rattle.cell_laws.proofs.Samples.Seen.{run_to, seen_in_sector, seen_on_edge}

module _ (a b : Figure) (valid : AreValid a b) (rule : Rule) where
  -- a sample at a node
  abbrev pub Sampled : Cell → Dim → Type 0
  Sampled c d = IsSample (IsNode a b) a b rule c d

  -- a sample shows its dimension
  pub sample_shows : (c : Cell) (d : Dim) → Sampled c d → ShowsDimension (IsInCell a b rule c) d
  sample_shows c Empty s = tt
  sample_shows c Zero s = record { p = s.v; held = s.sample }
  sample_shows c One s =
      let k : IsSeenOnEdge a b rule s.v c = s.sample in
      germ_holds_segment a b valid rule s.v (direction_of k.ray) c k.germ
  sample_shows c Two s =
      let k : IsSeenInSector a b rule s.v c = s.sample in
      let within = middle_in_sector k.rays k.i k.middle k.middle_is in
      (sector_is_one a b valid rule s.v k.rays k.rays_are.rays_at k.i k.sector k.middle k.middle within within c k.germ).1

  -- ---- a cell other than that of the two exteriors
  module _ (c : Cell) (other : c ≢ cell Exterior Exterior) where
    -- a point that is no node: off the edges it is seen in a sector
    point_off : (p : Point) → IsInCell a b rule c p → is_on_edges p (segs_of_both a b) ≡ false → ¬ IsNode a b p → Sampled c Two
    point_off p in_c off lone = by_case (visible_off a b valid.a_shaped valid.b_shaped rule p off lone)
      where
        by_case : ((v : Point) → ¬ IsNode a b v) ⊎ IsVisibleOff a b rule p → Sampled c Two
        by_case (inl none) = absurd (other (cell_without_nodes a b valid rule none c p in_c))
        by_case (inr k) = record {
          v = k.v;
          is_node = k.is_node;
          sample = seen_in_sector a b valid rule k.v k.d k.free c (seen_is_germ a b rule k.v p k.d k.toward c in_c k.seen);
        }

    -- on an edge it is seen along the edge
    point_on : (p : Point) → IsInCell a b rule c p → is_on_edges p (segs_of_both a b) ≡ true → ¬ IsNode a b p → Sampled c One
    point_on p in_c on lone = record {
      v = k.v;
      is_node = k.is_node;
      sample =
          seen_on_edge a b valid rule k.v d (run_to k.v p d (segs_of_both a b) k.place k.edge k.edge_is k.v_on k.p_on toward) c
          (seen_is_germ a b rule k.v p d toward c in_c k.seen);
    }
      where
        k : IsVisibleOn a b rule p
        k = visible_on a b valid rule p on lone

        apart : ¬ IsSamePoint k.v p
        apart same = lone (node_same a b same k.is_node)

        d : Direction
        d = way_to k.v p apart

        toward : IsInCone k.v d d p
        toward = way_to_is k.v p apart

    -- either way
    point_seen : (p : Point) → IsInCell a b rule c p → ¬ IsNode a b p → Sampled c Two ⊎ Sampled c One
    point_seen p in_c lone = by_test (is_on_edges p (segs_of_both a b)) refl
      where
        by_test : (t : Bool) → is_on_edges p (segs_of_both a b) ≡ t → Sampled c Two ⊎ Sampled c One
        by_test true h = inr (point_on p in_c h lone)
        by_test false h = inl (point_off p in_c h lone)

    -- a triangle of the cell is seen, by a free point of it
    pub triangle_seen : HoldsTriangle (IsInCell a b rule c) → Sampled c Two
    triangle_seen t =
        let k : HasFreePoint a b t.a t.b t.c = free_in_triangle a b valid t.a t.b t.c t.broad in
        point_off k.p (t.held k.p k.within) k.free.off k.free.lone

    -- a segment of the cell is seen, by a point of it that is no node
    pub segment_seen : HoldsSegment (IsInCell a b rule c) → Sampled c Two ⊎ Sampled c One
    segment_seen s =
        let k : HasLonePoint a b s.a s.b = lone_on_segment a b s.a s.b s.apart in
        point_seen k.p (s.held k.p k.on) k.lone

    -- a point of the cell, which may be a node, is seen
    pub point_sampled : HoldsPoint (IsInCell a b rule c) → Sampled c Two ⊎ (Sampled c One ⊎ Sampled c Zero)
    point_sampled h = by_node (node_is_decided a b h.p)
      where
        by_seen : Sampled c Two ⊎ Sampled c One → Sampled c Two ⊎ (Sampled c One ⊎ Sampled c Zero)
        by_seen (inl k) = inl k
        by_seen (inr k) = inr (inl k)

        by_node : IsNode a b h.p ⊎ (¬ IsNode a b h.p) → Sampled c Two ⊎ (Sampled c One ⊎ Sampled c Zero)
        by_node (inl node) = inr (inr (record { v = h.p; is_node = node; sample = h.held }))
        by_node (inr lone) = by_seen (point_seen h.p h.held lone)
