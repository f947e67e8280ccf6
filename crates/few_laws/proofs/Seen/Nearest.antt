-- From a node that is left out, along its edge, to the nearest few node: on the way no edge and no position of the second figure is met,
-- and the first figure's part is Interior. So what the node's edges show is seen along an edge from there.
use Rattle.std.proofs.Common.{◌≡◌, ◌⊎◌, inl, inr, ℕ, Bool, true, false, refl, sym, ◌∙◌, subst}
use Rattle.std.proofs.lemmas.Bool.{true≢false}
use Rattle.std.proofs.lemmas.Bool.Decides.{not_from_Decides}
use Rattle.im_matrix.specs.Cells.{cell}
use Rattle.im_matrix.specs.declared.Loc.{Loc}
use Rattle.im_matrix.specs.declared.Loc.TheVariants.{Interior}
use Rattle.plane_laws.specs.Plane.{Point, IsSamePoint, IsOnSegment, is_same_point}
use Rattle.plane_laws.specs.Directions.{Direction}
use Rattle.plane_laws.specs.Along.{IsInCone}
use Rattle.plane_exact.specs.Places.{point_of}
use Rattle.plane_exact.specs.declared.point.Seg.{Seg}
use Rattle.point_set.specs.declared.figure.Figure.{Figure}
use Rattle.point_set.specs.declared.rule.Rule.{Rule}
use Rattle.point_set.specs.Lines.{is_at, is_at_some}
use Rattle.point_set.specs.Location.{IsLocation}
use Rattle.point_set.specs.Nodes.{IsFewNode, IsOnlyCommonPoint, RunsFrom, all_positions, segs_of, segs_of_both, position, between}
use Rattle.point_set.specs.Samples.{IsSeenOnEdge}
use Rattle.point_set.specs.Shape.{IsWellShaped}
use Rattle.point_set.specs.Validity.{IsAtPlace, IsOnEdge}
use Rattle.point_set.specs.Visible.{AreValid, IsSeenFrom}
use Rattle.plane_laws.proofs.Points.Same.{same_refl, same_sym, same_trans, Decides-is_same_point}
use Rattle.plane_laws.proofs.Segments.Mixes.{start_on_segment, end_on_segment, segment_same, segment_flip, on_from_strictly_between}
use Rattle.figure_laws.proofs.Edges.Lists.{none_append}
use Rattle.figure_laws.proofs.Lists.Items.{Each, each_left, each_right, place_left}
use Rattle.figure_laws.proofs.Points.Kinds.{one_part}
use Rattle.ring_laws.proofs.Germs.Areas.{segment_within}
use Rattle.side_laws.proofs.Edges.Germ.{between_not_start}
use Rattle.side_laws.proofs.Edges.Places.{off_by_places, off_edge}
use Rattle.germ_laws.proofs.Rays.WayTo.{way_to, way_to_is}
use Rattle.stay_laws.proofs.Edges.Stays.{holds_or_crosses}
use Rattle.stay_laws.proofs.Even.Germs.{on_edges_at}
use Rattle.stay_laws.proofs.Stays.Seen.{seen_is_germ}
use Rattle.node_laws.proofs.Nodes.Positions.{IsAtOne, HasEnds, positions_of_both, ends_are_positions}
use Rattle.node_laws.proofs.Visible.OnEdge.{on_both, nearest_of}
use Rattle.cell_laws.proofs.Free.Nodes.{IsFree}
use Rattle.cell_laws.proofs.Samples.Seen.{run_to, seen_on_edge}
use Rattle.few_laws.proofs.LeftOut.Bare.{free_alone, part_stays, on_edge_inside}
use Rattle.few_laws.proofs.LeftOut.Edges.{IsLeftOut, nowhere_few}
use Rattle.few_laws.proofs.LeftOut.Samples.{inside_here}
use Rattle.few_laws.proofs.Nodes.Crossings.{few_same}
use Rattle.few_laws.proofs.Nodes.Decided.{few_are_finite}

-- where no point is a few node there is no position of either figure
no_position_few :
    (a b : Figure) (m : Point) → ¬ IsFewNode a b m
    → (is_at_some m (all_positions a) ≡ false) × (is_at_some m (all_positions b) ≡ false)
no_position_few a b m free = none_append (is_at m) (all_positions a) (all_positions b) (nowhere_few a b m free)

module _ (a b : Figure) (v : Point) (o : IsLeftOut a b v) where
  -- both ends of an edge are at positions
  abbrev HasItsEnds : Seg → Type 0
  HasItsEnds = HasEnds (IsAtOne (positions_of_both a b))

  -- of an edge of the first figure
  first_ends : Each HasItsEnds (segs_of a)
  first_ends = each_left HasItsEnds (segs_of a) (segs_of b) (ends_are_positions a b)

  -- and of the second
  second_ends : Each HasItsEnds (segs_of b)
  second_ends = each_right HasItsEnds (segs_of a) (segs_of b) (ends_are_positions a b)

  -- ---- the nearest few node
  -- a few node on the edge of v, from which no other is nearer to v
  pub record HasNearestFew : Type 0 where
    pub u : Point
    pub is : IsFewNode a b u
    pub on : IsOnEdge o.e u
    pub alone : (m : Point) → IsOnSegment v u m → IsFewNode a b m → IsSamePoint m u

  -- of all few nodes the nearest to v on the way to the first end of the edge
  pub nearest_few : HasNearestFew
  nearest_few =
      let all = few_are_finite a b in
      let end = point_of o.e.a in
      let r = nearest_of (IsFewNode a b) v end (position (first_ends o.i o.e o.e_is).0) all.0 all.1.only in
      record {
        u = r.w;
        is = r.is;
        on = segment_within o.on (start_on_segment end (point_of o.e.b)) r.on;
        alone = λ m on few.
            let s = all.1.whole m few in
            same_trans s.is_so (r.nearest s.place s.item s.item_is (segment_same (same_refl v) (same_refl r.w) s.is_so on));
      }

  -- ---- on the way to it
  module _ (r : HasNearestFew) where
    -- v isn't that node
    pub apart : ¬ IsSamePoint r.u v
    apart h = o.not_few (few_same a b h r.is)

    -- up to a point before it there is no few node
    none_few : (q : Point) → IsOnSegment v r.u q → ¬ IsSamePoint q r.u → (m : Point) → IsOnSegment v q m → ¬ IsFewNode a b m
    none_few q on_q before m on few =
        let one : IsSamePoint m r.u = r.alone m (segment_within (start_on_segment v r.u) on_q on) few in
        before (on_both on_q (segment_same (same_refl v) (same_refl q) one on))

    -- each point of the way is on the edge of v
    on_way : (q : Point) → IsOnSegment v r.u q → IsOnEdge o.e q
    on_way q on = segment_within o.on r.on on

    -- an edge of the second figure that held such a point would hold v, or cross the edge there
    other_off :
        (q : Point) → IsOnSegment v r.u q → ¬ IsSamePoint q r.u → (m : Point) → IsOnSegment v q m → (j : ℕ) (g : Seg)
        → IsAtPlace (segs_of b) j g → ¬ IsOnEdge g m
    other_off q on_q before m on j g g_is g_m = by_test (is_same_point m v) refl
      where
        none : IsOnEdge g v → ⊥
        none g_v = true≢false (sym (on_edges_at v (segs_of b) j g g_is g_v) ∙ o.off)

        e_m : IsOnEdge o.e m
        e_m = on_way m (segment_within (start_on_segment v r.u) on_q on)

        -- no end of g is from m to v
        clear : (end : Point) → is_at_some end (positions_of_both a b) ≡ true → ¬ IsOnSegment m v end
        clear end at on_end = none_few q on_q before end (segment_within on (start_on_segment v q) on_end) (position at)

        by_case : IsOnEdge g v ⊎ IsOnlyCommonPoint o.e g m → ⊥
        by_case (inl g_v) = none g_v
        by_case (inr only) =
            none_few q on_q before m on (between (record { i = o.i; j = j; e = o.e; f = g; e_is = o.e_is; f_is = g_is; meet = only }))

        by_test : (t : Bool) → is_same_point m v ≡ t → ⊥
        by_test true h =
            none (segment_same (same_refl (point_of g.a)) (same_refl (point_of g.b)) ((Decides-is_same_point m v).0 h) g_m)
        by_test false h =
            let ends = second_ends j g g_is in
            by_case (holds_or_crosses o.e g m v (not_from_Decides (is_same_point m v) (Decides-is_same_point m v) h) e_m o.on g_m
            (clear (point_of g.a) ends.0) (clear (point_of g.b) ends.1))

    -- so the way is free of the second figure
    pub free_way : (q : Point) → IsOnSegment v r.u q → ¬ IsSamePoint q r.u → (m : Point) → IsOnSegment v q m → IsFree b b m
    free_way q on_q before m on =
        free_alone b m (off_by_places m (segs_of b) (λ j g g_is. off_edge g m (other_off q on_q before m on j g g_is)))
        (no_position_few a b m (none_few q on_q before m on)).1

    -- and its part stays
    pub part_on_way :
        IsWellShaped b → (rule : Rule) (part : Loc) → IsLocation b rule v part → (q : Point) → IsOnSegment v r.u q → ¬ IsSamePoint q r.u
        → IsLocation b rule q part
    part_on_way shaped rule part is q on_q before = part_stays b shaped rule v q (free_way q on_q before) part is

    -- the first figure's part is Interior
    inside_way : (rule : Rule) (q : Point) → IsOnSegment v r.u q → ¬ IsSamePoint q r.u → IsLocation a rule q Interior
    inside_way rule q on_q before =
        on_edge_inside a o.bare rule q (no_position_few a b q (none_few q on_q before q (end_on_segment v q))).0 o.i o.e o.e_is
        (on_way q on_q)

    -- ---- the way back
    -- the direction back to v
    pub back : Direction
    back = way_to r.u v apart

    -- it leads to v
    pub back_cone : IsInCone r.u back back v
    unfolding back
    back_cone = way_to_is r.u v apart

    -- and the edge runs along it
    pub back_run : RunsFrom r.u (segs_of_both a b) back
    back_run =
        run_to r.u v back (segs_of_both a b) o.i o.e (place_left (segs_of a) (segs_of b) o.i o.e o.e_is) r.on o.on back_cone

    -- v has the pair of its parts on all of the way
    seen_back : IsWellShaped b → (rule : Rule) → IsSeenFrom a b rule r.u v
    seen_back shaped rule c at q inside =
        let on_q : IsOnSegment v r.u q = segment_flip (on_from_strictly_between inside) in
        let before : ¬ IsSamePoint q r.u = λ h. between_not_start inside (same_sym h) in
        record {
          in_a = subst (λ part. IsLocation a rule q part) (one_part (inside_here a b shaped rule v o) at.in_a)
              (inside_way rule q on_q before);
          in_b = part_on_way shaped rule c.b at.in_b q on_q before;
        }

    -- so it is seen along the edge
    pub seen_along :
        AreValid a b → (rule : Rule) (part : Loc) → IsLocation b rule v part → IsSeenOnEdge a b rule r.u (cell Interior part)
    seen_along valid rule part is =
        seen_on_edge a b valid rule r.u back back_run (cell Interior part)
        (seen_is_germ a b rule r.u v back back_cone (cell Interior part)
        (record { in_a = inside_here a b valid.b_shaped rule v o; in_b = is }) (seen_back valid.b_shaped rule))
