-- The samples at a node that is left out: the part of the second figure is that at the node; the part of the first is Interior at the
-- node and along each edge, and Exterior in each sector.
use Rattle.std.proofs.Common.{◌≡◌, ◌⊎◌, inl, inr, ℕ, suc, ◌+◌, ◌<◌, true, false, [], sym, ◌∙◌, arith}
use Rattle.std.proofs.lemmas.Bool.{true≢false}
use Rattle.im_matrix.specs.declared.Cell.{Cell}
use Rattle.im_matrix.specs.declared.Loc.{Loc}
use Rattle.im_matrix.specs.declared.Loc.TheVariants.{Interior, Exterior}
use Rattle.plane_laws.specs.Plane.{Point}
use Rattle.plane_laws.specs.Directions.{Direction}
use Rattle.plane_laws.specs.Along.{IsAway, HoldsAlong}
use Rattle.plane_exact.specs.Orders.{direction_of}
use Rattle.point_set.specs.declared.figure.Figure.{Figure}
use Rattle.point_set.specs.declared.rule.Rule.{Rule}
use Rattle.point_set.specs.Lines.{is_at, is_at_some}
use Rattle.point_set.specs.Location.{IsLocation}
use Rattle.point_set.specs.Nodes.{RunsFrom, all_positions, segs_of, segs_of_both}
use Rattle.point_set.specs.Relation.{IsInCell}
use Rattle.point_set.specs.Rings.{is_on_edge}
use Rattle.point_set.specs.Samples.{IsSeenOnEdge, IsSeenInSector}
use Rattle.point_set.specs.Shape.{IsWellShaped}
use Rattle.plane_laws.proofs.Near.Away.{away_point, away_point_is, away_near, far_for}
use Rattle.plane_laws.proofs.Near.Near.{near_mix}
use Rattle.plane_laws.proofs.Segments.Mixes.{start_on_segment}
use Rattle.figure_laws.proofs.Edges.Lists.{none_append}
use Rattle.figure_laws.proofs.Points.Kinds.{one_part}
use Rattle.ring_laws.proofs.Germs.Edges.{on_true}
use Rattle.germ_laws.proofs.Room.Germs.{away_cone}
use Rattle.germ_laws.proofs.Room.Lonely.{IsLonely, lonely}
use Rattle.germ_laws.proofs.Room.Starry.{near_self, not_here}
use Rattle.stay_laws.proofs.Even.Germs.{on_edges_at}
use Rattle.stay_laws.proofs.Stays.OffEdges.{no_position}
use Rattle.cell_laws.proofs.Directions.Exist.{run_at}
use Rattle.cell_laws.proofs.Directions.Middles.{middle_in_sector, sector_free}
use Rattle.cell_laws.proofs.Free.Nodes.{IsFree, HasFreeRoom, free_room}
use Rattle.cell_laws.proofs.Free.Ways.{HasFreeWay, free_in_sector}
use Rattle.cell_laws.proofs.Samples.Same.{run_along}
use Rattle.few_laws.proofs.LeftOut.Bare.{free_alone, part_stays, on_edge_inside, off_edges_outside}
use Rattle.few_laws.proofs.LeftOut.Edges.{IsLeftOut}
use Rattle.few_laws.proofs.Nodes.Crossings.{run_split}

-- a point that is free of both figures lies outside the first, where this has no areas
pub free_outside : (a b : Figure) → a.areas ≡ [] → (rule : Rule) (p : Point) → IsFree a b p → IsLocation a rule p Exterior
free_outside a b bare rule p free =
    off_edges_outside a bare rule p (no_position a b p free.lone).0 (none_append (is_on_edge p) (segs_of a) (segs_of b) free.off).0

-- the cell's first part is this, and its second part is where v lies in the second figure
pub record HasParts (b : Figure) (rule : Rule) (v : Point) (c : Cell) (part : Loc) : Type 0 where
  pub first : c.a ≡ part
  pub second : IsLocation b rule v c.b

module _ (a b : Figure) (shaped : IsWellShaped b) (rule : Rule) (v : Point) (o : IsLeftOut a b v) where
  -- no position of either figure is at v
  lone : (is_at_some v (all_positions a) ≡ false) × (is_at_some v (all_positions b) ≡ false)
  lone = none_append (is_at v) (all_positions a) (all_positions b) o.nowhere

  -- ---- at the node
  -- v lies inside the first figure
  pub inside_here : IsLocation a rule v Interior
  inside_here = on_edge_inside a o.bare rule v lone.0 o.i o.e o.e_is o.on

  -- so a sample at v itself has these parts
  pub parts_here : (c : Cell) → IsInCell a b rule c v → HasParts b rule v c Interior
  parts_here c at = record { first = one_part at.in_a inside_here; second = at.in_b }

  -- ---- near the node
  -- there are no edges and no positions of the second figure
  near_b : HasFreeRoom b b v
  near_b = free_room b b v (free_alone b v o.off lone.1)

  -- so its part is that at v
  part_back : (d : Direction) (n : ℕ) → far_for d near_b.n < n → (q : Point) → IsAway v d n q → (part : Loc) → IsLocation b rule q part
      → IsLocation b rule v part
  part_back d n far q away =
      part_stays b shaped rule q v (λ m on.
      near_b.free near_b.n (omega arith) m (near_mix (away_near near_b.n far away) (near_self v near_b.n) on))

  -- ---- along an edge
  -- an edge that runs from v is one of the first figure
  own_run : (d : Direction) → RunsFrom v (segs_of_both a b) d → RunsFrom v (segs_of a) d
  own_run d run = by_part (run_split v (segs_of a) (segs_of b) d run)
    where
      by_part : RunsFrom v (segs_of a) d ⊎ RunsFrom v (segs_of b) d → RunsFrom v (segs_of a) d
      by_part (inl r) = r
      by_part (inr r) =
          absurd (true≢false (sym (on_edges_at v (segs_of b) r.place r.edge r.edge_is (on_true {p = v} {f = r.edge} r.holds)) ∙ o.off))

  -- so a sample along an edge has these parts: near points on the edge are at no position
  pub parts_on_edge : (c : Cell) → IsSeenOnEdge a b rule v c → HasParts b rule v c Interior
  parts_on_edge c s = record {
    first =
        one_part at.in_a (on_edge_inside a o.bare rule q
        (near_a.none near_a.n (omega arith) q (away_near near_a.n (omega arith) away) (not_here (away_cone (omega arith) away))).0
        run.place run.edge run.edge_is (on_true {p = q} {f = run.edge} (along.holds (suc n) (omega arith) q away)));
    second = part_back d (suc n) (omega arith) q away c.b at.in_b;
  }
    where
      d : Direction
      d = direction_of s.ray

      run : RunsFrom v (segs_of a) d
      run = own_run d (run_at v (segs_of_both a b) s.rays s.rays_are s.i s.ray s.ray_is)

      along : HoldsAlong (λ p. is_on_edge p run.edge ≡ true) v d
      along = run_along v d run.edge run.holds run.leads

      near_a : IsLonely v (all_positions a)
      near_a = lonely v (all_positions a)

      n : ℕ
      n = ((s.germ.from + along.from) + far_for d near_a.n) + far_for d near_b.n

      q : Point
      q = away_point v d n

      away : IsAway v d (suc n) q
      away = away_point_is v d n

      at : IsInCell a b rule c q
      at = s.germ.holds (suc n) (omega arith) q away

  -- ---- in a sector
  -- all near points along its middle are free
  pub parts_in_sector : (c : Cell) → IsSeenInSector a b rule v c → HasParts b rule v c Exterior
  parts_in_sector c s = record {
    first = one_part at.in_a (free_outside a b o.bare rule q (way.free (suc n) (suc n) (omega arith) (omega arith) q q away away q
        (start_on_segment q q)));
    second = part_back s.middle (suc n) (omega arith) q away c.b at.in_b;
  }
    where
      way : HasFreeWay a b v s.middle s.middle
      way = free_in_sector s

      n : ℕ
      n = (s.germ.from + way.from) + far_for s.middle near_b.n

      q : Point
      q = away_point v s.middle n

      away : IsAway v s.middle (suc n) q
      away = away_point_is v s.middle n

      at : IsInCell a b rule c q
      at = s.germ.holds (suc n) (omega arith) q away
