-- Between two directions where no edge runs from a point, all near points are free.
use Rattle.std.proofs.Common.{inl, inr, ℕ, ◌+◌, ◌<◌, arith}
use Rattle.plane_laws.specs.Plane.{Point, IsOnSegment}
use Rattle.plane_laws.specs.Directions.{Direction}
use Rattle.plane_laws.specs.Along.{IsAway, IsInCone}
use Rattle.im_matrix.specs.declared.Cell.{Cell}
use Rattle.point_set.specs.declared.figure.Figure.{Figure}
use Rattle.point_set.specs.declared.rule.Rule.{Rule}
use Rattle.point_set.specs.Nodes.{segs_of_both, RunsFrom}
use Rattle.point_set.specs.Samples.{IsSeenInSector}
use Rattle.plane_laws.proofs.Near.Away.{away_near, far_for, between_in_cone}
use Rattle.plane_laws.proofs.Near.Near.{near_mix}
use Rattle.plane_laws.proofs.Segments.Mixes.{segment_flip}
use Rattle.ring_laws.proofs.Germs.Areas.{clear_from}
use Rattle.ring_laws.proofs.Germs.Edges.{AreClear, AreJoined, direction_pointed, joined_between}
use Rattle.germ_laws.proofs.Room.Starry.{between_apart}
use Rattle.cell_laws.proofs.Directions.Middles.{middle_in_sector, sector_free}
use Rattle.cell_laws.proofs.Free.Nodes.{AreNodesLonely, nodes_lonely, IsFree}

-- from some n on, all points of the segments between the points v + d/n and the points v + e/n are free
pub record HasFreeWay (a b : Figure) (v : Point) (d e : Direction) : Type 0 where
  pub from : ℕ
  pub free :
      (n l : ℕ) → from < n → from < l → (p q : Point) → IsAway v d n p → IsAway v e l q → (m : Point) → IsOnSegment p q m → IsFree a b m

-- so where the two directions aren't opposite, and no edge runs from v between them
pub free_way :
    (a b : Figure) (v : Point) (d e : Direction) → ¬ IsInCone v d e v → AreClear v d e (segs_of_both a b) → HasFreeWay a b v d e
free_way a b v d e pointed clear = record {
  from = joined.from + (far_for d nodes.n + far_for e nodes.n);
  free = λ n l far far' p q away away' m on. record {
    off = (joined.free n l (omega (arith, far)) (omega (arith, far')) p q away away').off m on;
    lone =
        nodes.none nodes.n (omega arith) m
        (near_mix (away_near nodes.n (omega (arith, far)) away) (away_near nodes.n (omega (arith, far')) away') on)
        (between_apart pointed (between_in_cone (omega (arith, far)) (omega (arith, far')) away away' on));
  };
}
  where
    joined : AreJoined v d e (segs_of_both a b)
    joined = joined_between v d e pointed (segs_of_both a b) clear

    nodes : AreNodesLonely a b v
    nodes = nodes_lonely a b v

-- and along each direction in which no edge runs
pub free_along : (a b : Figure) (v : Point) (d : Direction) → ¬ RunsFrom v (segs_of_both a b) d → HasFreeWay a b v d d
free_along a b v d none =
    free_way a b v d d (direction_pointed v d) (clear_from v d d (segs_of_both a b) (λ place f is on. (
      λ c. none (record { place = place; edge = f; edge_is = is; holds = on; leads = inl c }),
      λ c. none (record { place = place; edge = f; edge_is = is; holds = on; leads = inr c }),
    )))

-- so along the middle of a sector in which a cell is seen
pub free_in_sector : {a b : Figure} {rule : Rule} {v : Point} {c : Cell} (s : IsSeenInSector a b rule v c)
    → HasFreeWay a b v s.middle s.middle
free_in_sector {a} {b} {rule} {v} s =
    free_along a b v s.middle
    (sector_free v (segs_of_both a b) s.rays s.rays_are.rays_at s.i s.middle (middle_in_sector s.rays s.i s.middle s.middle_is))

-- a free way is one the other way round
pub way_back : {a b : Figure} {v : Point} {d e : Direction} → HasFreeWay a b v d e → HasFreeWay a b v e d
way_back way =
    record { from = way.from; free = λ n l far far' p q away away' m on. way.free l n far' far q p away' away m (segment_flip on) }
