-- At the nearest few node of a node that is left out, just to the left of the edge that leads back: the second figure's part is that on the
-- edge, and the first figure's is Exterior. So what the node's sectors show is seen in a sector there.
use Rattle.std.proofs.Common.{◌≡◌, ℕ, suc, ◌+◌, ◌*◌, ◌%◌, ◌≤◌, pos, ◌*ℤ◌, length, sym, ◌∙◌, arith}
use Rattle.std.proofs.lemmas.Option.{slice_get_within}
use Rattle.whole_algebra.proofs.Laws.{linear}
use Rattle.whole_algebra.proofs.Signs.{<ℤ_apart}
use Rattle.im_matrix.specs.Cells.{cell}
use Rattle.im_matrix.specs.declared.Loc.{Loc}
use Rattle.im_matrix.specs.declared.Loc.TheVariants.{Exterior}
use Rattle.plane_laws.specs.Plane.{Point, IsSamePoint, IsOnSegment}
use Rattle.plane_laws.specs.Directions.{Direction, bend_of}
use Rattle.plane_laws.specs.Along.{IsAway, IsInCone}
use Rattle.plane_exact.specs.Orders.{direction_of}
use Rattle.point_set.specs.declared.figure.Figure.{Figure}
use Rattle.point_set.specs.declared.rule.Rule.{Rule}
use Rattle.point_set.specs.Germ.{IsPairGerm}
use Rattle.point_set.specs.Location.{IsLocation}
use Rattle.point_set.specs.Nodes.{RunsFrom, segs_of_both}
use Rattle.point_set.specs.Relation.{IsInCell}
use Rattle.point_set.specs.Samples.{IsSeenInSector}
use Rattle.point_set.specs.Sectors.{IsInSector}
use Rattle.point_set.specs.Visible.{AreValid}
use Rattle.plane_laws.proofs.Near.Away.{away_point, away_point_is, away_near, far_for}
use Rattle.plane_laws.proofs.Near.Near.{IsNear, near_mix, size_of}
use Rattle.plane_laws.proofs.Points.Same.{same_sym}
use Rattle.plane_laws.proofs.Segments.Mixes.{start_on_segment, end_on_segment, segment_flip}
use Rattle.ring_laws.proofs.Germs.Areas.{toward_on}
use Rattle.germ_laws.proofs.Rays.Places.{HasItem, item_at, in_sector_of}
use Rattle.germ_laws.proofs.Rays.Ways.{HasRay}
use Rattle.germ_laws.proofs.Room.Germs.{IsStarry, starry, alike_on_edges, away_cone, cone_mix}
use Rattle.germ_laws.proofs.Room.Starry.{near_self, not_here}
use Rattle.germ_laws.proofs.Room.TwoSteps.{near_near, both_ways, two_steps_cone}
use Rattle.germ_laws.proofs.Room.Ways.{cone_way, left_turn, left_turn_left}
use Rattle.germ_laws.proofs.Sectors.Closed.{just_left}
use Rattle.stay_laws.proofs.Stays.OffEdges.{pair_stays}
use Rattle.cell_laws.proofs.Directions.Exist.{HasDirections, directions_exist, ray_at_run}
use Rattle.cell_laws.proofs.Directions.Middles.{sector_free}
use Rattle.cell_laws.proofs.Free.Nodes.{AreNodesLonely, nodes_lonely, IsFree, HasFreeRoom, free_room}
use Rattle.cell_laws.proofs.Free.Ways.{HasFreeWay, free_along}
use Rattle.cell_laws.proofs.Samples.Seen.{seen_in_sector}
use Rattle.few_laws.proofs.LeftOut.Bare.{part_stays}
use Rattle.few_laws.proofs.LeftOut.Edges.{IsLeftOut}
use Rattle.few_laws.proofs.LeftOut.Samples.{free_outside}
use Rattle.few_laws.proofs.Seen.Nearest.{HasNearestFew, free_way, part_on_way, back, back_cone, back_run}

-- ---- near a point all is free in the directions in which no edge runs
-- how near is the same for all these directions
record HasRoomOffEdges (a b : Figure) (u : Point) : Type 0 where
  n : ℕ
  free :
      (k : ℕ) → n ≤ k → (d : Direction) → ¬ RunsFrom u (segs_of_both a b) d → (p : Point) → IsNear u k p → IsInCone u d d p
      → IsFree a b p

-- near u all points in one direction are on the same edges, and far along it they are on none
room_off_edges : (a b : Figure) (u : Point) → HasRoomOffEdges a b u
room_off_edges a b u = record { n = stars.n + nodes.n; free = free }
  where
    stars : IsStarry u (segs_of_both a b)
    stars = starry u (segs_of_both a b)

    nodes : AreNodesLonely a b u
    nodes = nodes_lonely a b u

    free :
        (k : ℕ) → stars.n + nodes.n ≤ k → (d : Direction) → ¬ RunsFrom u (segs_of_both a b) d → (p : Point) → IsNear u k p
        → IsInCone u d d p → IsFree a b p
    free k far d none p near cone = record {
      off = sym (alike_on_edges q p (segs_of_both a b)
          (stars.alike k (omega (arith, far)) d q p (away_near k (omega arith) away) near (away_cone (omega arith) away) cone))
          ∙ (way.free (suc n) (suc n) (omega arith) (omega arith) q q away away q (start_on_segment q q)).off;
      lone = nodes.none k (omega (arith, far)) p near (not_here cone);
    }
      where
        way : HasFreeWay a b u d d
        way = free_along a b u d none

        n : ℕ
        n = way.from + far_for d k

        q : Point
        q = away_point u d n

        away : IsAway u d (suc n) q
        away = away_point_is u d n

-- ---- at the nearest few node
module _ (a b : Figure) (valid : AreValid a b) (rule : Rule) (v : Point) (o : IsLeftOut a b v) (near : HasNearestFew a b v o) (part : Loc)
    (part_is : IsLocation b rule v part) where
  -- the edge directions there
  dirs : HasDirections a b near.u
  dirs = directions_exist a b valid near.u

  -- one of them leads back to v
  ray : HasRay dirs.rays (back a b v o near)
  ray = ray_at_run near.u (segs_of_both a b) dirs.rays dirs.are (back a b v o near) (back_run a b v o near)

  -- and this is the next one
  next : HasItem dirs.rays ((ray.place + 1) % length dirs.rays)
  next =
      let below = slice_get_within dirs.rays ray.place ray.ray ray.is in
      item_at dirs.rays ((ray.place + 1) % length dirs.rays) (omega (arith, below))

  -- the first of the two as a direction
  onward : Direction
  onward = direction_of ray.ray

  -- a quarter to the left of it
  aside : Direction
  aside = left_turn onward

  -- these two bend
  bent : ¬ (bend_of onward aside ≡ pos 0)
  unfolding aside
  bent z = <ℤ_apart (left_turn_left onward) (sym z)

  -- v lies along the ray
  cone : IsInCone near.u onward onward v
  unfolding onward
  cone = cone_way ray.same (back_cone a b v o near)

  -- how near one has to be
  room : HasRoomOffEdges a b near.u
  room = room_off_edges a b near.u

  -- a point of the edge, near the few node
  n : ℕ
  n = far_for onward (room.n + room.n) + size_of ((cone.times *ℤ near.u.w) *ℤ v.w)

  q : Point
  q = away_point near.u onward n

  to_q : IsAway near.u onward (suc n) q
  unfolding q
  to_q = away_point_is near.u onward n

  -- it is before the few node
  on : IsOnSegment v near.u q
  unfolding n
  on = segment_flip (toward_on near.u onward v cone (suc n) q (omega arith) to_q)

  before : ¬ IsSamePoint q near.u
  before same = not_here (away_cone (omega arith) to_q) (same_sym same)

  -- so near it there is nothing of the second figure
  room_b : HasFreeRoom b b q
  room_b = free_room b b q (free_way a b v o near q on before q (end_on_segment v q))

  -- from there a much shorter step to the left
  l : ℕ
  l = (far_for aside (room.n + room.n) + far_for aside room_b.n) + suc n * size_of (bend_of aside (direction_of next.item))

  p : Point
  p = away_point q aside l

  to_p : IsAway q aside (suc l) p
  unfolding p
  to_p = away_point_is q aside l

  -- it is near the few node too
  near_p : IsNear near.u room.n p
  unfolding n l
  near_p = near_near room.n (away_near (room.n + room.n) (omega arith) to_q) (away_near (room.n + room.n) (omega arith) to_p)

  -- in a direction just to the left of the ray
  between : Direction
  between = both_ways onward aside bent n l

  cone_p : IsInCone near.u between between p
  unfolding between
  cone_p = two_steps_cone onward aside bent n l to_q to_p

  -- which is in the sector after the ray
  within : IsInSector dirs.rays ray.place between
  unfolding l between aside onward
  within =
      (in_sector_of dirs.rays ray.place ray.ray next.item between ray.is next.is
      (just_left onward (direction_of next.item) aside (left_turn_left onward) bent n l (omega (arith, linear)))).1

  -- so no edge runs along it
  none : ¬ RunsFrom near.u (segs_of_both a b) between
  none = sector_free near.u (segs_of_both a b) dirs.rays dirs.are.rays_at ray.place between within

  -- the second figure's part there is that at v, and the first figure is left
  here : IsInCell a b rule (cell Exterior part) p
  unfolding l
  here = record {
    in_a = free_outside a b o.bare rule p (room.free room.n (omega arith) between none p near_p cone_p);
    in_b = part_stays b valid.b_shaped rule q p (λ m on.
        room_b.free room_b.n (omega arith) m (near_mix (near_self q room_b.n) (away_near room_b.n (omega arith) to_p) on)) part
        (part_on_way a b v o near valid.b_shaped rule part part_is q on before);
  }

  -- the pair is the germ in that direction
  germ : IsPairGerm a b rule near.u between (cell Exterior part)
  germ = record {
    from = far_for between room.n;
    holds = λ k far m away.
        let near_m = away_near room.n far away in
        let cone_m = away_cone (omega (arith, far)) away in
        pair_stays a b valid.a_shaped valid.b_shaped rule p m (λ x on_x.
        let free = room.free room.n (omega arith) between none x (near_mix near_p near_m on_x) (cone_mix cone_p cone_m on_x) in
        (free.off, free.lone)) (cell Exterior part) here;
  }

  -- so it is seen in a sector
  pub seen_beside : IsSeenInSector a b rule near.u (cell Exterior part)
  seen_beside = seen_in_sector a b valid rule near.u between none (cell Exterior part) germ
