-- From each point of an edge with two different ends there is a way along it to one of them; so from each point of a line there is a way
-- along the line.
use Rattle.std.proofs.Common.{◌≡◌, ◌⊎◌, inl, inr, Bool, true, false}
use Rattle.plane_laws.specs.Plane.{Point, IsSamePoint}
use Rattle.plane_laws.specs.Directions.{Direction}
use Rattle.plane_laws.specs.Along.{HoldsAlong, IsInCone}
use Rattle.plane_exact.specs.Places.{point_of}
use Rattle.plane_exact.specs.declared.point.Seg.{Seg}
use Rattle.point_set.specs.declared.edge.Owner.TheVariants.{Line}
use Rattle.point_set.specs.declared.figure.Figure.{Figure}
use Rattle.point_set.specs.Edges.{OwnedEdge, edges_of_figure, far_end}
use Rattle.point_set.specs.Location.{is_on_line}
use Rattle.point_set.specs.Rings.{is_on_edge}
use Rattle.point_set.specs.Shape.{IsWellShaped}
use Rattle.plane_laws.proofs.Points.Same.{same_sym, same_trans}
use Rattle.figure_laws.proofs.Edges.Limits.{IsOwnedProper, proper_figure}
use Rattle.figure_laws.proofs.Edges.Lines.{HasLineEdge, line_edge, on_line_by_edge}
use Rattle.figure_laws.proofs.Lists.Places.{all_at, same_position}
use Rattle.ring_laws.proofs.Germs.Areas.{edge_along}
use Rattle.ring_laws.proofs.Germs.Edges.{Decides-is_toward}
use Rattle.side_laws.proofs.Edges.Places.{same_positions}
use Rattle.germ_laws.proofs.Rays.WayTo.{way_to, way_to_is}
use Rattle.kind_laws.proofs.Hands.InSector.{on_far}
use Rattle.meeting_laws.proofs.Ways.OneLine.{same_or_not}

-- ---- one edge
-- a way from a point to an end of an edge
pub record HasEndWay (e : Seg) (v : Point) : Type 0 where
  pub forward : Bool
  pub d : Direction
  pub toward : IsInCone v d d (point_of (far_end forward e))

-- to the first end, or to the second where the point is the first
pub end_way : (e : Seg) → ¬ IsSamePoint (point_of e.a) (point_of e.b) → (v : Point) → HasEndWay e v
end_way e moves v = by (same_or_not v (point_of e.a))
  where
    by : IsSamePoint v (point_of e.a) ⊎ (¬ IsSamePoint v (point_of e.a)) → HasEndWay e v
    by (inr apart) = record { forward = false; d = way_to v (point_of e.a) apart; toward = way_to_is v (point_of e.a) apart }
    by (inl same) =
        let apart : ¬ IsSamePoint v (point_of e.b) = λ other. moves (same_trans (same_sym same) other) in
        record { forward = true; d = way_to v (point_of e.b) apart; toward = way_to_is v (point_of e.b) apart }

-- it leads to one of the ends
pub leads_to_end :
    (e : Seg) (v : Point) (way : HasEndWay e v) → IsInCone v way.d way.d (point_of e.a) ⊎ IsInCone v way.d way.d (point_of e.b)
leads_to_end e v way = by way.forward way.toward
  where
    by :
        (forward : Bool) → IsInCone v way.d way.d (point_of (far_end forward e))
        → IsInCone v way.d way.d (point_of e.a) ⊎ IsInCone v way.d way.d (point_of e.b)
    by false c = inl c
    by true c = inr c

-- along it, from a point of the edge, points are on the edge
along_edge_way : (e : Seg) (v : Point) → is_on_edge v e ≡ true → (way : HasEndWay e v) → HoldsAlong (λ p. is_on_edge p e ≡ true) v way.d
along_edge_way e v on way =
    let end = point_of (far_end way.forward e) in
    edge_along v way.d e on end (on_far way.forward e) ((Decides-is_toward v way.d end).1 way.toward)

-- ---- a line
-- a direction along which points are on a line of the figure
pub record HasLineWay (f : Figure) (v : Point) : Type 0 where
  pub d : Direction
  pub along : HoldsAlong (λ p. is_on_line f p ≡ true) v d

-- along the edge that holds the point
pub line_way : (f : Figure) → IsWellShaped f → (v : Point) → is_on_line f v ≡ true → HasLineWay f v
line_way f shaped v on = record {
  d = way.d;
  along = record {
    from = held.from;
    holds = λ n far p away. on_line_by_edge f r.place r.k r.e p r.is (held.holds n far p away);
  };
}
  where
    r : HasLineEdge f v
    r = line_edge f v on

    owned : OwnedEdge
    owned = record { seg = r.e; owner = Line r.k }

    moves : ¬ IsSamePoint (point_of r.e.a) (point_of r.e.b)
    moves same =
        let proper : IsOwnedProper owned = all_at IsOwnedProper (edges_of_figure f) r.place owned (proper_figure f shaped) r.is in
        proper.apart (same_position r.e.a r.e.b (same_positions r.e.a r.e.b same))

    way : HasEndWay r.e v
    way = end_way r.e moves v

    held : HoldsAlong (λ p. is_on_edge p r.e ≡ true) v way.d
    held = along_edge_way r.e v r.on way
