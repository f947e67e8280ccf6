-- A pair germ at a point is seen there: in a sector where no edge runs along its direction, else on an edge direction.
use Rattle.std.proofs.Common.{◌≡◌, ◌⊎◌, inl, inr, ℕ, Bool, true, false, List, refl}
use Rattle.std.proofs.lemmas.Bool.Decides.{not_from_Decides}
use Rattle.im_matrix.specs.declared.Cell.{Cell}
use Rattle.plane_laws.specs.Plane.{Point}
use Rattle.plane_laws.specs.Directions.{Direction}
use Rattle.plane_laws.specs.Along.{IsInCone}
use Rattle.plane_exact.specs.Orders.{direction_of}
use Rattle.plane_exact.specs.Places.{point_of}
use Rattle.plane_exact.specs.declared.point.Seg.{Seg}
use Rattle.point_set.specs.declared.figure.Figure.{Figure}
use Rattle.point_set.specs.declared.rule.Rule.{Rule}
use Rattle.point_set.specs.Germ.{IsPairGerm}
use Rattle.point_set.specs.Nodes.{segs_of_both, RunsFrom}
use Rattle.point_set.specs.Samples.{IsSeenOnEdge, IsSeenInSector}
use Rattle.point_set.specs.Validity.{IsAtPlace, IsOnEdge}
use Rattle.point_set.specs.Visible.{AreValid}
use Rattle.ring_laws.proofs.Germs.Edges.{direction_pointed, ends_decide, is_toward, Decides-is_toward}
use Rattle.germ_laws.proofs.Rays.Ways.{HasRay}
use Rattle.node_laws.proofs.Nodes.Edges.{edge_true}
use Rattle.cell_laws.proofs.Directions.Exist.{HasDirections, HasSector, directions_exist, ray_at_run, sector_of_direction}
use Rattle.cell_laws.proofs.Directions.Middles.{HasMiddle, middle_of, middle_in_sector}
use Rattle.cell_laws.proofs.Germs.Along.{pair_germ_of_way}
use Rattle.cell_laws.proofs.Germs.Sectors.{sector_is_one}

-- ---- towards a point of an edge that holds v the edge runs from v
pub run_to :
    (v p : Point) (d : Direction) (edges : List Seg) (place : ℕ) (e : Seg) → IsAtPlace edges place e → IsOnEdge e v → IsOnEdge e p
    → IsInCone v d d p → RunsFrom v edges d
run_to v p d edges place e e_is on_v on_p toward = record {
  place = place;
  edge = e;
  edge_is = e_is;
  holds = edge_true e on_v;
  leads = by_ends (is_toward v d (point_of e.a)) (is_toward v d (point_of e.b)) refl refl;
}
  where
    by_ends :
        (s t : Bool) → is_toward v d (point_of e.a) ≡ s → is_toward v d (point_of e.b) ≡ t
        → IsInCone v d d (point_of e.a) ⊎ IsInCone v d d (point_of e.b)
    by_ends true t h k = inl ((Decides-is_toward v d (point_of e.a)).0 h)
    by_ends false true h k = inr ((Decides-is_toward v d (point_of e.b)).0 k)
    by_ends false false h k =
        absurd (ends_decide v d d (point_of e.a) (point_of e.b) p (direction_pointed v d) on_v on_p (record {
          first = not_from_Decides (is_toward v d (point_of e.a)) (Decides-is_toward v d (point_of e.a)) h;
          second = not_from_Decides (is_toward v d (point_of e.b)) (Decides-is_toward v d (point_of e.b)) k;
        }) toward)

module _ (a b : Figure) (valid : AreValid a b) (rule : Rule) (v : Point) where
  -- along a direction in which no edge runs the germ is that of the middle of a sector
  pub seen_in_sector :
      (d : Direction) → ¬ RunsFrom v (segs_of_both a b) d → (c : Cell) → IsPairGerm a b rule v d c → IsSeenInSector a b rule v c
  seen_in_sector d free c germ = by_case (sector_of_direction v (segs_of_both a b) dirs.rays dirs.are d)
    where
      dirs : HasDirections a b v
      dirs = directions_exist a b valid v

      by_case : RunsFrom v (segs_of_both a b) d ⊎ HasSector dirs.rays d → IsSeenInSector a b rule v c
      by_case (inl run) = absurd (free run)
      by_case (inr s) =
          let k : HasMiddle dirs.rays s.i = middle_of dirs.rays s.i s.below in
          record {
            rays = dirs.rays;
            rays_are = dirs.are;
            i = s.i;
            sector = s.below;
            middle = k.m;
            middle_is = k.is;
            germ =
                (sector_is_one a b valid rule v dirs.rays dirs.are.rays_at s.i s.below d k.m s.within
                (middle_in_sector dirs.rays s.i k.m k.is) c germ).0;
          }

  -- along a direction in which an edge runs it is that of an edge direction
  pub seen_on_edge :
      (d : Direction) → RunsFrom v (segs_of_both a b) d → (c : Cell) → IsPairGerm a b rule v d c → IsSeenOnEdge a b rule v c
  seen_on_edge d run c germ =
      let dirs : HasDirections a b v = directions_exist a b valid v in
      let k : HasRay dirs.rays d = ray_at_run v (segs_of_both a b) dirs.rays dirs.are d run in
      record {
        rays = dirs.rays;
        rays_are = dirs.are;
        i = k.place;
        ray = k.ray;
        ray_is = k.is;
        germ = pair_germ_of_way a b valid rule v d (direction_of k.ray) k.same c germ;
      }
