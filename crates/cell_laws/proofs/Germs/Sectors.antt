-- The law of a sector: the pair germ is the same along all its directions, and its cell holds a triangle.
use Rattle.std.proofs.Common.{inl, inr, ℕ, suc, ◌+◌, List, [], ◌∷◌, arith}
use Rattle.im_matrix.specs.declared.Cell.{Cell}
use Rattle.plane_laws.specs.Plane.{Point}
use Rattle.plane_laws.specs.Directions.{Direction, IsStrictlyWithin}
use Rattle.plane_laws.specs.Along.{IsAway}
use Rattle.plane_exact.specs.Orders.{direction_of}
use Rattle.plane_exact.specs.declared.dir.Dir.{Dir}
use Rattle.point_set.specs.declared.figure.Figure.{Figure}
use Rattle.point_set.specs.declared.rule.Rule.{Rule}
use Rattle.point_set.specs.Dimension.{HoldsTriangle}
use Rattle.point_set.specs.Germ.{IsPairGerm}
use Rattle.point_set.specs.Nodes.{segs_of_both, RunsFrom}
use Rattle.point_set.specs.Relation.{IsInCell}
use Rattle.point_set.specs.Sectors.{AreRaysAt, IsInSector}
use Rattle.point_set.specs.Visible.{AreValid, LawSectorIsOne}
use Rattle.plane_laws.proofs.Near.Away.{away_point, away_point_is}
use Rattle.plane_laws.proofs.Segments.Mixes.{start_on_segment}
use Rattle.ring_laws.proofs.Germs.Areas.{clear_from}
use Rattle.germ_laws.proofs.Rays.Neighbours.{between_rays, within_from}
use Rattle.germ_laws.proofs.Sectors.Germ.{IsSum, ArePointed, cone_pointed, toward, toward_is, toward_sum, alike_within, alike_all}
use Rattle.stay_laws.proofs.Stays.OffEdges.{pair_stays}
use Rattle.cell_laws.proofs.Directions.Middles.{sector_free}
use Rattle.cell_laws.proofs.Free.Nodes.{IsFree, open_cell}
use Rattle.cell_laws.proofs.Free.Ways.{HasFreeWay, free_way, free_along, way_back}

module _ (a b : Figure) (valid : AreValid a b) (rule : Rule) (v : Point) where
  -- a pair germ along one of the directions is one along the other
  abbrev AreAlike : Direction → Direction → Type 0
  AreAlike d e =
      (c : Cell) → (IsPairGerm a b rule v d c → IsPairGerm a b rule v e c) × (IsPairGerm a b rule v e c → IsPairGerm a b rule v d c)

  -- by way of a third
  by_third : (m d e : Direction) → AreAlike d m → AreAlike e m → AreAlike d e
  by_third m d e from_d from_e c = (λ g. (from_e c).1 ((from_d c).0 g), λ g. (from_d c).1 ((from_e c).0 g))

  -- a free way carries the germ across
  carried : (d e : Direction) → HasFreeWay a b v d e → (c : Cell) → IsPairGerm a b rule v d c → IsPairGerm a b rule v e c
  carried d e way c g = record {
    from = way.from;
    holds = λ l far q away.
        pair_stays a b valid.a_shaped valid.b_shaped rule (away_point v d n) q
        (λ m on.
        let f = way.free (suc n) l (omega arith) far (away_point v d n) q (away_point_is v d n) away m on in
        (f.off, f.lone)) c (g.holds (suc n) (omega arith) (away_point v d n) (away_point_is v d n));
  }
    where
      n : ℕ
      n = g.from + way.from

  -- and back
  pair_joined : (d e : Direction) → HasFreeWay a b v d e → AreAlike d e
  pair_joined d e way c = (carried d e way c, carried e d (way_back way) c)

  -- along a direction in which no edge runs, the germ's cell holds a triangle
  free_triangle :
      (d : Direction) → ¬ RunsFrom v (segs_of_both a b) d → (c : Cell) → IsPairGerm a b rule v d c → HoldsTriangle (IsInCell a b rule c)
  free_triangle d none c g = open_cell a b valid rule p here c (g.holds (suc n) (omega arith) p to_p)
    where
      way : HasFreeWay a b v d d
      way = free_along a b v d none

      n : ℕ
      n = g.from + way.from

      p : Point
      p = away_point v d n

      to_p : IsAway v d (suc n) p
      to_p = away_point_is v d n

      here : IsFree a b p
      here = way.free (suc n) (suc n) (omega arith) (omega arith) p p to_p to_p p (start_on_segment p p)

  -- between two directions that aren't opposite, where no edge runs in a direction between the two
  step :
      (d e : Direction) → ArePointed d e → ((t : Direction) → IsSum d e t.x t.y → ¬ RunsFrom v (segs_of_both a b) t) → AreAlike d e
  step d e n none =
      pair_joined d e (free_way a b v d e (cone_pointed v n) (clear_from v d e (segs_of_both a b) (λ place f is on. (
        λ c. none (toward n c) (toward_sum n c)
            (record { place = place; edge = f; edge_is = is; holds = on; leads = inl (toward_is n c) }),
        λ c. none (toward n c) (toward_sum n c)
            (record { place = place; edge = f; edge_is = is; holds = on; leads = inr (toward_is n c) }),
      ))))

  -- so along all directions of a sector
  sector_alike :
      (rays : List Dir) → AreRaysAt v (segs_of_both a b) rays → (i : ℕ) (d e : Direction) → IsInSector rays i d → IsInSector rays i e
      → AreAlike d e
  sector_alike [] are i d e in_d in_e =
      alike_all AreAlike (λ u w n. step u w n (λ t q. sector_free v (segs_of_both a b) [] are i t tt)) by_third d e
  sector_alike (ray ∷ rays) are i d e in_d in_e =
      alike_within r s AreAlike (λ u w n within. step u w n (λ t q. none t (within t q))) by_third d e in_d.holds here
    where
      r : Direction
      r = direction_of in_d.ray

      s : Direction
      s = direction_of in_d.next

      none : (t : Direction) → IsStrictlyWithin r s t → ¬ RunsFrom v (segs_of_both a b) t
      none t within =
          sector_free v (segs_of_both a b) (ray ∷ rays) are i t
          (record { ray = in_d.ray; next = in_d.next; ray_is = in_d.ray_is; next_is = in_d.next_is; holds = within })

      here : IsStrictlyWithin r s e
      here = within_from (ray ∷ rays) i in_d.ray in_d.next in_d.ray_is in_d.next_is e (between_rays (ray ∷ rays) i e (omega arith) in_e)

-- the law
pub sector_is_one : (a b : Figure) → AreValid a b → (rule : Rule) → LawSectorIsOne a b rule
sector_is_one a b valid rule v rays are i below d e in_d in_e c g = (
  (sector_alike a b valid rule v rays are i d e in_d in_e c).0 g,
  free_triangle a b valid rule v d (sector_free v (segs_of_both a b) rays are i d in_d) c g,
)
