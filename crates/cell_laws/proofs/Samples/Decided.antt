-- It is decided whether a cell has a sample of a dimension: by the rays, the sectors and the pair at each of the finitely many nodes.
use Rattle.std.proofs.Common.{◌≡◌, ◌⊎◌, inl, inr, ℕ, zero, suc, ◌≤◌, ◌<◌, List, subst, arith}
use Rattle.std.proofs.lemmas.Bool.{cases_lt}
use Rattle.im_matrix.specs.declared.Cell.{Cell}
use Rattle.im_matrix.specs.declared.Dim.{Dim}
use Rattle.im_matrix.specs.declared.Dim.TheVariants.{Empty, Zero, One, Two}
use Rattle.plane_laws.specs.Plane.{Point}
use Rattle.plane_laws.specs.Directions.{Direction}
use Rattle.plane_exact.specs.Orders.{direction_of}
use Rattle.plane_exact.specs.declared.dir.Dir.{Dir}
use Rattle.point_set.specs.declared.figure.Figure.{Figure}
use Rattle.point_set.specs.declared.rule.Rule.{Rule}
use Rattle.point_set.specs.Germ.{IsPairGerm}
use Rattle.point_set.specs.Nodes.{IsNode, segs_of_both, RunsFrom, AreEdgeDirections}
use Rattle.point_set.specs.Samples.{IsSeenOnEdge, IsSeenInSector, IsSampleAt, IsSample}
use Rattle.point_set.specs.Sectors.{IsMiddle, IsInSector, sectors_of}
use Rattle.point_set.specs.Visible.{AreValid, AreAllNodes}
use Rattle.figure_laws.proofs.Lists.Least.{SomeItem, NoItem, search}
use Rattle.germ_laws.proofs.Rays.Ways.{HasRay}
use Rattle.node_laws.proofs.Nodes.Finite.{nodes_are_finite}
use Rattle.cell_laws.proofs.Directions.Exist.{HasDirections, HasSector, directions_exist, run_at, ray_at_run, sector_of_direction}
use Rattle.cell_laws.proofs.Directions.Middles.{HasMiddle, middle_of, middle_in_sector, sector_free}
use Rattle.cell_laws.proofs.Germs.Along.{germ_decided, cell_decided, pair_germ_of_way}
use Rattle.cell_laws.proofs.Germs.Sectors.{sector_is_one}
use Rattle.cell_laws.proofs.Samples.Same.{sample_same}

-- ---- searches
-- something holds, or it doesn't
abbrev pub Decided : Type 0 → Type 0
Decided Holds = Holds ⊎ (¬ Holds)

-- a number below n for which something holds
record HasBelow (P : ℕ → Type 0) (n : ℕ) : Type 0 where
  i : ℕ
  below : i < n
  holds : P i

-- it holds for no number below n
abbrev NoneBelow : (ℕ → Type 0) → ℕ → Type 0
NoneBelow P n = (i : ℕ) → i < n → ¬ P i

-- there is one, or there is none
search_below : (P : ℕ → Type 0) (n : ℕ) → ((i : ℕ) → i < n → Decided (P i)) → HasBelow P n ⊎ NoneBelow P n
search_below P zero decide = inr (λ i below h. omega (arith, below))
search_below P (suc n) decide = by_last (decide n (omega arith)) (search_below P n (λ i below. decide i (omega (arith, below))))
  where
    by_last : Decided (P n) → HasBelow P n ⊎ NoneBelow P n → HasBelow P (suc n) ⊎ NoneBelow P (suc n)
    by_last (inl h) rest = inl (record { i = n; below = omega arith; holds = h })
    by_last (inr refused) (inl k) = inl (let below = k.below in record { i = k.i; below = omega (arith, below); holds = k.holds })
    by_last (inr refused) (inr none) = inr refute
      where
        refute : NoneBelow P (suc n)
        refute i below h = by_place (cases_lt i n)
          where
            by_place : (i < n) ⊎ (n ≤ i) → ⊥
            by_place (inl less) = none i less h
            by_place (inr most) = let same : i ≡ n = omega (arith, below, most) in refused (subst P same h)

module _ (a b : Figure) (valid : AreValid a b) (rule : Rule) where
  -- ---- on the edge directions
  -- whether a cell is seen on one
  edge_decided : (v : Point) (c : Cell) → Decided (IsSeenOnEdge a b rule v c)
  edge_decided v c = by_search (search Along (λ ray. germ_decided a b valid rule v (direction_of ray) c) dirs.rays)
    where
      dirs : HasDirections a b v
      dirs = directions_exist a b valid v

      Along : Dir → Type 0
      Along ray = IsPairGerm a b rule v (direction_of ray) c

      by_search : SomeItem Along dirs.rays ⊎ NoItem Along dirs.rays → Decided (IsSeenOnEdge a b rule v c)
      by_search (inl h) = inl (record {
        rays = dirs.rays;
        rays_are = dirs.are;
        i = h.place;
        ray = h.item;
        ray_is = h.item_is;
        germ = h.is_so;
      })
      by_search (inr none) = inr refute
        where
          refute : ¬ IsSeenOnEdge a b rule v c
          refute s =
              let run = run_at v (segs_of_both a b) s.rays s.rays_are s.i s.ray s.ray_is in
              let k : HasRay dirs.rays (direction_of s.ray) =
              ray_at_run v (segs_of_both a b) dirs.rays dirs.are (direction_of s.ray) run in
              none k.place k.ray k.is (pair_germ_of_way a b valid rule v (direction_of s.ray) (direction_of k.ray) k.same c s.germ)

  -- ---- in the sectors
  -- a cell is the germ along a middle of a sector
  record HasMiddleGerm (v : Point) (rays : List Dir) (c : Cell) (i : ℕ) : Type 0 where
    middle : Direction
    middle_is : IsMiddle rays i middle
    germ : IsPairGerm a b rule v middle c

  -- from the germ along any direction of the sector
  middle_germ :
      (v : Point) (rays : List Dir) → AreEdgeDirections v (segs_of_both a b) rays → (c : Cell) (i : ℕ) → i < sectors_of rays
      → (d : Direction) → IsInSector rays i d → IsPairGerm a b rule v d c → HasMiddleGerm v rays c i
  middle_germ v rays are c i below d in_d g =
      let k : HasMiddle rays i = middle_of rays i below in
      record {
        middle = k.m;
        middle_is = k.is;
        germ =
            (sector_is_one a b valid rule v rays are.rays_at i below d k.m in_d (middle_in_sector rays i k.m k.is) c g).0;
      }

  -- whether a cell is that of a sector
  middle_decided :
      (v : Point) (rays : List Dir) → AreEdgeDirections v (segs_of_both a b) rays → (c : Cell) (i : ℕ) → i < sectors_of rays
      → Decided (HasMiddleGerm v rays c i)
  middle_decided v rays are c i below = by_germ (germ_decided a b valid rule v k.m c)
    where
      k : HasMiddle rays i
      k = middle_of rays i below

      by_germ : Decided (IsPairGerm a b rule v k.m c) → Decided (HasMiddleGerm v rays c i)
      by_germ (inl g) = inl (record { middle = k.m; middle_is = k.is; germ = g })
      by_germ (inr refused) =
          inr (λ h. refused (sector_is_one a b valid rule v rays are.rays_at i below h.middle k.m
          (middle_in_sector rays i h.middle h.middle_is) (middle_in_sector rays i k.m k.is) c h.germ).0)

  -- whether a cell is seen in a sector
  sector_decided : (v : Point) (c : Cell) → Decided (IsSeenInSector a b rule v c)
  sector_decided v c =
      by_search (search_below (HasMiddleGerm v dirs.rays c) (sectors_of dirs.rays) (middle_decided v dirs.rays dirs.are c))
    where
      dirs : HasDirections a b v
      dirs = directions_exist a b valid v

      by_search :
          HasBelow (HasMiddleGerm v dirs.rays c) (sectors_of dirs.rays) ⊎ NoneBelow (HasMiddleGerm v dirs.rays c) (sectors_of dirs.rays)
          → Decided (IsSeenInSector a b rule v c)
      by_search (inl h) = inl (record {
        rays = dirs.rays;
        rays_are = dirs.are;
        i = h.i;
        sector = h.below;
        middle = h.holds.middle;
        middle_is = h.holds.middle_is;
        germ = h.holds.germ;
      })
      by_search (inr none) = inr refute
        where
          refute : ¬ IsSeenInSector a b rule v c
          refute s = by_case (sector_of_direction v (segs_of_both a b) dirs.rays dirs.are s.middle)
            where
              by_case : RunsFrom v (segs_of_both a b) s.middle ⊎ HasSector dirs.rays s.middle → ⊥
              by_case (inl run) =
                  sector_free v (segs_of_both a b) s.rays s.rays_are.rays_at s.i s.middle
                  (middle_in_sector s.rays s.i s.middle s.middle_is) run
              by_case (inr k) = none k.i k.below (middle_germ v dirs.rays dirs.are c k.i k.below s.middle k.within s.germ)

  -- ---- at a point
  -- whether a cell has a sample of a dimension there
  at_point_decided : (v : Point) (c : Cell) (d : Dim) → Decided (IsSampleAt a b rule v c d)
  at_point_decided v c Empty = inr (λ h. h)
  at_point_decided v c Zero = cell_decided a b valid rule v c
  at_point_decided v c One = edge_decided v c
  at_point_decided v c Two = sector_decided v c

  -- ---- at all nodes
  -- whether a cell has a sample of a dimension
  pub sample_decided : (c : Cell) (d : Dim) → Decided (IsSample (IsNode a b) a b rule c d)
  sample_decided c d = by_search (search At (λ v. at_point_decided v c d) nodes.0)
    where
      nodes : (nodes : List Point) × AreAllNodes a b nodes
      nodes = nodes_are_finite a b

      At : Point → Type 0
      At v = IsSampleAt a b rule v c d

      by_search : SomeItem At nodes.0 ⊎ NoItem At nodes.0 → Decided (IsSample (IsNode a b) a b rule c d)
      by_search (inl h) = inl (record { v = h.item; is_node = nodes.1.only h.place h.item h.item_is; sample = h.is_so })
      by_search (inr none) = inr refute
        where
          refute : ¬ IsSample (IsNode a b) a b rule c d
          refute s =
              let k = nodes.1.whole s.v s.is_node in
              none k.0 k.1 k.2 (sample_same a b valid rule s.v k.1 k.3 c d s.sample)
