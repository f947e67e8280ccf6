-- What the samples at a point are: the germs along its edge directions, and those along some direction of each of its sectors.
use Rattle.std.proofs.Common.{◌⊎◌, inl, inr, ℕ, ◌<◌, List, length}
use Rattle.std.proofs.lemmas.Option.{slice_get_within}
use Rattle.im_matrix.specs.declared.Cell.{Cell}
use Rattle.im_matrix.specs.declared.Dim.TheVariants.{One, Two}
use Rattle.plane_laws.specs.Plane.{Point}
use Rattle.plane_laws.specs.Directions.{Direction}
use Rattle.plane_exact.specs.Orders.{direction_of}
use Rattle.plane_exact.specs.declared.dir.Dir.{Dir}
use Rattle.point_set.specs.declared.figure.Figure.{Figure}
use Rattle.point_set.specs.declared.rule.Rule.{Rule}
use Rattle.point_set.specs.Germ.{IsPairGerm}
use Rattle.point_set.specs.Nodes.{segs_of_both, RunsFrom, AreEdgeDirections}
use Rattle.point_set.specs.Samples.{IsSampleAt}
use Rattle.point_set.specs.Sectors.{IsInSector, sectors_of}
use Rattle.point_set.specs.Validity.{IsAtPlace}
use Rattle.point_set.specs.Visible.{AreValid}
use Rattle.germ_laws.proofs.Rays.Ways.{HasRay}
use Rattle.cell_laws.proofs.Directions.Exist.{run_at, ray_at_run, HasSector, sector_of_direction}
use Rattle.cell_laws.proofs.Directions.Middles.{middle_in_sector, HasMiddle, middle_of, sector_free}
use Rattle.cell_laws.proofs.Germs.Along.{pair_germ_of_way}
use Rattle.cell_laws.proofs.Germs.Sectors.{sector_is_one}

-- a cell is the germ along the ray at a place
pub record IsAlongRay (rays : List Dir) (a b : Figure) (rule : Rule) (v : Point) (i : ℕ) (c : Cell) : Type 0 where
  pub ray : Dir
  pub ray_is : IsAtPlace rays i ray
  pub germ : IsPairGerm a b rule v (direction_of ray) c

-- or along a direction of the sector at a place
pub record IsWithinSector (rays : List Dir) (a b : Figure) (rule : Rule) (v : Point) (i : ℕ) (c : Cell) : Type 0 where
  pub below : i < sectors_of rays
  pub d : Direction
  pub within : IsInSector rays i d
  pub germ : IsPairGerm a b rule v d c

module _ (a b : Figure) (valid : AreValid a b) (rule : Rule) (v : Point) (rays : List Dir)
    (are : AreEdgeDirections v (segs_of_both a b) rays) where
  -- along a ray it is a sample of dimension One
  pub sample_along : (i : ℕ) (c : Cell) → IsAlongRay rays a b rule v i c → IsSampleAt a b rule v c One
  sample_along i c h = record { rays = rays; rays_are = are; i = i; ray = h.ray; ray_is = h.ray_is; germ = h.germ }

  -- each of these is one
  pub along_sample : (c : Cell) → IsSampleAt a b rule v c One → (i : ℕ) × (i < length rays) × IsAlongRay rays a b rule v i c
  along_sample c s =
      let k : HasRay rays (direction_of s.ray) =
      ray_at_run v (segs_of_both a b) rays are (direction_of s.ray) (run_at v (segs_of_both a b) s.rays s.rays_are s.i s.ray s.ray_is) in
      let germ = pair_germ_of_way a b valid rule v (direction_of s.ray) (direction_of k.ray) k.same c s.germ in
      (k.place, slice_get_within rays k.place k.ray k.is, record { ray = k.ray; ray_is = k.is; germ = germ })

  -- in a sector it is a sample of dimension Two, since a sector has one germ
  pub sample_within : (i : ℕ) (c : Cell) → IsWithinSector rays a b rule v i c → IsSampleAt a b rule v c Two
  sample_within i c h =
      let k : HasMiddle rays i = middle_of rays i h.below in
      record {
        rays = rays;
        rays_are = are;
        i = i;
        sector = h.below;
        middle = k.m;
        middle_is = k.is;
        germ =
            (sector_is_one a b valid rule v rays are.rays_at i h.below h.d k.m h.within (middle_in_sector rays i k.m k.is) c h.germ).0;
      }

  -- each of these is one
  pub within_sample : (c : Cell) → IsSampleAt a b rule v c Two → (i : ℕ) × (i < sectors_of rays) × IsWithinSector rays a b rule v i c
  within_sample c s = by_case (sector_of_direction v (segs_of_both a b) rays are s.middle)
    where
      by_case : RunsFrom v (segs_of_both a b) s.middle ⊎ HasSector rays s.middle
          → (i : ℕ) × (i < sectors_of rays) × IsWithinSector rays a b rule v i c
      by_case (inl run) =
          absurd (sector_free v (segs_of_both a b) s.rays s.rays_are.rays_at s.i s.middle
          (middle_in_sector s.rays s.i s.middle s.middle_is) run)
      by_case (inr k) = (k.i, k.below, record { below = k.below; d = s.middle; within = k.within; germ = s.germ })
