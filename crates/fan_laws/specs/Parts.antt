-- The parts of sectors and rays of a figure, by the kind of the node and by the hands of the sections there.
use Rattle.std.specs.Prelude.{◌≡◌, ℕ, ◌⊎◌, List, length}
use Rattle.im_matrix.specs.declared.Loc.{Loc}
use Rattle.im_matrix.specs.declared.Loc.TheVariants.{Interior, Boundary, Exterior}
use Rattle.im_matrix.specs.declared.Which.{Which}
use Rattle.plane_exact.specs.declared.dir.Dir.{Dir}
use Rattle.point_set.specs.declared.dim_loc.DimLoc.{DimLoc}
use Rattle.point_set.specs.declared.dim_loc.DimLoc.TheVariants as kind
use Rattle.fan_order.specs.declared.section.Section.{Section}
use Rattle.fan_order.specs.Sections.{IsSectorInside, IsLineAlong}
use Rattle.point_set.specs.Sectors.{sector_before}

-- A sector is full where the node is interior to the areas, or where the walk is inside one of them.
abbrev pub IsSectorFull : DimLoc → Which → List Section → List Dir → ℕ → Type 0
IsSectorFull at which sections rays i = (at ≡ kind.AreaInterior) ⊎ IsSectorInside which sections rays i

-- The part of a sector: the interior where it is full, else the exterior.
pub record IsSectorPart (at : DimLoc) (which : Which) (sections : List Section) (rays : List Dir) (i : ℕ) (part : Loc) : Type 0 where
  pub full : IsSectorFull at which sections rays i → part ≡ Interior
  pub bare : ¬ IsSectorFull at which sections rays i → part ≡ Exterior

-- The part of a ray: the interior where both sectors beside it are full, the boundary where one is; where none is, the interior
-- where a line runs along it, else the exterior.
pub record IsRayPart (at : DimLoc) (which : Which) (sections : List Section) (rays : List Dir) (i : ℕ) (ray : Dir)
    (part : Loc) : Type 0 where
  pub both :
      IsSectorFull at which sections rays i → IsSectorFull at which sections rays (sector_before (length rays) i) → part ≡ Interior
  pub after :
      IsSectorFull at which sections rays i → ¬ IsSectorFull at which sections rays (sector_before (length rays) i) → part ≡ Boundary
  pub before :
      ¬ IsSectorFull at which sections rays i → IsSectorFull at which sections rays (sector_before (length rays) i) → part ≡ Boundary
  pub line :
      ¬ IsSectorFull at which sections rays i → ¬ IsSectorFull at which sections rays (sector_before (length rays) i)
      → IsLineAlong which sections ray → part ≡ Interior
  pub bare :
      ¬ IsSectorFull at which sections rays i → ¬ IsSectorFull at which sections rays (sector_before (length rays) i)
      → ¬ IsLineAlong which sections ray → part ≡ Exterior
