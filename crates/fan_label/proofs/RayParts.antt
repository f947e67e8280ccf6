-- The part of a ray whose sectors are both full, and of one with two sectors that aren't and no line.
use Rattle.std.proofs.Common.{◌≡◌, ℕ, List, length, refl, sym, subst}
use Rattle.im_matrix.specs.declared.Loc.TheVariants.{Interior, Exterior}
use Rattle.im_matrix.specs.declared.Which.{Which}
use Rattle.plane_exact.specs.declared.dir.Dir.{Dir}
use Rattle.point_set.specs.declared.dim_loc.DimLoc.{DimLoc}
use Rattle.point_set.specs.Sectors.{sector_before}
use Rattle.fan_order.specs.declared.section.Section.{Section}
use Rattle.fan_order.specs.Sections.{IsLineAlong}
use Rattle.fan_laws.specs.Parts.{IsSectorFull, IsRayPart}

module _ (at : DimLoc) (which : Which) (sections : List Section) (rays : List Dir) (i : ℕ) (ray : Dir) (p : ℕ)
    (p_is : p ≡ sector_before (length rays) i) where
  abbrev IsFullAt : ℕ → Type 0
  IsFullAt j = IsSectorFull at which sections rays j

  -- both sectors beside the ray are full
  pub both_full : IsFullAt p → IsFullAt i → IsRayPart at which sections rays i ray Interior
  both_full before after =
      let full : IsFullAt (sector_before (length rays) i) = subst IsFullAt p_is before in
      record {
        both = λ _ _. refl;
        after = λ _ none. absurd (none full);
        before = λ none _. absurd (none after);
        line = λ none _ _. absurd (none after);
        bare = λ none _ _. absurd (none after);
      }

  -- neither is, and no line runs along the ray
  pub nothing_along : ¬ IsFullAt p → ¬ IsFullAt i → ¬ IsLineAlong which sections ray → IsRayPart at which sections rays i ray Exterior
  nothing_along before after off =
      let empty : ¬ IsFullAt (sector_before (length rays) i) = λ full. before (subst IsFullAt (sym p_is) full) in
      record {
        both = λ full _. absurd (after full);
        after = λ full _. absurd (after full);
        before = λ _ full. absurd (empty full);
        line = λ _ _ on. absurd (off on);
        bare = λ _ _ _. refl;
      }
