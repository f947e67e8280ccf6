-- Round a point that is on the boundary of areas and inside none: it is interior to their union exactly where every sector is inside one.
use Rattle.std.proofs.Common.{◌≡◌, ℕ, ◌<◌, Bool, true, false, List, length, ap, refl, sym, ◌∙◌}
use Rattle.std.specs.Prelude.{IsTrue, ◌↔◌}
use Rattle.std.proofs.lemmas.List.Elements.{All-weaker}
use Rattle.std.proofs.lemmas.List.Folds.{list_any_none, list_any-from_Any}
use Rattle.std.proofs.lemmas.Option.{slice_get_read}
use Rattle.im_matrix.specs.declared.Loc.{Loc}
use Rattle.im_matrix.specs.declared.Loc.TheVariants.{Interior, Boundary, Exterior}
use Rattle.im_matrix.specs.declared.Which.TheVariants.{A}
use Rattle.plane_laws.specs.Plane.{Point}
use Rattle.plane_exact.specs.declared.dir.Dir.{Dir}
use Rattle.point_set.specs.declared.figure.Figure.{Figure}
use Rattle.point_set.specs.Cover.{IsAdjacent}
use Rattle.point_set.specs.Location.{location, is_not_exterior, is_covered, IsAreaInterior}
use Rattle.point_set.specs.Sectors.{sectors_of}
use Rattle.point_set.specs.Shape.{IsWellShaped}
use Rattle.point_set.specs.Validity.{IsValid}
use Rattle.figure_laws.proofs.Lists.Places.{all_at}
use Rattle.figure_laws.proofs.Valid.Alone.{alone_shaped, alone_valid}
use Rattle.fan_order.specs.declared.section.Section.{Section}
use Rattle.fan_order.specs.Rays.{AreRaysOf}
use Rattle.fan_order.specs.Sections.{IsSectorInside, AreSectionsAt, AreHandsAlike, AreSided, IsFanOf}
use Rattle.fan_laws.proofs.Fans.Hands.{hands_alike, sided}
use Rattle.fan_laws.proofs.Labels.Boundary.{boundary_by_fan}
use Rattle.kind_laws.proofs.Cover.Inside.{IsNoAreaInteriorAt, interior_of_one}
use Rattle.point_set.specs.Location.{areas_alone}
use Rattle.union_locator.specs.Areas.{IsInAreas}

-- What a walk round a point says: it is interior where the walk is inside all round, and else on the boundary.
pub record IsWalked (f : Figure) (p : Point) (all : Bool) : Type 0 where
  pub inside : all ≡ true → IsAdjacent f p Interior
  pub not_inside : all ≡ false → IsAdjacent f p Boundary

-- ---- the areas alone
-- what is interior to the areas alone is interior to the figure's areas, and back
interior_alone : (f : Figure) (p : Point) → IsAreaInterior f p → IsAreaInterior (areas_alone f) p
interior_alone f p h = record { a = h.a; b = h.b; c = h.c; strictly = h.strictly; covered = h.covered }

interior_whole : (f : Figure) (p : Point) → IsAreaInterior (areas_alone f) p → IsAreaInterior f p
interior_whole f p h = record { a = h.a; b = h.b; c = h.c; strictly = h.strictly; covered = h.covered }

-- ---- what the single areas say
module _ (f : Figure) (p : Point) where
  -- on the boundary of an area, and so covered
  boundary_covers : IsInAreas f.areas p Boundary → is_covered f p ≡ true
  boundary_covers h =
      let a = h.1 in
      list_any-from_Any (λ area. is_not_exterior (location area p)) f.areas (a.0, a.1, a.2, a.3, ap is_not_exterior a.4)

  -- and inside none
  none_inside : IsInAreas f.areas p Boundary → IsNoAreaInteriorAt f p
  none_inside h place area is = all_at (λ area. ¬ (location area p ≡ Interior)) f.areas place area h.0 is

  -- inside one area is interior, and outside of all is uncovered
  pub single_areas : IsWellShaped f → (loc : Loc) → ¬ (loc ≡ Boundary) → IsInAreas f.areas p loc → IsAdjacent f p loc
  single_areas shaped Interior n h =
      interior_of_one f shaped h.0 h.1 (slice_get_read f.areas (length f.areas) h.0 h.1 refl h.2 (sym h.3)) p h.4
  single_areas shaped Boundary n h = absurd (n refl)
  single_areas shaped Exterior n h =
      list_any_none (λ area. is_not_exterior (location area p)) f.areas
      (All-weaker (λ area. location area p ≡ Exterior) (λ area. is_not_exterior (location area p) ≡ false)
      (λ area e. ap is_not_exterior e) f.areas h)

  -- ---- the walk
  module _ (shaped : IsWellShaped f) (valid : IsValid f) (boundary : IsInAreas f.areas p Boundary) (sections : List Section)
      (rays : List Dir)
      (at : AreSectionsAt A (areas_alone f) p sections) (of : AreRaysOf sections rays) (inside : Bool)
      (walk : AreHandsAlike A sections → AreSided A sections
      → IsTrue inside ↔ ((i : ℕ) → i < sectors_of rays → IsSectorInside A sections rays i)) where
    fan : IsFanOf A (areas_alone f) p sections rays
    fan = record { shaped = alone_shaped f shaped; valid = alone_valid f valid; are_sections = at; are_rays = of }

    decides : IsTrue inside ↔ ((i : ℕ) → i < sectors_of rays → IsSectorInside A sections rays i)
    decides = walk (hands_alike A (areas_alone f) p sections rays fan) (sided A (areas_alone f) p sections rays fan)

    by_fan : IsAreaInterior (areas_alone f) p ↔ ((i : ℕ) → i < sectors_of rays → IsSectorInside A sections rays i)
    by_fan = boundary_by_fan A (areas_alone f) p sections rays fan (none_inside boundary)

    -- inside all round is interior, else the point is on the boundary
    pub walked : IsWalked f p inside
    walked = record {
      inside = λ e. interior_whole f p (by_fan.1 (decides.0 e));
      not_inside = λ e.
          (boundary_covers boundary, λ h. (let t = sym (decides.1 (by_fan.0 (interior_alone f p h))) ∙ e in cc));
    }
