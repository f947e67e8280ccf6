-- An area of a valid figure is valid by itself.
use Rattle.std.proofs.Common.{◌≡◌, ℕ, zero, suc, [], ◌∷◌, refl, sym, subst, arith}
use Rattle.std.proofs.lemmas.Option.{same_Some, none-some}
use Rattle.point_set.specs.Validity.{IsAtPlace, SomeArea, SomeEarlier, IsValid, too_few_points, ring_cross, rings_share_edge, hole_outside}
use Rattle.point_set.specs.Validity.{holes_overlap, disconnected, elements_share_edge, elements_overlap}
use Rattle.point_set.specs.declared.figure.Area.{Area}
use Rattle.point_set.specs.declared.figure.Figure.{Figure}
use Rattle.area_locator.specs.Validity.{figure_of, IsValidArea}

-- the only place of one area
only_place : (area other : Area) (p : ℕ) → IsAtPlace (area ∷ []) p other → (p ≡ 0) × (area ≡ other)
only_place area other zero is = (refl, same_Some area other is)
only_place area other (suc p) is = absurd (none-some other is)

-- what holds of the area in its own figure holds of it in the whole one
moved : (f : Figure) (place : ℕ) (area : Area) → IsAtPlace f.areas place area → {IsSo : Area → Type 0} (p : ℕ) →
    SomeArea (figure_of area) p IsSo → SomeArea f place IsSo
moved f place area is {IsSo} p h =
    record { area = area; area_is = is; is_so = subst IsSo (sym (only_place area h.area p h.area_is).1) h.is_so }

-- and no area comes before it
none_earlier : (area : Area) {IsSo : Area → Area → Type 0} (p : ℕ) → SomeEarlier (figure_of area) p IsSo → ⊥
none_earlier area p h = let first = (only_place area h.area p h.area_is).0 in let before = h.earlier in omega (arith, first, before)

pub alone : (f : Figure) → IsValid f → (place : ℕ) (area : Area) → IsAtPlace f.areas place area → IsValidArea area
alone f valid place area is p too_few_points h = valid place too_few_points (moved f place area is p h)
alone f valid place area is p ring_cross h = valid place ring_cross (moved f place area is p h)
alone f valid place area is p rings_share_edge h = valid place rings_share_edge (moved f place area is p h)
alone f valid place area is p hole_outside h = valid place hole_outside (moved f place area is p h)
alone f valid place area is p holes_overlap h = valid place holes_overlap (moved f place area is p h)
alone f valid place area is p disconnected h = valid place disconnected (moved f place area is p h)
alone f valid place area is p elements_share_edge h = none_earlier area p h
alone f valid place area is p elements_overlap h = none_earlier area p h
