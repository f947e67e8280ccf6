-- What the areas at some places say of a point that is outside of all others, one after the other.
use Rattle.std.proofs.Common.{◌≡◌, ◌⊎◌, inl, inr, ℕ, ◌+◌, ◌<◌, ◌≤◌, List, length, get_or, refl, ap, sym, ◌∙◌, subst, arith}
use Rattle.std.specs.List.{Any, Contains}
use Rattle.std.proofs.lemmas.Bool.{cases_lt}
use Rattle.std.proofs.lemmas.Grind.{get_or_default_zero}
use Rattle.std.proofs.lemmas.Option.{slice_get-get_or}
use Rattle.im_matrix.specs.declared.Loc.{Loc}
use Rattle.im_matrix.specs.declared.Loc.TheVariants.{Interior, Boundary, Exterior}
use Rattle.plane_laws.specs.Plane.{Point}
use Rattle.point_set.specs.declared.figure.Area.{Area}
use Rattle.point_set.specs.Location.{location}
use Rattle.point_set.specs.Validity.{IsAtPlace}
use Rattle.union_locator.specs.Areas.{AreNearAreas, IsInAreas}
use Rattle.union_locator.proofs.SingleAreas.{some_item}

-- an area doesn't have the point inside, nor on its boundary where no area before has
abbrev IsPassed : Point → Loc → Area → Type 0
IsPassed p loc area = (¬ (location area p ≡ Interior)) × (loc ≡ Exterior → location area p ≡ Exterior)

-- What the areas at the first k of some places say; none of them has the point inside.
pub record ArePassed (areas : List Area) (p : Point) (places : List ℕ) (k : ℕ) (loc : Loc) : Type 0 where
  pub outside : ¬ (loc ≡ Interior)
  pub each : (i : ℕ) → i < k → (area : Area) → IsAtPlace areas (get_or places i 0) area → IsPassed p loc area
  pub boundary : loc ≡ Boundary → Any (λ area. location area p ≡ Boundary) areas

module _ (areas : List Area) (p : Point) (places : List ℕ) (near : AreNearAreas areas p places) where
  -- ---- one place more
  module _ (k : ℕ) (below : k < length places) {here : Loc}
      (here_is : (area : Area) → IsAtPlace areas (get_or places k 0) area → here ≡ location area p) where
    -- there is an area, which is one of those that say so
    pub some_here : (loc : Loc) → here ≡ loc → Any (λ area. location area p ≡ loc) areas
    some_here loc e =
        let place = get_or places k 0 in
        let within = near.within k 0 below in
        let x = some_item areas place within in
        let is = slice_get-get_or areas place x.0 within in
        (place, x.0, within, x.1, sym (ap (λ (a : Area). location a p) x.1) ∙ sym (here_is (get_or areas place x.0) is) ∙ e)

    -- those at the places before, and the one here
    each_more :
        (old loc : Loc) → ArePassed areas p places k old → (loc ≡ Exterior → (old ≡ Exterior) × (here ≡ Exterior)) → ¬ (here ≡ Interior)
        → (i : ℕ) → i < k + 1 → (area : Area) → IsAtPlace areas (get_or places i 0) area → IsPassed p loc area
    each_more old loc before both not_in i next area is = by_place (cases_lt i k)
      where
        by_place : (i < k) ⊎ (k ≤ i) → IsPassed p loc area
        by_place (inl l) = let was = before.each i l area is in (was.0, λ e. was.1 (both e).0)
        by_place (inr l) =
            let same : i ≡ k = omega (arith, l, next) in
            let own = here_is area (subst (λ n. IsAtPlace areas (get_or places n 0) area) same is) in
            (λ e. not_in (own ∙ e), λ e. sym own ∙ (both e).1)

    -- one on whose boundary it is makes it Boundary
    pub boundary_passed : {old : Loc} → ArePassed areas p places k old → here ≡ Boundary → {new : Loc} → new ≡ Boundary
        → ArePassed areas p places (k + 1) new
    boundary_passed {old} before e {new} is = record {
      outside = λ i. let both = sym is ∙ i in cc;
      each = each_more old new before (λ i. let both = sym is ∙ i in cc) (λ i. let both = sym e ∙ i in cc);
      boundary = λ i. some_here Boundary e;
    }

    -- and one outside of which it is changes nothing
    pub outside_passed : {old : Loc} → ArePassed areas p places k old → here ≡ Exterior → {new : Loc} → new ≡ old
        → ArePassed areas p places (k + 1) new
    outside_passed {old} before e {new} is = record {
      outside = λ i. before.outside (sym is ∙ i);
      each = each_more old new before (λ i. (sym is ∙ i, e)) (λ i. let both = sym e ∙ i in cc);
      boundary = λ i. before.boundary (sym is ∙ i);
    }

  -- ---- past the last place
  module _ (k : ℕ) (loc : Loc) (past : length places ≤ k) (h : ArePassed areas p places k loc) where
    -- an area at one of the places
    at_one : (place : ℕ) (area : Area) → IsAtPlace areas place area → Contains places place → IsPassed p loc area
    at_one place area is there =
        let below = there.1 in
        let same : place ≡ get_or places there.0 0 = sym there.2 ∙ get_or_default_zero places there.0 place below in
        h.each there.0 (omega (arith, below, past)) area (subst (λ n. IsAtPlace areas n area) same is)

    not_inside : (place : ℕ) (area : Area) → IsAtPlace areas place area → ¬ (location area p ≡ Interior)
    not_inside place area is e =
        let far = near.far place area is (λ there. (at_one place area is there).0 e) in
        let both = sym far ∙ e in
        cc

    not_on : (place : ℕ) (area : Area) → IsAtPlace areas place area → loc ≡ Exterior → ¬ (location area p ≡ Boundary)
    not_on place area is none e =
        let apart : location area p ≡ Exterior → ⊥ = λ o. (let both = sym o ∙ e in cc) in
        apart (near.far place area is (λ there. apart ((at_one place area is there).1 none)))

    outside : (place : ℕ) (area : Area) → IsAtPlace areas place area → loc ≡ Exterior → location area p ≡ Exterior
    outside place area is none = by_loc (location area p) refl
      where
        by_loc : (z : Loc) → location area p ≡ z → location area p ≡ Exterior
        by_loc Interior e = absurd (not_inside place area is e)
        by_loc Boundary e = absurd (not_on place area is none e)
        by_loc Exterior e = e

    -- this is what all areas say
    pub all_near : IsInAreas areas p loc
    all_near = by_loc loc refl
      where
        by_loc : (z : Loc) → loc ≡ z → IsInAreas areas p z
        by_loc Interior e = absurd (h.outside e)
        by_loc Boundary e = (λ i d below. not_inside i (get_or areas i d) (slice_get-get_or areas i d below), h.boundary e)
        by_loc Exterior e = λ i d below. outside i (get_or areas i d) (slice_get-get_or areas i d below) e
