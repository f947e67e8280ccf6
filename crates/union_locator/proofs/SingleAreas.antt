-- What the single areas say of a point, one area after the other, and what this means for their union.
use Rattle.std.proofs.Common.{◌≡◌, ℕ, zero, suc, ◌+◌, ◌<◌, ◌≤◌, List, [], ◌∷◌, ◌++◌, length, take, get_or, refl, ap, sym, ◌∙◌, subst, arith}
use Rattle.std.specs.List.{All, Any}
use Rattle.std.proofs.lemmas.List.{take_more, take_all}
use Rattle.std.proofs.lemmas.List.Elements.{All-nil, All-more, All-weaker}
use Rattle.std.proofs.lemmas.List.Quantifiers.{Any-push}
use Rattle.std.proofs.lemmas.Option.{slice_get-get_or}
use Rattle.im_matrix.specs.declared.Loc.{Loc}
use Rattle.im_matrix.specs.declared.Loc.TheVariants.{Interior, Boundary, Exterior}
use Rattle.plane_laws.specs.Plane.{Point}
use Rattle.point_set.specs.declared.figure.Area.{Area}
use Rattle.point_set.specs.Location.{location}
use Rattle.point_set.specs.Validity.{IsAtPlace}
use Rattle.figure_laws.proofs.Lists.Search.{any_left}
use Rattle.union_locator.specs.Areas.{IsInAreas}

-- ---- one area more
-- what holds of the first k + 1
more : {X : Type 0} (P : List X → Type 0) (xs : List X) (k : ℕ) (d : X) → k < length xs → P (take k xs ++ get_or xs k d ∷ [])
    → P (take (k + 1) xs)
more P xs k d below h = subst P (sym (take_more xs k d below)) h

-- where an area before has the point not inside
not_inside : (areas : List Area) (p : Point) (loc : Loc) → ¬ (loc ≡ Interior) → IsInAreas areas p loc
    → All (λ area. ¬ (location area p ≡ Interior)) areas
not_inside areas p Interior n h = absurd (n refl)
not_inside areas p Boundary n h = h.0
not_inside areas p Exterior n h =
    All-weaker (λ area. location area p ≡ Exterior) (λ area. ¬ (location area p ≡ Interior))
    (λ area e i. let both = sym e ∙ i in cc) areas h

-- a list has an item within its length
pub some_item : {X : Type 0} (xs : List X) (k : ℕ) → k < length xs → (x : X) × (get_or xs k x ≡ x)
some_item [] k below = absurd (omega arith)
some_item (y ∷ xs) zero below = (y, refl)
some_item (y ∷ xs) (suc k) below = some_item xs k (omega arith)

-- which it has at this place
pub item_at : {X : Type 0} (xs : List X) (k : ℕ) → k < length xs → (x : X) × IsAtPlace xs k x
item_at xs k below = let x = some_item xs k below in (get_or xs k x.0, slice_get-get_or xs k x.0 below)

module _ (areas : List Area) (p : Point) (k : ℕ) (below : k < length areas) (here : Loc)
    (here_is : (area : Area) → IsAtPlace areas k area → here ≡ location area p) where
  -- the area there
  at_here : (d : Area) → location (get_or areas k d) p ≡ here
  at_here d = sym (here_is (get_or areas k d) (slice_get-get_or areas k d below))

  -- an area that has the point inside decides
  pub inside_here : here ≡ Interior → IsInAreas areas p Interior
  inside_here e = let x = some_item areas k below in (k, x.0, below, x.1, sym (ap (λ (a : Area). location a p) x.1) ∙ at_here x.0 ∙ e)

  -- one on whose boundary it is makes it Boundary
  pub boundary_here : (loc : Loc) → ¬ (loc ≡ Interior) → IsInAreas (take k areas) p loc → here ≡ Boundary → {new : Loc} → new ≡ Boundary
      → IsInAreas (take (k + 1) areas) p new
  boundary_here loc n h e {new} is = subst (IsInAreas (take (k + 1) areas) p) (sym is) both_here
    where
      x : (d : Area) × (get_or areas k d ≡ d)
      x = some_item areas k below

      not_in : ¬ (location (get_or areas k x.0) p ≡ Interior)
      not_in i = let both = sym (at_here x.0 ∙ e) ∙ i in cc

      both_here : IsInAreas (take (k + 1) areas) p Boundary
      both_here = (
        All-more (λ area. ¬ (location area p ≡ Interior)) areas k x.0 below (not_inside (take k areas) p loc n h) not_in,
        more (Any (λ area. location area p ≡ Boundary)) areas k x.0 below
            (Any-push (λ area. location area p ≡ Boundary) (take k areas) (get_or areas k x.0) (at_here x.0 ∙ e)),
      )

  -- and one outside of which it is changes nothing
  pub outside_here : (loc : Loc) → IsInAreas (take k areas) p loc → here ≡ Exterior → {new : Loc} → new ≡ loc
      → IsInAreas (take (k + 1) areas) p new
  outside_here loc h e {new} is = by_loc new (subst (IsInAreas (take k areas) p) (sym is) h)
    where
      x : (d : Area) × (get_or areas k d ≡ d)
      x = some_item areas k below

      not_in : ¬ (location (get_or areas k x.0) p ≡ Interior)
      not_in i = let both = sym (at_here x.0 ∙ e) ∙ i in cc

      by_loc : (loc : Loc) → IsInAreas (take k areas) p loc → IsInAreas (take (k + 1) areas) p loc
      by_loc Interior h =
          more (Any (λ area. location area p ≡ Interior)) areas k x.0 below
          (any_left (λ area. location area p ≡ Interior) (take k areas) (get_or areas k x.0 ∷ []) h)
      by_loc Boundary h = (
        All-more (λ area. ¬ (location area p ≡ Interior)) areas k x.0 below h.0 not_in,
        more (Any (λ area. location area p ≡ Boundary)) areas k x.0 below
            (any_left (λ area. location area p ≡ Boundary) (take k areas) (get_or areas k x.0 ∷ []) h.1),
      )
      by_loc Exterior h = All-more (λ area. location area p ≡ Exterior) areas k x.0 below h (at_here x.0 ∙ e)

pub all_passed :
    (areas : List Area) (p : Point) (k : ℕ) (loc : Loc) → length areas ≤ k → IsInAreas (take k areas) p loc → IsInAreas areas p loc
all_passed areas p k loc past h = subst (λ (xs : List Area). IsInAreas xs p loc) (take_all k areas past) h
