-- A fold over edges: the location by whether the point is on one of them, and whether its ray crosses an odd number.
use Rattle.std.proofs.Common.{◌≡◌, ℕ, ◌<◌, Bool, true, false, ◌||◌, List, [], ◌∷◌, length, get_or, refl, sym, ◌∙◌, subst}
use Rattle.std.specs.Prelude.{Some, slice_get, map}
use Rattle.std.specs.List.{All, FoldsTo}
use Rattle.std.proofs.Math.Bool.{or_assoc, or-false}
use Rattle.std.proofs.lemmas.List.Elements.{All-head, All-tail}
use Rattle.std.proofs.lemmas.Option.{slice_get-get_or}
use Rattle.im_matrix.specs.declared.Loc.{Loc}
use Rattle.im_matrix.specs.declared.Loc.TheVariants.{Exterior}
use Rattle.plane_laws.specs.Plane.{Point}
use Rattle.plane_exact.specs.declared.point.Seg.{Seg}
use Rattle.ring_laws.proofs.Parity.Tests.{differ_none, differ_assoc}
use Rattle.point_set.specs.Location.{location_by}
use Rattle.point_set.specs.Rings.{is_on_edge, is_on_edges, crosses, differ, is_odd}
use Rattle.area_locator.proofs.RowEdges.{no_edge}
use Rattle.area_locator.specs.Touches.{touch_by, touch_of, loc_after}

-- one more edge, by what it does
one_more : (on odd held crossed : Bool) → loc_after (location_by on odd false) (touch_by held crossed) ≡ location_by (on || held)
    (differ odd crossed) false
one_more true odd held crossed = refl
one_more false true true crossed = refl
one_more false true false true = refl
one_more false true false false = refl
one_more false false true crossed = refl
one_more false false false true = refl
one_more false false false false = refl

-- each step gives the location after the edge at the item's place
abbrev pub StepsByEdges : Point → List Seg → (Loc → ℕ → Loc → Type 0) → Type 0
StepsByEdges p edges R = (l : Loc) (i : ℕ) (t : Loc) → R l i t → (e : Seg) → slice_get edges i ≡ Some e →
    t ≡ loc_after l (touch_of false p e.a e.b)

module _ (p : Point) (edges : List Seg) (R : Loc → ℕ → Loc → Type 0) (steps : StepsByEdges p edges R) where
  -- the edges at places of the list
  abbrev at_places : List ℕ → List Seg
  at_places items = map (λ i. get_or edges i no_edge) items

  -- a fold over places from a location is the location by the edges before and those at the places
  tally_from : (on odd : Bool) (items : List ℕ) (r : Loc) → All (λ i. i < length edges) items →
      FoldsTo R (location_by on odd false) items r → r ≡ location_by (on || is_on_edges p (at_places items))
      (differ odd (is_odd p (at_places items))) false
  tally_from on odd [] r within h = sym h ∙ (λ i. location_by (sym (or-false on) i) (sym (differ_none odd) i) false)
  tally_from on odd (i ∷ items) r within h =
      let e = get_or edges i no_edge in
      let below : i < length edges = All-head (λ k. k < length edges) i items within in
      let next : h.0 ≡ location_by (on || is_on_edge p e) (differ odd (crosses p e)) false =
      steps (location_by on odd false) i h.0 h.1 e (slice_get-get_or edges i no_edge below)
      ∙ one_more on odd (is_on_edge p e) (crosses p e) in
      tally_from (on || is_on_edge p e) (differ odd (crosses p e)) items r (All-tail (λ k. k < length edges) i items within)
      (subst (λ (l : Loc). FoldsTo R l items r) next h.2)
      ∙ (λ k. location_by (or_assoc on (is_on_edge p e) (is_on_edges p (at_places items)) k)
      (differ_assoc odd (crosses p e) (is_odd p (at_places items)) k) false)

  pub tally : (items : List ℕ) (r : Loc) → All (λ i. i < length edges) items → FoldsTo R Exterior items r →
      r ≡ location_by (is_on_edges p (at_places items)) (is_odd p (at_places items)) false
  tally items r within h = tally_from false false items r within h
