-- In a valid area the location is decided by one count over the edges of all its rings.
use Rattle.std.proofs.Common.{◌≡◌, ℕ, suc, ◌<◌, Bool, true, false, not, ◌&&◌, ◌||◌, List, [], ◌∷◌, ◌++◌, ap, refl, sym, ◌∙◌, arith}
use Rattle.std.specs.Prelude.{Some}
use Rattle.std.specs.List.{list_any}
use Rattle.std.proofs.lemmas.Bool.{true≢false, false_from_ne_true, true_from_ne_false, or_parts}
use Rattle.std.proofs.lemmas.List.Folds.{list_any-append, Any-from_list_any}
use Rattle.std.proofs.lemmas.Option.{slice_get-get_or}
use Rattle.plane_laws.specs.Plane.{Point}
use Rattle.plane_exact.specs.declared.point.Pt.{Pt}
use Rattle.plane_exact.specs.declared.point.Seg.{Seg}
use Rattle.ring_laws.proofs.Parity.Tests.{differ_assoc}
use Rattle.point_set.specs.Location.{location, location_by, edges_of_rings}
use Rattle.point_set.specs.Rings.{edges_of, is_on_edge, is_on_edges, crosses, differ, is_odd, is_inside}
use Rattle.point_set.specs.Validity.{IsAtPlace, hole_outside, holes_overlap}
use Rattle.point_set.specs.declared.figure.Area.{Area}
use Rattle.area_locator.specs.Indexed.{edges_of_area}
use Rattle.area_locator.specs.Validity.{IsValidArea}

-- the edges of one list after another are crossed an odd number of times where exactly one of the two lists is
is_odd-append : (p : Point) (xs ys : List Seg) → is_odd p (xs ++ ys) ≡ differ (is_odd p xs) (is_odd p ys)
is_odd-append p [] ys = refl
is_odd-append p (e ∷ xs) ys = ap (differ (crosses p e)) (is_odd-append p xs ys)
    ∙ sym (differ_assoc (crosses p e) (is_odd p xs) (is_odd p ys))

-- an item that passes, and its place
record SomePlace {X : Type 0} (test : X → Bool) (xs : List X) : Type 0 where
  place : ℕ
  item : X
  is : IsAtPlace xs place item
  passes : test item ≡ true

some_place : {X : Type 0} (test : X → Bool) (xs : List X) → list_any test xs ≡ true → SomePlace test xs
some_place test xs h =
    let a = Any-from_list_any test xs h in
    record { place = a.0; item = a.1; is = slice_get-get_or xs a.0 a.1 a.2 ∙ ap Some a.3; passes = a.4 }

-- ---- rings of which no edge holds the point
-- at most one of the rings has the point inside
HasAtMostOne : Point → List (List Pt) → Type 0
HasAtMostOne p rings =
    (i j : ℕ) (one other : List Pt) → i < j → IsAtPlace rings i one → IsAtPlace rings j other → is_inside p one ≡ true →
    is_inside p other ≡ true → ⊥

inside_is_odd : (p : Point) (ring : List Pt) → is_on_edges p (edges_of ring) ≡ false → is_inside p ring ≡ is_odd p (edges_of ring)
inside_is_odd p ring off = ap (λ z. not z && is_odd p (edges_of ring)) off

-- the first ring and the others, where the point isn't inside two
first_and_others : (p : Point) (ring : List Pt) (rings : List (List Pt)) → HasAtMostOne p (ring ∷ rings) → (t : Bool) →
    is_inside p ring ≡ t → differ t (list_any (is_inside p) rings) ≡ (t || list_any (is_inside p) rings)
unfolding HasAtMostOne
first_and_others p ring rings one true e =
    ap not (false_from_ne_true (list_any (is_inside p) rings) (λ h. let s = some_place (is_inside p) rings h in
    one 0 (suc s.place) ring s.item (omega arith) refl s.is e s.passes))
first_and_others p ring rings one false e = refl

later_ones : (p : Point) (ring : List Pt) (rings : List (List Pt)) → HasAtMostOne p (ring ∷ rings) → HasAtMostOne p rings
unfolding HasAtMostOne
later_ones p ring rings one i j a b before is_a is_b = one (suc i) (suc j) a b (omega (arith, before)) is_a is_b

off_parts : (p : Point) (ring : List Pt) (rings : List (List Pt)) → is_on_edges p (edges_of_rings (ring ∷ rings)) ≡ false →
    (is_on_edges p (edges_of ring) ≡ false) × (is_on_edges p (edges_of_rings rings) ≡ false)
off_parts p ring rings off =
    or_parts (is_on_edges p (edges_of ring)) (is_on_edges p (edges_of_rings rings))
    (sym (list_any-append (is_on_edge p) (edges_of ring) (edges_of_rings rings)) ∙ off)

-- the ray crosses an odd number of the edges of rings exactly where the point is inside one of them
odd_of_rings : (p : Point) (rings : List (List Pt)) → is_on_edges p (edges_of_rings rings) ≡ false → HasAtMostOne p rings →
    is_odd p (edges_of_rings rings) ≡ list_any (is_inside p) rings
odd_of_rings p [] off one = refl
odd_of_rings p (ring ∷ rings) off one =
    let parts = off_parts p ring rings off in
    is_odd-append p (edges_of ring) (edges_of_rings rings)
    ∙ (λ i. differ (sym (inside_is_odd p ring parts.0) i) (odd_of_rings p rings parts.1 (later_ones p ring rings one) i))
    ∙ first_and_others p ring rings one (is_inside p ring) refl

-- ---- a valid area
by_shell_and_holes : (shell hole : Bool) → (hole ≡ true → shell ≡ true) →
    location_by false (differ shell hole) false ≡ location_by false shell hole
by_shell_and_holes true true h = refl
by_shell_and_holes true false h = refl
by_shell_and_holes false true h = absurd (true≢false (sym (h refl)))
by_shell_and_holes false false h = refl

module _ (area : Area) (valid : IsValidArea area) (p : Point) where
  holes_within : list_any (is_inside p) area.holes ≡ true → is_inside p area.shell ≡ true
  holes_within h = true_from_ne_false (is_inside p area.shell) (λ off.
      let s = some_place (is_inside p) area.holes h in
      valid 0 hole_outside (record {
        area = area;
        area_is = refl;
        is_so = record { i = s.place; hole = s.item; hole_is = s.is; p = p; in_hole = s.passes; off_shell = off };
      }))

  holes_apart : HasAtMostOne p area.holes
  unfolding HasAtMostOne
  holes_apart i j one other before is_one is_other in_one in_other =
      valid 0 holes_overlap (record {
        area = area;
        area_is = refl;
        is_so = record {
          i = i;
          j = j;
          earlier = before;
          one = one;
          other = other;
          one_is = is_one;
          other_is = is_other;
          p = p;
          in_one = in_one;
          in_other = in_other;
        };
      })

  by_edges : (on : Bool) → is_on_edges p (edges_of_area area) ≡ on →
      location_by on (is_odd p (edges_of_area area)) false ≡ location_by on (is_inside p area.shell) (list_any (is_inside p) area.holes)
  by_edges true h = refl
  by_edges false h =
      let parts = off_parts p area.shell area.holes h in
      let odd : is_odd p (edges_of_area area) ≡ differ (is_inside p area.shell) (list_any (is_inside p) area.holes) =
      is_odd-append p (edges_of area.shell) (edges_of_rings area.holes)
      ∙ (λ i. differ (sym (inside_is_odd p area.shell parts.0) i) (odd_of_rings p area.holes parts.1 holes_apart i)) in
      ap (λ z. location_by false z false) odd
      ∙ by_shell_and_holes (is_inside p area.shell) (list_any (is_inside p) area.holes) holes_within

  -- its location is by whether the point is on an edge, and whether its ray crosses an odd number of them
  pub location_is : location_by (is_on_edges p (edges_of_area area)) (is_odd p (edges_of_area area)) false ≡ location area p
  location_is = by_edges (is_on_edges p (edges_of_area area)) refl
