-- The places in a list for which something holds, as far as the list was passed: those of rows that meet a window, and of boxes near it.
use Rattle.std.proofs.Common.{◌≡◌, ◌⊎◌, inl, inr, Bool, true, false, ℕ, ◌+◌, ◌<◌, ◌≤◌, List, [], ◌∷◌, ◌++◌, length, get_or, ap, refl, sym}
use Rattle.std.proofs.Common.{◌∙◌, subst, arith}
use Rattle.std.specs.Prelude.{IsTrue, ◌↔◌}
use Rattle.std.specs.List.{All, Contains}
use Rattle.std.specs.List.Sorted.{IsStrictlyIncreasing}
use Rattle.std.proofs.lemmas.List.Elements.{All-nil, All-push, All-weaker, Contains-push, Contains-append_left}
use Rattle.std.proofs.lemmas.Bool.{cases_lt}
use Rattle.std.proofs.lemmas.List.{length-map, length_push, get_or_append_left, get_or_push}
use Rattle.std.proofs.lemmas.Option.{slice_get_within}
use Rattle.plane_exact.specs.Windows.{HasCommonPoint, IsLeastWindow}
use Rattle.plane_exact.specs.declared.window.Window.{Window}
use Rattle.point_set.specs.declared.edge.Edge.{Edge}
use Rattle.point_set.specs.Edges.{OwnedEdge, MeetsWindow, MeetsAtPlace, ArePlacesIn}
use Rattle.point_set.specs.Validity.{IsAtPlace, IsOnEdge}
use Rattle.figure_laws.proofs.Edges.Windows.{meets_by_least}
use Rattle.figure_laws.proofs.Lists.Places.{some_same}
use Rattle.ring_sides.specs.Rows.{owned_edge, owned_edges}
use Rattle.union_locator.specs.Shells.{IsBoxNearAt, AreBoxesNear}
use Rattle.union_locator.proofs.MeetingPlaces.{image_at}
use Rattle.union_locator.proofs.Items.{item_read}

-- The places below k for which something holds.
pub record ArePlacesBelow (P : ℕ → Type 0) (k : ℕ) (out : List ℕ) : Type 0 where
  pub ascending : IsStrictlyIncreasing out
  pub below : All (λ place. place < k) out
  pub are : All P out
  pub whole : (place : ℕ) → place < k → P place → Contains out place

-- At first there is none.
pub none_below : (P : ℕ → Type 0) → ArePlacesBelow P 0 []
none_below P = record {
  ascending = λ i h. absurd (omega (arith, h));
  below = All-nil (λ place. place < 0);
  are = All-nil P;
  whole = λ place h m. absurd (omega (arith, h));
}

-- ---- one place more
-- a greater number at the end
ascending_push : (xs : List ℕ) (k : ℕ) → IsStrictlyIncreasing xs → All (λ x. x < k) xs → IsStrictlyIncreasing (xs ++ k ∷ [])
ascending_push xs k ascending below i h = go (cases_lt (i + 1) (length xs))
  where
    size : length (xs ++ k ∷ []) ≡ length xs + 1
    size = length_push xs k

    go : (i + 1 < length xs) ⊎ (length xs ≤ i + 1) → get_or (xs ++ k ∷ []) i 0 < get_or (xs ++ k ∷ []) (i + 1) 0
    go (inl l) =
        omega (arith, get_or_append_left xs (k ∷ []) 0 i (omega arith), get_or_append_left xs (k ∷ []) 0 (i + 1) l, ascending i l)
    go (inr l) =
        omega (
          arith,
          get_or_append_left xs (k ∷ []) 0 i (omega (arith, size, h)),
          get_or_push xs k 0 (i + 1) (omega (arith, size, h)),
          below i 0 (omega (arith, size, h)),
        )

-- what is below k is below k + 1
below_next : (k : ℕ) (out : List ℕ) → All (λ place. place < k) out → All (λ place. place < k + 1) out
below_next k out h = All-weaker (λ place. place < k) (λ place. place < k + 1) (λ place l. omega (arith, l)) out h

module _ (P : ℕ → Type 0) (k : ℕ) (out : List ℕ) (h : ArePlacesBelow P k out) where
  -- a place for which it holds comes to the list
  one_more : P k → ArePlacesBelow P (k + 1) (out ++ k ∷ [])
  one_more is = record {
    ascending = ascending_push out k h.ascending h.below;
    below = All-push (λ place. place < k + 1) out k (below_next k out h.below) (omega arith);
    are = All-push P out k h.are is;
    whole = λ place l m. by_place place m (cases_lt place k) l;
  }
    where
      by_place : (place : ℕ) → P place → (place < k) ⊎ (k ≤ place) → place < k + 1 → Contains (out ++ k ∷ []) place
      by_place place m (inl l) below = Contains-append_left out (k ∷ []) place (h.whole place l m)
      by_place place m (inr l) below =
          let same : k ≡ place = omega (arith, l, below) in
          subst (λ (z : ℕ). Contains (out ++ k ∷ []) z) same (Contains-push out k)

  -- one for which it doesn't leaves the list
  none_more : ¬ P k → ArePlacesBelow P (k + 1) out
  none_more apart = record {
    ascending = h.ascending;
    below = below_next k out h.below;
    are = h.are;
    whole = λ place l m. by_place place m (cases_lt place k) l;
  }
    where
      by_place : (place : ℕ) → P place → (place < k) ⊎ (k ≤ place) → place < k + 1 → Contains out place
      by_place place m (inl l) below = h.whole place l m
      by_place place m (inr l) below =
          let same : place ≡ k = omega (arith, l, below) in
          absurd (apart (subst P same m))

  -- so it is one place more, by a test
  scanned : (met : Bool) → IsTrue met ↔ P k → {new : List ℕ} → (met ≡ true → new ≡ out ++ k ∷ []) → (met ≡ false → new ≡ out)
      → ArePlacesBelow P (k + 1) new
  scanned true decides some none = subst (ArePlacesBelow P (k + 1)) (sym (some refl)) (one_more (decides.0 refl))
  scanned false decides some none =
      subst (ArePlacesBelow P (k + 1)) (sym (none refl)) (none_more (λ m. let both = decides.1 m in cc))

-- ---- rows that meet a window
abbrev pub AreRowsBelow : Window → List Edge → ℕ → List ℕ → Type 0
AreRowsBelow w rows k out = ArePlacesBelow (MeetsAtPlace w (owned_edges rows)) k out

-- One row more: it meets the window where its box has a common point with it.
pub row_scanned : {w : Window} {items rows : List Edge} {k : ℕ} (d : Edge) {box : Window} {met : Bool} {out new : List ℕ} → items ≡ rows
    → k < length items → IsLeastWindow (IsOnEdge (get_or items k d).seg) box → IsTrue met ↔ HasCommonPoint box w → AreRowsBelow w rows k out
    → (met ≡ true → new ≡ out ++ k ∷ []) → (met ≡ false → new ≡ out) → AreRowsBelow w rows (k + 1) new
row_scanned {w} {items} {rows} {k} d {box} {met} {out} same below least decides h some none =
    scanned (MeetsAtPlace w (owned_edges rows)) k out h met (λ t. meets (decides.0 t), λ m. decides.1 (common m)) some none
  where
    row : Edge
    row = get_or items k d

    at : IsAtPlace (owned_edges rows) k (owned_edge row)
    at = image_at owned_edge rows k row (item_read items rows k d same below)

    meets : HasCommonPoint box w → MeetsAtPlace w (owned_edges rows) k
    meets c = record { edge = owned_edge row; edge_is = at; meets = (meets_by_least w row.seg box least).1 c }

    common : MeetsAtPlace w (owned_edges rows) k → HasCommonPoint box w
    common m =
        let here : owned_edge row ≡ m.edge = some_same (sym at ∙ m.edge_is) in
        (meets_by_least w row.seg box least).0 (subst (λ (z : OwnedEdge). MeetsWindow w z.seg) (sym here) m.meets)

-- Past the last row these are all.
pub all_places : {w : Window} {items rows : List Edge} {k : ℕ} {out : List ℕ} → items ≡ rows → length items ≤ k → AreRowsBelow w rows k out
    → ArePlacesIn w (owned_edges rows) out
all_places {w} {items} {rows} {k} {out} same past h = record {
  ascending = h.ascending;
  meet = h.are;
  whole = λ place m.
      let within = slice_get_within (owned_edges rows) place m.edge m.edge_is in
      h.whole place (omega (arith, within, past, ap length same, length-map rows owned_edge)) m;
}

-- ---- boxes that have a common point with a window
-- One box more.
pub box_scanned : {w : Window} {items boxes : List Window} {k : ℕ} (d : Window) {met : Bool} {out new : List ℕ} → items ≡ boxes
    → k < length items → IsTrue met ↔ HasCommonPoint w (get_or items k d) → ArePlacesBelow (IsBoxNearAt w boxes) k out
    → (met ≡ true → new ≡ out ++ k ∷ []) → (met ≡ false → new ≡ out) → ArePlacesBelow (IsBoxNearAt w boxes) (k + 1) new
box_scanned {w} {items} {boxes} {k} d {met} {out} same below decides h some none =
    scanned (IsBoxNearAt w boxes) k out h met (λ t. near (decides.0 t), λ m. decides.1 (common m)) some none
  where
    at : IsAtPlace boxes k (get_or items k d)
    at = item_read items boxes k d same below

    near : HasCommonPoint w (get_or items k d) → IsBoxNearAt w boxes k
    near c = record { box = get_or items k d; box_is = at; common = c }

    common : IsBoxNearAt w boxes k → HasCommonPoint w (get_or items k d)
    common m = subst (HasCommonPoint w) (some_same (sym m.box_is ∙ at)) m.common

-- Past the last box these are all.
pub all_boxes : {w : Window} {items boxes : List Window} {k : ℕ} {out : List ℕ} → items ≡ boxes → length items ≤ k
    → ArePlacesBelow (IsBoxNearAt w boxes) k out → AreBoxesNear w boxes out
all_boxes {w} {items} {boxes} same past h = record {
  ascending = h.ascending;
  near = h.are;
  whole = λ place m.
      let within = slice_get_within boxes place m.box m.box_is in
      h.whole place (omega (arith, within, past, ap length same)) m;
}
