-- The sections of rows at a point, when only the rows near the point are read: no other row holds it.
use Rattle.std.proofs.Common.{◌≡◌, ◌⊎◌, inl, inr, ℕ, zero, suc, ◌+◌, ◌-◌, ◌<◌, ◌≤◌, List, [], ◌∷◌, ◌++◌, length, take, get_or, append-nil}
use Rattle.std.proofs.Common.{ap, refl, sym, ◌∙◌, subst, arith}
use Rattle.std.specs.List.{All, Contains}
use Rattle.std.proofs.lemmas.Bool.{cases_lt}
use Rattle.std.proofs.lemmas.List.{get_or_default, length-map, take_all, take_more}
use Rattle.std.proofs.lemmas.List.Elements.{All-weaker}
use Rattle.std.proofs.lemmas.List.Kept.{AllPairs-from_increasing}
use Rattle.std.proofs.lemmas.Option.{slice_get_within, get_or_from_slice_get}
use Rattle.plane_laws.proofs.Points.Same.{same_refl}
use Rattle.plane_laws.specs.Plane.{Point, IsSamePoint}
use Rattle.plane_exact.proofs.Laws.{least_of_ends}
use Rattle.plane_exact.specs.Windows.{IsLeastWindow}
use Rattle.plane_exact.specs.declared.window.Window.{Window}
use Rattle.plane_exact.specs.declared.point.Seg.{Seg}
use Rattle.point_set.specs.declared.edge.Edge.{Edge}
use Rattle.point_set.specs.Validity.{IsAtPlace, IsOnEdge}
use Rattle.edge_index.specs.Rows.{window_of}
use Rattle.edge_index.specs.Segments.{ArePlacesIn, MeetsAtPlace}
use Rattle.fan_order.specs.declared.section.Section.{Section}
use Rattle.area_entry.specs.RowSections.{AddsSectionsOfRow, AreNear, AreSectionsOfRows, segs_of_rows}
use Rattle.area_entry.proofs.RowPlaces.{seg_there}
use Rattle.area_entry.proofs.SectionLists.{rows_more}

-- ---- places of rows
module _ (w : Window) (rows : List Edge) (places : List ℕ) (are : ArePlacesIn w (segs_of_rows rows) places) where
  -- each place is that of a row
  pub places_within : All (λ place. place < length rows) places
  places_within =
      All-weaker (MeetsAtPlace w (segs_of_rows rows)) (λ place. place < length rows)
      (λ place m. subst (λ (n : ℕ). place < n) (length-map rows (λ (row : Edge). row.seg))
      (slice_get_within (segs_of_rows rows) place m.seg m.seg_is)) places are.meet

  -- a row whose edge has a point that each box round the window's points has
  pub place_of_row : (place : ℕ) (row : Edge) → IsAtPlace rows place row → (p : Point) → IsOnEdge row.seg p
      → (Set : Point → Type 0) → IsLeastWindow Set w → Set p → Contains places place
  place_of_row place row is p on Set least in_set =
      let box = least_of_ends (window_of row.seg) row.seg.a row.seg.b refl refl refl refl in
      are.whole place (record {
        seg = row.seg;
        seg_is = seg_there rows place row is;
        meets = record {
          box = window_of row.seg;
          least = box;
          common = record { point = p; here = box.holds p on; there = least.holds p in_set };
        };
      })

-- each place near some points is that of a row
pub near_within : (Points : Point → Type 0) (rows : List Edge) (places : List ℕ) → AreNear Points rows places
    → All (λ place. place < length rows) places
near_within Points rows places near = places_within near.window rows places near.places_in

-- a row that has a point in common with an edge is near the edge
pub near_row : (e : Seg) (rows : List Edge) (places : List ℕ) → AreNear (IsOnEdge e) rows places → (place : ℕ) (row : Edge)
    → IsAtPlace rows place row → (p : Point) → IsOnEdge e p → IsOnEdge row.seg p → Contains places place
near_row e rows places near place row is p on_e on_row =
    place_of_row near.window rows places near.places_in place row is p on_row (IsOnEdge e) near.least on_e

-- ---- the rows before a bound
-- all places so far are below it, and all others aren't
pub record IsPassed (places : List ℕ) (k bound : ℕ) : Type 0 where
  pub passed : (j : ℕ) → j < k → get_or places j 0 < bound
  pub ahead : (j : ℕ) → k ≤ j → j < length places → bound ≤ get_or places j 0

-- the sections of the rows before such a bound
pub record AreSectionsSoFar (v : Point) (rows : List Edge) (places : List ℕ) (k : ℕ) (sections : List Section) : Type 0 where
  pub bound : ℕ
  pub is : IsPassed places k bound
  pub within : bound ≤ length rows
  pub are : AreSectionsOfRows v (take bound rows) sections

-- before the first
pub none_so_far : (v : Point) (rows : List Edge) (places : List ℕ) → AreSectionsSoFar v rows places 0 []
none_so_far v rows places = record {
  bound = 0;
  is = record { passed = λ j below. absurd (omega (arith, below)); ahead = λ j _ _. omega arith };
  within = omega arith;
  are = refl;
}

-- an item of a list
item_of : {X : Type 0} (xs : List X) (i : ℕ) → i < length xs → (x : X) × IsAtPlace xs i x
item_of [] i below = absurd (omega (arith, below))
item_of (x ∷ xs) zero below = (x, refl)
item_of (x ∷ xs) (suc i) below = item_of xs i (omega (arith, below))

-- rows that don't hold the point have no section
free_more : (v : Point) (rows : List Edge) (sections : List Section) (n bound : ℕ) → bound + n ≤ length rows
    → ((place : ℕ) (row : Edge) → bound ≤ place → place < bound + n → IsAtPlace rows place row → ¬ IsOnEdge row.seg v)
    → AreSectionsOfRows v (take bound rows) sections → AreSectionsOfRows v (take (bound + n) rows) sections
free_more v rows sections zero bound within free are =
    subst (λ (m : ℕ). AreSectionsOfRows v (take m rows) sections) (let same : bound ≡ bound + 0 = omega arith in same) are
free_more v rows sections (suc n) bound within free are =
    subst (λ (m : ℕ). AreSectionsOfRows v (take m rows) sections)
    (let same : (bound + 1) + n ≡ bound + suc n = omega arith in same)
    (free_more v rows sections n (bound + 1) (omega (arith, within))
    (λ place row low high. free place row (omega (arith, low)) (omega (arith, high))) more)
  where
    below : bound < length rows
    below = omega (arith, within)

    row : (x : Edge) × IsAtPlace rows bound x
    row = item_of rows bound below

    split : take (bound + 1) rows ≡ take bound rows ++ row.0 ∷ []
    split = take_more rows bound row.0 below
        ∙ ap (λ (z : Edge). take bound rows ++ z ∷ []) (get_or_from_slice_get rows bound row.0 row.0 row.1)

    off : ¬ IsOnEdge row.0.seg v
    off = free bound row.0 (omega arith) (omega arith) row.1

    more : AreSectionsOfRows v (take (bound + 1) rows) sections
    more =
        subst (λ (xs : List Edge). AreSectionsOfRows v xs sections) (sym split)
        (subst (λ (xs : List Section). AreSectionsOfRows v (take bound rows ++ row.0 ∷ []) xs) (append-nil sections)
        (rows_more v (take bound rows) row.0 sections [] are (record { on = λ h. absurd (off h); off = λ _. refl })))

-- up to a greater bound
free_up_to : (v : Point) (rows : List Edge) (sections : List Section) (bound higher : ℕ) → bound ≤ higher → higher ≤ length rows
    → ((place : ℕ) (row : Edge) → bound ≤ place → place < higher → IsAtPlace rows place row → ¬ IsOnEdge row.seg v)
    → AreSectionsOfRows v (take bound rows) sections → AreSectionsOfRows v (take higher rows) sections
free_up_to v rows sections bound higher low within free are =
    let same : bound + (higher - bound) ≡ higher = omega (arith, low) in
    subst (λ (m : ℕ). AreSectionsOfRows v (take m rows) sections) same
    (free_more v rows sections (higher - bound) bound (omega (arith, low, within))
    (λ place row at_least below. free place row at_least (omega (arith, low, below))) are)

-- ---- the places round a point
module _ (v : Point) (rows : List Edge) (places : List ℕ) (near : AreNear (IsSamePoint v) rows places) where
  -- a row that holds the point is at one of the places
  holder : (place : ℕ) (row : Edge) → IsAtPlace rows place row → IsOnEdge row.seg v → Contains places place
  holder place row is on =
      place_of_row near.window rows places near.places_in place row is v on (IsSamePoint v) near.least (same_refl v)

  -- the places ascend
  rising : (i j : ℕ) → i < j → j < length places → get_or places i 0 < get_or places j 0
  rising i j less below = AllPairs-from_increasing places near.places_in.ascending i j 0 less below

  -- a row between the bound and the next place doesn't hold the point
  free_before : (k bound : ℕ) → IsPassed places k bound → (place : ℕ) (row : Edge) → bound ≤ place
      → (k < length places → place < get_or places k 0) → IsAtPlace rows place row → ¬ IsOnEdge row.seg v
  free_before k bound is place row low high row_is on = by_place (cases_lt there.0 k) (cases_lt k there.0)
    where
      there : Contains places place
      there = holder place row row_is on

      here : get_or places there.0 0 ≡ place
      here = get_or_default places there.0 0 place there.1 ∙ there.2

      by_place : (there.0 < k) ⊎ (k ≤ there.0) → (k < there.0) ⊎ (there.0 ≤ k) → ⊥
      by_place (inl less) later = let passed = is.passed there.0 less in omega (arith, passed, here, low)
      by_place (inr more) (inl less) =
          let below = there.1 in
          let next = high (omega (arith, less, below)) in
          let after = rising k there.0 less below in
          omega (arith, next, after, here)
      by_place (inr more) (inr most) =
          let below = there.1 in
          let next = high (omega (arith, most, below)) in
          let same : there.0 ≡ k = omega (arith, more, most) in
          let at_k = sym (ap (λ (j : ℕ). get_or places j 0) same) ∙ here in
          omega (arith, next, at_k)

  -- the row at the next place is passed
  pub place_more : (k : ℕ) (sections new : List Section) → AreSectionsSoFar v rows places k sections → k < length places → (place : ℕ)
      → get_or places k 0 ≡ place → (row : Edge) → IsAtPlace rows place row → AddsSectionsOfRow v row sections new
      → AreSectionsSoFar v rows places (k + 1) new
  place_more k sections new before below place place_is row row_is adds = record {
    bound = place + 1;
    is = record {
      passed = λ j less. by_order j less (cases_lt j k);
      ahead = λ j more j_below.
          (let after = rising k j (omega (arith, more)) j_below in omega (arith, after, place_is));
    };
    within = omega (arith, row_below);
    are =
        subst (λ (xs : List Edge). AreSectionsOfRows v xs new) (sym split)
        (subst (λ (xs : List Section). AreSectionsOfRows v (take place rows ++ row ∷ []) xs) (sym adds.new_is)
        (rows_more v (take place rows) row sections adds.more up_to adds.are));
  }
    where
      row_below : place < length rows
      row_below = slice_get_within rows place row row_is

      bound_low : before.bound ≤ place
      bound_low = let ahead = before.is.ahead k (omega arith) below in omega (arith, ahead, place_is)

      up_to : AreSectionsOfRows v (take place rows) sections
      up_to =
          free_up_to v rows sections before.bound place bound_low (omega (arith, row_below))
          (λ other free_row low high is. free_before k before.bound before.is other free_row low (λ _. omega (arith, high, place_is)) is)
          before.are

      split : take (place + 1) rows ≡ take place rows ++ row ∷ []
      split = take_more rows place row row_below
          ∙ ap (λ (z : Edge). take place rows ++ z ∷ []) (get_or_from_slice_get rows place row row row_is)

      by_order : (j : ℕ) → j < k + 1 → (j < k) ⊎ (k ≤ j) → get_or places j 0 < place + 1
      by_order j less (inl earlier) = let passed = before.is.passed j earlier in omega (arith, passed, bound_low)
      by_order j less (inr same) =
          let one : j ≡ k = omega (arith, less, same) in
          let here = ap (λ (i : ℕ). get_or places i 0) one ∙ place_is in
          omega (arith, here)

  -- past the last place these are all
  pub all_places : (k : ℕ) (sections : List Section) → length places ≤ k → AreSectionsSoFar v rows places k sections
      → AreSectionsOfRows v rows sections
  all_places k sections past before =
      subst (λ (xs : List Edge). AreSectionsOfRows v xs sections) (take_all (length rows) rows (omega arith))
      (free_up_to v rows sections before.bound (length rows) before.within (omega arith)
      (λ place row low high is. free_before k before.bound before.is place row low (λ below. absurd (omega (arith, past, below))) is)
      before.are)
