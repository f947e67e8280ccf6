-- The search for two edges that clash: among some places, and among the edges near each edge in turn.
use Rattle.std.proofs.Common.{◌≡◌, ◌⊎◌, inl, inr, ℕ, ◌+◌, ◌<◌, ◌≤◌, List, length, get_or, sym, ◌∙◌, subst, arith}
use Rattle.std.proofs.lemmas.Bool.{cases_lt}
use Rattle.std.proofs.lemmas.List.Elements.{Contains-get_or}
use Rattle.std.proofs.lemmas.Option.{slice_get_within, slice_get-get_or, get_or_from_slice_get}
use Rattle.plane_laws.specs.Plane.{Point}
use Rattle.plane_laws.proofs.Segments.Mixes.{start_on_segment}
use Rattle.point_set.specs.Validity.{IsAtPlace, IsOnEdge}
use Rattle.figure_laws.proofs.Lists.Places.{some_same}
use Rattle.ring_faults.specs.declared.part.PartEdge.{PartEdge}
use Rattle.ring_faults.specs.declared.clash.Clash.{Clash}
use Rattle.ring_faults.specs.declared.clash.Clash.TheVariants.{Crossing, Sharing}
use Rattle.ring_faults.specs.Clashes.{AreNearPlaces, ClashAt, ClashesWithSome}
use Rattle.ring_faults.specs.Parts.{segs_of}
use Rattle.ring_faults.proofs.NearPlaces.{near_edge}

-- ---- along some places
-- the edge at i clashes with none of those at the places before one
abbrev pub HasNoClashBefore : Clash → List PartEdge → ℕ → List ℕ → ℕ → Type 0
HasNoClashBefore clash edges i places bound = (k : ℕ) → k < bound → ¬ ClashAt clash edges i (get_or places k 0)

-- one place more
pub no_clash_more : (clash : Clash) (edges : List PartEdge) (i : ℕ) (places : List ℕ) (bound : ℕ)
    → HasNoClashBefore clash edges i places bound
    → ¬ ClashAt clash edges i (get_or places bound 0) → HasNoClashBefore clash edges i places (bound + 1)
no_clash_more clash edges i places bound before this k below = by (cases_lt k bound)
  where
    by : (k < bound) ⊎ (bound ≤ k) → ¬ ClashAt clash edges i (get_or places k 0)
    by (inl less) = before k less
    by (inr more) = subst (λ m. ¬ ClashAt clash edges i (get_or places m 0)) (let same : bound ≡ k = omega arith in same) this

-- a place of the list at which they clash
pub clash_found : (clash : Clash) (edges : List PartEdge) (i : ℕ) (places : List ℕ) (k : ℕ) → k < length places
    → ClashAt clash edges i (get_or places k 0) → ClashesWithSome clash edges i places
clash_found clash edges i places k below at =
    record { place = get_or places k 0; there = Contains-get_or places k 0 below; clash_at = at }

-- none at all
pub no_clash_there : (clash : Clash) (edges : List PartEdge) (i : ℕ) (places : List ℕ) (bound : ℕ) → length places ≤ bound
    → HasNoClashBefore clash edges i places bound → ¬ ClashesWithSome clash edges i places
no_clash_there clash edges i places bound past before h =
    let there = h.there in
    let k = there.0 in
    let below : k < length places = there.1 in
    let same : get_or places k 0 ≡ h.place =
    sym (get_or_from_slice_get places k (get_or places k 0) h.place (slice_get-get_or places k 0 below)) ∙ there.2 in
    before k (omega arith) (subst (ClashAt clash edges i) (sym same) h.clash_at)

-- ---- along all edges
-- edges at two places have a common point
record HaveCommonPointAt (edges : List PartEdge) (i j : ℕ) : Type 0 where
  e : PartEdge
  f : PartEdge
  e_is : IsAtPlace edges i e
  f_is : IsAtPlace edges j f
  p : Point
  on_e : IsOnEdge e.seg p
  on_f : IsOnEdge f.seg p

-- edges that clash have a common point
clash_common : (clash : Clash) (edges : List PartEdge) (i j : ℕ) → ClashAt clash edges i j → HaveCommonPointAt edges i j
clash_common Crossing edges i j h =
    record { e = h.e; f = h.f; e_is = h.e_is; f_is = h.f_is; p = h.unjoined.p; on_e = h.unjoined.on_e; on_f = h.unjoined.on_f }
clash_common Sharing edges i j h =
    let s = h.share in
    let both = s.held s.a (start_on_segment s.a s.b) in
    record { e = h.e; f = h.f; e_is = h.e_is; f_is = h.f_is; p = s.a; on_e = both.0; on_f = both.1 }

-- the edge at a place clashes with none where it clashes with none of those near it
pub no_clash_near : (clash : Clash) (edges : List PartEdge) (i : ℕ) (e : PartEdge) (places : List ℕ) → IsAtPlace edges i e
    → AreNearPlaces e.seg (segs_of edges) places → ¬ ClashesWithSome clash edges i places → (j : ℕ) → ¬ ClashAt clash edges i j
no_clash_near clash edges i e places e_is near none j h =
    let c = clash_common clash edges i j h in
    let same : c.e ≡ e = some_same (sym c.e_is ∙ e_is) in
    none (record {
      place = j;
      there = near_edge e.seg edges places near j c.f c.f_is c.p (subst (λ (x : PartEdge). IsOnEdge x.seg c.p) same c.on_e) c.on_f;
      clash_at = h;
    })

-- the edges before a place clash with none
abbrev pub HaveNoClashBefore : Clash → List PartEdge → ℕ → Type 0
HaveNoClashBefore clash edges bound = (i j : ℕ) → i < bound → ¬ ClashAt clash edges i j

-- one edge more
pub no_clashes_more : (clash : Clash) (edges : List PartEdge) (bound : ℕ) → HaveNoClashBefore clash edges bound
    → ((j : ℕ) → ¬ ClashAt clash edges bound j) → HaveNoClashBefore clash edges (bound + 1)
no_clashes_more clash edges bound before this i j below = by (cases_lt i bound)
  where
    by : (i < bound) ⊎ (bound ≤ i) → ¬ ClashAt clash edges i j
    by (inl less) = before i j less
    by (inr more) = subst (λ m. ¬ ClashAt clash edges m j) (let same : bound ≡ i = omega arith in same) (this j)

-- all edges
pub no_clashes : (clash : Clash) (edges : List PartEdge) (bound : ℕ) → length edges ≤ bound → HaveNoClashBefore clash edges bound
    → (i j : ℕ) → ¬ ClashAt clash edges i j
no_clashes clash edges bound past before i j h =
    let c = clash_common clash edges i j h in
    let below : i < length edges = slice_get_within edges i c.e c.e_is in
    before i j (omega arith) h
