-- The edges of an area with the shape of a geometry: within the limit, with different ends, and no more than positions.
use Rattle.std.proofs.Common.{◌≡◌, ℕ, suc, ◌≤◌, Bool, true, false, List, [], ◌∷◌, length, get_or, ap, refl, sym, ◌∙◌, subst, arith}
use Rattle.std.proofs.Common.{length-append}
use Rattle.std.specs.Prelude.{map, sum_by, ◌&&◌}
use Rattle.std.specs.List.{All}
use Rattle.std.proofs.lemmas.Bool.{true≢false, and_parts}
use Rattle.std.proofs.lemmas.Bool.Decides.{Decides-int_eq}
use Rattle.std.proofs.lemmas.Int.{ints, clamps}
use Rattle.std.proofs.lemmas.List.Elements.{All-nil, All-cons, All-head, All-tail, All-append, All-map, All-weaker}
use Rattle.std.proofs.lemmas.List.Sums.{sum_by-cons, get_or-le-sum_by}
use Rattle.std.proofs.lemmas.Option.{slice_get_within, get_or_from_slice_get}
use Rattle.plane_exact.specs.Places.{IsInLimit}
use Rattle.plane_exact.specs.declared.point.Pt.{Pt}
use Rattle.plane_exact.specs.declared.point.Seg.{Seg}
use Rattle.figure_laws.proofs.Lists.Places.{same_position}
use Rattle.point_set.specs.Location.{edges_of_rings, rings_of}
use Rattle.point_set.specs.Rings.{is_same_position, edge_before, edges_after, edges_of}
use Rattle.point_set.specs.Shape.{IsWayInLimit, IsRingShaped, IsAreaShaped, IsWellShaped, positions_of_area}
use Rattle.point_set.specs.Validity.{IsAtPlace}
use Rattle.point_set.specs.declared.figure.Area.{Area}
use Rattle.point_set.specs.declared.figure.Figure.{Figure}
use Rattle.y_index.specs.Trees.{IsSpan}
use Rattle.area_locator.specs.Indexed.{IsEdge, heights_of, edges_of_area}

-- ---- edges of ways and rings within the limit
equal_same : (p q : Pt) → p ≡ q → is_same_position p q ≡ true
equal_same p q e = (λ i. (Decides-int_eq p.x q.x).1 (ap (λ (t : Pt). t.x) e) i && (Decides-int_eq p.y q.y).1 (ap (λ (t : Pt). t.y) e) i)

proper_before : (same : Bool) (p q : Pt) (edges : List Seg) → is_same_position p q ≡ same → IsInLimit p → IsInLimit q → All IsEdge edges →
    All IsEdge (edge_before same p q edges)
proper_before true p q edges e start end rest = rest
proper_before false p q edges e start end rest =
    All-cons IsEdge (record { a = p; b = q }) edges
    (record { start = start; end = end; apart = λ k. true≢false (sym (equal_same p q k) ∙ e) }) rest

proper_after : (p : Pt) (others : List Pt) → IsInLimit p → IsWayInLimit others → All IsEdge (edges_after p others)
proper_after p [] start within = All-nil IsEdge
proper_after p (q ∷ others) start within =
    let end = All-head IsInLimit q others within in
    proper_before (is_same_position p q) p q (edges_after q others) refl start end
    (proper_after q others end (All-tail IsInLimit q others within))

proper_way : (way : List Pt) → IsWayInLimit way → All IsEdge (edges_of way)
proper_way [] within = All-nil IsEdge
proper_way (p ∷ others) within = proper_after p others (All-head IsInLimit p others within) (All-tail IsInLimit p others within)

proper_rings : (rings : List (List Pt)) → All IsRingShaped rings → All IsEdge (edges_of_rings rings)
proper_rings [] shaped = All-nil IsEdge
proper_rings (ring ∷ rings) shaped =
    All-append IsEdge (edges_of ring) (edges_of_rings rings) (proper_way ring (All-head IsRingShaped ring rings shaped).within)
    (proper_rings rings (All-tail IsRingShaped ring rings shaped))

-- ---- how many
few_before : (same : Bool) (p q : Pt) (edges : List Seg) → length (edge_before same p q edges) ≤ suc (length edges)
few_before true p q edges = omega arith
few_before false p q edges = omega arith

few_after : (p : Pt) (others : List Pt) → length (edges_after p others) ≤ length others
few_after p [] = omega arith
few_after p (q ∷ others) = omega (arith, few_before (is_same_position p q) p q (edges_after q others), few_after q others)

few_way : (way : List Pt) → length (edges_of way) ≤ length way
few_way [] = omega arith
few_way (p ∷ others) = omega (arith, few_after p others)

few_rings : (rings : List (List Pt)) → length (edges_of_rings rings) ≤ sum_by length rings
few_rings [] = omega arith
few_rings (ring ∷ rings) =
    omega (arith, length-append (edges_of ring) (edges_of_rings rings), few_way ring, few_rings rings, sum_by-cons length ring rings)

-- ---- the edges of an area of a figure
module _ (f : Figure) (shaped : IsWellShaped f) (place : ℕ) (area : Area) (is : IsAtPlace f.areas place area) where
  area_shaped : IsAreaShaped area
  area_shaped = subst IsAreaShaped (get_or_from_slice_get f.areas place area area is)
      (shaped.areas place area (slice_get_within f.areas place area is))

  pub area_edges_proper : All IsEdge (edges_of_area area)
  area_edges_proper = proper_rings (rings_of area) (All-cons IsRingShaped area.shell area.holes area_shaped.shell area_shaped.holes)

  pub area_edges_few : length (edges_of_area area) ≤ 1048576
  area_edges_few =
      let here : positions_of_area (get_or f.areas place area) ≤ sum_by positions_of_area f.areas =
      get_or-le-sum_by positions_of_area f.areas place area (slice_get_within f.areas place area is) in
      let of_area : positions_of_area (get_or f.areas place area) ≡ positions_of_area area =
      ap positions_of_area (get_or_from_slice_get f.areas place area area is) in
      omega (arith, few_rings (rings_of area), sum_by-cons length area.shell area.holes, here, of_area, shaped.few)

-- ---- the heights of edges are spans
pub heights_are_spans : (edges : List Seg) → All IsEdge edges → All IsSpan (map heights_of edges)
heights_are_spans edges proper = All-map IsSpan heights_of edges (All-weaker IsEdge (λ e. IsSpan (heights_of e)) is_span edges proper)
  where
    is_span : (e : Seg) → IsEdge e → IsSpan (heights_of e)
    is_span e h = record {
      rising = omega (arith, ints, clamps);
      bottom = let a = h.start.bottom in let b = h.end.bottom in omega (arith, ints, clamps, a, b);
      top = let a = h.start.top in let b = h.end.top in omega (arith, ints, clamps, a, b);
    }

-- ---- equal edges
pub edges_equal : (r : Bool) (e f : Seg) → r ≡ (is_same_position e.a f.a && is_same_position e.b f.b) →
    (r ≡ true → e ≡ f) × (e ≡ f → r ≡ true)
edges_equal r e f is = (forward, back)
  where
    forward : r ≡ true → e ≡ f
    forward t =
        let both = and_parts (is_same_position e.a f.a) (is_same_position e.b f.b) (sym is ∙ t) in
        λ i. record { a = same_position e.a f.a both.0 i; b = same_position e.b f.b both.1 i }

    back : e ≡ f → r ≡ true
    back k = is ∙ (λ i. equal_same e.a f.a (ap (λ (s : Seg). s.a) k) i && equal_same e.b f.b (ap (λ (s : Seg). s.b) k) i)
