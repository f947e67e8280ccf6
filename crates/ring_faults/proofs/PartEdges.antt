-- The edges of parts by their places: each edge of the row is one of its part, and each edge of a part stands in the row. The edges
-- of a figure's rings are few.
use Rattle.std.proofs.Common.{◌≡◌, ℕ, zero, suc, ◌+◌, ◌<◌, ◌≤◌, List, [], ◌∷◌, length, length-append, get_or, map, ap, refl, sym}
use Rattle.std.proofs.Common.{◌∙◌, subst, arith}
use Rattle.std.specs.List.{All, Contains}
use Rattle.std.specs.Option.{option_map}
use Rattle.std.proofs.lemmas.Option.{slice_get-map, slice_get_read, slice_get_within, get_or_from_slice_get}
use Rattle.std.proofs.lemmas.List.{length-map}
use Rattle.std.proofs.lemmas.List.Elements.{All-nil, All-cons, All-head, All-tail, All-append, All-map, All-weaker}
use Rattle.plane_exact.specs.declared.point.Pt.{Pt}
use Rattle.plane_exact.specs.declared.point.Seg.{Seg}
use Rattle.point_set.specs.declared.figure.Area.{Area}
use Rattle.point_set.specs.Location.{edges_of_rings, rings_of}
use Rattle.point_set.specs.Rings.{edges_of}
use Rattle.point_set.specs.Shape.{IsAreaShaped, IsRingShaped, positions_of_area}
use Rattle.point_set.specs.Validity.{IsAtPlace}
use Rattle.figure_laws.proofs.Edges.Limits.{IsProper, proper_way}
use Rattle.figure_laws.proofs.Lists.Items.{each_both, each_map, some_left, some_right, some_map}
use Rattle.figure_laws.proofs.Lists.Least.{SomeItem}
use Rattle.figure_laws.proofs.Lists.Places.{some_same}
use Rattle.valid_laws.proofs.Edges.Few.{few_area_edges, few_ring_edges}
use Rattle.ring_faults.specs.declared.part.PartEdge.{PartEdge}
use Rattle.ring_faults.specs.Parts.{IsEdgeSound, AreEdgesSound, part_edge, of_part, edges_of_parts, segs_of}

-- ---- places
-- the segments of one part's edges are those that it was made of
pub segs_of_part : (part : ℕ) (segs : List Seg) → segs_of (of_part part segs) ≡ segs
segs_of_part part [] = refl
segs_of_part part (e ∷ segs) = ap (λ rest. e ∷ rest) (segs_of_part part segs)

-- the segment of the edge at a place
pub seg_at : (edges : List PartEdge) (i : ℕ) (edge : PartEdge) → IsAtPlace edges i edge → IsAtPlace (segs_of edges) i edge.seg
seg_at edges i edge is = slice_get-map (λ (x : PartEdge). x.seg) edges i ∙ ap (option_map (λ (x : PartEdge). x.seg)) is

-- an item of a list stands at the place that shows it
pub contained_at : (edges : List PartEdge) (edge : PartEdge) → (there : Contains edges edge) → IsAtPlace edges there.0 edge
contained_at edges edge there = slice_get_read edges (length edges) there.0 edge refl there.1 (sym there.2)

-- and an item at a place is one of the list
pub contains_at : (edges : List PartEdge) (place : ℕ) (edge : PartEdge) → IsAtPlace edges place edge → Contains edges edge
contains_at edges place edge is = (place, slice_get_within edges place edge is, get_or_from_slice_get edges place edge edge is)

-- an edge that is read at a place that is read
pub read_edge :
    (edges : List PartEdge) (items places : List ℕ) (k : ℕ) (edge : PartEdge) → items ≡ places → k < length items
    → All (λ place. place < length edges) places → edge ≡ get_or edges (get_or items k 0) edge → IsAtPlace edges (get_or places k 0) edge
read_edge edges items places k edge same below within is =
    let there : k < length places = subst (λ (ps : List ℕ). k < length ps) same below in
    slice_get_read edges (length edges) (get_or places k 0) edge refl (within k 0 there)
    (subst (λ (ps : List ℕ). edge ≡ get_or edges (get_or ps k 0) edge) same is)

-- where an edge comes from: its part, by number, and its place there
pub record IsOfPart (parts : List (List Seg)) (first : ℕ) (edge : PartEdge) : Type 0 where
  pub number : ℕ
  pub segs : List Seg
  pub segs_is : IsAtPlace parts number segs
  pub part_is : edge.part ≡ first + number
  pub place : ℕ
  pub seg_is : IsAtPlace segs place edge.seg

of_later_part : (segs : List Seg) (parts : List (List Seg)) (first : ℕ) (edge : PartEdge) → IsOfPart parts (first + 1) edge
    → IsOfPart (segs ∷ parts) first edge
of_later_part segs parts first edge h =
    record {
      number = suc h.number;
      segs = h.segs;
      segs_is = h.segs_is;
      part_is = let e = h.part_is in omega (arith, e);
      place = h.place;
      seg_is = h.seg_is;
    }

-- each edge of the row comes from a part
pub comes_from_part : (parts : List (List Seg)) (first : ℕ) (place : ℕ) (edge : PartEdge)
    → IsAtPlace (edges_of_parts first parts) place edge
    → IsOfPart parts first edge
comes_from_part [] first place edge is = cc
comes_from_part (segs ∷ parts) first place edge is =
    each_both (IsOfPart (segs ∷ parts) first) (of_part first segs) (edges_of_parts (first + 1) parts)
    (each_map (IsOfPart (segs ∷ parts) first) (part_edge first) segs here)
    (λ place edge is. of_later_part segs parts first edge (comes_from_part parts (first + 1) place edge is)) place edge is
  where
    here : (place : ℕ) (e : Seg) → IsAtPlace segs place e → IsOfPart (segs ∷ parts) first (part_edge first e)
    here place e is = record { number = 0; segs = segs; segs_is = refl; part_is = omega arith; place = place; seg_is = is }

-- each edge of a part stands in the row
pub stands_in_row : (parts : List (List Seg)) (first number : ℕ) (segs : List Seg) (place : ℕ) (e : Seg) (part : ℕ)
    → IsAtPlace parts number segs
    → IsAtPlace segs place e → part ≡ first + number
    → SomeItem (λ (edge : PartEdge). edge ≡ part_edge part e) (edges_of_parts first parts)
stands_in_row [] first number segs place e part segs_is e_is part_is = cc
stands_in_row (others ∷ parts) first zero segs place e part segs_is e_is part_is =
    some_left (λ (edge : PartEdge). edge ≡ part_edge part e) (of_part first others) (edges_of_parts (first + 1) parts)
    (some_map (λ (edge : PartEdge). edge ≡ part_edge part e) (part_edge first) others (record {
      place = place;
      item = e;
      item_is = subst (λ (s : List Seg). IsAtPlace s place e) (sym (some_same segs_is)) e_is;
      is_so = let same : first ≡ part = omega (arith, part_is) in ap (λ n. part_edge n e) same;
    }))
stands_in_row (others ∷ parts) first (suc number) segs place e part segs_is e_is part_is =
    some_right (λ (edge : PartEdge). edge ≡ part_edge part e) (of_part first others) (edges_of_parts (first + 1) parts)
    (stands_in_row parts (first + 1) number segs place e part segs_is e_is (omega (arith, part_is)))

-- ---- the edges of shaped rings are sound
pub sound_ring : (ring : List Pt) → IsRingShaped ring → All IsEdgeSound (edges_of ring)
sound_ring ring shaped =
    All-weaker IsProper IsEdgeSound (λ e h. record { start = h.first; end = h.second; moves = h.apart }) (edges_of ring)
    (proper_way ring shaped.within)

-- of one part
pub sound_part : (part : ℕ) (segs : List Seg) → All IsEdgeSound segs → AreEdgesSound (of_part part segs)
sound_part part segs all = All-map (λ (edge : PartEdge). IsEdgeSound edge.seg) (part_edge part) segs all

-- of several rings, each a part
sound_rings : (first : ℕ) (rings : List (List Pt)) → All IsRingShaped rings → AreEdgesSound (edges_of_parts first (map edges_of rings))
sound_rings first [] all = All-nil (λ (edge : PartEdge). IsEdgeSound edge.seg)
sound_rings first (ring ∷ rings) all =
    All-append (λ (edge : PartEdge). IsEdgeSound edge.seg) (of_part first (edges_of ring)) (edges_of_parts (first + 1) (map edges_of rings))
    (sound_part first (edges_of ring) (sound_ring ring (All-head IsRingShaped ring rings all)))
    (sound_rings (first + 1) rings (All-tail IsRingShaped ring rings all))

-- of an area's rings
pub sound_by_ring : (area : Area) (edges : List PartEdge) → edges ≡ edges_of_parts 0 (map edges_of (rings_of area)) → IsAreaShaped area
    → AreEdgesSound edges
sound_by_ring area edges is shaped =
    subst AreEdgesSound (sym is)
    (sound_rings 0 (rings_of area) (All-cons IsRingShaped area.shell area.holes shaped.shell shaped.holes))

-- ---- how many edges there are
-- as many as those of the rings together
count_parts : (first : ℕ) (rings : List (List Pt)) → length (edges_of_parts first (map edges_of rings)) ≡ length (edges_of_rings rings)
count_parts first [] = refl
count_parts first (ring ∷ rings) =
    omega (
      arith,
      length-append (of_part first (edges_of ring)) (edges_of_parts (first + 1) (map edges_of rings)),
      length-map (edges_of ring) (part_edge first),
      length-append (edges_of ring) (edges_of_rings rings),
      count_parts (first + 1) rings,
    )

-- so there are few where an area has few positions
pub few_by_ring : (area : Area) (edges : List PartEdge) → edges ≡ edges_of_parts 0 (map edges_of (rings_of area)) → IsAreaShaped area
    → positions_of_area area ≤ 1048576 → length edges ≤ 1048576
few_by_ring area edges is shaped few = omega (arith, ap length is, few_area_edges area shaped few, count_parts 0 (rings_of area))

-- and where a ring does
pub few_of_ring : (ring : List Pt) → IsRingShaped ring → length ring ≤ 1048576 → length (of_part 0 (edges_of ring)) ≤ 1048576
few_of_ring ring shaped few = omega (arith, few_ring_edges ring shaped few, length-map (edges_of ring) (part_edge 0))
