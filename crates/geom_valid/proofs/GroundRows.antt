-- The rows of a ring read as an area, and those of an area.
use Rattle.std.proofs.Common.{◌≡◌, ℕ, suc, ◌+◌, ◌≤◌, List, [], ◌∷◌, ◌++◌, length, get_or, ap, refl, sym, ◌∙◌, subst, arith}
use Rattle.std.specs.Prelude.{map, Some}
use Rattle.std.specs.List.{All}
use Rattle.std.proofs.lemmas.List.{get_or-map, length-map}
use Rattle.std.proofs.lemmas.List.Elements.{All-nil, All-cons, All-append, All-same, All-head, All-tail, All-weaker}
use Rattle.plane_exact.specs.declared.point.Pt.{Pt}
use Rattle.plane_exact.specs.declared.point.Seg.{Seg}
use Rattle.point_set.specs.declared.edge.Edge.{Edge}
use Rattle.point_set.specs.declared.edge.Hand.{Hand}
use Rattle.point_set.specs.declared.edge.Owner.{Owner}
use Rattle.point_set.specs.declared.edge.Owner.TheVariants.{Ring}
use Rattle.point_set.specs.declared.figure.Area.{Area}
use Rattle.point_set.specs.Edges.{OwnedEdge, IsAreaHand, area_of, edges_of_area_rings, owned_by}
use Rattle.point_set.specs.Location.{edges_of_rings, rings_of}
use Rattle.point_set.specs.Rings.{edges_of}
use Rattle.point_set.specs.Shape.{IsAreaShaped, IsRingShaped, positions_of_area}
use Rattle.point_set.specs.Validity.{IsAtPlace}
use Rattle.figure_laws.proofs.Edges.Limits.{IsProper, proper_way}
use Rattle.side_laws.proofs.Areas.Hands.{AreRingsClean, shell_hand}
use Rattle.ring_sides.specs.Rows.{AddsArea, AddsRing, owned_edges, row_of}
use Rattle.ring_sides.proofs.Laws.{row_owners}
use Rattle.valid_laws.specs.Entering.{disc_of, edges_in, IsClean, IsSimpleRing}
use Rattle.valid_laws.proofs.Clauses.OverAllPoints.{disc_clean, disc_edges}
use Rattle.valid_laws.proofs.Edges.Few.{few_area_edges, few_ring_edges}
use Rattle.area_entry.specs.Grounds.{AreRowsOf}
use Rattle.area_entry.specs.RowSections.{AreOfOneArea, IsRowSound}

-- the segments of rows
abbrev segs_in : List Edge → List Seg
segs_in rows = map (λ row. row.seg) rows

-- ---- edges with two different ends within the limit
-- those of rings
proper_rings : (rings : List (List Pt)) → All IsRingShaped rings → All IsProper (edges_of_rings rings)
proper_rings [] shaped = All-nil IsProper
proper_rings (ring ∷ rings) shaped =
    All-append IsProper (edges_of ring) (edges_of_rings rings) (proper_way ring (All-head IsRingShaped ring rings shaped).within)
    (proper_rings rings (All-tail IsRingShaped ring rings shaped))

-- so are the rows of such edges
rows_sound : (rows : List Edge) (segs : List Seg) → segs_in rows ≡ segs → All IsProper segs → All IsRowSound rows
rows_sound rows segs same proper i d below =
    let there : IsProper (get_or (segs_in rows) i d.seg)
    = All-same IsProper (segs_in rows) segs same proper i d.seg (omega (arith, below, length-map rows (λ (row : Edge). row.seg))) in
    let here : IsProper (get_or rows i d).seg = subst IsProper (get_or-map (λ (row : Edge). row.seg) rows i d d.seg below) there in
    record { start = here.first; end = here.second; moves = here.apart }

-- ---- a ring read as an area
ring_segs : (owner : Owner) (side : Hand) (edges : List Seg) → segs_in (map (row_of owner side) edges) ≡ edges
ring_segs owner side [] = refl
ring_segs owner side (e ∷ edges) = ap (λ rest. e ∷ rest) (ring_segs owner side edges)

ring_owned :
    (place k : ℕ) (side : Hand) (edges : List Seg) → All (λ row. area_of row.owner ≡ Some place) (map (row_of (Ring place k) side) edges)
ring_owned place k side [] = All-nil (λ (row : Edge). area_of row.owner ≡ Some place)
ring_owned place k side (e ∷ edges) =
    All-cons (λ (row : Edge). area_of row.owner ≡ Some place) (row_of (Ring place k) side e) (map (row_of (Ring place k) side) edges) refl
    (ring_owned place k side edges)

ring_hands :
    (area : Area) (owner : Owner) (side : Hand) (edges : List Seg) → ((i : ℕ) (e : Seg) → IsAtPlace edges i e → IsAreaHand area e side)
    → All (λ row. IsAreaHand area row.seg row.hand) (map (row_of owner side) edges)
ring_hands area owner side [] h = All-nil (λ (row : Edge). IsAreaHand area row.seg row.hand)
ring_hands area owner side (e ∷ edges) h =
    All-cons (λ (row : Edge). IsAreaHand area row.seg row.hand) (row_of owner side e) (map (row_of owner side) edges) (h 0 e refl)
    (ring_hands area owner side edges (λ i f is. h (suc i) f is))

pub ring_rows_are : (ring : List Pt) → IsSimpleRing ring → (owner : Owner) (rows : List Edge) → AddsRing ring owner [] rows
    → AreRowsOf (disc_of ring) rows
ring_rows_are ring simple owner rows so = record {
  segs = ap segs_in so.joined ∙ ring_segs owner so.side (edges_of ring) ∙ sym (disc_edges ring);
  hands = All-same (λ row. IsAreaHand (disc_of ring) row.seg row.hand) rows (map (row_of owner so.side) (edges_of ring)) so.joined
      (ring_hands (disc_of ring) owner so.side (edges_of ring)
      (shell_hand (disc_of ring) rings_clean so.side so.inside));
}
  where
    clean : IsClean (disc_of ring)
    clean = disc_clean ring simple

    rings_clean : AreRingsClean (disc_of ring)
    rings_clean = record { shaped = clean.shaped; unshared = clean.unshared; within = clean.within; unlapped = clean.unlapped }

pub ring_rows_one : (ring : List Pt) (place k : ℕ) (rows : List Edge) → AddsRing ring (Ring place k) [] rows → AreOfOneArea rows
ring_rows_one ring place k rows so = record {
  place = place;
  owned = All-same (λ row. area_of row.owner ≡ Some place) rows (map (row_of (Ring place k) so.side) (edges_of ring)) so.joined
      (ring_owned place k so.side (edges_of ring));
}

pub ring_rows_sound : (ring : List Pt) → IsRingShaped ring → (owner : Owner) (rows : List Edge) → AddsRing ring owner [] rows
    → All IsRowSound rows
ring_rows_sound ring shaped owner rows so =
    rows_sound rows (edges_of ring) (ap segs_in so.joined ∙ ring_segs owner so.side (edges_of ring))
    (proper_way ring shaped.within)

-- a ring of few positions has few edges
pub ring_rows_few :
    (ring : List Pt) → IsRingShaped ring → length ring ≤ 1048576 → (owner : Owner) (rows : List Edge) → AddsRing ring owner [] rows
    → length rows ≤ 1048576
ring_rows_few ring shaped few owner rows so =
    omega (
      arith,
      few_ring_edges ring shaped few,
      ap length so.joined,
      length-map (edges_of ring) (row_of owner so.side),
    )

-- ---- an area
-- the segments of its edges
owned_segs : (owner : Owner) (edges : List Seg) (rest : List OwnedEdge) → map (λ edge. edge.seg) (owned_by owner edges ++ rest)
    ≡ edges ++ map (λ edge. edge.seg) rest
owned_segs owner [] rest = refl
owned_segs owner (e ∷ edges) rest = ap (λ more. e ∷ more) (owned_segs owner edges rest)

area_segs :
    (place first : ℕ) (rings : List (List Pt)) → map (λ edge. edge.seg) (edges_of_area_rings place first rings) ≡ edges_of_rings rings
area_segs place first [] = refl
area_segs place first (ring ∷ rings) =
    owned_segs (Ring place first) (edges_of ring) (edges_of_area_rings place (first + 1) rings)
    ∙ ap (λ rest. edges_of ring ++ rest) (area_segs place (first + 1) rings)

segs_owned : (rows : List Edge) → segs_in rows ≡ map (λ edge. edge.seg) (owned_edges rows)
segs_owned [] = refl
segs_owned (row ∷ rows) = ap (λ rest. row.seg ∷ rest) (segs_owned rows)

pub area_rows_are : (area : Area) (place : ℕ) (rows : List Edge) → AddsArea area place [] rows → AreRowsOf area rows
area_rows_are area place rows so = record {
  segs =
      ap segs_in so.joined ∙ segs_owned so.more ∙ ap (λ (edges : List OwnedEdge). map (λ edge. edge.seg) edges) so.edges
      ∙ area_segs place 0 (rings_of area);
  hands = All-same (λ row. IsAreaHand area row.seg row.hand) rows so.more so.joined so.hands;
}

pub area_rows_one : (area : Area) (place : ℕ) (rows : List Edge) → AddsArea area place [] rows → AreOfOneArea rows
area_rows_one area place rows so = record {
  place = place;
  owned = All-same (λ row. area_of row.owner ≡ Some place) rows so.more so.joined
      (All-weaker (λ row. (ring : ℕ) × (row.owner ≡ Ring place ring)) (λ row. area_of row.owner ≡ Some place)
      (λ row own. ap area_of own.1) so.more
      (row_owners place 0 (rings_of area) so.more so.edges));
}

pub area_rows_sound : (area : Area) → IsAreaShaped area → (place : ℕ) (rows : List Edge) → AddsArea area place [] rows → All IsRowSound rows
area_rows_sound area shaped place rows so =
    rows_sound rows (edges_in area) (area_rows_are area place rows so).segs
    (proper_rings (rings_of area) (All-cons IsRingShaped area.shell area.holes shaped.shell shaped.holes))

pub area_rows_few : (area : Area) → IsAreaShaped area → positions_of_area area ≤ 1048576 → (place : ℕ) (rows : List Edge)
    → AddsArea area place [] rows → length rows ≤ 1048576
area_rows_few area shaped few place rows so =
    omega (
      arith,
      few_area_edges area shaped few,
      ap length (area_rows_are area place rows so).segs,
      length-map rows (λ (row : Edge). row.seg),
    )
