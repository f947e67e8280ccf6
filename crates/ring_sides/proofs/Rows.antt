-- Rows of edges, one line, ring or area on, and the hands of an area's edges.
use Rattle.std.proofs.Common.{◌≡◌, ℕ, suc, ◌+◌, ◌<◌, ◌≤◌, List, [], ◌∷◌, ◌++◌, map, length, drop, get_or, ap, refl, sym, ◌∙◌, subst}
use Rattle.std.proofs.Common.{arith, add-one}
use Rattle.std.specs.List.{All}
use Rattle.std.proofs.Math.Seq.{drop-cons}
use Rattle.std.proofs.lemmas.Option.{slice_get_read, get_or_from_slice_get, slice_get_within}
use Rattle.std.proofs.lemmas.List.{append_assoc, append-nil, map-append, get_or_default, get_or-map, length-map}
use Rattle.std.proofs.lemmas.List.Elements.{All-nil, All-cons, All-append, All-same}
use Rattle.plane_exact.specs.declared.point.Pt.{Pt}
use Rattle.plane_exact.specs.declared.point.Seg.{Seg}
use Rattle.point_set.specs.declared.edge.Edge.{Edge}
use Rattle.point_set.specs.declared.edge.Hand.{Hand}
use Rattle.point_set.specs.declared.edge.Owner.{Owner}
use Rattle.point_set.specs.declared.edge.Owner.TheVariants.{Line, Ring}
use Rattle.point_set.specs.declared.figure.Area.{Area}
use Rattle.point_set.specs.declared.figure.Figure.{Figure}
use Rattle.point_set.specs.Edges.{OwnedEdge, owned_by, edges_of_lines, edges_of_area_rings, edges_of_areas, HasHand, IsAreaHand}
use Rattle.point_set.specs.Location.{rings_of}
use Rattle.point_set.specs.Rings.{edges_of}
use Rattle.point_set.specs.Shape.{IsWellShaped, positions_of_area}
use Rattle.point_set.specs.Validity.{IsAtPlace, IsValid, HasTooFewPoints, CrossesItself, too_few_points, ring_cross}
use Rattle.figure_laws.proofs.Lists.Counts.{count_by_length, one_of_sum}
use Rattle.figure_laws.proofs.Lists.Places.{read_at, some_same}
use Rattle.side_laws.proofs.Areas.Hands.{AreRingsClean, area_shaped, shell_hand}
use Rattle.ring_sides.specs.Rows.{owned_edge, owned_edges, row_of, AddsArea, AddsRing, AddsRings, HasItsHand}

-- ---- lists from a place on
at_drop : {X : Type 0} (xs : List X) (i : ℕ) (x : X) → IsAtPlace xs i x → drop i xs ≡ x ∷ drop (i + 1) xs
at_drop xs i x is =
    drop-cons xs i x (slice_get_within xs i x is) ∙ (λ k. get_or_from_slice_get xs i x x is k ∷ drop (sym (add-one i) k) xs)

pub lines_from :
    (lines : List (List Pt)) (i : ℕ) (line : List Pt) → IsAtPlace lines i line
    → edges_of_lines i (drop i lines) ≡ owned_by (Line i) (edges_of line) ++ edges_of_lines (i + 1) (drop (i + 1) lines)
lines_from lines i line is = ap (edges_of_lines i) (at_drop lines i line is)

areas_from :
    (areas : List Area) (i : ℕ) (area : Area) → IsAtPlace areas i area
    → edges_of_areas i (drop i areas) ≡ edges_of_area_rings i 0 (rings_of area) ++ edges_of_areas (i + 1) (drop (i + 1) areas)
areas_from areas i area is = ap (edges_of_areas i) (at_drop areas i area is)

-- ---- rows with one owner and one hand
owned_rows : (owner : Owner) (side : Hand) (edges : List Seg) → owned_edges (map (row_of owner side) edges) ≡ owned_by owner edges
owned_rows owner side [] = refl
owned_rows owner side (e ∷ edges) = ap (λ rest. record { seg = e; owner = owner } ∷ rest) (owned_rows owner side edges)

-- what more rows of a way make of the edges so far and of those that are left
pub more_rows :
    (first all next : List OwnedEdge) (old new : List Edge) (owner : Owner) (side : Hand) (edges : List Seg)
    → new ≡ old ++ map (row_of owner side) edges → first ≡ owned_edges old ++ all → all ≡ owned_by owner edges ++ next
    → first ≡ owned_edges new ++ next
more_rows first all next old new owner side edges h e f =
    e ∙ ap (λ z. owned_edges old ++ z) f ∙ sym (append_assoc (owned_edges old) (owned_by owner edges) next)
    ∙ ap (λ z. z ++ next) (ap (λ z. owned_edges old ++ z) (sym (owned_rows owner side edges))
    ∙ sym (map-append owned_edge old (map (row_of owner side) edges)) ∙ ap owned_edges (sym h))

all_rows :
    (P : Edge → Type 0) (owner : Owner) (side : Hand) (edges : List Seg)
    → ((i : ℕ) (e : Seg) → IsAtPlace edges i e → P (row_of owner side e)) → All P (map (row_of owner side) edges)
all_rows P owner side [] h = All-nil P
all_rows P owner side (e ∷ edges) h =
    All-cons P (row_of owner side e) (map (row_of owner side) edges) (h 0 e refl) (all_rows P owner side edges (λ i f is. h (suc i) f is))

pub more_hands :
    (f : Figure) (old new : List Edge) (owner : Owner) (side : Hand) (edges : List Seg) → new ≡ old ++ map (row_of owner side) edges
    → All (HasItsHand f) old → ((i : ℕ) (e : Seg) → IsAtPlace edges i e → HasHand f owner e side) → All (HasItsHand f) new
more_hands f old new owner side edges h hands good =
    All-same (HasItsHand f) new (old ++ map (row_of owner side) edges) h
    (All-append (HasItsHand f) old (map (row_of owner side) edges) hands (all_rows (HasItsHand f) owner side edges good))

-- ---- how many holes there are
pub few_holes : (f : Figure) → IsWellShaped f → (place : ℕ) (area : Area) → IsAtPlace f.areas place area → length area.holes ≤ 1048576
few_holes f shaped place area is =
    let few = shaped.few in
    let own = one_of_sum positions_of_area f.areas place area is in
    let holes = count_by_length length area.holes
    (λ i d below. let long = ((area_shaped f shaped place area is).holes i d below).long in omega (arith, long)) in
    omega (arith, few, own, holes)

-- ---- one area on
pub area_step :
    (first : List OwnedEdge) (areas : List Area) (place : ℕ) (area : Area) → IsAtPlace areas place area → (old new : List Edge)
    → AddsArea area place old new → first ≡ owned_edges old ++ edges_of_areas place (drop place areas)
    → first ≡ owned_edges new ++ edges_of_areas (place + 1) (drop (place + 1) areas)
area_step first areas place area is old new so h =
    let own = edges_of_area_rings place 0 (rings_of area) in
    let rest = edges_of_areas (place + 1) (drop (place + 1) areas) in
    h ∙ ap (λ z. owned_edges old ++ z) (areas_from areas place area is)
    ∙ sym (append_assoc (owned_edges old) own rest)
    ∙ ap (λ z. z ++ rest)
    (ap (λ z. owned_edges old ++ z) (sym so.edges) ∙ sym (map-append owned_edge old so.more) ∙ ap owned_edges (sym so.joined))

-- ---- the rows of an area's rings
-- the hand of each new row of a ring
ring_hands :
    (area : Area) (owner : Owner) (side : Hand) (edges : List Seg) → ((i : ℕ) (e : Seg) → IsAtPlace edges i e → IsAreaHand area e side)
    → All (λ row. IsAreaHand area row.seg row.hand) (map (row_of owner side) edges)
ring_hands area owner side edges h = all_rows (λ row. IsAreaHand area row.seg row.hand) owner side edges h

-- one ring more, behind those so far
pub ring_added :
    (area : Area) (place first : ℕ) (rings : List (List Pt)) (ring : List Pt) (k : ℕ) → k ≡ first + length rings → (side : Hand)
    → ((i : ℕ) (e : Seg) → IsAtPlace (edges_of ring) i e → IsAreaHand area e side) → (old mid new : List Edge)
    → AddsRings area place first rings old mid → new ≡ mid ++ map (row_of (Ring place k) side) (edges_of ring)
    → AddsRings area place first (rings ++ ring ∷ []) old new
ring_added area place first rings ring k k_is side hands old mid new so h =
    let own = map (row_of (Ring place k) side) (edges_of ring) in
    record {
      more = so.more ++ own;
      joined = h ∙ ap (λ rows. rows ++ own) so.joined ∙ append_assoc old so.more own;
      edges = map-append owned_edge so.more own ∙ ap (λ os. os ++ owned_edges own) so.edges
          ∙ ap (λ os. edges_of_area_rings place first rings ++ os) (owned_rows (Ring place k) side (edges_of ring))
          ∙ sym (last_ring first rings k_is);
      hands =
          All-append (λ row. IsAreaHand area row.seg row.hand) so.more own so.hands
          (ring_hands area (Ring place k) side (edges_of ring) hands);
    }
  where
    last_ring :
        (from : ℕ) (before : List (List Pt)) → k ≡ from + length before
        → edges_of_area_rings place from (before ++ ring ∷ []) ≡ edges_of_area_rings place from before
        ++ owned_by (Ring place k) (edges_of ring)
    last_ring from [] e =
        append-nil (owned_by (Ring place from) (edges_of ring)) ∙ ap (λ j. owned_by (Ring place j) (edges_of ring)) (sym (omega (arith, e)))
    last_ring from (r ∷ before) e =
        ap (λ os. owned_by (Ring place from) (edges_of r) ++ os) (last_ring (from + 1) before (omega (arith, e)))
        ∙ sym (append_assoc (owned_by (Ring place from) (edges_of r)) (edges_of_area_rings place (from + 1) before)
        (owned_by (Ring place k) (edges_of ring)))

-- the shell, and then the holes
pub shell_and_holes :
    (area : Area) (place : ℕ) → AreRingsClean area → (old mid new : List Edge) → AddsRing area.shell (Ring place 0) old mid
    → AddsRings area place 1 area.holes mid new → AddsRings area place 0 (rings_of area) old new
shell_and_holes area place clean old mid new shell holes =
    let own = map (row_of (Ring place 0) shell.side) (edges_of area.shell) in
    record {
      more = own ++ holes.more;
      joined = holes.joined ∙ ap (λ rows. rows ++ holes.more) shell.joined ∙ append_assoc old own holes.more;
      edges =
          map-append owned_edge own holes.more
          ∙ ap (λ os. os ++ owned_edges holes.more) (owned_rows (Ring place 0) shell.side (edges_of area.shell))
          ∙ ap (λ os. owned_by (Ring place 0) (edges_of area.shell) ++ os) holes.edges;
      hands = All-append (λ row. IsAreaHand area row.seg row.hand) own holes.more
          (ring_hands area (Ring place 0) shell.side (edges_of area.shell) (shell_hand area clean shell.side shell.inside)) holes.hands;
    }

-- ---- the owners of an area's rows
-- each is one of the area's rings
abbrev pub IsRingOf : ℕ → Owner → Type 0
IsRingOf place owner = (ring : ℕ) × (owner ≡ Ring place ring)

ring_owners : (place first : ℕ) (rings : List (List Pt)) → All (λ edge. IsRingOf place edge.owner) (edges_of_area_rings place first rings)
ring_owners place first [] = All-nil (λ (edge : OwnedEdge). IsRingOf place edge.owner)
ring_owners place first (ring ∷ rings) =
    All-append (λ (edge : OwnedEdge). IsRingOf place edge.owner) (owned_by (Ring place first) (edges_of ring))
    (edges_of_area_rings place (first + 1) rings)
    (own (edges_of ring)) (ring_owners place (first + 1) rings)
  where
    own : (edges : List Seg) → All (λ edge. IsRingOf place edge.owner) (owned_by (Ring place first) edges)
    own [] = All-nil (λ (edge : OwnedEdge). IsRingOf place edge.owner)
    own (e ∷ edges) =
        All-cons (λ (edge : OwnedEdge). IsRingOf place edge.owner) (record { seg = e; owner = Ring place first })
        (owned_by (Ring place first) edges) (first, refl) (own edges)

pub row_owners :
    (place first : ℕ) (rings : List (List Pt)) (rows : List Edge) → owned_edges rows ≡ edges_of_area_rings place first rings
    → All (λ row. IsRingOf place row.owner) rows
row_owners place first rings rows same i d below =
    subst (λ (edge : OwnedEdge). IsRingOf place edge.owner) (get_or-map owned_edge rows i d (owned_edge d) below)
    (All-same (λ (edge : OwnedEdge). IsRingOf place edge.owner) (owned_edges rows) (edges_of_area_rings place first rings) same
    (ring_owners place first rings) i (owned_edge d) (omega (arith, below, length-map rows owned_edge)))

-- so each of the rows has the hand of its edge in the figure
pub area_hands :
    (f : Figure) (place : ℕ) (area : Area) → IsAtPlace f.areas place area → (old new : List Edge) → AddsArea area place old new
    → All (HasItsHand f) old → All (HasItsHand f) new
area_hands f place area at old new so before =
    All-same (HasItsHand f) new (old ++ so.more) so.joined
    (All-append (HasItsHand f) old so.more before
    (λ i d below. its (get_or so.more i d) (row_owners place 0 (rings_of area) so.more so.edges i d below) (so.hands i d below)))
  where
    its : (row : Edge) → IsRingOf place row.owner → IsAreaHand area row.seg row.hand → HasItsHand f row
    its row own hand =
        subst (λ (owner : Owner). HasHand f owner row.seg row.hand) (sym own.1)
        (λ other is. subst (λ a. IsAreaHand a row.seg row.hand) (some_same (sym at ∙ is)) hand)

-- ---- what a valid figure's area asks
-- what was read within the list of a figure's areas is the area at that place
pub area_read :
    {f g : Figure} {items : List Area} {place : ℕ} {area : Area} → items ≡ g.areas → g ≡ f → place < length items
    → area ≡ get_or items place area → IsAtPlace f.areas place area
area_read list same below is = read_at _ _ _ _ (list ∙ ap (λ (h : Figure). h.areas) same) below is

-- what holds of the item at each place holds of all
pub all_from_places : {X : Type 0} (P : X → Type 0) (xs : List X) → ((i : ℕ) (x : X) → IsAtPlace xs i x → P x) → All P xs
all_from_places P xs h i d below =
    h i (get_or xs i d) (slice_get_read xs (length xs) i (get_or xs i d) refl below (get_or_default xs i d (get_or xs i d) below))

pub rings_enough :
    (f : Figure) → IsValid f → (place : ℕ) (area : Area) → IsAtPlace f.areas place area
    → All (λ ring. ¬ HasTooFewPoints ring) (rings_of area)
rings_enough f valid place area is =
    all_from_places (λ ring. ¬ HasTooFewPoints ring) (rings_of area)
    (λ k ring at few. valid place too_few_points
    (record { area = area; area_is = is; is_so = record { place = k; ring = ring; ring_is = at; is_so = few } }))

pub rings_simple :
    (f : Figure) → IsValid f → (place : ℕ) (area : Area) → IsAtPlace f.areas place area → All (λ ring. ¬ CrossesItself ring) (rings_of area)
rings_simple f valid place area is =
    all_from_places (λ ring. ¬ CrossesItself ring) (rings_of area)
    (λ k ring at crossed. valid place ring_cross
    (record { area = area; area_is = is; is_so = record { place = k; ring = ring; ring_is = at; is_so = crossed } }))
