-- The edges of a figure, by their owners: each edge in the figure's list is one of the line or ring that owns it, and each edge of a
-- line or a ring stands in the list.
use Rattle.std.proofs.Common.{◌≡◌, ◌⊎◌, inl, inr, ℕ, zero, suc, ◌+◌, Some, List, [], ◌∷◌, ◌++◌, ap, refl, sym, ◌∙◌, subst, arith}
use Rattle.plane_exact.specs.declared.point.Pt.{Pt}
use Rattle.plane_exact.specs.declared.point.Seg.{Seg}
use Rattle.point_set.specs.declared.edge.Owner.{Owner}
use Rattle.point_set.specs.declared.edge.Owner.TheVariants.{Line, Ring}
use Rattle.point_set.specs.declared.figure.Area.{Area}
use Rattle.point_set.specs.declared.figure.Figure.{Figure}
use Rattle.point_set.specs.Edges.{OwnedEdge, owned_by, edges_of_lines, edges_of_area_rings, edges_of_areas, edges_of_figure}
use Rattle.point_set.specs.Location.{rings_of, edges_of_rings}
use Rattle.point_set.specs.Rings.{edges_of}
use Rattle.point_set.specs.Validity.{IsAtPlace}
use Rattle.figure_laws.proofs.Lists.Places.{some_same}

-- ---- places in lists
pub record HasPlace {X : Type 0} (xs : List X) (x : X) : Type 0 where
  pub place : ℕ
  pub is : IsAtPlace xs place x

-- what stands in one of two lists stands in both together, and the other way round
place_left : {X : Type 0} (xs ys : List X) (x : X) → HasPlace xs x → HasPlace (xs ++ ys) x
place_left xs ys x h = record { place = h.place; is = go xs h.place h.is }
  where
    go : (xs : List _) (i : ℕ) → IsAtPlace xs i x → IsAtPlace (xs ++ ys) i x
    go [] i is = cc
    go (z ∷ xs) zero is = is
    go (z ∷ xs) (suc i) is = go xs i is

-- the same of the second list
place_right : {X : Type 0} (xs ys : List X) (y : X) → HasPlace ys y → HasPlace (xs ++ ys) y
place_right [] ys y h = h
place_right (x ∷ xs) ys y h = let k = place_right xs ys y h in record { place = suc k.place; is = k.is }

-- an item of both together stands in one of them
split_place : {X : Type 0} (xs ys : List X) (i : ℕ) (x : X) → IsAtPlace (xs ++ ys) i x → HasPlace xs x ⊎ HasPlace ys x
split_place [] ys i x is = inr (record { place = i; is = is })
split_place (z ∷ xs) ys zero x is = inl (record { place = 0; is = is })
split_place (z ∷ xs) ys (suc i) x is = later (split_place xs ys i x is)
  where
    later : HasPlace xs x ⊎ HasPlace ys x → HasPlace (z ∷ xs) x ⊎ HasPlace ys x
    later (inl h) = inl (record { place = suc h.place; is = h.is })
    later (inr h) = inr h

-- ---- edges of one owner
owned : Seg → Owner → OwnedEdge
owned e owner = record { seg = e; owner = owner }

-- an edge of a list stands in the list with owners, and the other way round
place_owned : (owner : Owner) (edges : List Seg) (e : Seg) → HasPlace edges e → HasPlace (owned_by owner edges) (owned e owner)
unfolding owned
place_owned owner edges e h = record { place = h.place; is = go edges h.place h.is }
  where
    go : (edges : List Seg) (i : ℕ) → IsAtPlace edges i e → IsAtPlace (owned_by owner edges) i (record { seg = e; owner = owner })
    go [] i is = cc
    go (g ∷ edges) zero is = ap (λ z. Some (owned z owner)) (some_same is)
    go (g ∷ edges) (suc i) is = go edges i is

-- an item of the list with owners has the owner, and its edge stands in the list
owned_place : (owner : Owner) (edges : List Seg) (edge : OwnedEdge) → HasPlace (owned_by owner edges) edge
    → (edge.owner ≡ owner) × HasPlace edges edge.seg
owned_place owner edges edge h = go edges h.place h.is
  where
    go : (edges : List Seg) (i : ℕ) → IsAtPlace (owned_by owner edges) i edge → (edge.owner ≡ owner) × HasPlace edges edge.seg
    go [] i is = cc
    go (g ∷ edges) zero is =
        let e = some_same is in
        (sym (ap (λ (z : OwnedEdge). z.owner) e), record { place = 0; is = ap (λ (z : OwnedEdge). Some z.seg) e })
    go (g ∷ edges) (suc i) is = let k = go edges i is in (k.0, record { place = suc k.1.place; is = k.1.is })

-- ---- lines
-- an edge of the line at place k
pub record IsLineEdge (lines : List (List Pt)) (k : ℕ) (e : Seg) : Type 0 where
  pub way : List Pt
  pub way_is : IsAtPlace lines k way
  pub here : HasPlace (edges_of way) e

-- the owner is a line of the list, counted from a place on
record IsOfLines (from : ℕ) (lines : List (List Pt)) (edge : OwnedEdge) : Type 0 where
  k : ℕ
  owner_is : edge.owner ≡ Line (from + k)
  edge_is : IsLineEdge lines k edge.seg

-- each edge in the list is one of a line, by the place that its owner names
of_lines : (from : ℕ) (lines : List (List Pt)) (edge : OwnedEdge) → HasPlace (edges_of_lines from lines) edge → IsOfLines from lines edge
of_lines from [] edge h = let is = h.is in cc
of_lines from (line ∷ lines) edge h =
    go (split_place (owned_by (Line from) (edges_of line)) (edges_of_lines (from + 1) lines) h.place edge h.is)
    (of_lines (from + 1) lines edge)
  where
    go : HasPlace (owned_by (Line from) (edges_of line)) edge ⊎ HasPlace (edges_of_lines (from + 1) lines) edge
        → (HasPlace (edges_of_lines (from + 1) lines) edge → IsOfLines (from + 1) lines edge) → IsOfLines from (line ∷ lines) edge
    go (inl p) later =
        let k = owned_place (Line from) (edges_of line) edge p in
        record { k = 0; owner_is = k.0 ∙ ap Line (omega arith); edge_is = record { way = line; way_is = refl; here = k.1 } }
    go (inr p) later =
        let r = later p in
        record {
          k = suc r.k;
          owner_is = r.owner_is ∙ ap Line (omega arith);
          edge_is = record { way = r.edge_is.way; way_is = r.edge_is.way_is; here = r.edge_is.here };
        }

-- and each edge of one of the lines stands in the list
in_lines : (from : ℕ) (lines : List (List Pt)) (k : ℕ) (e : Seg) → IsLineEdge lines k e
    → HasPlace (edges_of_lines from lines) (owned e (Line (from + k)))
in_lines from [] k e h = let is = h.way_is in cc
in_lines from (line ∷ lines) zero e h =
    subst (λ o. HasPlace (edges_of_lines from (line ∷ lines)) (owned e o)) (ap Line (omega arith))
    (place_left (owned_by (Line from) (edges_of line)) (edges_of_lines (from + 1) lines) (owned e (Line from))
    (place_owned (Line from) (edges_of line) e (subst (λ (way : List Pt). HasPlace (edges_of way) e) (sym (some_same h.way_is)) h.here)))
in_lines from (line ∷ lines) (suc k) e h =
    subst (λ o. HasPlace (edges_of_lines from (line ∷ lines)) (owned e o)) (ap Line (omega arith))
    (place_right (owned_by (Line from) (edges_of line)) (edges_of_lines (from + 1) lines) (owned e (Line ((from + 1) + k)))
    (in_lines (from + 1) lines k e (record { way = h.way; way_is = h.way_is; here = h.here })))

-- ---- the rings of an area, each by its place as for lines
record IsOfRings (place from : ℕ) (rings : List (List Pt)) (edge : OwnedEdge) : Type 0 where
  k : ℕ
  owner_is : edge.owner ≡ Ring place (from + k)
  edge_is : IsLineEdge rings k edge.seg

-- the same two of rings
of_rings : (place from : ℕ) (rings : List (List Pt)) (edge : OwnedEdge) → HasPlace (edges_of_area_rings place from rings) edge
    → IsOfRings place from rings edge
of_rings place from [] edge h = let is = h.is in cc
of_rings place from (ring ∷ rings) edge h =
    go (split_place (owned_by (Ring place from) (edges_of ring)) (edges_of_area_rings place (from + 1) rings) h.place edge h.is)
    (of_rings place (from + 1) rings edge)
  where
    go : HasPlace (owned_by (Ring place from) (edges_of ring)) edge ⊎ HasPlace (edges_of_area_rings place (from + 1) rings) edge
        → (HasPlace (edges_of_area_rings place (from + 1) rings) edge → IsOfRings place (from + 1) rings edge)
        → IsOfRings place from (ring ∷ rings) edge
    go (inl p) later =
        let k = owned_place (Ring place from) (edges_of ring) edge p in
        record { k = 0; owner_is = k.0 ∙ ap (Ring place) (omega arith); edge_is = record { way = ring; way_is = refl; here = k.1 } }
    go (inr p) later =
        let r = later p in
        record {
          k = suc r.k;
          owner_is = r.owner_is ∙ ap (Ring place) (omega arith);
          edge_is = record { way = r.edge_is.way; way_is = r.edge_is.way_is; here = r.edge_is.here };
        }

-- each edge of one of the rings stands in the list
in_rings : (place from : ℕ) (rings : List (List Pt)) (k : ℕ) (e : Seg) → IsLineEdge rings k e
    → HasPlace (edges_of_area_rings place from rings) (owned e (Ring place (from + k)))
in_rings place from [] k e h = let is = h.way_is in cc
in_rings place from (ring ∷ rings) zero e h =
    subst (λ o. HasPlace (edges_of_area_rings place from (ring ∷ rings)) (owned e o)) (ap (Ring place) (omega arith))
    (place_left (owned_by (Ring place from) (edges_of ring)) (edges_of_area_rings place (from + 1) rings) (owned e (Ring place from))
    (place_owned (Ring place from) (edges_of ring) e
    (subst (λ (way : List Pt). HasPlace (edges_of way) e) (sym (some_same h.way_is)) h.here)))
in_rings place from (ring ∷ rings) (suc k) e h =
    subst (λ o. HasPlace (edges_of_area_rings place from (ring ∷ rings)) (owned e o)) (ap (Ring place) (omega arith))
    (place_right (owned_by (Ring place from) (edges_of ring)) (edges_of_area_rings place (from + 1) rings)
    (owned e (Ring place ((from + 1) + k)))
    (in_rings place (from + 1) rings k e (record { way = h.way; way_is = h.way_is; here = h.here })))

-- ---- areas
-- an edge of ring r of the area at place k
pub record IsRingEdge (areas : List Area) (k r : ℕ) (e : Seg) : Type 0 where
  pub area : Area
  pub area_is : IsAtPlace areas k area
  pub edge_is : IsLineEdge (rings_of area) r e

-- the owner is a ring of an area of the list, counted from a place on
record IsOfAreas (from : ℕ) (areas : List Area) (edge : OwnedEdge) : Type 0 where
  k : ℕ
  r : ℕ
  owner_is : edge.owner ≡ Ring (from + k) r
  edge_is : IsRingEdge areas k r edge.seg

-- the same two of areas
of_areas : (from : ℕ) (areas : List Area) (edge : OwnedEdge) → HasPlace (edges_of_areas from areas) edge → IsOfAreas from areas edge
of_areas from [] edge h = let is = h.is in cc
of_areas from (area ∷ areas) edge h =
    go (split_place (edges_of_area_rings from 0 (rings_of area)) (edges_of_areas (from + 1) areas) h.place edge h.is)
    (of_areas (from + 1) areas edge)
  where
    go : HasPlace (edges_of_area_rings from 0 (rings_of area)) edge ⊎ HasPlace (edges_of_areas (from + 1) areas) edge
        → (HasPlace (edges_of_areas (from + 1) areas) edge → IsOfAreas (from + 1) areas edge) → IsOfAreas from (area ∷ areas) edge
    go (inl p) later =
        let r = of_rings from 0 (rings_of area) edge p in
        record {
          k = 0;
          r = r.k;
          owner_is = r.owner_is ∙ ap (λ z. Ring z (0 + r.k)) (omega arith) ∙ ap (Ring (from + 0)) (omega arith);
          edge_is = record { area = area; area_is = refl; edge_is = r.edge_is };
        }
    go (inr p) later =
        let r = later p in
        record {
          k = suc r.k;
          r = r.r;
          owner_is = r.owner_is ∙ ap (λ z. Ring z r.r) (omega arith);
          edge_is = record { area = r.edge_is.area; area_is = r.edge_is.area_is; edge_is = r.edge_is.edge_is };
        }

-- each edge of a ring of one of the areas stands in the list
in_areas : (from : ℕ) (areas : List Area) (k r : ℕ) (e : Seg) → IsRingEdge areas k r e
    → HasPlace (edges_of_areas from areas) (owned e (Ring (from + k) r))
in_areas from [] k r e h = let is = h.area_is in cc
in_areas from (area ∷ areas) zero r e h =
    subst (λ o. HasPlace (edges_of_areas from (area ∷ areas)) (owned e o)) (ap (λ z. Ring z r) (omega arith))
    (place_left (edges_of_area_rings from 0 (rings_of area)) (edges_of_areas (from + 1) areas) (owned e (Ring from r))
    (subst (λ o. HasPlace (edges_of_area_rings from 0 (rings_of area)) (owned e o)) (ap (Ring from) (omega arith))
    (in_rings from 0 (rings_of area) r e (subst (λ (a : Area). IsLineEdge (rings_of a) r e) (sym (some_same h.area_is)) h.edge_is))))
in_areas from (area ∷ areas) (suc k) r e h =
    subst (λ o. HasPlace (edges_of_areas from (area ∷ areas)) (owned e o)) (ap (λ z. Ring z r) (omega arith))
    (place_right (edges_of_area_rings from 0 (rings_of area)) (edges_of_areas (from + 1) areas) (owned e (Ring ((from + 1) + k) r))
    (in_areas (from + 1) areas k r e (record { area = h.area; area_is = h.area_is; edge_is = h.edge_is })))

-- ---- the figure
-- an edge of the line or of the ring that an owner names
abbrev pub IsEdgeOf : Figure → Owner → Seg → Type 0
IsEdgeOf f (Line k) e = IsLineEdge f.lines k e
IsEdgeOf f (Ring k r) e = IsRingEdge f.areas k r e

-- each edge in the list is one of its owner
pub edge_of_owner : (f : Figure) (edge : OwnedEdge) → HasPlace (edges_of_figure f) edge → IsEdgeOf f edge.owner edge.seg
edge_of_owner f edge h = go (split_place (edges_of_lines 0 f.lines) (edges_of_areas 0 f.areas) h.place edge h.is)
  where
    go : HasPlace (edges_of_lines 0 f.lines) edge ⊎ HasPlace (edges_of_areas 0 f.areas) edge → IsEdgeOf f edge.owner edge.seg
    go (inl p) =
        let r = of_lines 0 f.lines edge p in
        subst (λ o. IsEdgeOf f o edge.seg) (sym (r.owner_is ∙ ap Line (omega arith))) r.edge_is
    go (inr p) =
        let r = of_areas 0 f.areas edge p in
        subst (λ o. IsEdgeOf f o edge.seg) (sym (r.owner_is ∙ ap (λ z. Ring z r.r) (omega arith))) r.edge_is

-- each edge of an owner is in the list
pub owner_has_edge : (f : Figure) (owner : Owner) (e : Seg) → IsEdgeOf f owner e
    → HasPlace (edges_of_figure f) (record { seg = e; owner = owner })
unfolding owned
owner_has_edge f (Line k) e h =
    place_left (edges_of_lines 0 f.lines) (edges_of_areas 0 f.areas) (owned e (Line k))
    (subst (λ o. HasPlace (edges_of_lines 0 f.lines) (owned e o)) (ap Line (omega arith)) (in_lines 0 f.lines k e h))
owner_has_edge f (Ring k r) e h =
    place_right (edges_of_lines 0 f.lines) (edges_of_areas 0 f.areas) (owned e (Ring k r))
    (subst (λ o. HasPlace (edges_of_areas 0 f.areas) (owned e o)) (ap (λ z. Ring z r) (omega arith)) (in_areas 0 f.areas k r e h))

-- ---- an area's edges, by its rings
-- an edge of one of the rings
pub record HasRing (rings : List (List Pt)) (e : Seg) : Type 0 where
  pub k : ℕ
  pub ring : List Pt
  pub ring_is : IsAtPlace rings k ring
  pub i : ℕ
  pub is : IsAtPlace (edges_of ring) i e

-- each edge of an area is one
pub ring_of : (rings : List (List Pt)) (i : ℕ) (e : Seg) → IsAtPlace (edges_of_rings rings) i e → HasRing rings e
ring_of [] i e is = cc
ring_of (ring ∷ rings) i e is = go (split_place (edges_of ring) (edges_of_rings rings) i e is) (λ j k. ring_of rings j e k)
  where
    go : HasPlace (edges_of ring) e ⊎ HasPlace (edges_of_rings rings) e
        → ((j : ℕ) → IsAtPlace (edges_of_rings rings) j e → HasRing rings e) → HasRing (ring ∷ rings) e
    go (inl h) rest = record { k = 0; ring = ring; ring_is = refl; i = h.place; is = h.is }
    go (inr h) rest =
        let r = rest h.place h.is in
        record { k = suc r.k; ring = r.ring; ring_is = r.ring_is; i = r.i; is = r.is }

-- and each such edge is one of the area
pub ring_edge : (rings : List (List Pt)) (r : ℕ) (e : Seg) → IsLineEdge rings r e → HasPlace (edges_of_rings rings) e
ring_edge [] r e h = let is = h.way_is in cc
ring_edge (ring ∷ rings) zero e h =
    place_left (edges_of ring) (edges_of_rings rings) e
    (subst (λ (way : List Pt). HasPlace (edges_of way) e) (sym (some_same h.way_is)) h.here)
ring_edge (ring ∷ rings) (suc r) e h =
    place_right (edges_of ring) (edges_of_rings rings) e (ring_edge rings r e (record { way = h.way; way_is = h.way_is; here = h.here }))

-- an edge of an area stands in the figure's list, as one of a ring of the area
pub record IsOwnedBy (f : Figure) (k : ℕ) (e : Seg) : Type 0 where
  pub ring : ℕ
  pub place : ℕ
  pub is : IsAtPlace (edges_of_figure f) place (record { seg = e; owner = Ring k ring })

-- by its ring
pub area_edge : (f : Figure) (k : ℕ) (area : Area) → IsAtPlace f.areas k area → (i : ℕ) (e : Seg)
    → IsAtPlace (edges_of_rings (rings_of area)) i e → IsOwnedBy f k e
area_edge f k area area_is i e is =
    let r = ring_of (rings_of area) i e is in
    let p = owner_has_edge f (Ring k r.k) e (record {
      area = area;
      area_is = area_is;
      edge_is = record { way = r.ring; way_is = r.ring_is; here = record { place = r.i; is = r.is } };
    }) in
    record { ring = r.k; place = p.place; is = p.is }
