-- The edges of a figure are those of its lines and those of its rings; the ends of each are positions of the figure.
use Rattle.std.proofs.Common.{◌≡◌, ℕ, ◌+◌, Bool, false, List, [], ◌∷◌, ◌++◌, map, ap, refl, sym, ◌∙◌}
use Rattle.std.specs.List.{list_any}
use Rattle.std.proofs.lemmas.Bool.{or_parts, or_from}
use Rattle.plane_exact.specs.declared.point.Pt.{Pt}
use Rattle.plane_exact.specs.declared.point.Seg.{Seg}
use Rattle.point_set.specs.declared.figure.Area.{Area}
use Rattle.point_set.specs.declared.figure.Figure.{Figure}
use Rattle.point_set.specs.Edges.{OwnedEdge, owned_by, edges_of_lines, edges_of_area_rings, edges_of_areas}
use Rattle.point_set.specs.Location.{rings_of, edges_of_rings}
use Rattle.point_set.specs.Rings.{edges_of}
use Rattle.point_set.specs.declared.edge.Owner.{Owner}
use Rattle.point_set.specs.declared.edge.Owner.TheVariants.{Line, Ring}
use Rattle.point_set.specs.Nodes.{rings_of_areas, segs_of}

-- ---- the segments of owned edges
-- the segments of edges in a row are the edges
owned_segs : (owner : Owner) (edges : List Seg) → map (λ edge. edge.seg) (owned_by owner edges) ≡ edges
owned_segs owner [] = refl
owned_segs owner (e ∷ edges) = ap (λ rest. e ∷ rest) (owned_segs owner edges)

-- segments of two lists of owned edges
segs_append : (xs ys : List OwnedEdge) → map (λ edge. edge.seg) (xs ++ ys) ≡ map (λ edge. edge.seg) xs ++ map (λ edge. edge.seg) ys
segs_append [] ys = refl
segs_append (x ∷ xs) ys = ap (λ rest. x.seg ∷ rest) (segs_append xs ys)

-- two rows of edges, one after the other
append_assoc : (xs ys zs : List Seg) → (xs ++ ys) ++ zs ≡ xs ++ (ys ++ zs)
append_assoc [] ys zs = refl
append_assoc (x ∷ xs) ys zs = ap (λ rest. x ∷ rest) (append_assoc xs ys zs)

-- the segments of the lines' edges
segs_of_lines : (k : ℕ) (lines : List (List Pt)) → map (λ edge. edge.seg) (edges_of_lines k lines) ≡ edges_of_rings lines
segs_of_lines k [] = refl
segs_of_lines k (line ∷ lines) =
    segs_append (owned_by (Line k) (edges_of line)) (edges_of_lines (k + 1) lines)
    ∙ (λ i. owned_segs (Line k) (edges_of line) i ++ segs_of_lines (k + 1) lines i)

-- the segments of the edges of one area's rings
segs_of_rings : (k ring : ℕ) (rings : List (List Pt)) → map (λ edge. edge.seg) (edges_of_area_rings k ring rings) ≡ edges_of_rings rings
segs_of_rings k ring [] = refl
segs_of_rings k ring (positions ∷ rings) =
    segs_append (owned_by (Ring k ring) (edges_of positions)) (edges_of_area_rings k (ring + 1) rings)
    ∙ (λ i. owned_segs (Ring k ring) (edges_of positions) i ++ segs_of_rings k (ring + 1) rings i)

-- edges of rings in two lists
pub rings_append : (xs ys : List (List Pt)) → edges_of_rings (xs ++ ys) ≡ edges_of_rings xs ++ edges_of_rings ys
rings_append [] ys = refl
rings_append (x ∷ xs) ys =
    ap (λ rest. edges_of x ++ rest) (rings_append xs ys) ∙ sym (append_assoc (edges_of x) (edges_of_rings xs) (edges_of_rings ys))

-- the segments of the areas' edges
segs_of_areas : (k : ℕ) (areas : List Area) → map (λ edge. edge.seg) (edges_of_areas k areas) ≡ edges_of_rings (rings_of_areas areas)
segs_of_areas k [] = refl
segs_of_areas k (area ∷ areas) =
    segs_append (edges_of_area_rings k 0 (rings_of area)) (edges_of_areas (k + 1) areas)
    ∙ (λ i. segs_of_rings k 0 (rings_of area) i ++ segs_of_areas (k + 1) areas i)
    ∙ sym (rings_append (rings_of area) (rings_of_areas areas))

-- a figure's edges: first of the lines, then of the rings
pub segs_are : (f : Figure) → segs_of f ≡ edges_of_rings f.lines ++ edges_of_rings (rings_of_areas f.areas)
segs_are f =
    segs_append (edges_of_lines 0 f.lines) (edges_of_areas 0 f.areas) ∙ (λ i. segs_of_lines 0 f.lines i ++ segs_of_areas 0 f.areas i)

-- ---- a test that no item of two lists meets
-- no item of either list meets it
pub none_append :
    {X : Type 0} (test : X → Bool) (xs ys : List X) → list_any test (xs ++ ys) ≡ false
    → (list_any test xs ≡ false) × (list_any test ys ≡ false)
none_append test [] ys h = (refl, h)
none_append test (x ∷ xs) ys h =
    let tests = or_parts (test x) (list_any test (xs ++ ys)) h in
    let rest = none_append test xs ys tests.1 in
    (or_from (test x) (list_any test xs) tests.0 rest.0, rest.1)

-- and back
pub none_joined :
    {X : Type 0} (test : X → Bool) (xs ys : List X) → list_any test xs ≡ false → list_any test ys ≡ false → list_any test (xs ++ ys) ≡ false
none_joined test [] ys h k = k
none_joined test (x ∷ xs) ys h k =
    let tests = or_parts (test x) (list_any test xs) h in
    or_from (test x) (list_any test (xs ++ ys)) tests.0 (none_joined test xs ys tests.1 k)
