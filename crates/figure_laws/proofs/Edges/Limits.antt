-- Every edge of a figure has two different ends within the limit on coordinates, and there are no more edges than positions.
use Rattle.std.proofs.Common.{◌≡◌, ℕ, ◌+◌, ◌≤◌, Bool, true, false, List, [], ◌∷◌, ◌++◌, length, ap, refl, sym, ◌∙◌, arith, length-append}
use Rattle.std.specs.Prelude.{sum_by}
use Rattle.std.specs.List.{All}
use Rattle.std.specs.Ordering.{int_eq}
use Rattle.std.proofs.lemmas.Bool.{true≢false, and_from}
use Rattle.std.proofs.lemmas.Bool.Decides.{Decides-int_eq}
use Rattle.std.proofs.lemmas.List.{length-map}
use Rattle.std.proofs.lemmas.List.Elements.{All-head, All-tail, All-cons, All-nil, All-append, All-map}
use Rattle.std.proofs.lemmas.List.Sums.{sum_by-cons}
use Rattle.plane_exact.specs.Places.{IsInLimit}
use Rattle.plane_exact.specs.declared.point.Pt.{Pt}
use Rattle.plane_exact.specs.declared.point.Seg.{Seg}
use Rattle.point_set.specs.declared.edge.Owner.{Owner}
use Rattle.point_set.specs.declared.edge.Owner.TheVariants.{Line, Ring}
use Rattle.point_set.specs.declared.figure.Area.{Area}
use Rattle.point_set.specs.declared.figure.Figure.{Figure}
use Rattle.point_set.specs.Edges.{OwnedEdge, owned_by, edges_of_lines, edges_of_area_rings, edges_of_areas, edges_of_figure}
use Rattle.point_set.specs.Location.{rings_of}
use Rattle.point_set.specs.Rings.{is_same_position, edge_before, edges_after, edges_of}
use Rattle.point_set.specs.Shape.{IsWayInLimit, IsLineShaped, IsRingShaped, IsAreaShaped, IsWellShaped, positions_of, positions_of_area}

-- an edge has two different ends within the limit
pub record IsProper (e : Seg) : Type 0 where
  pub first : IsInLimit e.a
  pub second : IsInLimit e.b
  pub apart : ¬ (e.a ≡ e.b)

-- ---- along a way
-- a position is the same as itself
position_same : (p : Pt) → is_same_position p p ≡ true
position_same p = and_from (int_eq p.x p.x) (int_eq p.y p.y) ((Decides-int_eq p.x p.x).1 refl) ((Decides-int_eq p.y p.y).1 refl)

-- one more edge in front, or none
proper_before : (b : Bool) (p q : Pt) (edges : List Seg) → is_same_position p q ≡ b → IsInLimit p → IsInLimit q → All IsProper edges
    → All IsProper (edge_before b p q edges)
proper_before true p q edges same hp hq h = h
proper_before false p q edges same hp hq h =
    All-cons IsProper (record { a = p; b = q }) edges (record { first = hp; second = hq; apart = apart }) h
  where
    apart : ¬ (p ≡ q)
    apart e = true≢false (sym (position_same p) ∙ ap (is_same_position p) e ∙ same)

-- the edges of a way that goes on from p
proper_after : (p : Pt) (others : List Pt) → IsInLimit p → IsWayInLimit others → All IsProper (edges_after p others)
proper_after p [] hp h = All-nil IsProper
proper_after p (q ∷ others) hp h =
    let hq = All-head IsInLimit q others h in
    proper_before (is_same_position p q) p q (edges_after q others) refl hp hq (proper_after q others hq (All-tail IsInLimit q others h))

-- the edges of a way
pub proper_way : (way : List Pt) → IsWayInLimit way → All IsProper (edges_of way)
proper_way [] h = All-nil IsProper
proper_way (p ∷ others) h = proper_after p others (All-head IsInLimit p others h) (All-tail IsInLimit p others h)

-- ---- with their owners
-- the same of an edge with its owner
abbrev pub IsOwnedProper : OwnedEdge → Type 0
IsOwnedProper edge = IsProper edge.seg

-- the edges of a way, owned
proper_owned : (owner : Owner) (way : List Pt) → IsWayInLimit way → All IsOwnedProper (owned_by owner (edges_of way))
proper_owned owner way h = All-map IsOwnedProper (λ seg. record { seg = seg; owner = owner }) (edges_of way) (proper_way way h)

-- the edges of lines
proper_lines : (place : ℕ) (lines : List (List Pt)) → All IsLineShaped lines → All IsOwnedProper (edges_of_lines place lines)
proper_lines place [] h = All-nil IsOwnedProper
proper_lines place (line ∷ lines) h =
    All-append IsOwnedProper (owned_by (Line place) (edges_of line)) (edges_of_lines (place + 1) lines)
    (proper_owned (Line place) line (All-head IsLineShaped line lines h).within)
    (proper_lines (place + 1) lines (All-tail IsLineShaped line lines h))

-- the edges of rings
proper_rings : (place ring : ℕ) (rings : List (List Pt)) → All IsRingShaped rings
    → All IsOwnedProper (edges_of_area_rings place ring rings)
proper_rings place ring [] h = All-nil IsOwnedProper
proper_rings place ring (way ∷ rings) h =
    All-append IsOwnedProper (owned_by (Ring place ring) (edges_of way)) (edges_of_area_rings place (ring + 1) rings)
    (proper_owned (Ring place ring) way (All-head IsRingShaped way rings h).within)
    (proper_rings place (ring + 1) rings (All-tail IsRingShaped way rings h))

-- the edges of areas
proper_areas : (place : ℕ) (areas : List Area) → All IsAreaShaped areas → All IsOwnedProper (edges_of_areas place areas)
proper_areas place [] h = All-nil IsOwnedProper
proper_areas place (area ∷ areas) h =
    let shaped = All-head IsAreaShaped area areas h in
    All-append IsOwnedProper (edges_of_area_rings place 0 (rings_of area)) (edges_of_areas (place + 1) areas)
    (proper_rings place 0 (rings_of area) (All-cons IsRingShaped area.shell area.holes shaped.shell shaped.holes))
    (proper_areas (place + 1) areas (All-tail IsAreaShaped area areas h))

-- the edges of a figure
pub proper_figure : (f : Figure) → IsWellShaped f → All IsOwnedProper (edges_of_figure f)
proper_figure f shaped =
    All-append IsOwnedProper (edges_of_lines 0 f.lines) (edges_of_areas 0 f.areas) (proper_lines 0 f.lines shaped.lines)
    (proper_areas 0 f.areas shaped.areas)

-- ---- how many edges there are
-- one edge in front at most
length-edge_before : (b : Bool) (p q : Pt) (edges : List Seg) → length (edge_before b p q edges) ≤ length edges + 1
length-edge_before true p q edges = omega arith
length-edge_before false p q edges = omega arith

-- one for each further position at most
length-edges_after : (p : Pt) (others : List Pt) → length (edges_after p others) ≤ length others
length-edges_after p [] = omega arith
length-edges_after p (q ∷ others) =
    omega (arith, length-edges_after q others, length-edge_before (is_same_position p q) p q (edges_after q others))

-- no more than positions
length-edges_of : (way : List Pt) → length (edges_of way) ≤ length way
length-edges_of [] = omega arith
length-edges_of (p ∷ others) = omega (arith, length-edges_after p others)

-- with owners there are as many
length-owned : (owner : Owner) (way : List Pt) → length (owned_by owner (edges_of way)) ≤ length way
length-owned owner way =
    omega (
      arith,
      length-edges_of way,
      length-map (edges_of way)
          (λ (seg : Seg). let edge : OwnedEdge = record { seg = seg; owner = owner } in edge),
    )

-- of lines
length-lines : (place : ℕ) (lines : List (List Pt)) → length (edges_of_lines place lines) ≤ sum_by length lines
length-lines place [] = omega arith
length-lines place (line ∷ lines) =
    omega (
      arith,
      length-append (owned_by (Line place) (edges_of line)) (edges_of_lines (place + 1) lines),
      length-owned (Line place) line,
      length-lines (place + 1) lines,
      sum_by-cons length line lines,
    )

-- of rings
length-rings : (place ring : ℕ) (rings : List (List Pt)) → length (edges_of_area_rings place ring rings) ≤ sum_by length rings
length-rings place ring [] = omega arith
length-rings place ring (way ∷ rings) =
    omega (
      arith,
      length-append (owned_by (Ring place ring) (edges_of way)) (edges_of_area_rings place (ring + 1) rings),
      length-owned (Ring place ring) way,
      length-rings place (ring + 1) rings,
      sum_by-cons length way rings,
    )

-- of areas
length-areas : (place : ℕ) (areas : List Area) → length (edges_of_areas place areas) ≤ sum_by positions_of_area areas
length-areas place [] = omega arith
length-areas place (area ∷ areas) =
    omega (
      arith,
      length-append (edges_of_area_rings place 0 (rings_of area)) (edges_of_areas (place + 1) areas),
      length-rings place 0 (rings_of area),
      length-areas (place + 1) areas,
      sum_by-cons positions_of_area area areas,
      sum_by-cons length area.shell area.holes,
    )

-- of a figure
pub few_edges : (f : Figure) → IsWellShaped f → length (edges_of_figure f) ≤ 1048576
few_edges f shaped =
    let few = shaped.few in
    omega (arith, few, length-append (edges_of_lines 0 f.lines) (edges_of_areas 0 f.areas), length-lines 0 f.lines, length-areas 0 f.areas)
