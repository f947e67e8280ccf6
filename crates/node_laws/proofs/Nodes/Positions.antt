-- The ends of a figure's edges are positions of it.
use Rattle.std.proofs.Common.{◌≡◌, ℕ, ◌+◌, Bool, true, false, ◌||◌, List, [], ◌∷◌, ◌++◌, ap, refl, sym, ◌∙◌}
use Rattle.std.proofs.lemmas.Bool.{true≢false, or_left, or_right}
use Rattle.plane_laws.proofs.Points.Same.{same_refl, Decides-is_same_point}
use Rattle.plane_laws.specs.Plane.{Point, IsSamePoint}
use Rattle.plane_exact.specs.Places.{point_of}
use Rattle.plane_exact.specs.declared.point.Pt.{Pt}
use Rattle.plane_exact.specs.declared.point.Seg.{Seg}
use Rattle.point_set.specs.declared.edge.Owner.{Owner}
use Rattle.point_set.specs.declared.edge.Owner.TheVariants.{Line, Ring}
use Rattle.point_set.specs.declared.figure.Area.{Area}
use Rattle.point_set.specs.declared.figure.Figure.{Figure}
use Rattle.point_set.specs.Edges.{OwnedEdge, owned_by, edges_of_lines, edges_of_area_rings, edges_of_areas, edges_of_figure}
use Rattle.point_set.specs.Lines.{is_at, is_at_some}
use Rattle.point_set.specs.Location.{rings_of}
use Rattle.point_set.specs.Rings.{is_same_position, edge_before, edges_after, edges_of}
use Rattle.point_set.specs.Nodes.{positions_of_ways, rings_of_areas, all_positions, segs_of, segs_of_both}
use Rattle.figure_laws.proofs.Lists.Items.{Each, each_both, each_left, each_right, each_map, some_later}
use Rattle.figure_laws.proofs.Lists.Least.{SomeItem, by_place}

module _ (IsSo : Pt → Type 0) where
  -- both ends of an edge are so
  abbrev pub HasEnds : Seg → Type 0
  HasEnds e = IsSo e.a × IsSo e.b

  -- both ends of an edge with an owner
  abbrev pub HasOwnedEnds : OwnedEdge → Type 0
  HasOwnedEnds edge = HasEnds edge.seg

  -- with an edge in front, which is left out where its ends are equal
  one_before : (b : Bool) (p q : Pt) (edges : List Seg) → IsSo p → IsSo q → Each HasEnds edges → Each HasEnds (edge_before b p q edges)
  one_before true p q edges h k f = f
  one_before false p q edges h k f = by_place (record { a = p; b = q }) edges HasEnds (h, k) f

  -- of the edges of a way that goes on from p
  ends_after : (p : Pt) (others : List Pt) → Each IsSo (p ∷ others) → Each HasEnds (edges_after p others)
  ends_after p [] f = λ place item e. cc
  ends_after p (q ∷ others) f =
      one_before (is_same_position p q) p q (edges_after q others) (f 0 p refl) (f 1 q refl)
      (ends_after q others (each_right IsSo (p ∷ []) (q ∷ others) f))

  -- of the edges of a way
  ends_of_way : (way : List Pt) → Each IsSo way → Each HasEnds (edges_of way)
  ends_of_way [] f = λ place item e. cc
  ends_of_way (p ∷ others) f = ends_after p others f

  -- of edges with an owner
  owned : (owner : Owner) (edges : List Seg) → Each HasEnds edges → Each HasOwnedEnds (owned_by owner edges)
  owned owner edges f = each_map HasOwnedEnds (λ seg. record { seg = seg; owner = owner }) edges f

  -- of the edges of lines
  ends_of_lines : (place : ℕ) (lines : List (List Pt)) → Each IsSo (positions_of_ways lines)
      → Each HasOwnedEnds (edges_of_lines place lines)
  ends_of_lines place [] f = λ i item e. cc
  ends_of_lines place (line ∷ lines) f =
      each_both HasOwnedEnds (owned_by (Line place) (edges_of line)) (edges_of_lines (place + 1) lines)
      (owned (Line place) (edges_of line) (ends_of_way line (each_left IsSo line (positions_of_ways lines) f)))
      (ends_of_lines (place + 1) lines (each_right IsSo line (positions_of_ways lines) f))

  -- of the edges of an area's rings
  ends_of_rings : (place ring : ℕ) (rings : List (List Pt)) → Each IsSo (positions_of_ways rings)
      → Each HasOwnedEnds (edges_of_area_rings place ring rings)
  ends_of_rings place ring [] f = λ i item e. cc
  ends_of_rings place ring (way ∷ ways) f =
      each_both HasOwnedEnds (owned_by (Ring place ring) (edges_of way)) (edges_of_area_rings place (ring + 1) ways)
      (owned (Ring place ring) (edges_of way) (ends_of_way way (each_left IsSo way (positions_of_ways ways) f)))
      (ends_of_rings place (ring + 1) ways (each_right IsSo way (positions_of_ways ways) f))

  -- the positions of some ways and of others
  ways_left : (ways others : List (List Pt)) → Each IsSo (positions_of_ways (ways ++ others)) → Each IsSo (positions_of_ways ways)
  ways_left [] others f = λ i item e. cc
  ways_left (way ∷ ways) others f =
      each_both IsSo way (positions_of_ways ways) (each_left IsSo way (positions_of_ways (ways ++ others)) f)
      (ways_left ways others (each_right IsSo way (positions_of_ways (ways ++ others)) f))

  -- and those of the others
  ways_right : (ways others : List (List Pt)) → Each IsSo (positions_of_ways (ways ++ others)) → Each IsSo (positions_of_ways others)
  ways_right [] others f = f
  ways_right (way ∷ ways) others f = ways_right ways others (each_right IsSo way (positions_of_ways (ways ++ others)) f)

  -- of the edges of areas
  ends_of_areas : (place : ℕ) (areas : List Area) → Each IsSo (positions_of_ways (rings_of_areas areas))
      → Each HasOwnedEnds (edges_of_areas place areas)
  ends_of_areas place [] f = λ i item e. cc
  ends_of_areas place (area ∷ areas) f =
      each_both HasOwnedEnds (edges_of_area_rings place 0 (rings_of area)) (edges_of_areas (place + 1) areas)
      (ends_of_rings place 0 (rings_of area) (ways_left (rings_of area) (rings_of_areas areas) f))
      (ends_of_areas (place + 1) areas (ways_right (rings_of area) (rings_of_areas areas) f))

  -- where all positions of a figure are so, both ends of each edge are
  pub ends_of_figure : (f : Figure) → Each IsSo (all_positions f) → Each HasEnds (segs_of f)
  ends_of_figure f h =
      let ways = each_right IsSo f.points (positions_of_ways f.lines ++ positions_of_ways (rings_of_areas f.areas)) h in
      let lines = each_left IsSo (positions_of_ways f.lines) (positions_of_ways (rings_of_areas f.areas)) ways in
      let areas = each_right IsSo (positions_of_ways f.lines) (positions_of_ways (rings_of_areas f.areas)) ways in
      each_map HasEnds (λ edge. edge.seg) (edges_of_figure f)
      (each_both HasOwnedEnds (edges_of_lines 0 f.lines) (edges_of_areas 0 f.areas) (ends_of_lines 0 f.lines lines)
      (ends_of_areas 0 f.areas areas))

-- ---- positions as points
-- a point is at one of the positions
abbrev pub IsAtOne : List Pt → Pt → Type 0
IsAtOne positions q = is_at_some (point_of q) positions ≡ true

-- each of the positions is at one of them
pub each_at_one : (positions : List Pt) → Each (IsAtOne positions) positions
each_at_one [] = λ place item e. cc
each_at_one (q ∷ others) =
    by_place q others (IsAtOne (q ∷ others))
    (or_left (is_at (point_of q) q) (is_at_some (point_of q) others)
    ((Decides-is_same_point (point_of q) (point_of q)).1 (same_refl (point_of q))))
    (λ place r e. or_right (is_at (point_of r) q) (is_at_some (point_of r) others) (each_at_one others place r e))

-- the position at which a point is
pub at_some : (p : Point) (positions : List Pt) → is_at_some p positions ≡ true → SomeItem (λ q. IsSamePoint p (point_of q)) positions
at_some p [] h = absurd (true≢false (sym h))
at_some p (q ∷ others) h = go (is_at p q) refl (at_some p others)
  where
    go : (b : Bool) → is_at p q ≡ b → (is_at_some p others ≡ true → SomeItem (λ r. IsSamePoint p (point_of r)) others)
        → SomeItem (λ r. IsSamePoint p (point_of r)) (q ∷ others)
    go true k rest = record { place = 0; item = q; item_is = refl; is_so = (Decides-is_same_point p (point_of q)).0 k }
    go false k rest = some_later q (rest (ap (λ b. b || is_at_some p others) (sym k) ∙ h))

-- ---- of two figures
-- the positions of both
abbrev pub positions_of_both : Figure → Figure → List Pt
positions_of_both a b = all_positions a ++ all_positions b

-- both ends of each edge are positions
pub ends_are_positions : (a b : Figure) → Each (HasEnds (IsAtOne (positions_of_both a b))) (segs_of_both a b)
ends_are_positions a b =
    let IsSo = IsAtOne (positions_of_both a b) in
    let all = each_at_one (positions_of_both a b) in
    each_both (HasEnds IsSo) (segs_of a) (segs_of b)
    (ends_of_figure IsSo a (each_left IsSo (all_positions a) (all_positions b) all))
    (ends_of_figure IsSo b (each_right IsSo (all_positions a) (all_positions b) all))
