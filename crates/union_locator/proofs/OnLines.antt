-- A point is on a line of the figure exactly where an edge of a line at one of the near places holds it.
use Rattle.std.proofs.Common.{◌≡◌, ◌⊎◌, inl, inr, ℕ, ◌+◌, ◌<◌, ◌≤◌, true, false, None, List, length, get_or, ap, refl, sym, ◌∙◌, subst}
use Rattle.std.proofs.Common.{arith}
use Rattle.std.proofs.lemmas.Bool.{false_from_ne_true, cases_lt}
use Rattle.std.proofs.lemmas.List.Elements.{at_from_Contains}
use Rattle.plane_laws.proofs.Segments.On.{Decides-is_on_segment}
use Rattle.plane_laws.specs.Plane.{Point}
use Rattle.plane_exact.specs.Places.{point_of}
use Rattle.point_set.specs.declared.edge.Edge.{Edge}
use Rattle.point_set.specs.declared.edge.Owner.{Owner}
use Rattle.point_set.specs.declared.edge.Owner.TheVariants.{Line, Ring}
use Rattle.point_set.specs.declared.figure.Figure.{Figure}
use Rattle.point_set.specs.Edges.{OwnedEdge, edges_of_figure, area_of}
use Rattle.point_set.specs.Location.{is_on_line}
use Rattle.point_set.specs.Validity.{IsAtPlace, IsOnEdge}
use Rattle.figure_laws.proofs.Edges.Lines.{on_line_by_edge, HasLineEdge, line_edge}
use Rattle.union_locator.proofs.NearEdges.{edge_there, near_edge, near_row}
use Rattle.union_locator.specs.Nearby.{IsNearby, IsLineEdgeAt}

-- none of the first k places has an edge of a line that holds the point
abbrev pub IsOffLinesBefore : List Edge → List ℕ → Point → ℕ → Type 0
IsOffLinesBefore rows places p k = (i : ℕ) → i < k → (edge : Edge) → ¬ IsLineEdgeAt rows (get_or places i 0) p edge

-- one place more
pub off_one_more : (rows : List Edge) (places : List ℕ) (p : Point) (k : ℕ)
    → ((edge : Edge) → ¬ IsLineEdgeAt rows (get_or places k 0) p edge) → IsOffLinesBefore rows places p k
    → IsOffLinesBefore rows places p (k + 1)
off_one_more rows places p k none before i below edge h = go (cases_lt i k)
  where
    go : (i < k) ⊎ (k ≤ i) → ⊥
    go (inl l) = before i l edge h
    go (inr l) =
        let same : i ≡ k = omega (arith, l, below) in
        none edge (subst (λ (j : ℕ). IsLineEdgeAt rows (get_or places j 0) p edge) same h)

module _ (f : Figure) (p : Point) (rows : List Edge) (places : List ℕ) (near : IsNearby f p rows places) where
  -- such an edge puts the point on a line
  pub on_line : (place : ℕ) (edge : Edge) → IsLineEdgeAt rows place p edge → is_on_line f p ≡ true
  on_line place edge h = by_owner edge.owner refl h.of_line (edge_there f p rows places near place edge h.is)
    where
      by_owner : (owner : Owner) → edge.owner ≡ owner → area_of edge.owner ≡ None
          → IsAtPlace (edges_of_figure f) place (record { seg = edge.seg; owner = edge.owner }) → is_on_line f p ≡ true
      by_owner (Line k) e none is =
          on_line_by_edge f place k edge.seg p
          (subst (λ (o : Owner). IsAtPlace (edges_of_figure f) place (record { seg = edge.seg; owner = o })) e is)
          ((Decides-is_on_segment (point_of edge.seg.a) (point_of edge.seg.b) p).1 h.on)
      by_owner (Ring k r) e none is = let some = sym (ap area_of e) ∙ none in cc

  -- and without one it is on none
  pub off_lines : (k : ℕ) → length places ≤ k → IsOffLinesBefore rows places p k → is_on_line f p ≡ false
  off_lines k past none = false_from_ne_true (is_on_line f p) (λ e. by_edge (line_edge f p e))
    where
      by_edge : HasLineEdge f p → ⊥
      by_edge x =
          let on = (Decides-is_on_segment (point_of x.e.a) (point_of x.e.b) p).0 x.on in
          let edge : OwnedEdge = record { seg = x.e; owner = Line x.k } in
          let r = near_row f p rows places near x.place edge x.is in
          let there = at_from_Contains places x.place (near_edge f p rows places near x.place edge x.is on) in
          let below = there.1 in
          none there.0 (omega (arith, past, below)) r.row
          (subst (λ (j : ℕ). IsLineEdgeAt rows j p r.row) (sym (there.2 0))
          (record {
            is = r.is;
            of_line = ap (λ (z : OwnedEdge). area_of z.owner) r.same;
            on = subst (λ (z : OwnedEdge). IsOnEdge z.seg p) (sym r.same) on;
          }))
