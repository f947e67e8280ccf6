-- A point is on a line of the figure exactly where an edge of a line in the figure's list holds it.
use Rattle.std.proofs.Common.{◌≡◌, ℕ, zero, suc, Bool, true, false, ◌||◌, List, [], ◌∷◌, refl, sym, subst}
use Rattle.std.proofs.lemmas.Bool.{or_left, or_right}
use Rattle.plane_laws.specs.Plane.{Point}
use Rattle.plane_exact.specs.declared.point.Pt.{Pt}
use Rattle.plane_exact.specs.declared.point.Seg.{Seg}
use Rattle.point_set.specs.declared.edge.Owner.TheVariants.{Line}
use Rattle.point_set.specs.declared.figure.Figure.{Figure}
use Rattle.point_set.specs.Edges.{OwnedEdge, edges_of_figure}
use Rattle.point_set.specs.Lines.{is_on_lines}
use Rattle.point_set.specs.Location.{is_on_line}
use Rattle.point_set.specs.Rings.{edges_of, is_on_edge, is_on_edges}
use Rattle.point_set.specs.Validity.{IsAtPlace}
use Rattle.figure_laws.proofs.Edges.Owners.{HasPlace, IsEdgeOf, IsLineEdge, edge_of_owner, owner_has_edge}
use Rattle.figure_laws.proofs.Lists.Places.{some_same}

-- ---- along a list of edges
-- a point of one of the edges is on the edges
on_some_edge : (edges : List Seg) (place : ℕ) (e : Seg) (p : Point) → IsAtPlace edges place e → is_on_edge p e ≡ true
    → is_on_edges p edges ≡ true
on_some_edge [] place e p is on = cc
on_some_edge (g ∷ edges) zero e p is on =
    or_left (is_on_edge p g) (is_on_edges p edges) (subst (λ (z : Seg). is_on_edge p z ≡ true) (sym (some_same is)) on)
on_some_edge (g ∷ edges) (suc place) e p is on = or_right (is_on_edge p g) (is_on_edges p edges) (on_some_edge edges place e p is on)

-- an edge of the list that holds the point
record HoldingEdge (edges : List Seg) (p : Point) : Type 0 where
  e : Seg
  here : HasPlace edges e
  on : is_on_edge p e ≡ true

-- a point on the edges is on one of them
holding_edge : (edges : List Seg) (p : Point) → is_on_edges p edges ≡ true → HoldingEdge edges p
holding_edge [] p h = cc
holding_edge (e ∷ edges) p h = go (is_on_edge p e) refl h (holding_edge edges p)
  where
    go : (b : Bool) → is_on_edge p e ≡ b → (b || is_on_edges p edges) ≡ true → (is_on_edges p edges ≡ true → HoldingEdge edges p)
        → HoldingEdge (e ∷ edges) p
    go true on h rest = record { e = e; here = record { place = 0; is = refl }; on = on }
    go false off h rest = let r = rest h in record { e = r.e; here = record { place = suc r.here.place; is = r.here.is }; on = r.on }

-- ---- along a list of lines
-- a point of one of the lines is on the lines
pub on_some_line :
    (lines : List (List Pt)) (k : ℕ) (way : List Pt) (p : Point) → IsAtPlace lines k way → is_on_edges p (edges_of way) ≡ true
    → is_on_lines p lines ≡ true
on_some_line [] k way p is on = cc
on_some_line (line ∷ lines) zero way p is on =
    or_left (is_on_edges p (edges_of line)) (is_on_lines p lines)
    (subst (λ (z : List Pt). is_on_edges p (edges_of z) ≡ true) (sym (some_same is)) on)
on_some_line (line ∷ lines) (suc k) way p is on =
    or_right (is_on_edges p (edges_of line)) (is_on_lines p lines) (on_some_line lines k way p is on)

-- an edge of a line that holds the point
record HoldingLine (lines : List (List Pt)) (p : Point) : Type 0 where
  k : ℕ
  e : Seg
  edge_is : IsLineEdge lines k e
  on : is_on_edge p e ≡ true

-- a point on the lines is on an edge of one of them
holding_line : (lines : List (List Pt)) (p : Point) → is_on_lines p lines ≡ true → HoldingLine lines p
holding_line [] p h = cc
holding_line (line ∷ lines) p h = go (is_on_edges p (edges_of line)) refl h (holding_line lines p)
  where
    go : (b : Bool) → is_on_edges p (edges_of line) ≡ b → (b || is_on_lines p lines) ≡ true
        → (is_on_lines p lines ≡ true → HoldingLine lines p) → HoldingLine (line ∷ lines) p
    go true on h rest =
        let r = holding_edge (edges_of line) p on in
        record { k = 0; e = r.e; edge_is = record { way = line; way_is = refl; here = r.here }; on = r.on }
    go false off h rest =
        let r = rest h in
        record {
          k = suc r.k;
          e = r.e;
          edge_is = record { way = r.edge_is.way; way_is = r.edge_is.way_is; here = r.edge_is.here };
          on = r.on;
        }

-- ---- the figure's list
-- an edge of a line that holds a point puts it on a line
pub on_line_by_edge : (f : Figure) (place : ℕ) (k : ℕ) (e : Seg) (p : Point)
    → IsAtPlace (edges_of_figure f) place (record { seg = e; owner = Line k }) → is_on_edge p e ≡ true → is_on_line f p ≡ true
on_line_by_edge f place k e p is on =
    let h = edge_of_owner f (record { seg = e; owner = Line k }) (record { place = place; is = is }) in
    on_some_line f.lines k h.way p h.way_is (on_some_edge (edges_of h.way) h.here.place e p h.here.is on)

-- an edge of a line in the figure's list that holds the point
pub record HasLineEdge (f : Figure) (p : Point) : Type 0 where
  pub k : ℕ
  pub e : Seg
  pub place : ℕ
  pub is : IsAtPlace (edges_of_figure f) place (record { seg = e; owner = Line k })
  pub on : is_on_edge p e ≡ true

-- a point on a line has one
pub line_edge : (f : Figure) (p : Point) → is_on_line f p ≡ true → HasLineEdge f p
line_edge f p h =
    let r = holding_line f.lines p h in
    let s = owner_has_edge f (Line r.k) r.e r.edge_is in
    record { k = r.k; e = r.e; place = s.place; is = s.is; on = r.on }
