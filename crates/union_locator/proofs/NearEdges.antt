-- The edges near a point: what a place names, and that each edge which holds the point has its place.
use Rattle.std.proofs.Common.{◌≡◌, ℕ, ◌<◌, None, List, length, get_or, ap, refl, sym, ◌∙◌, subst, arith}
use Rattle.std.specs.List.{Contains}
use Rattle.std.specs.Int.{int_max, int_min}
use Rattle.std.proofs.lemmas.List.{length-map}
use Rattle.std.proofs.lemmas.List.Elements.{All-contains}
use Rattle.std.proofs.lemmas.Option.{slice_get_within}
use Rattle.plane_laws.specs.Plane.{Point}
use Rattle.plane_exact.proofs.Laws.{least_of_ends}
use Rattle.plane_exact.specs.declared.window.Window.{Window}
use Rattle.point_set.specs.declared.edge.Edge.{Edge}
use Rattle.point_set.specs.declared.figure.Figure.{Figure}
use Rattle.point_set.specs.Edges.{OwnedEdge, MeetsWindow, MeetsAtPlace, edges_of_figure, area_of}
use Rattle.point_set.specs.Validity.{IsAtPlace, IsOnEdge}
use Rattle.figure_laws.proofs.Edges.Limits.{IsProper, IsOwnedProper, proper_figure}
use Rattle.figure_laws.proofs.Edges.Windows.{meets_round}
use Rattle.figure_laws.proofs.Lists.Places.{some_same, all_at, read_at}
use Rattle.ring_sides.specs.Rows.{owned_edge}
use Rattle.union_locator.proofs.MeetingPlaces.{image_at, source_at}
use Rattle.union_locator.specs.Nearby.{IsNearby, IsLineEdgeAt, IsAreaEdgeAt}

-- a row with its edge and owner
pub record HasRow (rows : List Edge) (place : ℕ) (edge : OwnedEdge) : Type 0 where
  pub row : Edge
  pub is : IsAtPlace rows place row
  pub same : owned_edge row ≡ edge

module _ (f : Figure) (p : Point) (rows : List Edge) (places : List ℕ) (near : IsNearby f p rows places) where
  -- a place names an edge
  pub place_below : (place : ℕ) → Contains places place → place < length rows
  place_below place there =
      let m = All-contains (MeetsAtPlace near.near.window (edges_of_figure f)) places place near.near.are.meet there in
      let below = slice_get_within (edges_of_figure f) place m.edge m.edge_is in
      omega (arith, below, length-map rows owned_edge, ap length near.edges)

  -- which is what is read there
  pub edge_read : (place : ℕ) (edge : Edge) → Contains places place → edge ≡ get_or rows place edge → IsAtPlace rows place edge
  edge_read place edge there item = read_at rows rows place edge refl (place_below place there) item

  -- the edge there is one of the figure
  pub edge_there : (place : ℕ) (row : Edge) → IsAtPlace rows place row → IsAtPlace (edges_of_figure f) place (owned_edge row)
  edge_there place row is =
      subst (λ (edges : List OwnedEdge). IsAtPlace edges place (owned_edge row)) near.edges (image_at owned_edge rows place row is)

  -- and has two different ends within the limit
  pub proper_there : (place : ℕ) (row : Edge) → IsAtPlace rows place row → IsProper row.seg
  proper_there place row is =
      all_at IsOwnedProper (edges_of_figure f) place (owned_edge row) (proper_figure f near.shaped) (edge_there place row is)

  -- an edge of the figure that holds the point has its place among those near the point
  pub near_edge : (place : ℕ) (edge : OwnedEdge) → IsAtPlace (edges_of_figure f) place edge → IsOnEdge edge.seg p → Contains places place
  near_edge place edge is on = near.near.are.whole place (record { edge = edge; edge_is = is; meets = meets })
    where
      box : Window
      box = record {
        low_x = int_min edge.seg.a.x edge.seg.b.x;
        low_y = int_min edge.seg.a.y edge.seg.b.y;
        high_x = int_max edge.seg.a.x edge.seg.b.x;
        high_y = int_max edge.seg.a.y edge.seg.b.y;
      }

      meets : MeetsWindow near.near.window edge.seg
      meets =
          meets_round edge.seg p box near.near.window (least_of_ends box edge.seg.a edge.seg.b refl refl refl refl) near.near.round on

  -- and the row there is the edge
  pub near_row : (place : ℕ) (edge : OwnedEdge) → IsAtPlace (edges_of_figure f) place edge → HasRow rows place edge
  near_row place edge is =
      let s = source_at owned_edge rows place edge (subst (λ (edges : List OwnedEdge). IsAtPlace edges place edge) (sym near.edges) is) in
      record { row = s.item; is = s.is; same = s.same }

-- ---- the edge at a place, and any other that is said to be there
module _ {rows : List Edge} {place : ℕ} {p : Point} {edge other : Edge} (is : IsAtPlace rows place edge) where
  -- it is one of a line, or another one isn't either
  pub line_there : IsLineEdgeAt rows place p other → (area_of edge.owner ≡ None) × IsOnEdge edge.seg p
  line_there h =
      let same = some_same (sym h.is ∙ is) in
      (subst (λ (e : Edge). area_of e.owner ≡ None) same h.of_line, subst (λ (e : Edge). IsOnEdge e.seg p) same h.on)

  pub area_there : IsAreaEdgeAt rows place p other → (¬ (area_of edge.owner ≡ None)) × IsOnEdge edge.seg p
  area_there h =
      let same = some_same (sym h.is ∙ is) in
      (λ e. h.of_area (subst (λ (z : Edge). area_of z.owner ≡ None) (sym same) e), subst (λ (e : Edge). IsOnEdge e.seg p) same h.on)
