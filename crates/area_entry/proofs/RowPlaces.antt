-- The rows of an area and its edges, place by place.
use Rattle.std.proofs.Common.{◌≡◌, ℕ, zero, suc, Some, List, [], ◌∷◌, ap, refl, sym, subst}
use Rattle.plane_exact.specs.declared.point.Seg.{Seg}
use Rattle.point_set.specs.declared.edge.Edge.{Edge}
use Rattle.point_set.specs.declared.figure.Area.{Area}
use Rattle.point_set.specs.Validity.{IsAtPlace}
use Rattle.figure_laws.proofs.Lists.Places.{some_same}
use Rattle.valid_laws.specs.Entering.{edges_in}
use Rattle.area_entry.specs.Grounds.{AreRowsOf}
use Rattle.area_entry.specs.RowSections.{segs_of_rows}

-- the row of an edge
pub record HasRow (rows : List Edge) (place : ℕ) (e : Seg) : Type 0 where
  pub row : Edge
  pub is : IsAtPlace rows place row
  pub same : row.seg ≡ e

-- each row's edge is at its place among the edges
pub seg_there : (rows : List Edge) (place : ℕ) (row : Edge) → IsAtPlace rows place row → IsAtPlace (segs_of_rows rows) place row.seg
seg_there [] place row is = cc
seg_there (first ∷ rows) zero row is = ap (λ (z : Edge). Some z.seg) (some_same is)
seg_there (first ∷ rows) (suc place) row is = seg_there rows place row is

-- and each of the edges is a row's
pub row_of_seg : (rows : List Edge) (place : ℕ) (e : Seg) → IsAtPlace (segs_of_rows rows) place e → HasRow rows place e
row_of_seg [] place e is = cc
row_of_seg (first ∷ rows) zero e is = record { row = first; is = refl; same = some_same is }
row_of_seg (first ∷ rows) (suc place) e is =
    let r = row_of_seg rows place e is in record { row = r.row; is = r.is; same = r.same }

module _ (area : Area) (rows : List Edge) (are_rows : AreRowsOf area rows) where
  -- so it is with the rows of an area
  pub row_there : (place : ℕ) (row : Edge) → IsAtPlace rows place row → IsAtPlace (edges_in area) place row.seg
  row_there place row is = subst (λ (es : List Seg). IsAtPlace es place row.seg) are_rows.segs (seg_there rows place row is)

  pub row_of_edge : (place : ℕ) (e : Seg) → IsAtPlace (edges_in area) place e → HasRow rows place e
  row_of_edge place e is = row_of_seg rows place e (subst (λ (es : List Seg). IsAtPlace es place e) (sym are_rows.segs) is)
