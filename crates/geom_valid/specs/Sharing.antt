-- Edges that have a common segment with rows of edges.
use Rattle.std.specs.Prelude.{ℕ, List, Contains}
use Rattle.plane_exact.specs.declared.point.Seg.{Seg}
use Rattle.point_set.specs.declared.edge.Edge.{Edge}
use Rattle.point_set.specs.Validity.{IsAtPlace, ShareSegment}

-- An edge has a common segment with the edge of the row at a place.
pub record SharesAtPlace (e : Seg) (rows : List Edge) (place : ℕ) : Type 0 where
  pub row : Edge
  pub row_is : IsAtPlace rows place row
  pub share : ShareSegment e row.seg

-- The edge of a row has a common segment with that of some row of a list.
pub record SharesWithRow (rows : List Edge) (row : Edge) : Type 0 where
  pub place : ℕ
  pub at : SharesAtPlace row.seg rows place

-- An edge has a common segment with the edge of the row at one of some places.
pub record SharesAtSome (e : Seg) (rows : List Edge) (places : List ℕ) : Type 0 where
  pub place : ℕ
  pub there : Contains places place
  pub at : SharesAtPlace e rows place
