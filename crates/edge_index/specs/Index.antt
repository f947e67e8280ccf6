-- What contracts see of an index.
use Rattle.std.specs.Prelude.{List}
use Rattle.plane_exact.specs.declared.point.Seg.{Seg}
use Rattle.edge_index.specs.declared.boxes.BoxRow.{BoxRow}

-- An index is its list of segments, with the rows of its tree of boxes.
pub record SeenIndex : Type 0 where
  pub segs : List Seg
  pub rows : List BoxRow
