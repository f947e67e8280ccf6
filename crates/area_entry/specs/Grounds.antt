-- Areas with the rows of their edges.
use Rattle.std.specs.Prelude.{◌≡◌, List, map}
use Rattle.std.specs.List.{All}
use Rattle.point_set.specs.declared.edge.Edge.{Edge}
use Rattle.point_set.specs.declared.figure.Area.{Area}
use Rattle.point_set.specs.Edges.{IsAreaHand}
use Rattle.valid_laws.specs.Entering.{edges_in}

-- The rows are an area's edges in order, each with the hand on which the inside of the area lies.
pub record AreRowsOf (area : Area) (rows : List Edge) : Type 0 where
  pub segs : map (λ row. row.seg) rows ≡ edges_in area
  pub hands : All (λ row. IsAreaHand area row.seg row.hand) rows
