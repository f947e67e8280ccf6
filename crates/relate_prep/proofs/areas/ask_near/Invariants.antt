-- Each cell is the one of its area, and the cells of the areas at the places before were asked for.
use Rattle.std.specs.Prelude.{map}
use Rattle.once_cell.specs.Once.{cell_name}
use Rattle.plane_exact.specs.NodePoints.{point_at}
use Rattle.relate_prep.proofs.AskingCells.{IsAskedSo}
use Rattle.relate_prep.proofs.areas.ask_near.Given as goal

abbrev pub invariant-loop-place : goal.invariant-loop-place
invariant-loop-place l = IsAskedSo l.valid (point_at l.n) (map cell_name l.cells) l.fn.asked l.asked l.place-items l.place-index
