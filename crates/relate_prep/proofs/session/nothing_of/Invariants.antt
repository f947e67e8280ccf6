-- Nothing is known of the cells so far.
use Rattle.std.proofs.Common.{◌≡◌, take}
use Rattle.std.specs.Prelude.{map}
use Rattle.once_cell.specs.Once.{cell_name}
use Rattle.relate_prep.specs.Cells.{new_cell}
use Rattle.relate_prep.proofs.session.nothing_of.Given as goal

abbrev pub invariant-loop-cell : goal.invariant-loop-cell
invariant-loop-cell l = l.asked.items ≡ map new_cell (map cell_name (take l.cell-index l.cells))
