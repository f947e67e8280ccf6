-- The total is that of the points, the lines and the areas so far, as far as counting goes.
use Rattle.std.proofs.Common.{◌≡◌, ◌+◌, length, sum_by, min, take}
use Rattle.point_set.specs.Shape.{positions_of_area}
use Rattle.point_set.proofs.shape.count_positions.Given as goal

abbrev pub invariant-loop-area : goal.invariant-loop-area
invariant-loop-area l =
    l.total
    ≡ min 1048577 ((length l.f.points + sum_by length l.f.lines) + sum_by positions_of_area (take l.area-index l.area-items))
