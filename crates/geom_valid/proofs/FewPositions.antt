-- A hole of an area has no more positions than a figure can have, where the area has not, and it has no more holes.
use Rattle.std.proofs.Common.{ℕ, ◌≤◌, List, length, arith}
use Rattle.plane_exact.specs.declared.point.Pt.{Pt}
use Rattle.point_set.specs.declared.figure.Area.{Area}
use Rattle.point_set.specs.Shape.{IsAreaShaped, positions_of_area}
use Rattle.point_set.specs.Validity.{IsAtPlace}
use Rattle.figure_laws.proofs.Lists.Counts.{count_by_length, one_of_sum}

pub few_of_hole :
    (area : Area) → positions_of_area area ≤ 1048576 → (i : ℕ) (hole : List Pt) → IsAtPlace area.holes i hole → length hole ≤ 1048576
few_of_hole area few i hole is = omega (arith, few, one_of_sum length area.holes i hole is)

pub few_holes : (area : Area) → IsAreaShaped area → positions_of_area area ≤ 1048576 → length area.holes ≤ 1048576
few_holes area shaped few =
    let holes = count_by_length length area.holes (λ i d below. let long = (shaped.holes i d below).long in omega (arith, long)) in
    omega (arith, few, holes)
