-- The edges of the areas before the place.
use Rattle.std.proofs.Common.{◌≡◌, take}
use Rattle.std.specs.Prelude.{map}
use Rattle.area_locator.specs.Indexed.{edges_of_area}
use Rattle.union_locator.proofs.areas.indexes_of.Given as goal

abbrev pub invariant-loop-place : goal.invariant-loop-place
invariant-loop-place l = l.indexes ≡ map edges_of_area (take l.place l.v.areas)
