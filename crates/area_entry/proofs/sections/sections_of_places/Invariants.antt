-- The sections of the rows up to the place before.
use Rattle.std.specs.List.{All}
use Rattle.plane_exact.specs.NodePoints.{point_at}
use Rattle.fan_order.specs.Rays.{IsShort}
use Rattle.area_entry.proofs.PlacedRows.{AreSectionsSoFar}
use Rattle.area_entry.proofs.sections.sections_of_places.Given as goal

abbrev pub invariant-loop-place : goal.invariant-loop-place
invariant-loop-place l =
    AreSectionsSoFar (point_at l.n) l.rows l.places l.place-index l.sections × All (λ s. IsShort s.dir) l.sections
