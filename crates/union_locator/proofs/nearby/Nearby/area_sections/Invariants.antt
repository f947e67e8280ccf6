-- The sections of the places before.
use Rattle.plane_exact.specs.NodePoints.{point_at}
use Rattle.union_locator.proofs.AreaSections.{AreSectionsBefore}
use Rattle.union_locator.proofs.nearby.Nearby.area_sections.Given as goal

abbrev pub invariant-loop-place : goal.invariant-loop-place
invariant-loop-place l =
    AreSectionsBefore l.self.figure.now (point_at l.self.node.now) l.self.rows.now l.self.places.now l.place-index l.sections
