-- What areas of one group must not have in common.
use Rattle.point_set.specs.declared.figure.Area.{Area}
use Rattle.point_set.specs.Validity.{AreasOverlap, AreasShareSegment}
use Rattle.geom_valid.specs.declared.elements.Common.{Common}
use Rattle.geom_valid.specs.declared.elements.Common.TheVariants as common

-- Two areas have this in common.
abbrev pub HaveInCommon : Common → Area → Area → Type 0
HaveInCommon common.Segment area other = AreasShareSegment area other
HaveInCommon common.Interior area other = AreasOverlap area other

-- This is known where interior points are asked for.
abbrev pub OnInterior : Common → Type 0 → Type 0
OnInterior common.Segment Known = Unit {0}
OnInterior common.Interior Known = Known
