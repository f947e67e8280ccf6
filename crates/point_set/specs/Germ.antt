-- Germs: what holds near a point along a direction.
use Rattle.std.specs.Prelude.{◌≡◌}
use Rattle.im_matrix.specs.declared.Cell.{Cell}
use Rattle.im_matrix.specs.declared.Loc.{Loc}
use Rattle.plane_laws.specs.Plane.{Point}
use Rattle.plane_laws.specs.Directions.{Direction}
use Rattle.point_set.specs.declared.figure.Area.{Area}
use Rattle.point_set.specs.declared.figure.Figure.{Figure}
use Rattle.point_set.specs.declared.rule.Rule.{Rule}
use Rattle.point_set.specs.Location.{location}
use Rattle.point_set.specs.Relation.{IsInCell}
use Rattle.plane_laws.specs.Along.{HoldsAlong}

-- The germ of the location in an area, at v along d: the location of the points v + d/n from some n on.
abbrev pub IsGerm : Area → Point → Direction → Loc → Type 0
IsGerm area v d germ = HoldsAlong (λ p. location area p ≡ germ) v d

-- The germ of two figures, at v along d: the part of the first and the part of the second in which the points v + d/n lie from
-- some n on.
abbrev pub IsPairGerm : Figure → Figure → Rule → Point → Direction → Cell → Type 0
IsPairGerm a b rule v d pair = HoldsAlong (IsInCell a b rule pair) v d
