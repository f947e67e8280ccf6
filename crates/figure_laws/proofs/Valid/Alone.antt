-- The areas of a valid figure alone are a valid figure.
use Rattle.std.proofs.Common.{ℕ, arith}
use Rattle.std.proofs.lemmas.List.Elements.{All-nil}
use Rattle.plane_exact.specs.Places.{IsInLimit}
use Rattle.point_set.specs.declared.figure.Area.{Area}
use Rattle.point_set.specs.declared.figure.Figure.{Figure}
use Rattle.point_set.specs.Location.{areas_alone}
use Rattle.point_set.specs.Shape.{IsLineShaped, IsWellShaped}
use Rattle.point_set.specs.Validity.{IsValid, SomeArea, SomeEarlier, too_few_points, ring_cross, rings_share_edge, hole_outside}
use Rattle.point_set.specs.Validity.{holes_overlap, disconnected, elements_share_edge, elements_overlap}

-- they keep their shape
pub alone_shaped : (f : Figure) → IsWellShaped f → IsWellShaped (areas_alone f)
alone_shaped f shaped = record {
  points = All-nil IsInLimit;
  lines = All-nil IsLineShaped;
  areas = shaped.areas;
  few = let h = shaped.few in omega (arith, h);
}

-- what fails in one area failed before
some_alone : (f : Figure) (place : ℕ) {IsSo : Area → Type 0} → SomeArea (areas_alone f) place IsSo → SomeArea f place IsSo
some_alone f place h = record { area = h.area; area_is = h.area_is; is_so = h.is_so }

-- and in two
earlier_alone : (f : Figure) (place : ℕ) {IsSo : Area → Area → Type 0} → SomeEarlier (areas_alone f) place IsSo → SomeEarlier f place IsSo
earlier_alone f place h = record {
  area = h.area;
  area_is = h.area_is;
  before = h.before;
  earlier = h.earlier;
  other = h.other;
  other_is = h.other_is;
  same_group = h.same_group;
  is_so = h.is_so;
}

-- so they are valid
pub alone_valid : (f : Figure) → IsValid f → IsValid (areas_alone f)
alone_valid f valid place too_few_points h = valid place too_few_points (some_alone f place h)
alone_valid f valid place ring_cross h = valid place ring_cross (some_alone f place h)
alone_valid f valid place rings_share_edge h = valid place rings_share_edge (some_alone f place h)
alone_valid f valid place hole_outside h = valid place hole_outside (some_alone f place h)
alone_valid f valid place holes_overlap h = valid place holes_overlap (some_alone f place h)
alone_valid f valid place disconnected h = valid place disconnected (some_alone f place h)
alone_valid f valid place elements_share_edge h = valid place elements_share_edge (earlier_alone f place h)
alone_valid f valid place elements_overlap h = valid place elements_overlap (earlier_alone f place h)
