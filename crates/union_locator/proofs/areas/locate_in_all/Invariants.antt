-- What the areas before the place say; none of them has the node inside.
use Rattle.std.proofs.Common.{◌≡◌, take}
use Rattle.im_matrix.specs.declared.Loc.TheVariants.{Interior}
use Rattle.plane_exact.specs.NodePoints.{point_at}
use Rattle.union_locator.specs.Areas.{IsInAreas}
use Rattle.union_locator.proofs.areas.locate_in_all.Given as goal

abbrev pub invariant-loop-place : goal.invariant-loop-place
invariant-loop-place g l = record {
  figure : g.L.AreaLocs.figure l.areas ≡ l.figure;
  outside : ¬ (l.loc ≡ Interior);
  passed : IsInAreas (take l.place l.figure.areas) (point_at l.n) l.loc;
}
