use Rattle.plane_exact.specs.NodePoints.{point_at}
use Rattle.union_locator.proofs.WalkRound.{single_areas}
use Rattle.union_locator.proofs.nearby.Nearby.adjacent.Goals as goal

pub returns-in_default : goal.returns-in_default
returns-in_default g c =
    let s = c.args.self.now in
    record {
      adjacent =
          single_areas s.figure.now
          (point_at s.node.now) c.requires.near.shaped c.in_ok-apart.apart c.in_default.not-Boundary c.in_ok-apart.ensures.location;
      figure = c.in_ok-apart.ensures.figure;
    }
