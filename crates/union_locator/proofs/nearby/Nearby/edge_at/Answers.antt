use Rattle.plane_exact.specs.NodePoints.{point_at}
use Rattle.union_locator.proofs.NearEdges.{place_below, edge_read, proper_there}
use Rattle.union_locator.proofs.nearby.Nearby.edge_at.Goals as goal

pub at-requires : goal.at-requires
at-requires c =
    let s = c.args.self.now in
    record { within = place_below s.figure.now (point_at s.node.now) s.rows.now s.places.now c.requires.near c.args.place c.requires.place }

pub returns : goal.returns
returns c =
    let s = c.args.self.now in
    let near = c.requires.near in
    let is = edge_read s.figure.now (point_at s.node.now) s.rows.now s.places.now near c.args.place _ c.requires.place c.at.ensures.item in
    let proper = proper_there s.figure.now (point_at s.node.now) s.rows.now s.places.now near c.args.place _ is in
    record { is = is; first = proper.first; second = proper.second }
