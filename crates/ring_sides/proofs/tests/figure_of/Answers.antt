use Rattle.std.proofs.Common.{rules}
use Rattle.ring_sides.proofs.Triangle.{one_ring_valid}
use Rattle.ring_sides.proofs.tests.figure_of.Goals as goal

pub returns : goal.returns
returns c = record {
  valid = one_ring_valid (record { points = c.empty-figure.result.points; lines = c.push.new.self; areas = c.push-2.new.self })
      (record { shell = c.args.shell; holes = c.new-holes.result; group = 0 })
      (search rules) c.new-holes.ensures.empty c.requires.enough c.requires.simple;
}
