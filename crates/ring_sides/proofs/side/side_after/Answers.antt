use Rattle.std.proofs.Common.{◌∷◌, sym, ◌∙◌}
use Rattle.ring_sides.proofs.Rays.{side_of_none, left_by_tests, right_by_tests}
use Rattle.ring_sides.proofs.side.side_after.Goals as goal

pub returns-in-None : goal.returns-in-None
returns-in-None c = record { side = side_of_none (c.args.first ∷ c.args.others.now) (sym c.first_edge.ensures.first ∙ c.in-None.is) }

pub returns-then-is_ray_left-odd : goal.returns-then-is_ray_left-odd
returns-then-is_ray_left-odd c = record {
  side =
      left_by_tests _ c.requires.closed c.requires.simple _ (sym c.first_edge.ensures.first ∙ c.in-Some.is) _ _ c.is_ray_left.ensures.left
      c.is_odd_at_middle-odd.ensures.odd c.if-is_ray_left-odd.true;
}

pub returns-else-is_ray_left-odd : goal.returns-else-is_ray_left-odd
returns-else-is_ray_left-odd c = record {
  side =
      right_by_tests _ c.requires.closed c.requires.simple _ (sym c.first_edge.ensures.first ∙ c.in-Some.is) _ _ c.is_ray_left.ensures.left
      c.is_odd_at_middle-odd.ensures.odd c.if-is_ray_left-odd.false;
}
