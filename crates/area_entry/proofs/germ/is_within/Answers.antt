use Rattle.plane_exact.specs.Orders.{direction_of}
use Rattle.area_entry.proofs.Bends.{turned_bend, level_bend, by_left, by_right, by_whole, by_opposite, not_of, not_so}
use Rattle.area_entry.proofs.germ.is_within.Goals as goal

pub returns-then-is_left : goal.returns-then-is_left
returns-then-is_left c = record { within = by_left (c.is_left.ensures.left.0 c.if-is_left.true) c.is_left_of_both.ensures.both }

pub returns-then-is_left-2 : goal.returns-then-is_left-2
returns-then-is_left-2 c = record {
  within =
      by_right (turned_bend (direction_of c.args.r) (direction_of c.args.s) (c.is_left-2.ensures.left.0 c.if-is_left-2.true))
      c.is_left_of_one.ensures.one;
}

pub returns-then-is_same : goal.returns-then-is_same
returns-then-is_same c = record {
  within =
      by_whole (c.is_same.ensures.same.0 c.if-is_same.true)
      (not_of c.is_same-then-is_same.result c.is_same-then-is_same.ensures.same);
}

pub returns : goal.returns
returns c = record {
  within =
      by_opposite
      (level_bend (direction_of c.args.r) (direction_of c.args.s) (not_so c.is_left.result c.is_left.ensures.left c.if-is_left.false)
      (not_so c.is_left-2.result c.is_left-2.ensures.left c.if-is_left-2.false))
      (not_so c.is_same.result c.is_same.ensures.same c.if-is_same.false) c.is_left-3.ensures.left;
}
