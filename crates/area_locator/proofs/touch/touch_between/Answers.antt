use Rattle.std.proofs.Common.{sym, arith}
use Rattle.std.proofs.lemmas.Int.{ints}
use Rattle.point_set.specs.Rings.{is_same_position}
use Rattle.area_locator.proofs.Touching.{misses_below, misses_above}
use Rattle.area_locator.proofs.touch.touch_between.Goals as goal

pub returns-then-b-level : goal.returns-then-b-level
returns-then-b-level c =
    record {
      touch = sym
          (misses_below c.requires.level (is_same_position c.args.a c.args.b) c.args.a c.args.b (omega (arith, ints))
          (omega (arith, ints)));
    }

pub returns-then-b-level-2 : goal.returns-then-b-level-2
returns-then-b-level-2 c =
    record {
      touch = sym
          (misses_above c.requires.level (is_same_position c.args.a c.args.b) c.args.a c.args.b (omega (arith, ints))
          (omega (arith, ints)));
    }
