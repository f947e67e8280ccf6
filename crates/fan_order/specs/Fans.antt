-- Fans, as contracts see them.
use Rattle.std.specs.Prelude.{List}
use Rattle.std.specs.List.{All}
use Rattle.im_matrix.specs.declared.Which.TheVariants.{A, B}
use Rattle.plane_exact.specs.declared.dir.Dir.{Dir}
use Rattle.fan_order.specs.declared.section.Section.{Section}
use Rattle.fan_order.specs.declared.walk.Walk.{Walk}
use Rattle.fan_order.specs.Passes.{IsRound}
use Rattle.fan_order.specs.Rays.{IsShort, AreRaysOf}

-- The rays in order, and all sections in the order in which they were given.
pub record SeenFan : Type 0 where
  pub rays : List Dir
  pub sections : List Section

-- What each fan keeps: its rays are those of its sections, and they are short.
pub record IsFan (fan : SeenFan) : Type 0 where
  pub rays : AreRaysOf fan.sections fan.rays
  pub short : All IsShort fan.rays

-- And within it, what walks round its rays found of the two figures.
pub record IsWalkedFan (fan : SeenFan) (a b : Walk) : Type 0 where
  pub is_fan : IsFan fan
  pub of_a : IsRound A fan.sections fan.rays a
  pub of_b : IsRound B fan.sections fan.rays b
