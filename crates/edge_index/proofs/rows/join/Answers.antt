use Rattle.std.proofs.Common.{arith}
use Rattle.std.proofs.lemmas.Int.{ints, clamps}
use Rattle.edge_index.proofs.rows.join.Goals as goal

pub returns-clause-low_x : goal.returns-clause-low_x
returns-clause-low_x c = omega (arith, ints, clamps)

pub returns-clause-low_y : goal.returns-clause-low_y
returns-clause-low_y c = omega (arith, ints, clamps)

pub returns-clause-high_x : goal.returns-clause-high_x
returns-clause-high_x c = omega (arith, ints, clamps)

pub returns-clause-high_y : goal.returns-clause-high_y
returns-clause-high_y c = omega (arith, ints, clamps)
