-- Two figures are valid where each is, in either order.
use Rattle.point_set.specs.declared.figure.Figure.{Figure}
use Rattle.point_set.specs.Shape.{IsWellShaped}
use Rattle.point_set.specs.Validity.{IsValid}
use Rattle.point_set.specs.Visible.{AreValid}

-- two figures of good shape that are valid
pub are_valid : {a b : Figure} → IsWellShaped a → IsValid a → IsWellShaped b → IsValid b → AreValid a b
are_valid a_shaped a_valid b_shaped b_valid = record { a_shaped = a_shaped; b_shaped = b_shaped; a_valid = a_valid; b_valid = b_valid }

-- both figures are valid in the other order
pub valid_turned : {a b : Figure} → AreValid a b → AreValid b a
valid_turned valid = are_valid valid.b_shaped valid.b_valid valid.a_shaped valid.a_valid
