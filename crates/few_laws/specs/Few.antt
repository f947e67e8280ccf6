-- The few nodes show what all nodes show.
use Rattle.std.specs.Prelude.{◌≤◌}
use Rattle.im_matrix.specs.Cells.{rank}
use Rattle.im_matrix.specs.declared.Cell.{Cell}
use Rattle.im_matrix.specs.declared.Dim.{Dim}
use Rattle.im_matrix.specs.declared.Matrix.{Matrix}
use Rattle.plane_laws.specs.Plane.{Point}
use Rattle.point_set.specs.declared.figure.Figure.{Figure}
use Rattle.point_set.specs.declared.rule.Rule.{Rule}
use Rattle.point_set.specs.Nodes.{IsNode, IsFewNode}
use Rattle.point_set.specs.Samples.{IsSample, IsSampleAt, IsMatrixOfSamples, IsSampleMatrix}

-- A dimension of at least d, with a sample of it at one of the few nodes.
pub record IsSeenAtFew (a b : Figure) (rule : Rule) (c : Cell) (d : Dim) : Type 0 where
  pub at_least : Dim
  pub rises : rank d ≤ rank at_least
  pub sample : IsSample (IsFewNode a b) a b rule c at_least

-- Each sample at a node is seen at a few node in at least the same dimension.
abbrev pub LawLeftOut : Figure → Figure → Rule → Type 0
LawLeftOut a b rule =
    (v : Point) → IsNode a b v → (c : Cell) (d : Dim) → IsSampleAt a b rule v c d → IsSeenAtFew a b rule c d

-- The matrix of the samples at the few nodes is that of the samples at all nodes, and the other way round.
abbrev pub LawFew : Figure → Figure → Rule → Type 0
LawFew a b rule =
    (m : Matrix) → (IsMatrixOfSamples (IsFewNode a b) a b rule m → IsSampleMatrix a b rule m)
    × (IsSampleMatrix a b rule m → IsMatrixOfSamples (IsFewNode a b) a b rule m)
