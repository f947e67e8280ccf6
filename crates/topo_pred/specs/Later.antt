-- What a test of a matrix that may still rise is known to give.
use Rattle.std.specs.Prelude.{◌≡◌, ◌≢◌, ◌≤◌, Bool, Option, Some, None}
use Rattle.im_matrix.specs.declared.Cell.{Cell}
use Rattle.im_matrix.specs.declared.Matrix.{Matrix}
use Rattle.im_matrix.specs.Cells.{rank, dimension_at}

-- each cell of the later matrix is at least that of the present one
abbrev pub IsAtLeast : Matrix → Matrix → Type 0
IsAtLeast later now = (c : Cell) → rank (dimension_at now c) ≤ rank (dimension_at later c)

-- what is still to come decides: two matrices that are at least this one have different values
pub record IsUndecided (V : Type 0) (value : Matrix → V) (now : Matrix) : Type 0 where
  pub one : Matrix
  pub other : Matrix
  pub one_later : IsAtLeast one now
  pub other_later : IsAtLeast other now
  pub differ : value one ≢ value other

-- what is known of the test: a value that every matrix that is at least this one gives, or none, where two of them give
-- different values
abbrev pub IsKnown : (Matrix → Bool) → Matrix → Option Bool → Type 0
IsKnown test now (Some v) = (later : Matrix) → IsAtLeast later now → test later ≡ v
IsKnown test now None = IsUndecided Bool test now
