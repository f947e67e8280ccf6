-- The range of dimensions that a mark accepts.
use Rattle.std.proofs.Common.{◌≡◌, arith}
use Rattle.std.proofs.lemmas.Bool.Decides.{nat_tests}
use Rattle.std.specs.Prelude.{◌&&◌, nat_le}
use Rattle.im_matrix.specs.declared.Dim.{Dim}
use Rattle.im_matrix.specs.declared.patterns.Mark.{Mark}
use Rattle.im_matrix.specs.Cells.{rank}
use Rattle.im_matrix.specs.Patterns.{accepts, mark_character, range_of}

-- a mark accepts the dimensions from the least to the greatest of its range
pub accepts-range :
    (k : Mark) (d : Dim) → accepts (mark_character k) d ≡ nat_le (rank (range_of k).0) (rank d) && nat_le (rank d) (rank (range_of k).1)
accepts-range k d = grind (arith, nat_tests)
