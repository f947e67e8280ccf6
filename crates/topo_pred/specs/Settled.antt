-- When one mark of a pattern is settled, though its cell may still rise.
use Rattle.std.specs.Prelude.{Bool, ◌&&◌, nat_lt, nat_le}
use Rattle.im_matrix.specs.declared.Dim.{Dim}
use Rattle.im_matrix.specs.declared.Dim.TheVariants.{Two}
use Rattle.im_matrix.specs.declared.patterns.Mark.{Mark}
use Rattle.im_matrix.specs.Cells.{rank}
use Rattle.im_matrix.specs.Patterns.{range_of}

-- settled false: the dimension is above all that the mark accepts
abbrev pub fails_for_good : Mark → Dim → Bool
fails_for_good k d = nat_lt (rank (range_of k).1) (rank d)

-- settled true: the mark accepts this dimension and all above
abbrev pub holds_for_good : Mark → Dim → Bool
holds_for_good k d = nat_le (rank (range_of k).0) (rank d) && nat_le (rank Two) (rank (range_of k).1)
