-- Dimensions by their rank.
use Rattle.std.proofs.Common.{◌≡◌, ◌≤◌, true, arith}
use Rattle.std.specs.Prelude.{max}
use Rattle.im_matrix.specs.declared.Dim.{Dim}
use Rattle.im_matrix.specs.declared.Dim.TheVariants.{Two}
use Rattle.im_matrix.specs.Cells.{rank, greater}
use Rattle.im_matrix.specs.Patterns.{is_present}

-- no dimension is above Two
pub rank-most : (d : Dim) → rank d ≤ rank Two
rank-most d = grind arith

-- the greater of two dimensions has the greater rank
pub rank-greater : (d e : Dim) → rank (greater d e) ≡ max (rank d) (rank e)
rank-greater d e = grind arith

-- so it is at least the first
pub greater-least : (d e : Dim) → rank d ≤ rank (greater d e)
greater-least d e = omega (arith, rank-greater d e)

-- points that are there stay there
pub is_present-later : (d e : Dim) → rank d ≤ rank e → is_present d ≡ true → is_present e ≡ true
is_present-later d e le h = grind arith
