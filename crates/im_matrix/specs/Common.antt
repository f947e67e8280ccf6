-- Which parts of the two figures have points in common.
use Rattle.std.specs.Prelude.{Bool, ◌||◌}
use Rattle.im_matrix.specs.declared.Loc.{Loc}
use Rattle.im_matrix.specs.declared.Loc.TheVariants.{Interior, Boundary, Exterior}
use Rattle.im_matrix.specs.declared.Matrix.{Matrix}
use Rattle.im_matrix.specs.Cells.{cell, dimension_at}
use Rattle.im_matrix.specs.Patterns.{is_present}

-- A's part and B's part have a point in common
abbrev pub has : Matrix → Loc → Loc → Bool
has m a b = is_present (dimension_at m (cell a b))

-- the figures have a point in common
abbrev pub figures_meet : Matrix → Bool
figures_meet m =
    has m Interior Interior || has m Interior Boundary || has m Boundary Interior || has m Boundary Boundary

-- A has a point that isn't in B
abbrev pub a_leaves_b : Matrix → Bool
a_leaves_b m = has m Interior Exterior || has m Boundary Exterior

-- B has a point that isn't in A
abbrev pub b_leaves_a : Matrix → Bool
b_leaves_a m = has m Exterior Interior || has m Exterior Boundary
