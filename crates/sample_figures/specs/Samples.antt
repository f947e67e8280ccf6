-- The figures of a sample. They are numbered by n, the number of teeth of a comb: all of them grow with it, and so do the nodes at
-- which they meet. This project's own.
use Rattle.std.specs.Prelude.{ℕ, zero, suc, ◌+◌, ◌-◌, ◌*◌, ◌≤◌, pos, List, [], ◌∷◌, ◌++◌, map}
use Rattle.std.specs.List.{range_with_len}
use Rattle.im_matrix.specs.declared.Which.{Which}
use Rattle.im_matrix.specs.declared.Which.TheVariants.{A, B}
use Rattle.plane_exact.specs.declared.point.Pt.{Pt}
use Rattle.point_set.specs.declared.figure.Area.{Area}
use Rattle.point_set.specs.declared.figure.Figure.{Figure}

-- The greatest number of a sample.
abbrev pub most_teeth : ℕ
most_teeth = 200

-- The numbers that samples have.
abbrev pub IsSampleNumber : ℕ → Type 0
IsSampleNumber n = (1 ≤ n) × (n ≤ most_teeth)

-- The position x to the right of the origin and y above it.
abbrev pub position_at : ℕ → ℕ → Pt
position_at x y = record { x = pos x; y = pos y }

-- The comb's teeth are numbered from 0 on the left. Between a tooth and the one on its left is a gap down to the height 1, whose
-- bottom is walked to the left; tooth 0 has none.
abbrev pub gap_left_of : ℕ → List Pt
gap_left_of zero = []
gap_left_of (suc i) = position_at (2 * suc i) 1 ∷ position_at (2 * i + 1) 1 ∷ []

-- The way over a tooth: along its top, and along the bottom of the gap on its left.
abbrev pub over_tooth : ℕ → ℕ → List Pt
over_tooth height i = position_at (2 * i + 1) height ∷ position_at (2 * i) height ∷ gap_left_of i

-- The way over the first n teeth, from right to left.
abbrev pub over_teeth : ℕ → ℕ → List Pt
over_teeth height zero = []
over_teeth height (suc i) = over_tooth height i ++ over_teeth height i

-- The ring of the comb with n teeth, which stand 2n + 1 high: along its base, and back over the teeth.
abbrev pub comb_ring : ℕ → List Pt
comb_ring n =
    position_at 0 0 ∷ position_at (2 * n - 1) 0 ∷ (over_teeth (2 * n + 1) n ++ position_at 0 0 ∷ [])

-- A position with x and y exchanged.
abbrev pub exchanged : Pt → Pt
exchanged p = record { x = p.y; y = p.x }

-- The ring of the rectangle of height 1 that stands on the line y = 0 from one abscissa to another, counter-clockwise.
abbrev pub rectangle_ring : ℕ → ℕ → List Pt
rectangle_ring left right =
    position_at left 0 ∷ position_at right 0 ∷ position_at right 1 ∷ position_at left 1 ∷ position_at left 0 ∷ []

-- The area inside a ring, without holes, in a group.
abbrev pub area_inside : List Pt → ℕ → Area
area_inside ring group = record { shell = ring; holes = []; group = group }

-- The figure of one area without holes.
abbrev pub figure_of_ring : List Pt → Figure
figure_of_ring ring = record { points = []; lines = []; areas = area_inside ring 0 ∷ [] }

-- The unit square at a place of the row of squares, in a group of its own.
abbrev pub square_at : ℕ → Area
square_at i = area_inside (rectangle_ring i (i + 1)) i

-- A row of n unit squares along the line y = 0, and a line along their feet and as far again.
abbrev pub squares_and_line : ℕ → Figure
squares_and_line n = record {
  points = [];
  lines = (position_at 0 0 ∷ position_at (2 * n) 0 ∷ []) ∷ [];
  areas = map square_at (range_with_len 0 n);
}

-- The points along the line y = 0 from abscissa 0 to 2n.
abbrev pub points_in_row : ℕ → Figure
points_in_row n = record { points = map (λ i. position_at i 0) (range_with_len 0 (2 * n + 1)); lines = []; areas = [] }

-- The figures of the sample n: for A the comb, and the squares with their line; for B the comb with x and y exchanged, one
-- rectangle as long as all the squares, and the points.
unfoldable pub figures_of_sample : ℕ → Which → List Figure
figures_of_sample n A = figure_of_ring (comb_ring n) ∷ squares_and_line n ∷ []
figures_of_sample n B = figure_of_ring (map exchanged (comb_ring n)) ∷ figure_of_ring (rectangle_ring 0 n) ∷ points_in_row n ∷ []
