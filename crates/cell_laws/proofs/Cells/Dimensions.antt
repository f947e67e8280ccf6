-- The greatest sample of a cell is the dimension of the cell.
use Rattle.std.proofs.Common.{◌≡◌, ◌≢◌, ◌≤◌, ◌⊎◌, inl, inr, refl, sym, ◌∙◌, subst, arith}
use Rattle.im_matrix.proofs.Laws.{same_cell?}
use Rattle.im_matrix.specs.Cells.{cell, rank, dimension_at, start_dimension}
use Rattle.im_matrix.specs.declared.Cell.{Cell}
use Rattle.im_matrix.specs.declared.Dim.{Dim}
use Rattle.im_matrix.specs.declared.Dim.TheVariants.{Empty, Zero, One, Two}
use Rattle.im_matrix.specs.declared.Loc.{Loc}
use Rattle.im_matrix.specs.declared.Loc.TheVariants.{Interior, Boundary, Exterior}
use Rattle.im_matrix.specs.declared.Matrix.{Matrix}
use Rattle.plane_laws.specs.Plane.{Point}
use Rattle.point_set.specs.declared.figure.Figure.{Figure}
use Rattle.point_set.specs.declared.rule.Rule.{Rule}
use Rattle.point_set.specs.Dimension.{HoldsTriangle, HoldsSegment, HoldsPoint, IsDimension, ShowsDimension}
use Rattle.point_set.specs.Nodes.{IsNode}
use Rattle.point_set.specs.Relation.{IsInCell, IsMatrixOf}
use Rattle.point_set.specs.Samples.{IsGreatest, IsSample, IsSampleMatrix}
use Rattle.point_set.specs.Visible.{AreValid}
use Rattle.cell_laws.proofs.Cells.Outside.{outside_holds_triangle}
use Rattle.cell_laws.proofs.Cells.Seen.{sample_shows, triangle_seen, segment_seen, point_sampled}

-- ---- a set of points
-- samples show what the set holds, and what the set holds is seen in a sample that is at least as great
module _ (Set : Point → Type 0) (Is : Dim → Type 0) (shows : (e : Dim) → Is e → ShowsDimension Set e) (two : HoldsTriangle Set → Is Two)
    (one : HoldsSegment Set → Is Two ⊎ Is One) (zero : HoldsPoint Set → Is Two ⊎ (Is One ⊎ Is Zero)) where
  -- with no sample of Two there is no triangle
  no_triangle : (d : Dim) → IsGreatest Is d → rank d ≤ 2 → ¬ HoldsTriangle Set
  no_triangle d g low h = let m = g.most Two (two h) in omega (arith, m, low)

  -- with none of Two and One no segment
  no_segment : (d : Dim) → IsGreatest Is d → rank d ≤ 1 → ¬ HoldsSegment Set
  no_segment d g low h = by_sample (one h)
    where
      by_sample : Is Two ⊎ Is One → ⊥
      by_sample (inl i) = let m = g.most Two i in omega (arith, m, low)
      by_sample (inr i) = let m = g.most One i in omega (arith, m, low)

  -- with none at all no point
  no_point : (d : Dim) → IsGreatest Is d → rank d ≤ 0 → ¬ HoldsPoint Set
  no_point d g low h = by_sample (zero h)
    where
      by_sample : Is Two ⊎ (Is One ⊎ Is Zero) → ⊥
      by_sample (inl i) = let m = g.most Two i in omega (arith, m, low)
      by_sample (inr (inl i)) = let m = g.most One i in omega (arith, m, low)
      by_sample (inr (inr i)) = let m = g.most Zero i in omega (arith, m, low)

  -- so the greatest sample is the dimension
  by_greatest : (d : Dim) → IsGreatest Is d → IsDimension Set d
  by_greatest Two g = shows Two (g.one (λ e. cc))
  by_greatest One g = (no_triangle One g (omega arith), shows One (g.one (λ e. cc)))
  by_greatest Zero g = (no_triangle Zero g (omega arith), no_segment Zero g (omega arith), shows Zero (g.one (λ e. cc)))
  by_greatest Empty g = no_point Empty g (omega arith)

-- ---- where a cell starts
-- only Two is as great as Two
is_two : (d : Dim) → 3 ≤ rank d → d ≡ Two
is_two Two h = refl
is_two One h = absurd (omega (arith, h))
is_two Zero h = absurd (omega (arith, h))
is_two Empty h = absurd (omega (arith, h))

-- only the cell of the two exteriors starts with something
starts_empty : (x y : Loc) → cell x y ≢ cell Exterior Exterior → start_dimension (cell x y) ≡ Empty
starts_empty Exterior Exterior n = absurd (n refl)
starts_empty Exterior Interior n = refl
starts_empty Exterior Boundary n = refl
starts_empty Interior y n = refl
starts_empty Boundary y n = refl

-- where it starts with nothing, the greatest of its start and the samples is that of the samples
samples_alone :
    (c : Cell) (Is : Dim → Type 0) (d : Dim) → start_dimension c ≡ Empty → IsGreatest (λ e. (e ≡ start_dimension c) ⊎ Is e) d
    → IsGreatest Is d
samples_alone c Is d start g = record { one = λ some. by_case some (g.one some); most = λ e h. g.most e (inr h) }
  where
    by_case : d ≢ Empty → (d ≡ start_dimension c) ⊎ Is d → Is d
    by_case some (inl e) = absurd (some (e ∙ start))
    by_case some (inr h) = h

-- ---- two figures
-- the matrix of the samples at all nodes is the matrix of the two point sets
pub samples_are_cells : (a b : Figure) → AreValid a b → (rule : Rule) (m : Matrix) → IsSampleMatrix a b rule m → IsMatrixOf a b rule m
samples_are_cells a b valid rule m h c = by_cell (same_cell? c (cell Exterior Exterior))
  where
    by_cell : (c ≡ cell Exterior Exterior) ⊎ (c ≢ cell Exterior Exterior) → IsDimension (IsInCell a b rule c) (dimension_at m c)
    by_cell (inl e) =
        let two : Two ≡ start_dimension c = sym (subst (λ (z : Cell). start_dimension z ≡ Two) (sym e) refl) in
        let d = is_two (dimension_at m c) ((h c).most Two (inl two)) in
        subst (IsDimension (IsInCell a b rule c)) (sym d)
        (subst (λ (z : Cell). HoldsTriangle (IsInCell a b rule z)) (sym e) (outside_holds_triangle a b valid rule))
    by_cell (inr n) =
        by_greatest (IsInCell a b rule c) (IsSample (IsNode a b) a b rule c) (sample_shows a b valid rule c)
        (triangle_seen a b valid rule c n) (segment_seen a b valid rule c n) (point_sampled a b valid rule c n) (dimension_at m c)
        (samples_alone c (IsSample (IsNode a b) a b rule c) (dimension_at m c) (starts_empty c.a c.b n) (h c))
