-- A matrix of the samples at some points can't fail to exist.
use Rattle.std.proofs.Common.{◌≡◌, ◌≤◌, ◌+◌, ◌⊎◌, inl, inr, ℕ, zero, suc, refl, sym, subst, arith}
use Rattle.std.proofs.lemmas.Bool.{cases_lt}
use Rattle.im_matrix.proofs.Laws.{rank-most, matrix_by, dimension_at-matrix_by}
use Rattle.im_matrix.specs.Cells.{rank, cell, start_dimension}
use Rattle.im_matrix.specs.declared.Cell.{Cell}
use Rattle.im_matrix.specs.declared.Dim.{Dim}
use Rattle.im_matrix.specs.declared.Dim.TheVariants.{Empty, Two}
use Rattle.im_matrix.specs.declared.Loc.{Loc}
use Rattle.im_matrix.specs.declared.Loc.TheVariants.{Interior, Boundary, Exterior}
use Rattle.im_matrix.specs.declared.Matrix.{Matrix}
use Rattle.plane_laws.specs.Plane.{Point}
use Rattle.point_set.specs.declared.figure.Figure.{Figure}
use Rattle.point_set.specs.declared.rule.Rule.{Rule}
use Rattle.point_set.specs.Samples.{IsGreatest, IsSample, IsMatrixOfSamples}

-- ---- the greatest of some dimensions
-- there can't be none: a dimension with one above it gives way to that one, and nothing is above Two
greatest_is : (Is : Dim → Type 0) → ¬ ¬ ((d : Dim) × IsGreatest Is d)
greatest_is Is none = none (Empty, record { one = λ apart. absurd (apart refl); most = most (rank Two) Empty (omega arith) })
  where
    most : (n : ℕ) (d : Dim) → rank Two ≤ rank d + n → (e : Dim) → Is e → rank e ≤ rank d
    most zero d near e h = omega (arith, near, rank-most e)
    most (suc n) d near e h = elim (cases_lt (rank d) (rank e)) [
      | inl above ↦ absurd (none (e, record { one = λ apart. h; most = most n e (omega (arith, near, above)) }))
      | inr below ↦ below
    ]

-- ---- the matrix
-- what can't fail for one part can't fail for all together
all_parts : (P : Loc → Type 0) → ((part : Loc) → ¬ ¬ P part) → ¬ ¬ ((part : Loc) → P part)
all_parts P each none = each Interior (λ i. each Boundary (λ b. each Exterior (λ e. none (together i b e))))
  where
    together : P Interior → P Boundary → P Exterior → (part : Loc) → P part
    together i b e Interior = i
    together i b e Boundary = b
    together i b e Exterior = e

module _ (Nodes : Point → Type 0) (a b : Figure) (rule : Rule) where
  -- what a cell starts with, or a sample of it
  abbrev IsSeen : Cell → Dim → Type 0
  IsSeen c d = (d ≡ start_dimension c) ⊎ IsSample Nodes a b rule c d

  -- the greatest of them
  abbrev HasGreatest : Loc → Loc → Type 0
  HasGreatest p q = (d : Dim) × IsGreatest (IsSeen (cell p q)) d

  -- so each cell's greatest make the matrix
  pub sample_matrix : ¬ ¬ ((m : Matrix) × IsMatrixOfSamples Nodes a b rule m)
  sample_matrix none =
      all_parts (λ p. (q : Loc) → HasGreatest p q) (λ p. all_parts (HasGreatest p) (λ q. greatest_is (IsSeen (cell p q))))
      (λ g. none (
        matrix_by (λ c. (g c.a c.b).0),
        λ c. subst (IsGreatest (IsSeen c)) (sym (dimension_at-matrix_by (λ c. (g c.a c.b).0) c)) (g c.a c.b).1,
      ))
