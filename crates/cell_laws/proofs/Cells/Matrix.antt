-- Two valid figures have one sample matrix, and it is the matrix of their two point sets.
use Rattle.std.proofs.Common.{◌≡◌, ◌≤◌, ◌⊎◌, inl, inr, refl, sym, subst, arith}
use Rattle.im_matrix.proofs.Laws.{rank-most, matrix_by, dimension_at-matrix_by, same_cells}
use Rattle.im_matrix.specs.Cells.{rank, dimension_at, start_dimension}
use Rattle.im_matrix.specs.declared.Cell.{Cell}
use Rattle.im_matrix.specs.declared.Dim.{Dim}
use Rattle.im_matrix.specs.declared.Dim.TheVariants.{Empty, Zero, One, Two}
use Rattle.im_matrix.specs.declared.Matrix.{Matrix}
use Rattle.plane_laws.specs.Plane.{Point}
use Rattle.point_set.specs.declared.figure.Figure.{Figure}
use Rattle.point_set.specs.declared.rule.Rule.{Rule}
use Rattle.point_set.specs.Nodes.{IsNode}
use Rattle.point_set.specs.Relation.{IsInCell, IsMatrixOf}
use Rattle.point_set.specs.Samples.{IsGreatest, IsSample, IsMatrixOfSamples, IsSampleMatrix}
use Rattle.point_set.specs.Visible.{AreValid}
use Rattle.figure_laws.proofs.Sets.Dimensions.{one_dimension}
use Rattle.cell_laws.specs.Decided.{AreDecidedBySamples}
use Rattle.cell_laws.proofs.Cells.Dimensions.{samples_are_cells}
use Rattle.cell_laws.proofs.Samples.Decided.{Decided, sample_decided}

-- ---- the greatest of some dimensions
-- two dimensions are one, or they aren't
same_dimension? : (d e : Dim) → Decided (d ≡ e)
same_dimension? Empty Empty = inl refl
same_dimension? Empty e = inr (λ h. cc)
same_dimension? Zero Zero = inl refl
same_dimension? Zero e = inr (λ h. cc)
same_dimension? One One = inl refl
same_dimension? One e = inr (λ h. cc)
same_dimension? Two Two = inl refl
same_dimension? Two e = inr (λ h. cc)

-- there is a greatest
pub record HasGreatest (Is : Dim → Type 0) : Type 0 where
  pub d : Dim
  pub is : IsGreatest Is d

-- where it is decided of each: Two, else One, else Zero, else none
pub greatest_of : (Is : Dim → Type 0) → ((d : Dim) → Decided (Is d)) → HasGreatest Is
greatest_of Is decide = by_two (decide Two) (decide One) (decide Zero)
  where
    by_two : Decided (Is Two) → Decided (Is One) → Decided (Is Zero) → HasGreatest Is
    by_two (inl two) one zero = record { d = Two; is = record { one = λ n. two; most = λ e h. rank-most e } }
    by_two (inr no_two) (inl one) zero = record { d = One; is = record { one = λ n. one; most = most } }
      where
        most : (e : Dim) → Is e → rank e ≤ rank One
        most Two h = absurd (no_two h)
        most One h = omega arith
        most Zero h = omega arith
        most Empty h = omega arith
    by_two (inr no_two) (inr no_one) (inl zero) = record { d = Zero; is = record { one = λ n. zero; most = most } }
      where
        most : (e : Dim) → Is e → rank e ≤ rank Zero
        most Two h = absurd (no_two h)
        most One h = absurd (no_one h)
        most Zero h = omega arith
        most Empty h = omega arith
    by_two (inr no_two) (inr no_one) (inr no_zero) = record { d = Empty; is = record { one = λ n. absurd (n refl); most = most } }
      where
        most : (e : Dim) → Is e → rank e ≤ rank Empty
        most Two h = absurd (no_two h)
        most One h = absurd (no_one h)
        most Zero h = absurd (no_zero h)
        most Empty h = omega arith

-- ---- two matrices of samples are one
-- dimensions of one rank are one
pub same_rank : (d e : Dim) → rank d ≤ rank e → rank e ≤ rank d → d ≡ e
same_rank d e h k = grind arith

-- a greatest dimension is no greater than another
no_greater : (Is : Dim → Type 0) (d e : Dim) → IsGreatest Is d → IsGreatest Is e → rank d ≤ rank e
no_greater Is Empty e g h = omega arith
no_greater Is Zero e g h = h.most Zero (g.one (λ k. cc))
no_greater Is One e g h = h.most One (g.one (λ k. cc))
no_greater Is Two e g h = h.most Two (g.one (λ k. cc))

-- of any two figures, and any choice of nodes
pub one_sample_matrix :
    (Nodes : Point → Type 0) (a b : Figure) (rule : Rule) (m n : Matrix) → IsMatrixOfSamples Nodes a b rule m
    → IsMatrixOfSamples Nodes a b rule n → m ≡ n
one_sample_matrix Nodes a b rule m n h k = same_cells m n one
  where
    one : (c : Cell) → dimension_at m c ≡ dimension_at n c
    one c =
        let Is : Dim → Type 0 = λ d. (d ≡ start_dimension c) ⊎ IsSample Nodes a b rule c d in
        same_rank (dimension_at m c) (dimension_at n c) (no_greater Is (dimension_at m c) (dimension_at n c) (h c) (k c))
        (no_greater Is (dimension_at n c) (dimension_at m c) (k c) (h c))

-- ---- two figures
module _ (a b : Figure) (valid : AreValid a b) (rule : Rule) where
  -- what a cell starts with, or a sample of it
  abbrev IsSeen : Cell → Dim → Type 0
  IsSeen c d = (d ≡ start_dimension c) ⊎ IsSample (IsNode a b) a b rule c d

  -- it is decided
  seen_decided : (c : Cell) (d : Dim) → Decided (IsSeen c d)
  seen_decided c d = both (same_dimension? d (start_dimension c)) (sample_decided a b valid rule c d)
    where
      both : Decided (d ≡ start_dimension c) → Decided (IsSample (IsNode a b) a b rule c d) → Decided (IsSeen c d)
      both (inl e) s = inl (inl e)
      both (inr n) (inl s) = inl (inr s)
      both (inr n) (inr refused) = inr refute
        where
          refute : ¬ IsSeen c d
          refute (inl e) = n e
          refute (inr s) = refused s

  -- so each cell has a greatest
  greatest_at : (c : Cell) → HasGreatest (IsSeen c)
  greatest_at c = greatest_of (IsSeen c) (seen_decided c)

  -- and there is a sample matrix
  sample_matrix : (m : Matrix) × IsSampleMatrix a b rule m
  sample_matrix = (
    matrix_by (λ c. (greatest_at c).d),
    λ c. subst (IsGreatest (IsSeen c)) (sym (dimension_at-matrix_by (λ c. (greatest_at c).d) c)) (greatest_at c).is,
  )

-- two matrices of the two point sets are one
one_matrix : (a b : Figure) (rule : Rule) (m n : Matrix) → IsMatrixOf a b rule m → IsMatrixOf a b rule n → m ≡ n
one_matrix a b rule m n h k =
    same_cells m n (λ c. one_dimension (IsInCell a b rule c) (dimension_at m c) (dimension_at n c) (h c) (k c))

-- the sample matrix is that of the two point sets, and no other is the one or the other
pub decided_by_samples : (a b : Figure) → AreValid a b → (rule : Rule) → AreDecidedBySamples a b rule
decided_by_samples a b valid rule =
    let found = sample_matrix a b valid rule in
    let points = samples_are_cells a b valid rule found.0 found.1 in
    record {
      matrix = found.0;
      of_samples = found.1;
      of_points = points;
      only_of_samples = λ m h. one_sample_matrix (IsNode a b) a b rule m found.0 h found.1;
      only_of_points = λ m h. one_matrix a b rule m found.0 h points;
    }
