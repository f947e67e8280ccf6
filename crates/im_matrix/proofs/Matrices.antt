-- Matrices by their cells.
use Rattle.std.proofs.Common.{◌≡◌, ◌≢◌, ◌⊎◌, ◌∙◌, inl, inr, refl, ap}
use Rattle.im_matrix.specs.declared.Loc.{Loc}
use Rattle.im_matrix.specs.declared.Loc.TheVariants.{Interior, Boundary, Exterior}
use Rattle.im_matrix.specs.declared.Cell.{Cell}
use Rattle.im_matrix.specs.declared.Dim.{Dim}
use Rattle.im_matrix.specs.declared.Matrix.{Matrix}
use Rattle.im_matrix.specs.declared.parts.Parts.{Parts}
use Rattle.im_matrix.specs.Cells.{cell, dimension_at}
use Rattle.im_matrix.specs.Parts.{at_part}

-- ---- parts
-- the values that a function gives
abbrev by_part : {T : Type 0} → (Loc → T) → Parts T
by_part f = record { interior = f Interior; boundary = f Boundary; exterior = f Exterior }

-- each stands at its part
at_part-by_part : {T : Type 0} (f : Loc → T) (part : Loc) → at_part (by_part f) part ≡ f part
at_part-by_part f Interior = refl
at_part-by_part f Boundary = refl
at_part-by_part f Exterior = refl

-- values that are the same for each part are one
same_parts : {T : Type 0} (r s : Parts T) → ((part : Loc) → at_part r part ≡ at_part s part) → r ≡ s
same_parts r s h =
    let i = h Interior in
    let b = h Boundary in
    let e = h Exterior in
    λ j. record { interior = i j; boundary = b j; exterior = e j }

-- ---- matrices
-- the matrix with the dimensions that a function gives
abbrev pub matrix_by : (Cell → Dim) → Matrix
matrix_by f = record { dims = by_part (λ a. by_part (λ b. f (cell a b))) }

-- each stands in its cell
pub dimension_at-matrix_by : (f : Cell → Dim) (c : Cell) → dimension_at (matrix_by f) c ≡ f c
dimension_at-matrix_by f c =
    ap (λ (row : Parts Dim). at_part row c.b) (at_part-by_part (λ a. by_part (λ b. f (cell a b))) c.a)
    ∙ at_part-by_part (λ b. f (cell c.a b)) c.b

-- two matrices with the same dimension in each cell are one
pub same_cells : (m n : Matrix) → ((c : Cell) → dimension_at m c ≡ dimension_at n c) → m ≡ n
same_cells m n h =
    let rows : m.dims ≡ n.dims =
    same_parts m.dims n.dims (λ a. same_parts (at_part m.dims a) (at_part n.dims a) (λ b. h (cell a b))) in
    λ i. record { dims = rows i }

-- ---- cells
-- two parts of the plane are one, or they aren't
same_loc? : (a b : Loc) → (a ≡ b) ⊎ (a ≢ b)
same_loc? Interior Interior = inl refl
same_loc? Boundary Boundary = inl refl
same_loc? Exterior Exterior = inl refl
same_loc? Interior Boundary = inr (λ e. cc)
same_loc? Interior Exterior = inr (λ e. cc)
same_loc? Boundary Interior = inr (λ e. cc)
same_loc? Boundary Exterior = inr (λ e. cc)
same_loc? Exterior Interior = inr (λ e. cc)
same_loc? Exterior Boundary = inr (λ e. cc)

-- two cells are one, or they aren't
pub same_cell? : (c d : Cell) → (c ≡ d) ⊎ (c ≢ d)
same_cell? c d =
    elim (same_loc? c.a d.a) as (λ _. (c ≡ d) ⊎ (c ≢ d)) [
      | inl p ↦ elim (same_loc? c.b d.b) as (λ _. (c ≡ d) ⊎ (c ≢ d)) [
        | inl q ↦ inl (λ i. record { a = p i; b = q i })
        | inr n ↦ inr (λ e. n (ap (λ (x : Cell). x.b) e))
      ]
      | inr n ↦ inr (λ e. n (ap (λ (x : Cell). x.a) e))
    ]
