-- A matrix that is fed only rises.
use Rattle.std.proofs.Common.{◌≡◌, ◌≤◌, sym, subst, inl, inr, List, [], ◌∷◌, arith}
use Rattle.im_matrix.specs.declared.Cell.{Cell}
use Rattle.im_matrix.specs.declared.Dim.{Dim}
use Rattle.im_matrix.specs.declared.Matrix.{Matrix}
use Rattle.im_matrix.specs.Cells.{rank, greater, dimension_at}
use Rattle.im_matrix.proofs.Laws.{same_cell?}
use Rattle.topo_pred.specs.Later.{IsAtLeast}
use Rattle.topo_pred.specs.Values.{Feed, IsRaised, IsFed, KnownIsFinal}
use Rattle.im_matrix.proofs.Laws.{greater-least}
use Rattle.topo_pred.proofs.Matrices.{itself}

-- after one feed
raised-least : (old new : Matrix) (c : Cell) (d : Dim) → IsRaised old new c d → IsAtLeast new old
raised-least old new c d h other =
    elim (same_cell? other c) as (λ _. rank (dimension_at old other) ≤ rank (dimension_at new other)) [
      | inl same ↦ (
          let at : dimension_at new other ≡ greater (dimension_at old other) d =
          subst (λ (x : Cell). dimension_at new x ≡ greater (dimension_at old x) d) (sym same) h.raised in
          subst (λ (x : Dim). rank (dimension_at old other) ≤ rank x) (sym at) (greater-least (dimension_at old other) d)
          )
      | inr differ ↦ (
          subst (λ (x : Dim). rank (dimension_at old other) ≤ rank x) (sym (h.others other differ)) (omega arith)
          )
    ]

-- after a list of feeds
fed-least : (feeds : List Feed) (m final : Matrix) → IsFed m feeds final → IsAtLeast final m
fed-least [] m final h = subst (λ (x : Matrix). IsAtLeast x m) (sym h) (itself m)
fed-least (f ∷ fs) m final h =
    λ c. (
    let first : rank (dimension_at m c) ≤ rank (dimension_at h.0 c) = raised-least m h.0 f.0 f.1 h.1 c in
    let rest : rank (dimension_at h.0 c) ≤ rank (dimension_at final c) = fed-least fs h.0 final h.2 c in
    omega arith
    )

-- so a value that is known is that of the final matrix
pub known-final : KnownIsFinal
known-final p v settled feeds final fed = settled final (fed-least feeds p.matrix final fed)
