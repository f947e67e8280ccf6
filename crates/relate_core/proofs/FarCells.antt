-- What the envelopes tell of the cells: four of them are told, and the others have no more than they start with.
use Rattle.std.proofs.Common.{◌≡◌, ◌≤◌, ◌⊎◌, inl, inr, refl, sym, ◌∙◌, ap, subst, arith}
use Rattle.std.specs.Prelude.{Option}
use Rattle.im_matrix.specs.Cells.{cell, rank, dimension_at}
use Rattle.im_matrix.specs.declared.Cell.{Cell}
use Rattle.im_matrix.specs.declared.Dim.{Dim}
use Rattle.im_matrix.specs.declared.Dim.TheVariants.{Empty, Two}
use Rattle.im_matrix.specs.declared.Loc.{Loc}
use Rattle.im_matrix.specs.declared.Loc.TheVariants.{Interior, Boundary, Exterior}
use Rattle.plane_exact.specs.declared.window.Window.{Window}
use Rattle.point_set.specs.declared.extent.Extent.{Extent}
use Rattle.near_laws.specs.Near.{beyond, beyond_cell, beyond_parts}
use Rattle.topo_pred.specs.Values.{matrix_of}
use Rattle.topo_pred.specs.declared.Progress.{Progress}
use Rattle.relate_core.specs.Taking.{HasTakenIn, IsOne}
use Rattle.relate_core.proofs.Taking.{taken_either, taken_with_known}

module _ (x y : Extent) (w : Option Window) where
  -- what is told of a cell of a part of the first figure and the exterior of the second
  abbrev OfFirst : Loc → Cell → Dim → Type 0
  OfFirst part = IsOne (cell part Exterior) (beyond x w part)

  -- and of the exterior of the first and a part of the second
  abbrev OfSecond : Loc → Cell → Dim → Type 0
  OfSecond part = IsOne (cell Exterior part) (beyond y w part)

  -- one of the four
  abbrev IsToldOfFour : Cell → Dim → Type 0
  IsToldOfFour c d = ((OfFirst Interior c d ⊎ OfFirst Boundary c d) ⊎ OfSecond Interior c d) ⊎ OfSecond Boundary c d

  -- what the envelopes tell of a cell
  abbrev IsTold : Cell → Dim → Type 0
  IsTold c d = d ≡ beyond_cell x y w c

  -- it is told of each of the four
  at_cell : (e c : Cell) (d : Dim) → IsOne e (beyond_cell x y w e) c d → IsTold c d
  at_cell e c d h = h.1 ∙ ap (beyond_cell x y w) (sym h.0)

  of_four : (c : Cell) (d : Dim) → IsToldOfFour c d → IsTold c d
  of_four c d (inl (inl (inl h))) = at_cell (cell Interior Exterior) c d h
  of_four c d (inl (inl (inr h))) = at_cell (cell Boundary Exterior) c d h
  of_four c d (inl (inr h)) = at_cell (cell Exterior Interior) c d h
  of_four c d (inr h) = at_cell (cell Exterior Boundary) c d h

  -- of the others nothing, or what is known from the start
  four_or_known :
      (p : Progress) → dimension_at (matrix_of p) (cell Exterior Exterior) ≡ Two → (c : Cell) (d : Dim) → IsTold c d
      → IsToldOfFour c d ⊎ (rank d ≤ rank (dimension_at (matrix_of p) c))
  four_or_known p start c d h = by c.a c.b h
    where
      nothing : (e : Cell) → d ≡ Empty → rank d ≤ rank (dimension_at (matrix_of p) e)
      nothing e is = subst (λ z. rank z ≤ rank (dimension_at (matrix_of p) e)) (sym is) (omega arith)

      by : (q r : Loc) → d ≡ beyond_parts x y w q r → IsToldOfFour (cell q r) d ⊎ (rank d ≤ rank (dimension_at (matrix_of p) (cell q r)))
      by Interior Exterior is = inl (inl (inl (inl (refl, is))))
      by Boundary Exterior is = inl (inl (inl (inr (refl, is))))
      by Exterior Interior is = inl (inl (inr (refl, is)))
      by Exterior Boundary is = inl (inr (refl, is))
      by Exterior Exterior is = inr (subst (λ z. rank d ≤ rank z) (is ∙ sym start) (omega arith))
      by Interior Interior is = inr (nothing (cell Interior Interior) is)
      by Interior Boundary is = inr (nothing (cell Interior Boundary) is)
      by Boundary Interior is = inr (nothing (cell Boundary Interior) is)
      by Boundary Boundary is = inr (nothing (cell Boundary Boundary) is)

  -- so with the four all is taken in that the envelopes tell
  pub taken_four :
      (p q r s t : Progress) → dimension_at (matrix_of p) (cell Exterior Exterior) ≡ Two → HasTakenIn (OfFirst Interior) p q
      → HasTakenIn (OfFirst Boundary) q r → HasTakenIn (OfSecond Interior) r s → HasTakenIn (OfSecond Boundary) s t
      → HasTakenIn IsTold p t
  taken_four p q r s t start h k l m =
      taken_with_known IsToldOfFour IsTold p t of_four (four_or_known p start)
      (taken_either (λ c d. (OfFirst Interior c d ⊎ OfFirst Boundary c d) ⊎ OfSecond Interior c d) (OfSecond Boundary) p s t
      (taken_either (λ c d. OfFirst Interior c d ⊎ OfFirst Boundary c d) (OfSecond Interior) p r s
      (taken_either (OfFirst Interior) (OfFirst Boundary) p q r h k) l) m)
