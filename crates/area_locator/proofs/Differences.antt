-- The first place at which two lists of edges differ.
use Rattle.std.proofs.Common.{◌≡◌, ℕ, zero, suc, ◌+◌, ◌<◌, ◌≤◌, List, [], ◌∷◌, ◌++◌, length, get_or, take, ap, refl, sym, ◌∙◌, arith}
use Rattle.std.specs.Prelude.{Some, slice_get}
use Rattle.std.proofs.lemmas.List.{append_assoc, take_more, length-take-le}
use Rattle.std.proofs.lemmas.Option.{slice_get-get_or, slice_get_within, get_or_from_slice_get, none-some}
use Rattle.plane_exact.specs.declared.point.Seg.{Seg}
use Rattle.area_locator.proofs.RowEdges.{no_edge}
use Rattle.area_locator.specs.Indexed.{IsFirstDifference}

-- what is taken up to a place, and what stands there, of a list that begins with a part of another
take_front : (xs ys : List Seg) → take (length xs) (xs ++ ys) ≡ xs
take_front [] ys = refl
take_front (x ∷ xs) ys = ap (λ zs. x ∷ zs) (take_front xs ys)

next_there : (xs ys : List Seg) (place : ℕ) → length xs ≡ place → slice_get (xs ++ ys) place ≡ slice_get ys 0
next_there [] ys zero e = refl
next_there [] ys (suc place) e = absurd (omega (arith, e))
next_there (x ∷ xs) ys zero e = absurd (omega (arith, e))
next_there (x ∷ xs) ys (suc place) e = next_there xs ys place (omega (arith, e))

module _ (edges others rest : List Seg) (place : ℕ) (within : place ≤ length edges) (same : take place edges ++ rest ≡ others) where
  front_same : take place edges ≡ take place others
  front_same =
      sym (take_front (take place edges) rest)
      ∙ (λ i. take (length-take-le place edges within i) (same i))

  there : slice_get others place ≡ slice_get rest 0
  there = ap (λ list. slice_get list place) (sym same) ∙ next_there (take place edges) rest place (length-take-le place edges within)

  -- an edge of the others that isn't the one at that place
  pub differs_at_edge : (e : Seg) (left : List Seg) → rest ≡ e ∷ left → ¬ (slice_get edges place ≡ Some e) →
      IsFirstDifference edges others place
  differs_at_edge e left is apart = record { same = front_same; differ = λ k. apart (k ∙ there ∙ ap (λ list. slice_get list 0) is) }

  -- the others end, and an edge is left
  pub differs_at_end : rest ≡ [] → place < length edges → IsFirstDifference edges others place
  differs_at_end is below = record {
    same = front_same;
    differ = λ k. none-some (get_or edges place no_edge) (sym (ap (λ list. slice_get list 0) is) ∙ sym there ∙ sym k
        ∙ slice_get-get_or edges place no_edge below);
  }

  -- the edge at that place is the next of the others
  pub same_more : (e : Seg) (left : List Seg) → rest ≡ e ∷ left → slice_get edges place ≡ Some e →
      (place + 1 ≤ length edges) × (take (place + 1) edges ++ left ≡ others)
  same_more e left is here =
      let below = slice_get_within edges place e here in (
        omega (arith, below),
        ap (λ list. list ++ left)
            (take_more edges place e below ∙ ap (λ x. take place edges ++ x ∷ []) (get_or_from_slice_get edges place e e here))
            ∙ append_assoc (take place edges) (e ∷ []) left
            ∙ ap (λ list. take place edges ++ list) (sym is)
            ∙ same,
      )
