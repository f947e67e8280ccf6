-- The kinds of points, one point after the other.
use Rattle.std.proofs.Common.{◌≡◌, ◌+◌, ◌*◌, ◌/◌, ◌%◌, ◌<◌, ◌≤◌, ℕ, List, [], ◌∷◌, ◌++◌, length, get_or, take, sym, subst, arith}
use Rattle.std.proofs.lemmas.List.{take_more}
use Rattle.std.proofs.lemmas.Grind.{div_ceil_times}
use Rattle.plane_laws.specs.Plane.{Point}
use Rattle.plane_exact.specs.Places.{point_of}
use Rattle.plane_exact.specs.declared.point.Pt.{Pt}
use Rattle.point_set.specs.Location.{IsKind}
use Rattle.point_set.specs.declared.dim_loc.DimLoc.{DimLoc}
use Rattle.point_set.specs.declared.figure.Figure.{Figure}
use Rattle.point_set.specs.declared.rule.Rule.TheVariants.{Mod2}
use Rattle.shared_polygon.specs.Places.{AreKinds, shares_in}

module _ (f : Figure) where
  kinds_push : (points : List Pt) (p : Pt) (kinds : List DimLoc) (kind : DimLoc) → AreKinds f points kinds
      → IsKind f Mod2 (point_of p) kind → AreKinds f (points ++ p ∷ []) (kinds ++ kind ∷ [])
  kinds_push [] p [] kind are one = (one, tt)
  kinds_push [] p (k ∷ kinds) kind are one = absurd are
  kinds_push (q ∷ points) p [] kind are one = absurd are
  kinds_push (q ∷ points) p (k ∷ kinds) kind are one = (are.0, kinds_push points p kinds kind are.1 one)

  -- with the kind of the next point, found by a session of the same figure at the node there
  pub one_more_kind : (points items : List Pt) (i : ℕ) (d : Pt) (kinds : List DimLoc) (kind : DimLoc) (g : Figure) (node : Point)
      → items ≡ points → i < length items → g ≡ f → node ≡ point_of (get_or items i d) → IsKind g Mod2 node kind
      → AreKinds f (take i points) kinds → AreKinds f (take (i + 1) points) (kinds ++ kind ∷ [])
  one_more_kind points items i d kinds kind g node all below same here is are =
      let of_f = subst (λ figure. IsKind figure Mod2 node kind) same is in
      let one = subst (λ q. IsKind f Mod2 q kind) here of_f in
      let front = subst (λ some. AreKinds f (take i some) kinds) (sym all) are in
      subst (λ some. AreKinds f (take (i + 1) some) (kinds ++ kind ∷ [])) all
      (subst (λ some. AreKinds f some (kinds ++ kind ∷ [])) (sym (take_more items i d below))
      (kinds_push (take i items) (get_or items i d) kinds kind front one))
