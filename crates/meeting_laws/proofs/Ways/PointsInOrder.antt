-- The order of points by x and then by y, as a relation: what isn't after.
use Rattle.std.proofs.Common.{◌≡◌, ◌⊎◌, inl, inr, ap, refl, sym, ◌∙◌}
use Rattle.std.specs.Ordering.{ordering_reverse}
use Rattle.std.specs.declared.cmp.Ordering.{Ordering}
use Rattle.std.specs.declared.cmp.Ordering.TheVariants.{Less, Equal, Greater}
use Rattle.plane_laws.proofs.Segments.Lines.{AtMost}
use Rattle.plane_laws.proofs.Points.Order.{compare_points_total, same_compare_points}
use Rattle.plane_laws.specs.Orders.{compare_points, IsBefore}
use Rattle.plane_laws.specs.Plane.{Point, IsSamePoint}

-- two answers that differ
less_greater : ¬ (Less ≡ Greater)
less_greater e = cc

equal_greater : ¬ (Equal ≡ Greater)
equal_greater e = cc

-- x isn't after y
pub at_most_or : (x y : Point) → AtMost x y ⊎ IsBefore y x
at_most_or x y = go (compare_points x y) refl
  where
    go : (o : Ordering) → compare_points x y ≡ o → AtMost x y ⊎ IsBefore y x
    go Less e = inl (λ g. less_greater (sym e ∙ g))
    go Equal e = inl (λ g. equal_greater (sym e ∙ g))
    go Greater e = inr (compare_points_total.antisymm y x ∙ ap ordering_reverse e)

-- what is before isn't after
pub before_at_most : (x y : Point) → IsBefore x y → AtMost x y
before_at_most x y before g = less_greater (sym before ∙ g)

-- at most is not after
pub not_before : (x y : Point) → AtMost x y → ¬ IsBefore y x
not_before x y h before = h (compare_points_total.antisymm x y ∙ ap ordering_reverse before)

-- at most both ways is the same
pub both_at_most : (x y : Point) → AtMost x y → AtMost y x → IsSamePoint x y
both_at_most x y h k = go (compare_points x y) refl
  where
    go : (o : Ordering) → compare_points x y ≡ o → IsSamePoint x y
    go Equal e = same_compare_points x y e
    go Greater e = absurd (h e)
    go Less e = absurd (k (compare_points_total.antisymm y x ∙ ap ordering_reverse e))

-- before, and at most
pub before_then : (x y z : Point) → IsBefore x y → AtMost y z → IsBefore x z
before_then x y z before h = go (compare_points y z) refl
  where
    go : (o : Ordering) → compare_points y z ≡ o → IsBefore x z
    go Less e = compare_points_total.trans x y z before e
    go Equal e = compare_points_total.antisymm x z
        ∙ ap ordering_reverse (sym (compare_points_total.congr y z x e) ∙ compare_points_total.antisymm y x ∙ ap ordering_reverse before)
    go Greater e = absurd (h e)

-- at most, and at most
pub at_most_trans : (x y z : Point) → AtMost x y → AtMost y z → AtMost x z
at_most_trans x y z h k = go (at_most_or x z)
  where
    go : AtMost x z ⊎ IsBefore z x → AtMost x z
    go (inl l) = l
    go (inr before) = absurd (not_before y z k (before_then z x y before h))

-- at most, and before
pub at_most_before : (x y z : Point) → AtMost x y → IsBefore y z → IsBefore x z
at_most_before x y z h before = go (at_most_or z x)
  where
    go : AtMost z x ⊎ IsBefore x z → IsBefore x z
    go (inr r) = r
    go (inl l) = absurd (not_before z y (at_most_trans z x y l h) before)
