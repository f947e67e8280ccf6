-- The test that an order says equal, as the test that two points are one.
use Rattle.std.proofs.Common.{◌≡◌, ◌↔◌, Bool, Ordering, Less, Equal, Greater, IsTrue, ◌==◌, refl, sym, ◌∙◌}
use Rattle.std.specs.Ordering.{ordering_index}
use Rattle.plane_laws.specs.Orders.{compare_points}
use Rattle.plane_laws.specs.Plane.{Point, IsSamePoint}
use Rattle.plane_laws.proofs.Points.Order.{compare_points_same, same_compare_points}

-- what the test of an order says
equal_test : (o : Ordering) (b : Bool) → b ≡ (ordering_index o == 1) → IsTrue b ↔ (o ≡ Equal)
equal_test Less b e = (λ h. cc, λ h. cc)
equal_test Equal b e = (λ h. refl, λ h. e)
equal_test Greater b e = (λ h. cc, λ h. cc)

-- what it says of the order of two points
pub same_by_test :
    (p q : Point) (o : Ordering) (b : Bool) → o ≡ compare_points p q → b ≡ (ordering_index o == 1) → IsTrue b ↔ IsSamePoint p q
same_by_test p q o b order is =
    let test = equal_test o b is in
    (λ h. same_compare_points p q (sym order ∙ test.0 h), λ h. test.1 (order ∙ compare_points_same p q h))
