-- The direction from one point to another.
use Rattle.std.proofs.Common.{◌≡◌, ℤ, pos, ◌+ℤ◌, ◌*ℤ◌, arith, ◌∷◌, [], refl}
use Rattle.whole_algebra.proofs.Laws.{linear}
use Rattle.whole_algebra.proofs.Polynomials.{var, num, ◌⊕◌, ◌⊗◌, identity}
use Rattle.plane_laws.specs.Plane.{Point, IsSamePoint, shift, rise}
use Rattle.plane_laws.specs.Directions.{Direction}
use Rattle.plane_laws.specs.Along.{IsInCone}
use Rattle.plane_laws.proofs.Segments.On.{same_from_steps}

-- the way from v to another point
unfoldable pub way_to : (v q : Point) → ¬ IsSamePoint v q → Direction
way_to v q apart = record { x = shift v q; y = rise v q; moves = λ z. apart (same_from_steps v q z.0 z.1) }

-- and that point lies that way
pub way_to_is : (v q : Point) (apart : ¬ IsSamePoint v q) → IsInCone v (way_to v q apart) (way_to v q apart) q
unfolding way_to
way_to_is v q apart = record {
  i = pos 1;
  j = pos 0;
  first = omega (arith, linear);
  second = omega (arith, linear);
  some = omega (arith, linear);
  times = pos 1;
  positive = omega (arith, linear);
  across = once (shift v q);
  above = once (rise v q);
}
  where
    once : (z : ℤ) → pos 1 *ℤ z ≡ (pos 1 *ℤ z) +ℤ (pos 0 *ℤ z)
    once z = identity (num (pos 1) ⊗ var 0) (num (pos 1) ⊗ var 0 ⊕ num (pos 0) ⊗ var 0) (z ∷ []) refl
