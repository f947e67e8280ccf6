-- Lowest terms: each direction has a ray that points its way, by the greatest common divisor of its parts.
use Rattle.std.proofs.Common.{◌≡◌, ℕ, zero, suc, ℤ, pos, ◌*ℤ◌, neg_ℤ, ◌<ℤ◌, ◌≤ℤ◌, [], ◌∷◌, ap, refl, sym, ◌∙◌, unsigned_abs, arith}
use Rattle.std.specs.Int.RustNames.{int_div}
use Rattle.std.specs.Int.{IsGcd}
use Rattle.std.proofs.lemmas.Int.{ints}
use Rattle.std.proofs.Math.Nat.{eq-zero_of_zero-dvd}
use lib.IntN.{*ℤ_comm, zero-*ℤ}
use Rattle.whole_algebra.proofs.Laws.{linear, one-*ℤ}
use Rattle.whole_algebra.proofs.Polynomials.{var, ◌⊗◌, minus}
use Rattle.whole_algebra.proofs.Certificates.{natural, positive, at_most, same, at_most_by, whole, ◌⊞◌, ◌⊠◌}
use Rattle.whole_algebra.proofs.Divisors.{Bezout, bezout, exact_quotient}
use Rattle.plane_laws.specs.Directions.{PointSameWay}
use Rattle.plane_exact.specs.Directions.{IsWay}
use Rattle.plane_exact.specs.Limits.{farthest}
use Rattle.plane_exact.specs.Orders.{direction_of}
use Rattle.plane_exact.specs.declared.dir.Dir.{Dir}
use Rattle.plane_exact.proofs.Laws.{IsReduced-divided}
use Rattle.point_set.specs.Sectors.{IsLowest}

-- the ray of a direction: the same way, in lowest terms
pub record HasLowest (d : Dir) : Type 0 where
  pub ray : Dir
  pub same : PointSameWay (direction_of d) (direction_of ray)
  pub lowest : IsLowest ray

-- a quotient is no greater than what is divided
quotient_top : (u g x m : ℤ) → pos 0 <ℤ g → pos 0 ≤ℤ m → u *ℤ g ≡ x → x ≤ℤ m → u ≤ℤ m
quotient_top u g x m hg hm e h =
    at_most_by (var 0) (var 3) (u ∷ g ∷ x ∷ m ∷ [])
    (λ denied. denied ⊠ positive (var 1) hg ⊞ at_most (var 2) (var 3) h ⊞ natural (var 3) hm ⊠ whole (positive (var 1) hg)
    ⊞ same (var 2) (var 0 ⊗ var 1) (sym e)) refl

-- nor less, where that is negative
quotient_bottom : (u g x m : ℤ) → pos 0 <ℤ g → pos 0 ≤ℤ m → u *ℤ g ≡ x → neg_ℤ m ≤ℤ x → neg_ℤ m ≤ℤ u
quotient_bottom u g x m hg hm e h =
    at_most_by (minus (var 3)) (var 0) (u ∷ g ∷ x ∷ m ∷ [])
    (λ denied. denied ⊠ positive (var 1) hg ⊞ at_most (minus (var 3)) (var 2) h ⊞ natural (var 3) hm ⊠ whole (positive (var 1) hg)
    ⊞ same (var 0 ⊗ var 1) (var 2) e) refl

-- parts of a direction that are u and v times g: (u, v) is a direction too
way_divided : (x y u v g : ℤ) → IsWay x y → pos 0 <ℤ g → u *ℤ g ≡ x → v *ℤ g ≡ y → IsWay u v
way_divided x y u v g way hg across above = record {
  left = quotient_bottom u g x (pos farthest) hg some across way.left;
  right = quotient_top u g x (pos farthest) hg some across way.right;
  bottom = quotient_bottom v g y (pos farthest) hg some above way.bottom;
  top = quotient_top v g y (pos farthest) hg some above way.top;
  turned = λ z. way.turned (still x u across z.0, still y v above z.1);
}
  where
    some : pos 0 ≤ℤ pos farthest
    some = omega (arith, linear)

    still : (z w : ℤ) → w *ℤ g ≡ z → w ≡ pos 0 → z ≡ pos 0
    still z w e zero_w = sym e ∙ ap (λ (k : ℤ). k *ℤ g) zero_w ∙ zero-*ℤ g

-- a common divisor of two numbers that aren't both 0 is positive
divisor_some : (x y : ℤ) (g : ℕ) → ¬ ((x ≡ pos 0) × (y ≡ pos 0)) → IsGcd (unsigned_abs x) (unsigned_abs y) g → pos 0 <ℤ pos g
divisor_some x y zero n h = absurd (n (still x (eq-zero_of_zero-dvd h.0), still y (eq-zero_of_zero-dvd h.1)))
  where
    still : (z : ℤ) → unsigned_abs z ≡ 0 → z ≡ pos 0
    still z e = omega (arith, ints, e)
divisor_some x y (suc g) n h = omega (arith, linear)

-- each direction has its ray
pub lowest_of : (d : Dir) → HasLowest d
lowest_of d = record {
  ray = ray;
  same = record {
    m = pos 1;
    n = pos b.divisor;
    some = omega (arith, linear);
    other = some;
    across = one-*ℤ d.dx ∙ sym across ∙ *ℤ_comm ray.dx (pos b.divisor);
    above = one-*ℤ d.dy ∙ sym above ∙ *ℤ_comm ray.dy (pos b.divisor);
  };
  lowest =
      let l = IsReduced-divided d.dx d.dy d.dy ray.dx ray.dy ray.dy (pos b.divisor) some across above above (λ e h k _. b.is_gcd.2 e h k) in
      record { only = λ e h k. l.only e h k k };
}
  where
    b : Bezout (unsigned_abs d.dx) (unsigned_abs d.dy)
    b = bezout (unsigned_abs d.dx) (unsigned_abs d.dy)

    some : pos 0 <ℤ pos b.divisor
    some = divisor_some d.dx d.dy b.divisor d.way.turned b.is_gcd

    across : int_div d.dx (pos b.divisor) *ℤ pos b.divisor ≡ d.dx
    across = exact_quotient d.dx b.divisor b.is_gcd.0

    above : int_div d.dy (pos b.divisor) *ℤ pos b.divisor ≡ d.dy
    above = exact_quotient d.dy b.divisor b.is_gcd.1

    ray : Dir
    ray = record {
      dx = int_div d.dx (pos b.divisor);
      dy = int_div d.dy (pos b.divisor);
      way =
          way_divided d.dx d.dy (int_div d.dx (pos b.divisor)) (int_div d.dy (pos b.divisor)) (pos b.divisor) d.way some across above;
    }
