-- The order of points by x and then by y: what it says of their distances, and that it is a total order.
use Rattle.std.proofs.Common.{◌≡◌, ◌⊎◌, inl, inr, ℤ, pos, ◌*ℤ◌, ◌<ℤ◌, Ordering, Less, Equal, [], ◌∷◌, refl, arith}
use Rattle.std.specs.Cmp.{IsTotalOrder}
use Rattle.std.proofs.lemmas.Cmp.{int_cmp_total, then_total}
use Rattle.whole_algebra.proofs.Laws.{linear}
use Rattle.whole_algebra.proofs.Polynomials.{var, ◌⊖◌, ◌⊗◌, minus}
use Rattle.whole_algebra.proofs.Certificates.{positive, less, same, same_from, less_by, scaled, ◌⊞◌, ◌⊠◌}
use Rattle.plane_laws.specs.Plane.{Point, IsSamePoint, shift, rise}
use Rattle.plane_laws.specs.Orders.{compare_fractions, compare_points, IsBefore}
use Rattle.whole_algebra.proofs.Comparisons.{same_int_cmp, int_cmp_less, less_int_cmp, equal_int_cmp, then_less_from, then_less_gives}
use Rattle.whole_algebra.proofs.Comparisons.{then_equal_from, then_equal_gives}

-- ---- fractions
pub compare_fractions-trans : (x w u v s t : ℤ) → pos 0 <ℤ w → pos 0 <ℤ v → pos 0 <ℤ t → compare_fractions x w u v ≡ Less
    → compare_fractions u v s t ≡ Less → compare_fractions x w s t ≡ Less
compare_fractions-trans x w u v s t hw hv ht e f =
    let vs = x ∷ w ∷ u ∷ v ∷ s ∷ t ∷ [] in
    int_cmp_less (x *ℤ t) (s *ℤ w)
    (less_by (var 0 ⊗ var 5) (var 4 ⊗ var 1) vs
    (λ denied. denied ⊠ positive (var 3) hv ⊞ less (var 0 ⊗ var 3) (var 2 ⊗ var 1) (less_int_cmp (x *ℤ v) (u *ℤ w) e) ⊠ positive
    (var 5) ht ⊞ less (var 2 ⊗ var 5) (var 4 ⊗ var 3) (less_int_cmp (u *ℤ t) (s *ℤ v) f) ⊠ positive (var 1) hw) refl)

pub compare_fractions-congr : (x w u v s t : ℤ) → pos 0 <ℤ w → pos 0 <ℤ v → compare_fractions x w u v ≡ Equal
    → compare_fractions x w s t ≡ compare_fractions u v s t
compare_fractions-congr x w u v s t hw hv e =
    let vs = x ∷ w ∷ u ∷ v ∷ s ∷ t ∷ [] in
    same_int_cmp (x *ℤ t) (s *ℤ w) (u *ℤ t) (s *ℤ v) v w hv hw
    (same_from (var 3 ⊗ (var 4 ⊗ var 1 ⊖ var 0 ⊗ var 5)) (var 1 ⊗ (var 4 ⊗ var 3 ⊖ var 2 ⊗ var 5)) vs
    (scaled (minus (var 5)) (same (var 0 ⊗ var 3) (var 2 ⊗ var 1) (equal_int_cmp (x *ℤ v) (u *ℤ w) e))) refl)

abbrev by_x : Point → Point → Ordering
by_x p q = compare_fractions p.x p.w q.x q.w

abbrev pub by_y : Point → Point → Ordering
by_y p q = compare_fractions p.y p.w q.y q.w

-- ---- points
by_x_total : IsTotalOrder by_x
by_x_total = record {
  antisymm = λ p q. int_cmp_total.antisymm (p.x *ℤ q.w) (q.x *ℤ p.w);
  trans = λ p q r e f. compare_fractions-trans p.x p.w q.x q.w r.x r.w p.heavy q.heavy r.heavy e f;
  congr = λ p q r e. compare_fractions-congr p.x p.w q.x q.w r.x r.w p.heavy q.heavy e;
}

pub by_y_total : IsTotalOrder by_y
by_y_total = record {
  antisymm = λ p q. int_cmp_total.antisymm (p.y *ℤ q.w) (q.y *ℤ p.w);
  trans = λ p q r e f. compare_fractions-trans p.y p.w q.y q.w r.y r.w p.heavy q.heavy r.heavy e f;
  congr = λ p q r e. compare_fractions-congr p.y p.w q.y q.w r.y r.w p.heavy q.heavy e;
}

pub compare_points_total : IsTotalOrder compare_points
compare_points_total = then_total by_x_total by_y_total

-- equal exactly at the same point
pub compare_points_same : (p q : Point) → IsSamePoint p q → compare_points p q ≡ Equal
compare_points_same p q e = then_equal_from (p.x *ℤ q.w) (q.x *ℤ p.w) (p.y *ℤ q.w) (q.y *ℤ p.w) e.across e.above

pub same_compare_points : (p q : Point) → compare_points p q ≡ Equal → IsSamePoint p q
same_compare_points p q e = let both = then_equal_gives (p.x *ℤ q.w) (q.x *ℤ p.w) (p.y *ℤ q.w) (q.y *ℤ p.w) e in
    record { across = both.0; above = both.1 }

-- before, by the distances
pub IsBefore-from : (p q : Point) → (pos 0 <ℤ shift p q) ⊎ ((shift p q ≡ pos 0) × (pos 0 <ℤ rise p q)) → IsBefore p q
unfolding shift rise
IsBefore-from p q (inl h) = then_less_from (p.x *ℤ q.w) (q.x *ℤ p.w) (p.y *ℤ q.w) (q.y *ℤ p.w) (inl (omega (arith, linear, h)))
IsBefore-from p q (inr h) = then_less_from (p.x *ℤ q.w) (q.x *ℤ p.w) (p.y *ℤ q.w) (q.y *ℤ p.w)
    (inr (omega (arith, linear, h.0), omega (arith, linear, h.1)))

before_cases : (p q : Point) → ((p.x *ℤ q.w) <ℤ (q.x *ℤ p.w)) ⊎ ((p.x *ℤ q.w ≡ q.x *ℤ p.w) × ((p.y *ℤ q.w) <ℤ (q.y *ℤ p.w)))
    → (pos 0 <ℤ shift p q) ⊎ ((shift p q ≡ pos 0) × (pos 0 <ℤ rise p q))
unfolding shift rise
before_cases p q (inl h) = inl (omega (arith, linear, h))
before_cases p q (inr h) = inr (omega (arith, linear, h.0), omega (arith, linear, h.1))

pub IsBefore-gives : (p q : Point) → IsBefore p q → (pos 0 <ℤ shift p q) ⊎ ((shift p q ≡ pos 0) × (pos 0 <ℤ rise p q))
IsBefore-gives p q e = before_cases p q (then_less_gives (p.x *ℤ q.w) (q.x *ℤ p.w) (p.y *ℤ q.w) (q.y *ℤ p.w) e)
