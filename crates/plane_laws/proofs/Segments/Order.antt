-- The order along a segment is that of points by x and then by y, or its reverse where the segment goes back.
use Rattle.std.proofs.Common.{Ordering, Less, Equal, Greater, subst, ◌≤ℤ◌, ◌≡◌, ◌⊎◌, inl, inr, ℤ, pos, ◌+ℤ◌, ◌-ℤ◌, ◌*ℤ◌, neg_ℤ, ◌<ℤ◌, []}
use Rattle.std.proofs.Common.{◌∷◌, refl, sym, ◌∙◌, ap, arith}
use Rattle.std.specs.Cmp.{IsTotalOrder}
use Rattle.std.proofs.lemmas.Cmp.{int_cmp_total}
use Rattle.std.proofs.lemmas.Int.{by_lt_z}
use Rattle.plane_laws.specs.Plane.{IsSamePoint, Point, IsMix, IsOnSegment, shift, rise}
use Rattle.plane_laws.proofs.Points.Same.{same_sym}
use Rattle.plane_laws.proofs.Segments.On.{same_from_steps, mix_shift_start, mix_rise_start}
use Rattle.whole_algebra.proofs.Certificates.{vanishing, positive, natural, impossible_by, ◌⊠◌, same, same_from, scaled, ◌⊞◌}
use lib.Signed.{<ℤ_irrefl, <ℤ-≤ℤ_trans}
use Rattle.whole_algebra.proofs.Signs.{nonneg-+-nonneg, nonneg-*-nonneg, pos_factor, <ℤ_weaken, by_sign, pos-*-pos, neg-*-pos, square_pos}
use Rattle.whole_algebra.proofs.Signs.{square_nonneg, pos-+-nonneg, nonneg-+-pos, <ℤ_apart}
use Rattle.std.specs.Ordering.{int_cmp, ordering_then}
use Rattle.whole_algebra.proofs.Laws.{linear}
use Rattle.whole_algebra.proofs.Polynomials.{var, num, ◌⊕◌, ◌⊖◌, ◌⊗◌, minus, identity}
use lib.IntN.{*ℤ-zero, zero-*ℤ}
use Rattle.plane_laws.specs.Orders.{compare_points, compare_along, along, IsBefore}
use Rattle.whole_algebra.proofs.Comparisons.{greater_int_cmp, int_cmp_less, int_cmp_equal, int_cmp_greater, same_int_cmp, then_second}
use Rattle.plane_laws.proofs.Points.Order.{IsBefore-from, IsBefore-gives, compare_fractions-trans, compare_fractions-congr}
use Rattle.plane_laws.proofs.Points.Order.{compare_points_same, same_compare_points}
use Rattle.plane_laws.proofs.Segments.Onto.{shift_p}

-- how far the second of two mixes is ahead of the first, in one of the coordinates
ahead_by : (a v b w m x n y s t u z k l : ℤ) → k *ℤ m ≡ s *ℤ a +ℤ t *ℤ b → k *ℤ x ≡ s *ℤ v +ℤ t *ℤ w → l *ℤ n ≡ u *ℤ a +ℤ z *ℤ b
    → l *ℤ y ≡ u *ℤ v +ℤ z *ℤ w → (k *ℤ l) *ℤ (n *ℤ x -ℤ m *ℤ y) ≡ (s *ℤ z -ℤ t *ℤ u) *ℤ (b *ℤ v -ℤ a *ℤ w)
ahead_by a v b w m x n y s t u z k l f_m f_x g_n g_y =
    let vs = a ∷ v ∷ b ∷ w ∷ m ∷ x ∷ n ∷ y ∷ s ∷ t ∷ u ∷ z ∷ k ∷ l ∷ [] in
    let first = var 8 ⊗ var 0 ⊕ var 9 ⊗ var 2 in
    let second = var 10 ⊗ var 0 ⊕ var 11 ⊗ var 2 in
    same_from ((var 12 ⊗ var 13) ⊗ (var 6 ⊗ var 5 ⊖ var 4 ⊗ var 7))
    ((var 8 ⊗ var 11 ⊖ var 9 ⊗ var 10) ⊗ shift_p (var 0) (var 1) (var 2) (var 3)) vs
    (scaled (var 12 ⊗ var 5) (same (var 13 ⊗ var 6) second g_n)
    ⊞ scaled second (same (var 12 ⊗ var 5) (var 8 ⊗ var 1 ⊕ var 9 ⊗ var 3) f_x)
    ⊞ scaled (minus (var 13 ⊗ var 7)) (same (var 12 ⊗ var 4) first f_m)
    ⊞ scaled (minus first) (same (var 13 ⊗ var 7) (var 10 ⊗ var 1 ⊕ var 11 ⊗ var 3) g_y)) refl

-- two mixes: how far the second is ahead of the first, in terms of the weights
module _ (a b m n : Point) (s t u v : ℤ) (f : IsMix a b m s t) (g : IsMix a b n u v) where
  ahead_across : (f.times *ℤ g.times) *ℤ (n.x *ℤ m.w -ℤ m.x *ℤ n.w) ≡ (s *ℤ v -ℤ t *ℤ u) *ℤ shift a b
  unfolding shift
  ahead_across = ahead_by a.x a.w b.x b.w m.x m.w n.x n.w s t u v f.times g.times f.across f.mass g.across g.mass

  ahead_above : (f.times *ℤ g.times) *ℤ (n.y *ℤ m.w -ℤ m.y *ℤ n.w) ≡ (s *ℤ v -ℤ t *ℤ u) *ℤ rise a b
  unfolding rise
  ahead_above = ahead_by a.y a.w b.y b.w m.y m.w n.y n.w s t u v f.times g.times f.above f.mass g.above g.mass

  ahead_along : (f.times *ℤ g.times) *ℤ (along a b n *ℤ m.w -ℤ along a b m *ℤ n.w) ≡ (s *ℤ v -ℤ t *ℤ u) *ℤ
      (a.w *ℤ (shift a b *ℤ shift a b +ℤ rise a b *ℤ rise a b))
  unfolding along
  ahead_along =
      let vs = shift a b ∷ rise a b ∷ shift a m ∷ rise a m ∷ shift a n ∷ rise a n ∷ m.w ∷ n.w ∷ f.times ∷ g.times ∷ s ∷ t ∷ u ∷ v ∷ a.w ∷
      b.w ∷ [] in
      let size = var 0 ⊗ var 0 ⊕ var 1 ⊗ var 1 in
      same_from ((var 8 ⊗ var 9) ⊗ ((var 0 ⊗ var 4 ⊕ var 1 ⊗ var 5) ⊗ var 6 ⊖ (var 0 ⊗ var 2 ⊕ var 1 ⊗ var 3) ⊗ var 7))
      ((var 10 ⊗ var 13 ⊖ var 11 ⊗ var 12) ⊗ (var 14 ⊗ size)) vs
      (scaled (var 13 ⊗ size) (same (var 8 ⊗ var 6) (var 10 ⊗ var 14 ⊕ var 11 ⊗ var 15) f.mass)
      ⊞ scaled (minus (var 11 ⊗ size)) (same (var 9 ⊗ var 7) (var 12 ⊗ var 14 ⊕ var 13 ⊗ var 15) g.mass)
      ⊞ scaled (var 8 ⊗ var 6 ⊗ var 0) (same (var 9 ⊗ var 4) (var 13 ⊗ var 0) (mix_shift_start g))
      ⊞ scaled (var 8 ⊗ var 6 ⊗ var 1) (same (var 9 ⊗ var 5) (var 13 ⊗ var 1) (mix_rise_start g))
      ⊞ scaled (minus (var 9 ⊗ var 7 ⊗ var 0)) (same (var 8 ⊗ var 2) (var 11 ⊗ var 0) (mix_shift_start f))
      ⊞ scaled (minus (var 9 ⊗ var 7 ⊗ var 1)) (same (var 8 ⊗ var 3) (var 11 ⊗ var 1) (mix_rise_start f))) refl

  -- the three comparisons as signs of products with the crossed weights
  one_cmp : (x y z : ℤ) → (f.times *ℤ g.times) *ℤ (y -ℤ x) ≡ z → int_cmp x y ≡ int_cmp (pos 0) z
  one_cmp x y z e = same_int_cmp x y (pos 0) z (f.times *ℤ g.times) (pos 1) (pos-*-pos f.some g.some) (record { lt = tt })
      (e ∙ identity (var 0) (num (pos 1) ⊗ (var 0 ⊖ num (pos 0))) (z ∷ []) refl)

  points_cmp : compare_points m n ≡ ordering_then (int_cmp (pos 0) ((s *ℤ v -ℤ t *ℤ u) *ℤ shift a b))
      (int_cmp (pos 0) ((s *ℤ v -ℤ t *ℤ u) *ℤ rise a b))
  points_cmp = λ i. ordering_then (one_cmp (m.x *ℤ n.w) (n.x *ℤ m.w) ((s *ℤ v -ℤ t *ℤ u) *ℤ shift a b) ahead_across i)
      (one_cmp (m.y *ℤ n.w) (n.y *ℤ m.w) ((s *ℤ v -ℤ t *ℤ u) *ℤ rise a b) ahead_above i)

  along_cmp : compare_along a b m n ≡ int_cmp (pos 0) ((s *ℤ v -ℤ t *ℤ u) *ℤ (a.w *ℤ (shift a b *ℤ shift a b +ℤ rise a b *ℤ rise a b)))
  along_cmp = one_cmp (along a b m *ℤ n.w) (along a b n *ℤ m.w) _ ahead_along

-- the sign of a number, from its products with the two parts of a way that goes ahead
by_parts : (e x y g : ℤ) → (pos 0 <ℤ x) ⊎ ((x ≡ pos 0) × (pos 0 <ℤ y)) → pos 0 <ℤ g
    → ordering_then (int_cmp (pos 0) (e *ℤ x)) (int_cmp (pos 0) (e *ℤ y)) ≡ int_cmp (pos 0) (e *ℤ g)
by_parts e x y g (inl h) hg = by_sign e
    (λ k. ap (λ o. ordering_then o (int_cmp (pos 0) (e *ℤ y))) (int_cmp_greater (pos 0) (e *ℤ x) (neg-*-pos k h))
    ∙ sym (int_cmp_greater (pos 0) (e *ℤ g) (neg-*-pos k hg)))
    (λ k. (λ i. ordering_then (int_cmp (pos 0) (k i *ℤ x)) (int_cmp (pos 0) (k i *ℤ y)))
    ∙ then_second (int_cmp (pos 0) (pos 0 *ℤ x)) (int_cmp (pos 0) (pos 0 *ℤ y)) (int_cmp_equal (pos 0) (pos 0 *ℤ x) (sym (zero-*ℤ x)))
    ∙ int_cmp_equal (pos 0) (pos 0 *ℤ y) (sym (zero-*ℤ y))
    ∙ sym (int_cmp_equal (pos 0) (e *ℤ g) (sym (ap (λ z. z *ℤ g) k ∙ zero-*ℤ g))))
    (λ k. ap (λ o. ordering_then o (int_cmp (pos 0) (e *ℤ y))) (int_cmp_less (pos 0) (e *ℤ x) (pos-*-pos k h))
    ∙ sym (int_cmp_less (pos 0) (e *ℤ g) (pos-*-pos k hg)))
by_parts e x y g (inr h) hg =
    then_second (int_cmp (pos 0) (e *ℤ x)) (int_cmp (pos 0) (e *ℤ y))
    (int_cmp_equal (pos 0) (e *ℤ x) (sym (ap (λ z. e *ℤ z) h.0 ∙ *ℤ-zero e)))
    ∙ same_int_cmp (pos 0) (e *ℤ y) (pos 0) (e *ℤ g) g y hg h.1
    (identity (var 2 ⊗ (var 0 ⊗ var 1 ⊖ num (pos 0))) (var 1 ⊗ (var 0 ⊗ var 2 ⊖ num (pos 0))) (e ∷ y ∷ g ∷ []) refl)

-- the square of the way's length
length_pos : (a b : Point) → (pos 0 <ℤ shift a b) ⊎ ((shift a b ≡ pos 0) × (pos 0 <ℤ rise a b))
    → pos 0 <ℤ (a.w *ℤ (shift a b *ℤ shift a b +ℤ rise a b *ℤ rise a b))
length_pos a b (inl h) = pos-*-pos a.heavy (pos-+-nonneg (pos-*-pos h h) (square_nonneg (rise a b)))
length_pos a b (inr h) = pos-*-pos a.heavy (nonneg-+-pos (square_nonneg (shift a b)) (pos-*-pos h.1 h.1))

pub compare_along-ahead : (a b m n : Point) → IsBefore a b → IsOnSegment a b m → IsOnSegment a b n
    → compare_points m n ≡ compare_along a b m n
compare_along-ahead a b m n h f g =
    let way = IsBefore-gives a b h in
    points_cmp a b m n f.s f.t g.s g.t f.mix g.mix
    ∙ by_parts (f.s *ℤ g.t -ℤ f.t *ℤ g.s) (shift a b) (rise a b) (a.w *ℤ (shift a b *ℤ shift a b +ℤ rise a b *ℤ rise a b)) way
    (length_pos a b way)
    ∙ sym (along_cmp a b m n f.s f.t g.s g.t f.mix g.mix)

-- the way back: the parts turned round
pub compare_along-back : (a b m n : Point) → ¬ IsBefore a b → IsOnSegment a b m → IsOnSegment a b n
    → compare_points n m ≡ compare_along a b m n
compare_along-back a b m n no_way f g =
    points_cmp a b n m g.s g.t f.s f.t g.mix f.mix ∙ turned ∙ sym (along_cmp a b m n f.s f.t g.s g.t f.mix g.mix)
  where
    e : ℤ
    e = f.s *ℤ g.t -ℤ f.t *ℤ g.s

    size : ℤ
    size = a.w *ℤ (shift a b *ℤ shift a b +ℤ rise a b *ℤ rise a b)

    flipped : (x : ℤ) → (g.s *ℤ f.t -ℤ g.t *ℤ f.s) *ℤ x ≡ e *ℤ neg_ℤ x
    flipped x = identity ((var 2 ⊗ var 1 ⊖ var 3 ⊗ var 0) ⊗ var 4) ((var 0 ⊗ var 3 ⊖ var 1 ⊗ var 2) ⊗ minus (var 4))
        (f.s ∷ f.t ∷ g.s ∷ g.t ∷ x ∷ []) refl

    squares : (pos 0 <ℤ neg_ℤ (shift a b)) ⊎ ((neg_ℤ (shift a b) ≡ pos 0) × (pos 0 <ℤ neg_ℤ (rise a b))) → pos 0 <ℤ size
    squares (inl h) = pos-*-pos a.heavy
        (pos-+-nonneg (square_pos (shift a b) (λ z. <ℤ_apart h (omega (arith, linear, z)))) (square_nonneg (rise a b)))
    squares (inr h) = pos-*-pos a.heavy
        (nonneg-+-pos (square_nonneg (shift a b)) (square_pos (rise a b) (λ z. <ℤ_apart h.1 (omega (arith, linear, z)))))

    goes_back : (pos 0 <ℤ neg_ℤ (shift a b)) ⊎ ((neg_ℤ (shift a b) ≡ pos 0) × (pos 0 <ℤ neg_ℤ (rise a b)))
        → ordering_then (int_cmp (pos 0) (e *ℤ neg_ℤ (shift a b))) (int_cmp (pos 0) (e *ℤ neg_ℤ (rise a b))) ≡ int_cmp (pos 0) (e *ℤ size)
    goes_back h = by_parts e (neg_ℤ (shift a b)) (neg_ℤ (rise a b)) size h (squares h)

    stays : shift a b ≡ pos 0 → rise a b ≡ pos 0 → ordering_then (int_cmp (pos 0) (e *ℤ neg_ℤ (shift a b)))
        (int_cmp (pos 0) (e *ℤ neg_ℤ (rise a b))) ≡ int_cmp (pos 0) (e *ℤ size)
    stays p q =
        then_second (int_cmp (pos 0) (e *ℤ neg_ℤ (shift a b))) (int_cmp (pos 0) (e *ℤ neg_ℤ (rise a b)))
        (int_cmp_equal (pos 0) (e *ℤ neg_ℤ (shift a b)) (sym (ap (λ z. e *ℤ neg_ℤ z) p ∙ *ℤ-zero e)))
        ∙ int_cmp_equal (pos 0) (e *ℤ neg_ℤ (rise a b)) (sym (ap (λ z. e *ℤ neg_ℤ z) q ∙ *ℤ-zero e))
        ∙ sym (int_cmp_equal (pos 0) (e *ℤ size)
        (sym ((λ i. e *ℤ (a.w *ℤ (p i *ℤ p i +ℤ q i *ℤ q i))) ∙ ap (λ z. e *ℤ z) (*ℤ-zero a.w) ∙ *ℤ-zero e)))

    turned : ordering_then (int_cmp (pos 0) ((g.s *ℤ f.t -ℤ g.t *ℤ f.s) *ℤ shift a b))
        (int_cmp (pos 0) ((g.s *ℤ f.t -ℤ g.t *ℤ f.s) *ℤ rise a b)) ≡ int_cmp (pos 0) (e *ℤ size)
    turned = (λ i. ordering_then (int_cmp (pos 0) (flipped (shift a b) i)) (int_cmp (pos 0) (flipped (rise a b) i))) ∙ by_sign (shift a b)
        (λ h. goes_back (inl (omega (arith, linear, h))))
        (λ p. by_sign (rise a b)
        (λ h. goes_back (inr (omega (arith, linear, p), omega (arith, linear, h))))
        (λ q. stays p q)
        (λ h. absurd (no_way (IsBefore-from a b (inr (p, h))))))
        (λ h. absurd (no_way (IsBefore-from a b (inl h))))

-- ---- what the order along a segment says
equal_less : Equal ≡ Less → ⊥
equal_less h = cc

greater_less : Greater ≡ Less → ⊥
greater_less h = cc

-- a total order of all points, by their places along the way
pub compare_along_total : (a b : Point) → IsTotalOrder (compare_along a b)
compare_along_total a b = record {
  antisymm = λ p q. int_cmp_total.antisymm (along a b p *ℤ q.w) (along a b q *ℤ p.w);
  trans = λ p q r e f. compare_fractions-trans (along a b p) p.w (along a b q) q.w (along a b r) r.w p.heavy q.heavy r.heavy e f;
  congr = λ p q r e. compare_fractions-congr (along a b p) p.w (along a b q) q.w (along a b r) r.w p.heavy q.heavy e;
}

-- equal exactly at the same point
module _ (a b p q : Point) (f : IsOnSegment a b p) (g : IsOnSegment a b q) where
  pub same_compare_along : compare_along a b p q ≡ Equal → IsSamePoint p q
  same_compare_along e = go (compare_points a b) refl
    where
      back : ¬ IsBefore a b → IsSamePoint p q
      back n = same_sym (same_compare_points q p (compare_along-back a b p q n f g ∙ e))

      go : (o : Ordering) → compare_points a b ≡ o → IsSamePoint p q
      go Less h = same_compare_points p q (compare_along-ahead a b p q h f g ∙ e)
      go Equal h = back (λ k. equal_less (sym h ∙ k))
      go Greater h = back (λ k. greater_less (sym h ∙ k))

  pub compare_along_same : IsSamePoint p q → compare_along a b p q ≡ Equal
  compare_along_same s = go (compare_points a b) refl
    where
      back : ¬ IsBefore a b → compare_along a b p q ≡ Equal
      back n = sym (compare_along-back a b p q n f g) ∙ compare_points_same q p (same_sym s)

      go : (o : Ordering) → compare_points a b ≡ o → compare_along a b p q ≡ Equal
      go Less h = sym (compare_along-ahead a b p q h f g) ∙ compare_points_same p q s
      go Equal h = back (λ k. equal_less (sym h ∙ k))
      go Greater h = back (λ k. greater_less (sym h ∙ k))

  -- a point on the way to q is not beyond q
  pub not_beyond : IsOnSegment a q p → ¬ (compare_along a b p q ≡ Greater)
  not_beyond on e = absurd
      (omega (
        arith,
        linear,
        greater_int_cmp (pos 0) (lead *ℤ size) (sym (along_cmp a b p q first second g.s g.t through g.mix) ∙ e),
        nonneg-*-nonneg ahead wide_size,
      ))
    where
      first : ℤ
      first = on.s *ℤ g.mix.times +ℤ on.t *ℤ g.s

      second : ℤ
      second = on.t *ℤ g.t

      lead : ℤ
      lead = first *ℤ g.t -ℤ second *ℤ g.s

      size : ℤ
      size = a.w *ℤ (shift a b *ℤ shift a b +ℤ rise a b *ℤ rise a b)

      wide_size : pos 0 ≤ℤ size
      wide_size = nonneg-*-nonneg (<ℤ_weaken a.heavy) (nonneg-+-nonneg (square_nonneg (shift a b)) (square_nonneg (rise a b)))

      ahead : pos 0 ≤ℤ lead
      ahead = subst (λ z. pos 0 ≤ℤ z)
          (identity (var 0 ⊗ (var 1 ⊗ var 2)) ((var 0 ⊗ var 1 ⊕ var 3 ⊗ var 4) ⊗ var 2 ⊖ (var 3 ⊗ var 2) ⊗ var 4)
          (on.s ∷ g.mix.times ∷ g.t ∷ on.t ∷ g.s ∷ []) refl)
          (nonneg-*-nonneg on.mix.first (nonneg-*-nonneg (<ℤ_weaken g.mix.some) g.mix.second))

      part : (x y z w : ℤ) → on.mix.times *ℤ w ≡ on.s *ℤ x +ℤ on.t *ℤ z → g.mix.times *ℤ z ≡ g.s *ℤ x +ℤ g.t *ℤ y
          → (on.mix.times *ℤ g.mix.times) *ℤ w ≡ first *ℤ x +ℤ second *ℤ y
      part x y z w h k =
          same_from ((var 0 ⊗ var 1) ⊗ var 9) ((var 2 ⊗ var 1 ⊕ var 3 ⊗ var 4) ⊗ var 6 ⊕ (var 3 ⊗ var 5) ⊗ var 7)
          (on.mix.times ∷ g.mix.times ∷ on.s ∷ on.t ∷ g.s ∷ g.t ∷ x ∷ y ∷ z ∷ w ∷ [])
          (scaled (var 1) (same (var 0 ⊗ var 9) (var 2 ⊗ var 6 ⊕ var 3 ⊗ var 8) h)
          ⊞ scaled (var 3) (same (var 1 ⊗ var 8) (var 4 ⊗ var 6 ⊕ var 5 ⊗ var 7) k)) refl

      through : IsMix a b p first second
      through = record {
        first = nonneg-+-nonneg (nonneg-*-nonneg on.mix.first (<ℤ_weaken g.mix.some)) (nonneg-*-nonneg on.mix.second g.mix.first);
        second = nonneg-*-nonneg on.mix.second g.mix.second;
        times = on.mix.times *ℤ g.mix.times;
        some = pos-*-pos on.mix.some g.mix.some;
        across = part a.x b.x q.x p.x on.mix.across g.mix.across;
        above = part a.y b.y q.y p.y on.mix.above g.mix.above;
        mass = part a.w b.w q.w p.w on.mix.mass g.mix.mass;
      }

  -- a point of the segment that is not beyond q is on the way to q
  pub on_the_way : ¬ IsSamePoint a b → ¬ (compare_along a b p q ≡ Greater) → IsOnSegment a q p
  on_the_way apart n = by_sign g.t (λ h. absurd (<ℤ_irrefl (<ℤ-≤ℤ_trans h g.mix.second))) none some
    where
      lead : ℤ
      lead = f.s *ℤ g.t -ℤ f.t *ℤ g.s

      size : ℤ
      size = a.w *ℤ (shift a b *ℤ shift a b +ℤ rise a b *ℤ rise a b)

      moves : pos 0 <ℤ size
      moves = by_sign (shift a b)
          (λ h. pos-*-pos a.heavy (pos-+-nonneg (square_pos (shift a b) (<ℤ_apart h)) (square_nonneg (rise a b))))
          (λ e. by_sign (rise a b)
          (λ h. pos-*-pos a.heavy (nonneg-+-pos (square_nonneg (shift a b)) (square_pos (rise a b) (<ℤ_apart h))))
          (λ k. absurd (apart (same_from_steps a b e k)))
          (λ h. pos-*-pos a.heavy (nonneg-+-pos (square_nonneg (shift a b)) (pos-*-pos h h))))
          (λ h. pos-*-pos a.heavy (pos-+-nonneg (pos-*-pos h h) (square_nonneg (rise a b))))

      ahead : pos 0 ≤ℤ lead
      ahead = by_lt_z lead (pos 0)
          (λ h. absurd (n (along_cmp a b p q f.s f.t g.s g.t f.mix g.mix ∙ int_cmp_greater (pos 0) (lead *ℤ size) (neg-*-pos h moves))))
          (λ h. h)

      part : (x y z w : ℤ) → f.mix.times *ℤ w ≡ f.s *ℤ x +ℤ f.t *ℤ y → g.mix.times *ℤ z ≡ g.s *ℤ x +ℤ g.t *ℤ y
          → (g.t *ℤ f.mix.times) *ℤ w ≡ lead *ℤ x +ℤ (f.t *ℤ g.mix.times) *ℤ z
      part x y z w h k =
          same_from ((var 5 ⊗ var 0) ⊗ var 9) ((var 2 ⊗ var 5 ⊖ var 3 ⊗ var 4) ⊗ var 6 ⊕ (var 3 ⊗ var 1) ⊗ var 8)
          (f.mix.times ∷ g.mix.times ∷ f.s ∷ f.t ∷ g.s ∷ g.t ∷ x ∷ y ∷ z ∷ w ∷ [])
          (scaled (var 5) (same (var 0 ⊗ var 9) (var 2 ⊗ var 6 ⊕ var 3 ⊗ var 7) h)
          ⊞ scaled (minus (var 3)) (same (var 1 ⊗ var 8) (var 4 ⊗ var 6 ⊕ var 5 ⊗ var 7) k)) refl

      some : pos 0 <ℤ g.t → IsOnSegment a q p
      some h = record {
        s = lead;
        t = f.t *ℤ g.mix.times;
        mix = record {
          first = ahead;
          second = nonneg-*-nonneg f.mix.second (<ℤ_weaken g.mix.some);
          times = g.t *ℤ f.mix.times;
          some = pos-*-pos h f.mix.some;
          across = part a.x b.x q.x p.x f.mix.across g.mix.across;
          above = part a.y b.y q.y p.y f.mix.above g.mix.above;
          mass = part a.w b.w q.w p.w f.mix.mass g.mix.mass;
        };
      }

      -- q is the end a itself, and so is p
      none : g.t ≡ pos 0 → IsOnSegment a q p
      none e = record {
        s = f.s;
        t = pos 0;
        mix = record {
          first = f.mix.first;
          second = record { le = tt };
          times = f.mix.times;
          some = f.mix.some;
          across = whole a.x b.x q.x p.x f.mix.across;
          above = whole a.y b.y q.y p.y f.mix.above;
          mass = whole a.w b.w q.w p.w f.mix.mass;
        };
      }
        where
          some_first : pos 0 <ℤ g.s
          some_first =
              pos_factor a.w g.s a.heavy (subst (λ z. pos 0 <ℤ z)
              (same_from (var 0 ⊗ var 1) (var 2 ⊗ var 3) (g.mix.times ∷ q.w ∷ a.w ∷ g.s ∷ g.t ∷ b.w ∷ [])
              (same (var 0 ⊗ var 1) (var 3 ⊗ var 2 ⊕ var 4 ⊗ var 5) g.mix.mass ⊞ scaled (var 5) (vanishing (var 4) e)) refl)
              (pos-*-pos g.mix.some q.heavy))

          no_second : f.t ≡ pos 0
          no_second = by_sign f.t
              (λ h. absurd (<ℤ_irrefl (<ℤ-≤ℤ_trans h f.mix.second)))
              (λ z. z)
              (λ h. impossible_by (f.s ∷ g.t ∷ f.t ∷ g.s ∷ [])
              (positive (var 2) h ⊠ positive (var 3) some_first ⊞ natural (var 0 ⊗ var 1 ⊖ var 2 ⊗ var 3) ahead
              ⊞ scaled (minus (var 0)) (vanishing (var 1) e)) refl)

          whole : (x y z w : ℤ) → f.mix.times *ℤ w ≡ f.s *ℤ x +ℤ f.t *ℤ y → f.mix.times *ℤ w ≡ f.s *ℤ x +ℤ pos 0 *ℤ z
          whole x y z w h =
              same_from (var 0 ⊗ var 6) (var 1 ⊗ var 3 ⊕ num (pos 0) ⊗ var 5) (f.mix.times ∷ f.s ∷ f.t ∷ x ∷ y ∷ z ∷ w ∷ [])
              (same (var 0 ⊗ var 6) (var 1 ⊗ var 3 ⊕ var 2 ⊗ var 4) h ⊞ scaled (var 4) (vanishing (var 2) no_second)) refl
