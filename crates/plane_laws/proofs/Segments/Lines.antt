-- Points of one line, and the order of points along it.
use Rattle.std.proofs.Common.{◌≡◌, ◌⊎◌, inl, inr, ℤ, pos, ◌+ℤ◌, ◌-ℤ◌, ◌*ℤ◌, ◌<ℤ◌, ◌≤ℤ◌, Greater, [], refl, sym, ◌∙◌, ap, arith}
use Rattle.std.specs.Ordering.{ordering_then, int_cmp}
use lib.IntN.{*ℤ-zero, zero-*ℤ}
use Rattle.whole_algebra.proofs.Laws.{linear}
use Rattle.whole_algebra.proofs.Polynomials.{Poly, ◌⊕◌, ◌⊖◌, ◌⊗◌, identity}
use Rattle.whole_algebra.proofs.Signs.{by_sign, zero_factor, pos_nonzero, <ℤ_apart, <ℤ_weaken, nonneg-*-nonneg, sum_zero}
use Rattle.plane_laws.specs.Plane.{Point, IsSamePoint, IsOnSegment, turn, shift, rise}
use Rattle.plane_laws.specs.Orders.{compare_points, IsBefore}
use Rattle.plane_laws.proofs.Segments.Order.{compare_along-ahead, not_beyond}
use Rattle.whole_algebra.proofs.Comparisons.{int_cmp_equal, int_cmp_greater, then_second}
use Rattle.plane_laws.proofs.Segments.Mixes.{start_on_segment, end_on_segment}
use Rattle.plane_laws.proofs.Segments.On.{same_from_steps}
use Rattle.plane_laws.proofs.Turns.Turns.{PolyPoint, point_at, turn_poly, ◌then◌}
use Rattle.plane_laws.proofs.Points.Order.{IsBefore-gives}
use Rattle.plane_laws.proofs.Segments.Onto.{on_segment_by_shift, on_segment_by_rise}

-- ---- three points of the line through two others
abbrev shift_q : PolyPoint → PolyPoint → Poly
shift_q a b = b.x ⊗ a.w ⊖ a.x ⊗ b.w

abbrev rise_q : PolyPoint → PolyPoint → Poly
rise_q a b = b.y ⊗ a.w ⊖ a.y ⊗ b.w

-- a step from a to b times the turn of three points, by the steps between the three
step_of_turn : (a b p q r : Point)
    → (shift a b *ℤ turn p q r ≡ (turn a b p *ℤ shift q r +ℤ turn a b q *ℤ shift r p) +ℤ turn a b r *ℤ shift p q)
    × (rise a b *ℤ turn p q r ≡ (turn a b p *ℤ rise q r +ℤ turn a b q *ℤ rise r p) +ℤ turn a b r *ℤ rise p q)
unfolding shift rise turn
step_of_turn a b p q r =
    let va = point_at 0 in
    let vb = point_at 3 in
    let vp = point_at 6 in
    let vq = point_at 9 in
    let vr = point_at 12 in
    let parted = λ (step : PolyPoint → PolyPoint → Poly).
    (turn_poly va vb vp ⊗ step vq vr ⊕ turn_poly va vb vq ⊗ step vr vp) ⊕ turn_poly va vb vr ⊗ step vp vq in
    let vs = a then b then p then q then r then [] in (
      identity (shift_q va vb ⊗ turn_poly vp vq vr) (parted (λ v w. shift_q v w)) vs refl,
      identity (rise_q va vb ⊗ turn_poly vp vq vr) (parted (λ v w. rise_q v w)) vs refl,
    )

nothing : (l x y z u v w m : ℤ) → l ≡ (x *ℤ u +ℤ y *ℤ v) +ℤ z *ℤ w → x ≡ pos 0 → y ≡ pos 0 → z ≡ pos 0 → l ≡ pos 0
nothing l x y z u v w m e ex ey ez = e ∙ (λ i. (ex i *ℤ u +ℤ ey i *ℤ v) +ℤ ez i *ℤ w) ∙ (λ i. (zero-*ℤ u i +ℤ zero-*ℤ v i) +ℤ zero-*ℤ w i)

pub three_on_line : (a b p q r : Point) → ¬ IsSamePoint a b → turn a b p ≡ pos 0 → turn a b q ≡ pos 0 → turn a b r ≡ pos 0
    → turn p q r ≡ pos 0
three_on_line a b p q r apart ep eq er = by_sign (shift a b)
    (λ h. by_shift (<ℤ_apart h))
    (λ e. by_sign (rise a b) (λ h. by_rise (<ℤ_apart h)) (λ f. absurd (apart (same_from_steps a b e f))) (λ h. by_rise (pos_nonzero h)))
    (λ h. by_shift (pos_nonzero h))
  where
    by_shift : ¬ (shift a b ≡ pos 0) → turn p q r ≡ pos 0
    by_shift n = zero_factor (shift a b) (turn p q r) n
        (nothing _ (turn a b p) (turn a b q) (turn a b r) (shift q r) (shift r p) (shift p q) (pos 0) (step_of_turn a b p q r).0 ep eq er)

    by_rise : ¬ (rise a b ≡ pos 0) → turn p q r ≡ pos 0
    by_rise n = zero_factor (rise a b) (turn p q r) n
        (nothing _ (turn a b p) (turn a b q) (turn a b r) (rise q r) (rise r p) (rise p q) (pos 0) (step_of_turn a b p q r).1 ep eq er)

-- ---- a segment that goes ahead has exactly the points of its line from its beginning to its end
-- p is at most q: it isn't after it
abbrev pub AtMost : Point → Point → Type 0
AtMost p q = ¬ (compare_points p q ≡ Greater)

pub on_segment-AtMost : (a b p : Point) → IsBefore a b → IsOnSegment a b p → AtMost a p × AtMost p b
on_segment-AtMost a b p h on = (
  λ e. not_beyond a b a p (start_on_segment a b) on (start_on_segment a p)
      (sym (compare_along-ahead a b a p h (start_on_segment a b) on) ∙ e),
  λ e. not_beyond a b p b on (end_on_segment a b) on (sym (compare_along-ahead a b p b h on (end_on_segment a b)) ∙ e),
)

AtMost-gives : (p q : Point) → AtMost p q → (pos 0 <ℤ shift p q) ⊎ ((shift p q ≡ pos 0) × (pos 0 ≤ℤ rise p q))
unfolding shift rise
AtMost-gives p q n = by_sign (q.x *ℤ p.w -ℤ p.x *ℤ q.w)
    (λ h. absurd (n (ap (λ o. ordering_then o (int_cmp (p.y *ℤ q.w) (q.y *ℤ p.w)))
    (int_cmp_greater (p.x *ℤ q.w) (q.x *ℤ p.w) (omega (arith, linear, h))))))
    (λ e. by_sign (q.y *ℤ p.w -ℤ p.y *ℤ q.w)
    (λ h. absurd (n (then_second (int_cmp (p.x *ℤ q.w) (q.x *ℤ p.w)) (int_cmp (p.y *ℤ q.w) (q.y *ℤ p.w))
    (int_cmp_equal (p.x *ℤ q.w) (q.x *ℤ p.w) (omega (arith, linear, e)))
    ∙ int_cmp_greater (p.y *ℤ q.w) (q.y *ℤ p.w) (omega (arith, linear, h)))))
    (λ f. inr (e, omega (arith, linear, f)))
    (λ h. inr (e, <ℤ_weaken h)))
    inl

not_left : (p q : Point) → AtMost p q → pos 0 ≤ℤ shift p q
not_left p q n = go (AtMost-gives p q n)
  where
    go : (pos 0 <ℤ shift p q) ⊎ ((shift p q ≡ pos 0) × (pos 0 ≤ℤ rise p q)) → pos 0 ≤ℤ shift p q
    go (inl h) = <ℤ_weaken h
    go (inr h) = omega (arith, linear, h.0)

not_below : (p q : Point) → AtMost p q → shift p q ≡ pos 0 → pos 0 ≤ℤ rise p q
not_below p q n e = go (AtMost-gives p q n)
  where
    go : (pos 0 <ℤ shift p q) ⊎ ((shift p q ≡ pos 0) × (pos 0 ≤ℤ rise p q)) → pos 0 ≤ℤ rise p q
    go (inl h) = absurd (<ℤ_apart h (sym e))
    go (inr h) = h.1

-- the parts of a way add up
shift_parts : (a b p : Point) → b.w *ℤ shift a p +ℤ a.w *ℤ shift p b ≡ p.w *ℤ shift a b
unfolding shift
shift_parts a b p =
    let va = point_at 0 in
    let vb = point_at 3 in
    let vp = point_at 6 in
    identity (vb.w ⊗ shift_q va vp ⊕ va.w ⊗ shift_q vp vb) (vp.w ⊗ shift_q va vb) (a then b then p then []) refl

pub on_segment-from_AtMost : (a b p : Point) → IsBefore a b → turn a b p ≡ pos 0 → AtMost a p → AtMost p b → IsOnSegment a b p
on_segment-from_AtMost a b p h line first last = go (IsBefore-gives a b h)
  where
    go : (pos 0 <ℤ shift a b) ⊎ ((shift a b ≡ pos 0) × (pos 0 <ℤ rise a b)) → IsOnSegment a b p
    go (inl k) = on_segment_by_shift a b p line k (not_left a p first) (not_left p b last)
    go (inr k) =
        let none = sum_zero (b.w *ℤ shift a p) (a.w *ℤ shift p b) (nonneg-*-nonneg (<ℤ_weaken b.heavy) (not_left a p first))
        (nonneg-*-nonneg (<ℤ_weaken a.heavy) (not_left p b last)) (shift_parts a b p ∙ ap (λ z. p.w *ℤ z) k.0 ∙ *ℤ-zero p.w) in
        on_segment_by_rise a b p line k.1
        (not_below a p first (zero_factor b.w (shift a p) (pos_nonzero b.heavy) none.0))
        (not_below p b last (zero_factor a.w (shift p b) (pos_nonzero a.heavy) none.1))
