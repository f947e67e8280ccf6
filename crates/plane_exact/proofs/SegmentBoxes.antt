-- A point of the line through two positions that is in their box is on their segment.
use Rattle.std.proofs.Common.{◌≡◌, ℤ, pos, ◌+ℤ◌, ◌-ℤ◌, ◌*ℤ◌, ◌<ℤ◌, ◌≤ℤ◌, [], ◌∷◌, refl, sym, ◌∙◌, ap, subst, arith}
use Rattle.std.specs.Int.{int_max, int_min}
use Rattle.std.proofs.lemmas.Int.{ints, clamps}
use Rattle.whole_algebra.proofs.Laws.{linear, one-*ℤ, *ℤ_one}
use Rattle.whole_algebra.proofs.Polynomials.{var, num, ◌⊕◌, ◌⊗◌, identity}
use Rattle.whole_algebra.proofs.Signs.{by_order, scale_≤ℤ_right, ≤ℤ_trans, <ℤ_weaken}
use Rattle.plane_laws.specs.Plane.{Point, IsOnSegment, turn, shift, rise}
use Rattle.plane_exact.specs.Places.{point_of}
use Rattle.plane_exact.specs.declared.point.Pt.{Pt}
use Rattle.plane_laws.proofs.Segments.Mixes.{segment_flip}
use Rattle.plane_laws.proofs.Turns.Turns.{turn_swap}
use Rattle.plane_laws.proofs.Segments.Onto.{on_segment_by_shift, on_segment_by_rise}

-- between two coordinates, by the lesser and the greater
between : (m n x w : ℤ) → pos 0 <ℤ w → m ≤ℤ n → (int_min m n *ℤ w) ≤ℤ x → x ≤ℤ (int_max m n *ℤ w) → ((m *ℤ w) ≤ℤ x) × (x ≤ℤ (n *ℤ w))
between m n x w hw o low high =
    let a : m ≤ℤ int_min m n = omega (arith, ints, clamps) in
    let b : int_max m n ≤ℤ n = omega (arith, ints, clamps) in
    (≤ℤ_trans (scale_≤ℤ_right (<ℤ_weaken hw) a) low, ≤ℤ_trans high (scale_≤ℤ_right (<ℤ_weaken hw) b))

-- the lesser first, and not the same: the steps of the whole way, from its start and to its end
in_order :
    (m n x w : ℤ) → pos 0 <ℤ w → m <ℤ n → (int_min m n *ℤ w) ≤ℤ x → x ≤ℤ (int_max m n *ℤ w)
    → (pos 0 <ℤ (n *ℤ pos 1 -ℤ m *ℤ pos 1)) × (pos 0 ≤ℤ (x *ℤ pos 1 -ℤ m *ℤ w)) × (pos 0 ≤ℤ (n *ℤ w -ℤ x *ℤ pos 1))
in_order m n x w hw h low high =
    let both = between m n x w hw (<ℤ_weaken h) low high in
    (omega (arith, linear, h, *ℤ_one m, *ℤ_one n), omega (arith, linear, both.0, *ℤ_one x), omega (arith, linear, both.1, *ℤ_one x))

-- the ends' abscissas in order, or their heights, and not the same
module _ (a b : Pt) (p : Point) (line : turn (point_of a) (point_of b) p ≡ pos 0) where
  by_abscissas : a.x <ℤ b.x → (int_min a.x b.x *ℤ p.w) ≤ℤ p.x → p.x ≤ℤ (int_max a.x b.x *ℤ p.w) → IsOnSegment (point_of a) (point_of b) p
  unfolding shift
  by_abscissas h low high =
      let steps = in_order a.x b.x p.x p.w p.heavy h low high in
      on_segment_by_shift (point_of a) (point_of b) p line steps.0 steps.1 steps.2

  by_heights : a.y <ℤ b.y → (int_min a.y b.y *ℤ p.w) ≤ℤ p.y → p.y ≤ℤ (int_max a.y b.y *ℤ p.w) → IsOnSegment (point_of a) (point_of b) p
  unfolding rise
  by_heights h low high =
      let steps = in_order a.y b.y p.y p.w p.heavy h low high in
      on_segment_by_rise (point_of a) (point_of b) p line steps.0 steps.1 steps.2

swapped : (a b : Pt) (p : Point) → turn (point_of a) (point_of b) p ≡ pos 0 → turn (point_of b) (point_of a) p ≡ pos 0
swapped a b p line = omega (arith, linear, turn_swap (point_of a) (point_of b) p, line)

int_min-comm : (m n : ℤ) → int_min n m ≡ int_min m n
int_min-comm m n = omega (arith, ints, clamps)

int_max-comm : (m n : ℤ) → int_max n m ≡ int_max m n
int_max-comm m n = omega (arith, ints, clamps)

-- both ends at one place
at_both :
    (a b : Pt) (p : Point) → a.x ≡ b.x → a.y ≡ b.y → (int_min a.x b.x *ℤ p.w) ≤ℤ p.x → p.x ≤ℤ (int_max a.x b.x *ℤ p.w)
    → (int_min a.y b.y *ℤ p.w) ≤ℤ p.y → p.y ≤ℤ (int_max a.y b.y *ℤ p.w) → IsOnSegment (point_of a) (point_of b) p
at_both a b p ex ey lx hx ly hy =
    let one_x = between a.x b.x p.x p.w p.heavy (omega (arith, linear, ex)) lx hx in
    let one_y = between a.y b.y p.y p.w p.heavy (omega (arith, linear, ey)) ly hy in
    record {
      s = p.w;
      t = pos 0;
      mix = record {
        first = <ℤ_weaken p.heavy;
        second = record { le = tt };
        times = pos 1;
        some = record { lt = tt };
        across = whole p.x a.x b.x p.w (omega (arith, linear, one_x.0, one_x.1, ap (λ (z : ℤ). z *ℤ p.w) ex));
        above = whole p.y a.y b.y p.w
            (omega (arith, linear, one_y.0, one_y.1, ap (λ (z : ℤ). z *ℤ p.w) ey));
        mass = whole p.w (pos 1) (pos 1) p.w (sym (one-*ℤ p.w));
      };
    }
  where
    whole : (x m n w : ℤ) → x ≡ m *ℤ w → pos 1 *ℤ x ≡ w *ℤ m +ℤ pos 0 *ℤ n
    whole x m n w e = one-*ℤ x ∙ e ∙ identity (var 0 ⊗ var 1) (var 1 ⊗ var 0 ⊕ num (pos 0) ⊗ var 2) (m ∷ w ∷ n ∷ []) refl

pub on_segment_in_box :
    (a b : Pt) (p : Point) → turn (point_of a) (point_of b) p ≡ pos 0 → (int_min a.x b.x *ℤ p.w) ≤ℤ p.x → p.x ≤ℤ (int_max a.x b.x *ℤ p.w)
    → (int_min a.y b.y *ℤ p.w) ≤ℤ p.y → p.y ≤ℤ (int_max a.y b.y *ℤ p.w) → IsOnSegment (point_of a) (point_of b) p
on_segment_in_box a b p line lx hx ly hy = by_order a.x b.x
    (λ h. by_abscissas a b p line h lx hx)
    (λ e. by_order a.y b.y
    (λ h. by_heights a b p line h ly hy)
    (λ f. at_both a b p e f lx hx ly hy)
    (λ h. segment_flip
    (by_heights b a p (swapped a b p line) h (subst (λ (z : ℤ). (z *ℤ p.w) ≤ℤ p.y) (sym (int_min-comm a.y b.y)) ly)
    (subst (λ (z : ℤ). p.y ≤ℤ (z *ℤ p.w)) (sym (int_max-comm a.y b.y)) hy))))
    (λ h. segment_flip
    (by_abscissas b a p (swapped a b p line) h (subst (λ (z : ℤ). (z *ℤ p.w) ≤ℤ p.x) (sym (int_min-comm a.x b.x)) lx)
    (subst (λ (z : ℤ). p.x ≤ℤ (z *ℤ p.w)) (sym (int_max-comm a.x b.x)) hx)))
