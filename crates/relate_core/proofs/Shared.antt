-- The box that two boxes share: the greater of the low sides and the lesser of the high ones.
use Rattle.std.proofs.Common.{◌≡◌, Bool, true, false, ℤ, ◌*ℤ◌, ◌≤ℤ◌, sym, subst, arith}
use Rattle.std.specs.Prelude.{cond, int_lt}
use Rattle.std.specs.Int.{int_max, int_min}
use Rattle.std.proofs.lemmas.Int.{ints, clamps}
use Rattle.plane_laws.specs.Plane.{Point}
use Rattle.plane_exact.specs.Windows.{IsInWindow, IsWithin}
use Rattle.plane_exact.specs.declared.window.Window.{Window}
use Rattle.plane_exact.proofs.Laws.{within_holds}

-- what is so of two numbers is so of one of the two
of_either : (IsSo : ℤ → Type 0) (b : Bool) (m n : ℤ) → IsSo m → IsSo n → IsSo (cond b m n)
of_either IsSo true m n h k = h
of_either IsSo false m n h k = k

-- the box with these sides holds what both hold, and nothing else
pub shared_by_sides : (u v w : Window) → w.low_x ≡ int_max u.low_x v.low_x → w.low_y ≡ int_max u.low_y v.low_y
    → w.high_x ≡ int_min u.high_x v.high_x → w.high_y ≡ int_min u.high_y v.high_y → (p : Point)
    → (IsInWindow u p → IsInWindow v p → IsInWindow w p) × (IsInWindow w p → IsInWindow u p × IsInWindow v p)
shared_by_sides u v w lx ly hx hy p = (held, λ h. (within_holds in_first p h, within_holds in_second p h))
  where
    held : IsInWindow u p → IsInWindow v p → IsInWindow w p
    held h k = record {
      left = at_least p.x u.low_x v.low_x w.low_x lx h.left k.left;
      right = at_most p.x u.high_x v.high_x w.high_x hx h.right k.right;
      bottom = at_least p.y u.low_y v.low_y w.low_y ly h.bottom k.bottom;
      top = at_most p.y u.high_y v.high_y w.high_y hy h.top k.top;
    }
      where
        at_least : (x m n low : ℤ) → low ≡ int_max m n → (m *ℤ p.w) ≤ℤ x → (n *ℤ p.w) ≤ℤ x → (low *ℤ p.w) ≤ℤ x
        at_least x m n low e h k =
            subst (λ (z : ℤ). (z *ℤ p.w) ≤ℤ x) (sym e) (of_either (λ z. (z *ℤ p.w) ≤ℤ x) (int_lt n m) m n h k)

        at_most : (x m n high : ℤ) → high ≡ int_min m n → x ≤ℤ (m *ℤ p.w) → x ≤ℤ (n *ℤ p.w) → x ≤ℤ (high *ℤ p.w)
        at_most x m n high e h k =
            subst (λ (z : ℤ). x ≤ℤ (z *ℤ p.w)) (sym e) (of_either (λ z. x ≤ℤ (z *ℤ p.w)) (int_lt n m) n m k h)

    within : (z : Window) → z.low_x ≤ℤ w.low_x → z.low_y ≤ℤ w.low_y → w.high_x ≤ℤ z.high_x → w.high_y ≤ℤ z.high_y → IsWithin w z
    within z l b r t = record { left = l; right = r; bottom = b; top = t }

    in_first : IsWithin w u
    in_first =
        within u (omega (arith, ints, clamps, lx)) (omega (arith, ints, clamps, ly)) (omega (arith, ints, clamps, hx))
        (omega (arith, ints, clamps, hy))

    in_second : IsWithin w v
    in_second =
        within v (omega (arith, ints, clamps, lx)) (omega (arith, ints, clamps, ly)) (omega (arith, ints, clamps, hx))
        (omega (arith, ints, clamps, hy))
