-- The envelope of one position, and that of two lists of positions together.
use Rattle.std.proofs.Common.{◌≡◌, ◌≢◌, ℤ, ◌*ℤ◌, ◌≤ℤ◌, ◌⊎◌, inl, inr, Bool, true, false, ◌||◌, Some, List, [], ◌∷◌, ◌++◌, refl, sym, ap}
use Rattle.std.proofs.Common.{◌∙◌, subst, arith}
use Rattle.std.specs.Int.{int_max, int_min}
use Rattle.std.proofs.Math.Bool.{or-false}
use Rattle.std.proofs.lemmas.Bool.{or_right}
use Rattle.std.proofs.lemmas.Int.{ints, clamps}
use Rattle.std.proofs.lemmas.List.Folds.{list_any-append}
use Rattle.whole_algebra.proofs.Laws.{*ℤ_one}
use Rattle.whole_algebra.proofs.Signs.{<ℤ_weaken, ≤ℤ_trans, scale_≤ℤ_right}
use Rattle.plane_laws.specs.Plane.{Point, IsSamePoint}
use Rattle.plane_laws.proofs.Points.Same.{Decides-is_same_point, same_refl}
use Rattle.plane_exact.specs.Places.{point_of}
use Rattle.plane_exact.specs.Windows.{IsInWindow, IsWithin, IsLeastWindow, join_boxes}
use Rattle.plane_exact.specs.declared.point.Pt.{Pt}
use Rattle.plane_exact.specs.declared.window.Window.{Window}
use Rattle.point_set.specs.Extents.{IsEnvelope}
use Rattle.point_set.specs.Lines.{is_at, is_at_some}

-- ---- one position
-- the box whose sides all go through a position is the least one that holds it
pub one_position : (p : Pt) (box : Window) → box.low_x ≡ p.x → box.low_y ≡ p.y → box.high_x ≡ p.x → box.high_y ≡ p.y
    → IsLeastWindow (λ q. is_at_some q (p ∷ []) ≡ true) box
one_position p box lx ly hx hy = record {
  holds = λ q h. held q ((Decides-is_same_point q (point_of p)).0 (sym (or-false (is_at q p)) ∙ h));
  least = λ other all.
      tight other
      (all (point_of p) (or-false (is_at (point_of p) p) ∙ (Decides-is_same_point (point_of p) (point_of p)).1 (same_refl (point_of p))));
}
  where
    held : (q : Point) → IsSamePoint q (point_of p) → IsInWindow box q
    held q s =
        let times = λ (a b : ℤ) (e : a ≡ b). ap (λ (z : ℤ). z *ℤ q.w) e in
        let across : q.x ≡ p.x *ℤ q.w = sym (*ℤ_one q.x) ∙ s.across in
        let above : q.y ≡ p.y *ℤ q.w = sym (*ℤ_one q.y) ∙ s.above in
        record {
          left = omega (arith, ints, times box.low_x p.x lx);
          right = omega (arith, ints, times box.high_x p.x hx);
          bottom = omega (arith, ints, times box.low_y p.y ly);
          top = omega (arith, ints, times box.high_y p.y hy);
        }

    tight : (other : Window) → IsInWindow other (point_of p) → IsWithin box other
    tight other h = record {
      left = omega (arith, ints, h.left, lx);
      right = omega (arith, ints, h.right, hx);
      bottom = omega (arith, ints, h.bottom, ly);
      top = omega (arith, ints, h.top, hy);
    }

-- ---- two lists of positions
-- the joined box holds what the first box holds
joined_first : (box other : Window) (p : Point) → IsInWindow box p → IsInWindow (join_boxes box other) p
joined_first box other p h =
    let scaled = λ (a b : ℤ) (e : a ≤ℤ b). scale_≤ℤ_right (<ℤ_weaken p.heavy) e in
    let outer = join_boxes box other in
    record {
      left = ≤ℤ_trans (scaled outer.low_x box.low_x (omega (arith, ints, clamps))) h.left;
      right = ≤ℤ_trans h.right (scaled box.high_x outer.high_x (omega (arith, ints, clamps)));
      bottom = ≤ℤ_trans (scaled outer.low_y box.low_y (omega (arith, ints, clamps))) h.bottom;
      top = ≤ℤ_trans h.top (scaled box.high_y outer.high_y (omega (arith, ints, clamps)));
    }

-- which of the boxes is the first doesn't matter
joined_swapped : (box other : Window) → join_boxes box other ≡ join_boxes other box
joined_swapped box other =
    let low_x : int_min box.low_x other.low_x ≡ int_min other.low_x box.low_x = omega (arith, ints, clamps) in
    let low_y : int_min box.low_y other.low_y ≡ int_min other.low_y box.low_y = omega (arith, ints, clamps) in
    let high_x : int_max box.high_x other.high_x ≡ int_max other.high_x box.high_x = omega (arith, ints, clamps) in
    let high_y : int_max box.high_y other.high_y ≡ int_max other.high_y box.high_y = omega (arith, ints, clamps) in
    λ i. record { low_x = low_x i; low_y = low_y i; high_x = high_x i; high_y = high_y i }

-- so it holds what the second holds
joined_second : (box other : Window) (p : Point) → IsInWindow other p → IsInWindow (join_boxes box other) p
joined_second box other p h = subst (λ (w : Window). IsInWindow w p) (joined_swapped other box) (joined_first other box p h)

-- a box round both boxes is round the joined one
joined_least : (box other outer : Window) → IsWithin box outer → IsWithin other outer → IsWithin (join_boxes box other) outer
joined_least box other outer h k = record {
  left = omega (arith, ints, clamps, h.left, k.left);
  right = omega (arith, ints, clamps, h.right, k.right);
  bottom = omega (arith, ints, clamps, h.bottom, k.bottom);
  top = omega (arith, ints, clamps, h.top, k.top);
}

-- where there is a position, there is one with others behind
some_position : (xs ys : List Pt) → xs ≢ [] → (xs ++ ys) ≢ []
some_position [] ys some e = some refl
some_position (x ∷ xs) ys some e = cc

-- a point that one of two tests finds
found : (a b : Bool) → (a || b) ≡ true → (a ≡ true) ⊎ (b ≡ true)
found true b h = inl refl
found false b h = inr h

-- the envelopes of two lists join to that of both
pub both_lists : (xs ys : List Pt) (box other : Window) → IsEnvelope xs (Some box) → IsEnvelope ys (Some other)
    → IsEnvelope (xs ++ ys) (Some (join_boxes box other))
both_lists xs ys box other h k = (
  some_position xs ys h.0,
  record {
    holds = λ p e. held p (found (is_at_some p xs) (is_at_some p ys) (sym (list_any-append (is_at p) xs ys) ∙ e));
    least = λ outer all.
        joined_least box other outer
        (h.1.least outer (λ p e. all p (list_any-append (is_at p) xs ys ∙ ap (λ (b : Bool). b || is_at_some p ys) e)))
        (k.1.least outer (λ p e. all p (list_any-append (is_at p) xs ys ∙ or_right (is_at_some p xs) (is_at_some p ys) e)));
  },
)
  where
    held : (p : Point) → (is_at_some p xs ≡ true) ⊎ (is_at_some p ys ≡ true) → IsInWindow (join_boxes box other) p
    held p (inl e) = joined_first box other p (h.1.holds p e)
    held p (inr e) = joined_second box other p (k.1.holds p e)
