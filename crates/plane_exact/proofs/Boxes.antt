-- Boxes: what they hold, and their common points.
use Rattle.std.proofs.Common.{negsuc, ◌-ℤ◌, ◌<ℤ◌, ◌≡◌, ℤ, pos, ◌+ℤ◌, ◌*ℤ◌, ◌≤ℤ◌, [], ◌∷◌, refl, ap, arith}
use Rattle.whole_algebra.proofs.Certificates.{at_most_by, at_most, same, scaled, positive, ◌⊞◌, ◌⊠◌}
use Rattle.whole_algebra.proofs.Signs.{cancel_<ℤ_right, ≤ℤ-<ℤ_trans, scale_≤ℤ, scale_≤ℤ_right, cancel_≤ℤ, cancel_≤ℤ_right, ≤ℤ_trans}
use Rattle.whole_algebra.proofs.Signs.{<ℤ_weaken}
use lib.Signed.{<ℤ-≤ℤ_trans}
use Rattle.plane_exact.specs.Nodes.{IsRange}
use Rattle.plane_laws.specs.Plane.{IsSamePoint, Point, IsOnSegment}
use Rattle.plane_laws.proofs.Points.Same.{same_refl}
use Rattle.std.proofs.lemmas.Int.{ints, clamps}
use Rattle.std.specs.Int.{int_max, int_min}
use Rattle.whole_algebra.proofs.Laws.{linear}
use Rattle.whole_algebra.proofs.Polynomials.{var, num, ◌⊕◌, ◌⊗◌, identity}
use Rattle.plane_laws.proofs.Segments.Mixes.{start_on_segment, end_on_segment}
use Rattle.plane_exact.specs.Places.{point_of}
use Rattle.plane_exact.specs.Windows.{IsInWindow, IsWithin, HasCommonPoint, IsLeastWindow, join_boxes, low_corner, high_corner}
use Rattle.plane_exact.specs.declared.point.Pt.{Pt}
use Rattle.plane_exact.specs.declared.window.Window.{Window}

-- a mix of numbers that are at least m is at least m, and likewise at most
mix_at_least :
    (m a b s t k x w : ℤ) → pos 0 ≤ℤ s → pos 0 ≤ℤ t → pos 0 <ℤ k → k *ℤ x ≡ s *ℤ a +ℤ t *ℤ b → k *ℤ w ≡ s *ℤ pos 1 +ℤ t *ℤ pos 1 → m ≤ℤ a
    → m ≤ℤ b → (m *ℤ w) ≤ℤ x
mix_at_least m a b s t k x w hs ht hk ex ew ha hb =
    let weight : k *ℤ (m *ℤ w) ≡ m *ℤ (k *ℤ w) = identity (var 0 ⊗ (var 1 ⊗ var 2)) (var 1 ⊗ (var 0 ⊗ var 2)) (k ∷ m ∷ w ∷ []) refl in
    let parts : m *ℤ (s *ℤ pos 1 +ℤ t *ℤ pos 1) ≡ s *ℤ m +ℤ t *ℤ m = identity (var 0 ⊗ (var 1 ⊗ num (pos 1) ⊕ var 2 ⊗ num (pos 1)))
    (var 1 ⊗ var 0 ⊕ var 2 ⊗ var 0) (m ∷ s ∷ t ∷ []) refl in
    cancel_≤ℤ k (m *ℤ w) x hk (omega (arith, linear, weight, ap (λ z. m *ℤ z) ew, parts, ex, scale_≤ℤ hs ha, scale_≤ℤ ht hb))

mix_at_most :
    (m a b s t k x w : ℤ) → pos 0 ≤ℤ s → pos 0 ≤ℤ t → pos 0 <ℤ k → k *ℤ x ≡ s *ℤ a +ℤ t *ℤ b → k *ℤ w ≡ s *ℤ pos 1 +ℤ t *ℤ pos 1 → a ≤ℤ m
    → b ≤ℤ m → x ≤ℤ (m *ℤ w)
mix_at_most m a b s t k x w hs ht hk ex ew ha hb =
    let weight : k *ℤ (m *ℤ w) ≡ m *ℤ (k *ℤ w) = identity (var 0 ⊗ (var 1 ⊗ var 2)) (var 1 ⊗ (var 0 ⊗ var 2)) (k ∷ m ∷ w ∷ []) refl in
    let parts : m *ℤ (s *ℤ pos 1 +ℤ t *ℤ pos 1) ≡ s *ℤ m +ℤ t *ℤ m = identity (var 0 ⊗ (var 1 ⊗ num (pos 1) ⊕ var 2 ⊗ num (pos 1)))
    (var 1 ⊗ var 0 ⊕ var 2 ⊗ var 0) (m ∷ s ∷ t ∷ []) refl in
    cancel_≤ℤ k x (m *ℤ w) hk (omega (arith, linear, weight, ap (λ z. m *ℤ z) ew, parts, ex, scale_≤ℤ hs ha, scale_≤ℤ ht hb))

-- a box that holds the ends of a segment holds the segment
pub in_window-mix :
    (box : Window) (a b : Pt) (p : Point) → box.low_x ≤ℤ a.x → box.low_x ≤ℤ b.x → a.x ≤ℤ box.high_x → b.x ≤ℤ box.high_x → box.low_y ≤ℤ a.y
    → box.low_y ≤ℤ b.y → a.y ≤ℤ box.high_y → b.y ≤ℤ box.high_y → IsOnSegment (point_of a) (point_of b) p → IsInWindow box p
in_window-mix box a b p lxa lxb hxa hxb lya lyb hya hyb on =
    let m = on.mix in
    record {
      left = mix_at_least box.low_x a.x b.x on.s on.t m.times p.x p.w m.first m.second m.some m.across m.mass lxa lxb;
      right = mix_at_most box.high_x a.x b.x on.s on.t m.times p.x p.w m.first m.second m.some m.across m.mass hxa hxb;
      bottom = mix_at_least box.low_y a.y b.y on.s on.t m.times p.y p.w m.first m.second m.some m.above m.mass lya lyb;
      top = mix_at_most box.high_y a.y b.y on.s on.t m.times p.y p.w m.first m.second m.some m.above m.mass hya hyb;
    }

-- the box of the lesser and the greater coordinates is the least one that holds the segment
pub least_of_ends :
    (box : Window) (a b : Pt) → box.low_x ≡ int_min a.x b.x → box.low_y ≡ int_min a.y b.y → box.high_x ≡ int_max a.x b.x
    → box.high_y ≡ int_max a.y b.y → IsLeastWindow (IsOnSegment (point_of a) (point_of b)) box
least_of_ends box a b lx ly hx hy = record {
  holds =
      λ p on. in_window-mix box a b p (omega (arith, ints, clamps)) (omega (arith, ints, clamps)) (omega (arith, ints, clamps))
      (omega (arith, ints, clamps)) (omega (arith, ints, clamps)) (omega (arith, ints, clamps)) (omega (arith, ints, clamps))
      (omega (arith, ints, clamps)) on;
  least =
      λ other all. tight other (all (point_of a) (start_on_segment (point_of a) (point_of b)))
      (all (point_of b) (end_on_segment (point_of a) (point_of b)));
}
  where
    tight : (other : Window) → IsInWindow other (point_of a) → IsInWindow other (point_of b) → IsWithin box other
    tight other h k = record {
      left = omega (arith, ints, clamps, h.left, k.left);
      right = omega (arith, ints, clamps, h.right, k.right);
      bottom = omega (arith, ints, clamps, h.bottom, k.bottom);
      top = omega (arith, ints, clamps, h.top, k.top);
    }

-- a position is in a box by its coordinates
position_in_window :
    (box : Window) (q : Pt) → box.low_x ≤ℤ q.x → q.x ≤ℤ box.high_x → box.low_y ≤ℤ q.y → q.y ≤ℤ box.high_y → IsInWindow box (point_of q)
position_in_window box q left right bottom top = record {
  left = omega (arith, ints, left);
  right = omega (arith, ints, right);
  bottom = omega (arith, ints, bottom);
  top = omega (arith, ints, top);
}

-- the greatest low sides and the least high sides are the sides of what two boxes have in common
pub common_point :
    (box other : Window) → int_max box.low_x other.low_x ≤ℤ int_min box.high_x other.high_x
    → int_max box.low_y other.low_y ≤ℤ int_min box.high_y other.high_y → HasCommonPoint box other
common_point box other hx hy = record {
  point = point_of corner;
  here =
      position_in_window box corner (omega (arith, ints, clamps)) (omega (arith, ints, clamps, hx)) (omega (arith, ints, clamps))
      (omega (arith, ints, clamps, hy));
  there =
      position_in_window other corner (omega (arith, ints, clamps)) (omega (arith, ints, clamps, hx)) (omega (arith, ints, clamps))
      (omega (arith, ints, clamps, hy));
}
  where
    corner : Pt
    corner = record { x = int_max box.low_x other.low_x; y = int_max box.low_y other.low_y }

-- with a common point, each low side is at most each high one
pub low_at_most_high :
    (box other : Window) → HasCommonPoint box other
    → (int_max box.low_x other.low_x ≤ℤ int_min box.high_x other.high_x)
    × (int_max box.low_y other.low_y ≤ℤ int_min box.high_y other.high_y)
low_at_most_high box other h =
    let w = h.point.w in
    let between : (low x high : ℤ) → (low *ℤ w) ≤ℤ x → x ≤ℤ (high *ℤ w)
    → low ≤ℤ high = λ low x high p q. cancel_≤ℤ_right w low high h.point.heavy (≤ℤ_trans p q) in
    let a = between box.low_x h.point.x box.high_x h.here.left h.here.right in
    let b = between box.low_x h.point.x other.high_x h.here.left h.there.right in
    let c = between other.low_x h.point.x box.high_x h.there.left h.here.right in
    let d = between other.low_x h.point.x other.high_x h.there.left h.there.right in
    let e = between box.low_y h.point.y box.high_y h.here.bottom h.here.top in
    let f = between box.low_y h.point.y other.high_y h.here.bottom h.there.top in
    let g = between other.low_y h.point.y box.high_y h.there.bottom h.here.top in
    let k = between other.low_y h.point.y other.high_y h.there.bottom h.there.top in
    (omega (arith, ints, clamps, a, b, c, d), omega (arith, ints, clamps, e, f, g, k))

-- the nearest whole numbers round each coordinate are the sides of the least box that holds the point
pub least_of_point :
    (box : Window) (p : Point) → IsRange p.x p.w box.low_x box.high_x → IsRange p.y p.w box.low_y box.high_y
    → IsLeastWindow (IsSamePoint p) box
least_of_point box p across above = record { holds = λ q same. held q same; least = λ other all. tight other (all p (same_refl p)) }
  where
    -- a side that bounds p bounds each triple of the same point
    moved_below : (m x w u v : ℤ) → pos 0 <ℤ w → pos 0 <ℤ v → x *ℤ v ≡ u *ℤ w → (m *ℤ w) ≤ℤ x → (m *ℤ v) ≤ℤ u
    moved_below m x w u v hw hv e h =
        let vs = m ∷ x ∷ w ∷ u ∷ v ∷ [] in
        at_most_by (var 0 ⊗ var 4) (var 3) vs
        (λ denied. denied ⊠ positive (var 2) hw ⊞ at_most (var 0 ⊗ var 2) (var 1) h ⊠ positive (var 4) hv ⊞ scaled (num (negsuc 0))
        (same (var 1 ⊗ var 4) (var 3 ⊗ var 2) e)) refl

    moved_above : (m x w u v : ℤ) → pos 0 <ℤ w → pos 0 <ℤ v → x *ℤ v ≡ u *ℤ w → x ≤ℤ (m *ℤ w) → u ≤ℤ (m *ℤ v)
    moved_above m x w u v hw hv e h =
        let vs = m ∷ x ∷ w ∷ u ∷ v ∷ [] in
        at_most_by (var 3) (var 0 ⊗ var 4) vs
        (λ denied. denied ⊠ positive (var 2) hw ⊞ at_most (var 1) (var 0 ⊗ var 2) h ⊠ positive (var 4) hv ⊞ same (var 1 ⊗ var 4)
        (var 3 ⊗ var 2) e) refl

    held : (q : Point) → IsSamePoint p q → IsInWindow box q
    held q s = record {
      left = moved_below box.low_x p.x p.w q.x q.w p.heavy q.heavy s.across across.below;
      right = moved_above box.high_x p.x p.w q.x q.w p.heavy q.heavy s.across across.above;
      bottom = moved_below box.low_y p.y p.w q.y q.w p.heavy q.heavy s.above above.below;
      top = moved_above box.high_y p.y p.w q.y q.w p.heavy q.heavy s.above above.above;
    }

    no_lower : (m low x w : ℤ) → pos 0 <ℤ w → (m *ℤ w) ≤ℤ x → x <ℤ ((low +ℤ pos 1) *ℤ w) → m ≤ℤ low
    no_lower m low x w hw h k = let l = cancel_<ℤ_right w m (low +ℤ pos 1) hw (≤ℤ-<ℤ_trans h k) in omega (arith, linear, l)

    no_higher : (m high x w : ℤ) → pos 0 <ℤ w → x ≤ℤ (m *ℤ w) → ((high -ℤ pos 1) *ℤ w) <ℤ x → high ≤ℤ m
    no_higher m high x w hw h k = let l = cancel_<ℤ_right w (high -ℤ pos 1) m hw (<ℤ-≤ℤ_trans k h) in omega (arith, linear, l)

    tight : (other : Window) → IsInWindow other p → IsWithin box other
    tight other h = record {
      left = no_lower other.low_x box.low_x p.x p.w p.heavy h.left across.lowest;
      right = no_higher other.high_x box.high_x p.x p.w p.heavy h.right across.highest;
      bottom = no_lower other.low_y box.low_y p.y p.w p.heavy h.bottom above.lowest;
      top = no_higher other.high_y box.high_y p.y p.w p.heavy h.top above.highest;
    }

-- a box that has a point is the window of its diagonal
pub diagonal_window : (box other : Window) → HasCommonPoint box other
    → IsLeastWindow (IsOnSegment (point_of (low_corner box)) (point_of (high_corner box))) box
diagonal_window box other common =
    let sides = low_at_most_high box other common in
    least_of_ends box (low_corner box) (high_corner box) (omega (arith, ints, clamps, sides.0)) (omega (arith, ints, clamps, sides.1))
    (omega (arith, ints, clamps, sides.0)) (omega (arith, ints, clamps, sides.1))

-- ---- boxes within boxes
-- a box that is within another holds no more than it
pub within_holds : {inner outer : Window} → IsWithin inner outer → (p : Point) → IsInWindow inner p → IsInWindow outer p
within_holds h p k = record {
  left = ≤ℤ_trans (scale_≤ℤ_right (<ℤ_weaken p.heavy) h.left) k.left;
  right = ≤ℤ_trans k.right (scale_≤ℤ_right (<ℤ_weaken p.heavy) h.right);
  bottom = ≤ℤ_trans (scale_≤ℤ_right (<ℤ_weaken p.heavy) h.bottom) k.bottom;
  top = ≤ℤ_trans k.top (scale_≤ℤ_right (<ℤ_weaken p.heavy) h.top);
}

-- a box is within the least one that holds it and another
pub join_holds_first : (box other : Window) → IsWithin box (join_boxes box other)
join_holds_first box other = record {
  left = omega (arith, ints, clamps);
  right = omega (arith, ints, clamps);
  bottom = omega (arith, ints, clamps);
  top = omega (arith, ints, clamps);
}

-- and so is the other
pub join_holds_second : (box other : Window) → IsWithin other (join_boxes box other)
join_holds_second box other = record {
  left = omega (arith, ints, clamps);
  right = omega (arith, ints, clamps);
  bottom = omega (arith, ints, clamps);
  top = omega (arith, ints, clamps);
}
