-- Points in a window and outside of it, by affine functions, one for each side.
use Rattle.std.proofs.Common.{◌≡◌, ◌⊎◌, inl, inr, ℕ, ◌≤◌, ℤ, pos, negsuc, neg_ℤ, ◌≤ℤ◌, ◌<ℤ◌, ◌+ℤ◌, ◌-ℤ◌, ◌*ℤ◌, [], ◌∷◌, refl, sym, subst}
use Rattle.std.proofs.Common.{arith}
use Rattle.std.specs.Prelude.{Option, Some, None}
use Rattle.whole_algebra.proofs.Laws.{linear}
use Rattle.whole_algebra.proofs.Polynomials.{var, num, ◌⊕◌, ◌⊖◌, ◌⊗◌, minus, identity}
use Rattle.whole_algebra.proofs.Signs.{by_order}
use Rattle.plane_laws.specs.Plane.{Point}
use Rattle.plane_exact.specs.Windows.{IsInWindow}
use Rattle.plane_exact.specs.declared.window.Window.{Window}
use Rattle.box_laws.specs.Boxes.{IsInBox}
use Rattle.plane_laws.proofs.Near.Near.{IsNear, reach_of, positive_near}
use Rattle.plane_laws.proofs.Near.Parted.{Affine, at_point}
use Rattle.figure_laws.proofs.Lists.Places.{some_same}

-- ---- the four sides
-- a side of a window
pub data Side : Type 0 where
  ToLeft : Side
  ToRight : Side
  ToBottom : Side
  ToTop : Side

-- how far a point lies beyond a line across or up the plane, on one side of it
abbrev pub past : Side → ℤ → Affine
past ToLeft m = record { x = negsuc 0; y = pos 0; w = m }
past ToRight m = record { x = pos 1; y = pos 0; w = neg_ℤ m }
past ToBottom m = record { x = pos 0; y = negsuc 0; w = m }
past ToTop m = record { x = pos 0; y = pos 1; w = neg_ℤ m }

-- the place of each side of a window
abbrev pub edge_of : Window → Side → ℤ
edge_of w ToLeft = w.low_x
edge_of w ToRight = w.high_x
edge_of w ToBottom = w.low_y
edge_of w ToTop = w.high_y

-- how far that is, in plain numbers: to the low sides
low_past :
    (m x y w : ℤ) → (((negsuc 0 *ℤ x) +ℤ (pos 0 *ℤ y)) +ℤ (m *ℤ w) ≡ (m *ℤ w) -ℤ x)
    × (((pos 0 *ℤ y) +ℤ (negsuc 0 *ℤ x)) +ℤ (m *ℤ w) ≡ (m *ℤ w) -ℤ x)
low_past m x y w = (
  identity ((num (negsuc 0) ⊗ var 1 ⊕ num (pos 0) ⊗ var 2) ⊕ var 0 ⊗ var 3) (var 0 ⊗ var 3 ⊖ var 1) (m ∷ x ∷ y ∷ w ∷ []) refl,
  identity ((num (pos 0) ⊗ var 2 ⊕ num (negsuc 0) ⊗ var 1) ⊕ var 0 ⊗ var 3) (var 0 ⊗ var 3 ⊖ var 1) (m ∷ x ∷ y ∷ w ∷ []) refl,
)

-- and to the high sides
high_past :
    (m x y w : ℤ) → (((pos 1 *ℤ x) +ℤ (pos 0 *ℤ y)) +ℤ (neg_ℤ m *ℤ w) ≡ x -ℤ (m *ℤ w))
    × (((pos 0 *ℤ y) +ℤ (pos 1 *ℤ x)) +ℤ (neg_ℤ m *ℤ w) ≡ x -ℤ (m *ℤ w))
high_past m x y w = (
  identity ((num (pos 1) ⊗ var 1 ⊕ num (pos 0) ⊗ var 2) ⊕ minus (var 0) ⊗ var 3) (var 1 ⊖ var 0 ⊗ var 3) (m ∷ x ∷ y ∷ w ∷ []) refl,
  identity ((num (pos 0) ⊗ var 2 ⊕ num (pos 1) ⊗ var 1) ⊕ minus (var 0) ⊗ var 3) (var 1 ⊖ var 0 ⊗ var 3) (m ∷ x ∷ y ∷ w ∷ []) refl,
)

-- the same, side by side
abbrev pub distance : Side → ℤ → Point → ℤ
distance ToLeft m p = (m *ℤ p.w) -ℤ p.x
distance ToRight m p = p.x -ℤ (m *ℤ p.w)
distance ToBottom m p = (m *ℤ p.w) -ℤ p.y
distance ToTop m p = p.y -ℤ (m *ℤ p.w)

-- so the function is the distance
pub past_is : (side : Side) (m : ℤ) (p : Point) → at_point (past side m) p ≡ distance side m p
past_is ToLeft m p = (low_past m p.x p.y p.w).0
past_is ToRight m p = (high_past m p.x p.y p.w).0
past_is ToBottom m p = (low_past m p.y p.x p.w).1
past_is ToTop m p = (high_past m p.y p.x p.w).1

-- a point is strictly beyond one side of a window
pub record IsPast (w : Window) (p : Point) : Type 0 where
  pub side : Side
  pub beyond : pos 0 <ℤ distance side (edge_of w side) p

-- what is in the window is beyond none of its sides
pub in_not_past : (w : Window) (p : Point) → IsInWindow w p → (side : Side) → distance side (edge_of w side) p ≤ℤ pos 0
in_not_past w p h ToLeft = let k = h.left in omega (arith, linear, k)
in_not_past w p h ToRight = let k = h.right in omega (arith, linear, k)
in_not_past w p h ToBottom = let k = h.bottom in omega (arith, linear, k)
in_not_past w p h ToTop = let k = h.top in omega (arith, linear, k)

-- and what is beyond none is in it
in_by_sides : (w : Window) (p : Point) → ((side : Side) → distance side (edge_of w side) p ≤ℤ pos 0) → IsInWindow w p
in_by_sides w p h =
    let left = h ToLeft in
    let right = h ToRight in
    let bottom = h ToBottom in
    let top = h ToTop in
    record {
      left = omega (arith, linear, left);
      right = omega (arith, linear, right);
      bottom = omega (arith, linear, bottom);
      top = omega (arith, linear, top);
    }

-- each side holds, or one doesn't
each_side :
    (f : Side → ℤ) → ((side : Side) → f side ≤ℤ pos 0) ⊎ ((side : Side) × (pos 0 <ℤ f side))
each_side f = by (le_or_lt (f ToLeft)) (le_or_lt (f ToRight)) (le_or_lt (f ToBottom)) (le_or_lt (f ToTop))
  where
    le_or_lt : (z : ℤ) → (z ≤ℤ pos 0) ⊎ (pos 0 <ℤ z)
    le_or_lt z = by_order z (pos 0) (λ h. inl (omega (arith, linear, h))) (λ h. inl (omega (arith, linear, h))) inr

    by :
        (f ToLeft ≤ℤ pos 0) ⊎ (pos 0 <ℤ f ToLeft) → (f ToRight ≤ℤ pos 0) ⊎ (pos 0 <ℤ f ToRight)
        → (f ToBottom ≤ℤ pos 0) ⊎ (pos 0 <ℤ f ToBottom) → (f ToTop ≤ℤ pos 0) ⊎ (pos 0 <ℤ f ToTop)
        → ((side : Side) → f side ≤ℤ pos 0) ⊎ ((side : Side) × (pos 0 <ℤ f side))
    by (inr h) r b t = inr (ToLeft, h)
    by (inl l) (inr h) b t = inr (ToRight, h)
    by (inl l) (inl r) (inr h) t = inr (ToBottom, h)
    by (inl l) (inl r) (inl b) (inr h) = inr (ToTop, h)
    by (inl l) (inl r) (inl b) (inl t) = inl all
      where
        all : (side : Side) → f side ≤ℤ pos 0
        all ToLeft = l
        all ToRight = r
        all ToBottom = b
        all ToTop = t

-- a point is in a window or past one of its sides
pub in_or_past : (w : Window) (p : Point) → IsInWindow w p ⊎ IsPast w p
in_or_past w p = elim (each_side (λ side. distance side (edge_of w side) p)) [
  | inl h ↦ inl (in_by_sides w p h)
  | inr h ↦ inr (record { side = h.0; beyond = h.1 })
]

-- ---- a box, where there is one
-- where there is none, nothing is in it
pub none_inside : {p : Point} → ¬ IsInBox None p
none_inside inside = no_box inside.is
  where
    no_box : {box : Window} → ¬ (None ≡ Some box)
    no_box e = cc

-- where there is one, what is in it is in that window
pub in_window : {w : Window} {p : Point} → IsInBox (Some w) p → IsInWindow w p
in_window {w} {p} inside = subst (λ z. IsInWindow z p) (sym (some_same inside.is)) inside.within

-- near a point outside of the box all is outside of it
pub record HasRoomOff (w : Option Window) (v : Point) : Type 0 where
  pub n : ℕ
  pub off : (k : ℕ) → n ≤ k → (q : Point) → IsNear v k q → ¬ IsInBox w q

-- past one side of a window
past_room : (w : Window) (v : Point) → IsPast w v → HasRoomOff (Some w) v
past_room w v h = record {
  n = reach_of side_past v;
  off = λ k far q near inside.
      let ahead : pos 0 <ℤ at_point side_past v = subst (λ z. pos 0 <ℤ z) (sym (past_is h.side (edge_of w h.side) v)) h.beyond in
      let at_q = positive_near side_past v q k ahead far near in
      let in_q = in_not_past w q (in_window inside) h.side in
      omega (arith, linear, at_q, in_q, past_is h.side (edge_of w h.side) q);
}
  where
    side_past : Affine
    side_past = past h.side (edge_of w h.side)

-- of any box, where there is one
pub room_off : (w : Option Window) (v : Point) → ¬ IsInBox w v → HasRoomOff w v
room_off None v out = record { n = 0; off = λ k far q near inside. none_inside inside }
room_off (Some w) v out = elim (in_or_past w v) [
  | inl h ↦ absurd (out (record { box = w; is = refl; within = h }))
  | inr h ↦ past_room w v h
]

-- a point is in the box or it isn't
pub in_box_decided : (w : Option Window) (p : Point) → IsInBox w p ⊎ (¬ IsInBox w p)
in_box_decided None p = inr none_inside
in_box_decided (Some w) p = elim (in_or_past w p) [
  | inl h ↦ inl (record { box = w; is = refl; within = h })
  | inr h ↦ inr (λ inside.
      let in_p = in_not_past w p (in_window inside) h.side in
      let past_p = h.beyond in
      omega (arith, linear, in_p, past_p))
]
