-- A position farthest out of a box, in a direction straight across or up: beyond it there is nothing.
use Rattle.std.proofs.Common.{◌≡◌, ◌⊎◌, inl, inr, ℕ, ◌<◌, ℤ, pos, negsuc, ◌*ℤ◌, neg_ℤ, ◌<ℤ◌, true, List, [], ◌∷◌, refl, sym, subst, arith}
use Rattle.std.specs.Prelude.{Option, Some, None}
use Rattle.std.specs.List.{AllByRecursion}
use Rattle.std.proofs.lemmas.Bool.{or_left, or_right}
use Rattle.whole_algebra.proofs.Laws.{linear, *ℤ_one, one-*ℤ}
use Rattle.whole_algebra.proofs.Signs.{by_order, pos_factor, neg_factor, pos-*-pos, neg-*-pos}
use Rattle.plane_laws.specs.Plane.{Point, shift, rise}
use Rattle.plane_laws.specs.Directions.{Direction}
use Rattle.plane_laws.specs.Along.{IsAway}
use Rattle.plane_exact.specs.Places.{point_of}
use Rattle.plane_exact.specs.declared.point.Pt.{Pt}
use Rattle.plane_exact.specs.declared.window.Window.{Window}
use Rattle.point_set.specs.Lines.{is_at, is_at_some}
use Rattle.box_laws.specs.Boxes.{IsInBox}
use Rattle.plane_laws.proofs.Near.Away.{away_shift, away_rise}
use Rattle.kind_laws.proofs.Location.EdgeRays.{all_map}
use Rattle.near_laws.proofs.Beyond.Positions.{HasFarPosition}
use Rattle.box_laws.proofs.Boxes.Sides.{none_inside, in_window, Side, distance, edge_of, in_not_past, in_or_past}
use Rattle.box_laws.proofs.Boxes.Sides.Side.{ToLeft, ToRight, ToBottom, ToTop}
use Rattle.box_laws.proofs.Envelopes.Past.{IsBehind}
use Rattle.box_laws.proofs.Envelopes.Ways.{at_itself}

-- ---- the place of a position on a side's axis
-- across for left and right, up for bottom and top
abbrev pub coordinate : Side → Pt → ℤ
coordinate ToLeft q = q.x
coordinate ToRight q = q.x
coordinate ToBottom q = q.y
coordinate ToTop q = q.y

-- a position is behind itself
self_behind : (side : Side) (q : Pt) → IsBehind side (coordinate side q) q
self_behind ToLeft q = omega (arith, linear, *ℤ_one q.x)
self_behind ToRight q = omega (arith, linear, *ℤ_one q.x)
self_behind ToBottom q = omega (arith, linear, *ℤ_one q.y)
self_behind ToTop q = omega (arith, linear, *ℤ_one q.y)

-- what is behind a position is behind one that is farther out
behind_more :
    (side : Side) (p q x : Pt) → pos 0 <ℤ distance side (coordinate side p) (point_of q) → IsBehind side (coordinate side p) x
    → IsBehind side (coordinate side q) x
behind_more ToLeft p q x h k = omega (arith, linear, h, k, *ℤ_one p.x, *ℤ_one q.x)
behind_more ToRight p q x h k = omega (arith, linear, h, k, *ℤ_one p.x, *ℤ_one q.x)
behind_more ToBottom p q x h k = omega (arith, linear, h, k, *ℤ_one p.y, *ℤ_one q.y)
behind_more ToTop p q x h k = omega (arith, linear, h, k, *ℤ_one p.y, *ℤ_one q.y)

-- a position that has a position beyond a line behind it is beyond the line
beyond_more :
    (side : Side) (m : ℤ) (p q : Pt) → pos 0 <ℤ distance side m (point_of p) → IsBehind side (coordinate side q) p
    → pos 0 <ℤ distance side m (point_of q)
beyond_more ToLeft m p q h k = omega (arith, linear, h, k, *ℤ_one m, *ℤ_one q.x)
beyond_more ToRight m p q h k = omega (arith, linear, h, k, *ℤ_one m, *ℤ_one q.x)
beyond_more ToBottom m p q h k = omega (arith, linear, h, k, *ℤ_one m, *ℤ_one q.y)
beyond_more ToTop m p q h k = omega (arith, linear, h, k, *ℤ_one m, *ℤ_one q.y)

-- ---- the farthest of some positions
-- of p and these, one that has all behind it
record HasFarthest (side : Side) (p : Pt) (positions : List Pt) : Type 0 where
  pub q : Pt
  pub at : (q ≡ p) ⊎ (is_at_some (point_of q) positions ≡ true)
  pub first : IsBehind side (coordinate side q) p
  pub behind : AllByRecursion (IsBehind side (coordinate side q)) positions

-- one at a time, from p on
farthest : (side : Side) (p : Pt) (positions : List Pt) → HasFarthest side p positions
farthest side p [] = record { q = p; at = inl refl; first = self_behind side p; behind = tt }
farthest side p (x ∷ positions) = by (farthest side p positions)
  where
    by : HasFarthest side p positions → HasFarthest side p (x ∷ positions)
    by rest = by_order (distance side (coordinate side rest.q) (point_of x)) (pos 0)
        (λ h. keep (omega (arith, linear, h))) (λ h. keep (omega (arith, linear, h)))
        (λ h. record {
          q = x;
          at = inr (or_left (is_at (point_of x) x) (is_at_some (point_of x) positions) (at_itself x));
          first = behind_more side rest.q x p h rest.first;
          behind = (
            self_behind side x,
            all_map (IsBehind side (coordinate side rest.q)) (IsBehind side (coordinate side x)) (λ z k. behind_more side rest.q x z h k)
                positions rest.behind,
          );
        })
      where
        keep : IsBehind side (coordinate side rest.q) x → HasFarthest side p (x ∷ positions)
        keep h = record {
          q = rest.q;
          at = elim rest.at [
            | inl e ↦ inl e
            | inr k ↦ inr (or_right (is_at (point_of rest.q) x) (is_at_some (point_of rest.q) positions) k)
          ];
          first = rest.first;
          behind = (h, rest.behind);
        }

-- ---- a corner
-- a farthest position that is outside of a box
pub record HasCorner (w : Option Window) (positions : List Pt) : Type 0 where
  pub side : Side
  pub q : Pt
  pub at : is_at_some (point_of q) positions ≡ true
  pub behind : AllByRecursion (IsBehind side (coordinate side q)) positions
  pub out : ¬ IsInBox w (point_of q)

-- where a position is outside of the box
pub corner : (w : Option Window) (positions : List Pt) → HasFarPosition w positions → HasCorner w positions
corner w positions far = by w far.out
  where
    at_far : (q : Pt) → (q ≡ far.p) ⊎ (is_at_some (point_of q) positions ≡ true) → is_at_some (point_of q) positions ≡ true
    at_far q (inl e) = subst (λ z. is_at_some (point_of z) positions ≡ true) (sym e) far.at
    at_far q (inr h) = h

    by : (box : Option Window) → ¬ IsInBox box (point_of far.p) → HasCorner box positions
    by None out =
        let r = farthest ToRight far.p positions in
        record { side = ToRight; q = r.q; at = at_far r.q r.at; behind = r.behind; out = λ inside. none_inside inside }
    by (Some box) out = elim (in_or_past box (point_of far.p)) [
      | inl h ↦ absurd (out (record { box = box; is = refl; within = h }))
      | inr h ↦
          let r = farthest h.side far.p positions in
          record {
            side = h.side;
            q = r.q;
            at = at_far r.q r.at;
            behind = r.behind;
            out = λ inside.
                let in_q = in_not_past box (point_of r.q) (in_window inside) h.side in
                let past_q = beyond_more h.side (edge_of box h.side) far.p r.q h.beyond r.first in
                omega (arith, linear, in_q, past_q);
          }
    ]

-- ---- straight out
-- the direction to a side
abbrev pub outward : Side → Direction
outward ToLeft = record { x = negsuc 0; y = pos 0; moves = λ z. let e = z.0 in omega (arith, linear, e) }
outward ToRight = record { x = pos 1; y = pos 0; moves = λ z. let e = z.0 in omega (arith, linear, e) }
outward ToBottom = record { x = pos 0; y = negsuc 0; moves = λ z. let e = z.1 in omega (arith, linear, e) }
outward ToTop = record { x = pos 0; y = pos 1; moves = λ z. let e = z.1 in omega (arith, linear, e) }

-- how far a direction leads to a side
abbrev pub gain : Side → Direction → ℤ
gain ToLeft d = neg_ℤ d.x
gain ToRight d = d.x
gain ToBottom d = neg_ℤ d.y
gain ToTop d = d.y

-- straight out leads out
pub outward_gains : (side : Side) → pos 0 <ℤ gain side (outward side)
outward_gains ToLeft = omega (arith, linear)
outward_gains ToRight = omega (arith, linear)
outward_gains ToBottom = omega (arith, linear)
outward_gains ToTop = omega (arith, linear)

-- the step to a point q + d/n, where d is positive or negative
step_up : (n step d w : ℤ) → pos 0 <ℤ n → pos 0 <ℤ w → n *ℤ step ≡ d *ℤ w → pos 0 <ℤ d → pos 0 <ℤ step
step_up n step d w hn hw e h = pos_factor n step hn (subst (λ z. pos 0 <ℤ z) (sym e) (pos-*-pos h hw))

-- or negative
step_down : (n step d w : ℤ) → pos 0 <ℤ n → pos 0 <ℤ w → n *ℤ step ≡ d *ℤ w → d <ℤ pos 0 → step <ℤ pos 0
step_down n step d w hn hw e h = neg_factor n step hn (subst (λ z. z <ℤ pos 0) (sym e) (neg-*-pos h hw))

-- so along such a direction from a position all points are beyond it
pub away_beyond :
    (side : Side) (q : Pt) (d : Direction) → pos 0 <ℤ gain side d → (n : ℕ) → 0 < n → (p : Point) → IsAway (point_of q) d n p
    → pos 0 <ℤ distance side (coordinate side q) p
unfolding shift rise
away_beyond ToLeft q d h n some p away =
    let s = step_down (pos n) (shift (point_of q) p) d.x (pos 1 *ℤ p.w) (omega (arith, linear, some))
    (omega (arith, linear, one-*ℤ p.w, p.heavy))
    (away_shift away) (omega (arith, linear, h)) in
    omega (arith, linear, s, *ℤ_one p.x)
away_beyond ToRight q d h n some p away =
    let s = step_up (pos n) (shift (point_of q) p) d.x (pos 1 *ℤ p.w) (omega (arith, linear, some))
    (omega (arith, linear, one-*ℤ p.w, p.heavy))
    (away_shift away) h in
    omega (arith, linear, s, *ℤ_one p.x)
away_beyond ToBottom q d h n some p away =
    let s = step_down (pos n) (rise (point_of q) p) d.y (pos 1 *ℤ p.w) (omega (arith, linear, some))
    (omega (arith, linear, one-*ℤ p.w, p.heavy))
    (away_rise away) (omega (arith, linear, h)) in
    omega (arith, linear, s, *ℤ_one p.y)
away_beyond ToTop q d h n some p away =
    let s = step_up (pos n) (rise (point_of q) p) d.y (pos 1 *ℤ p.w) (omega (arith, linear, some))
    (omega (arith, linear, one-*ℤ p.w, p.heavy))
    (away_rise away) h in
    omega (arith, linear, s, *ℤ_one p.y)
