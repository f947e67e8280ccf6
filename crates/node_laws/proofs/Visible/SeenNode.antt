-- The seen node: of the nodes in the triangle that a first hit on an edge opens, the one of least angle, and of those the farthest from
-- the hit edge.
use Rattle.std.proofs.Common.{◌≡◌, ◌⊎◌, inl, inr, ℤ, pos, negsuc, ◌+ℤ◌, ◌-ℤ◌, ◌*ℤ◌, neg_ℤ, ◌<ℤ◌, ◌≤ℤ◌, false, List, [], ◌∷◌, refl}
use Rattle.std.proofs.Common.{sym, ◌∙◌, ap, subst, arith}
use Rattle.std.proofs.lemmas.Int.{by_lt_z}
use lib.IntN.{*ℤ-zero}
use Rattle.whole_algebra.proofs.Laws.{linear}
use Rattle.whole_algebra.proofs.Polynomials.{var, num, minus, ◌⊕◌, ◌⊖◌, ◌⊗◌, identity}
use Rattle.whole_algebra.proofs.Certificates.{natural, positive, at_most, same, same_from, less, less_by, at_most_by, vanishing}
use Rattle.whole_algebra.proofs.Certificates.{impossible_by, scaled, ◌⊞◌, ◌⊠◌}
use Rattle.whole_algebra.proofs.Signs.{by_sign, <ℤ_weaken, <ℤ_apart, zero_factor, pos_nonzero}
use Rattle.plane_laws.proofs.Segments.Mixes.{segment_flip, segment_same}
use Rattle.plane_laws.proofs.Points.Same.{same_refl, same_sym}
use Rattle.plane_laws.proofs.Turns.Turns.{OneSign-pos, OneSign-zero, OneSign-nonneg, turn_same, turn_same_third, turn_cycle, turn_swap}
use Rattle.plane_laws.proofs.Turns.Turns.{OneSign}
use Rattle.plane_laws.proofs.Near.Parted.{turn_ends}
use Rattle.plane_laws.proofs.Segments.Onto.{turn-mix}
use Rattle.plane_laws.specs.Plane.{Point, IsSamePoint, IsMix, IsOnSegment, IsStrictlyBetween, turn}
use Rattle.plane_exact.specs.Places.{point_of}
use Rattle.plane_exact.specs.declared.point.Seg.{Seg}
use Rattle.point_set.specs.Rings.{is_on_edges}
use Rattle.node_laws.specs.Seen.{IsEnd, IsAmong, Sees, LawSeenNode}
use Rattle.meeting_laws.proofs.Ways.Corners.{turn_back, fan, angle_parts, parts_w, on_side, at_corner, blend, toward_start}
use Rattle.node_laws.proofs.Nodes.Edges.{off_end}
use Rattle.figure_laws.proofs.Lists.Least.{Least, least_of, NoItem}

-- ---- what lies ahead
-- q is in the triangle p, x, a, off the side from p to x
pub record Ahead (p x a q : Point) : Type 0 where
  pub left : pos 0 <ℤ turn p x q
  pub right : pos 0 ≤ℤ turn a p q
  pub near : pos 0 ≤ℤ turn x a q

-- no number is both
below_zero : {z : ℤ} → z <ℤ pos 0 → pos 0 ≤ℤ z → ⊥
below_zero {z} h k = omega (arith, linear, h, k)

-- nor these
not_above : {z : ℤ} → z ≤ℤ pos 0 → pos 0 <ℤ z → ⊥
not_above {z} h k = omega (arith, linear, h, k)

-- which is decided
is_ahead : (p x a q : Point) → Ahead p x a q ⊎ (¬ Ahead p x a q)
is_ahead p x a q = by_lt_z (pos 0) (turn p x q) by_right (λ h. inr (λ g. not_above h g.left))
  where
    by_near : pos 0 <ℤ turn p x q → pos 0 ≤ℤ turn a p q → Ahead p x a q ⊎ (¬ Ahead p x a q)
    by_near l r = by_lt_z (turn x a q) (pos 0) (λ h. inr (λ g. below_zero h g.near)) (λ h. inl (record { left = l; right = r; near = h }))

    by_right : pos 0 <ℤ turn p x q → Ahead p x a q ⊎ (¬ Ahead p x a q)
    by_right l = by_lt_z (turn a p q) (pos 0) (λ h. inr (λ g. below_zero h g.right)) (by_near l)

-- it is said of the point and not of its triple
ahead_same : (p x a : Point) {q r : Point} → IsSamePoint q r → Ahead p x a q → Ahead p x a r
ahead_same p x a h g = record {
  left = (OneSign-pos (turn_same (same_refl p) (same_refl x) h)).0 g.left;
  right = (OneSign-nonneg (turn_same (same_refl a) (same_refl p) h)).0 g.right;
  near = (OneSign-nonneg (turn_same (same_refl x) (same_refl a) h)).0 g.near;
}

-- ---- the order: u is to the right of v as seen from p, or in one way with it and at least as far from the line of x and a
pub data Before (p x a u v : Point) : Type 0 where
  right_of : pos 0 <ℤ turn p u v → Before p x a u v
  same_way : turn p u v ≡ pos 0 → (turn x a v *ℤ u.w) ≤ℤ (turn x a u *ℤ v.w) → Before p x a u v

-- of two points ahead, one comes before the other
either : (p x a u v : Point) → Before p x a u v ⊎ Before p x a v u
either p x a u v = by_sign (turn p u v) (λ h. inr (right_of (back h))) by_far (λ h. inl (right_of h))
  where
    back : turn p u v <ℤ pos 0 → pos 0 <ℤ turn p v u
    back h = omega (arith, linear, turn_back p u v, h)

    level : turn p u v ≡ pos 0 → turn p v u ≡ pos 0
    level e = omega (arith, linear, turn_back p u v, e)

    by_far : turn p u v ≡ pos 0 → Before p x a u v ⊎ Before p x a v u
    by_far e = by_lt_z (turn x a u *ℤ v.w) (turn x a v *ℤ u.w) (λ h. inr (same_way (level e) (<ℤ_weaken h))) (λ h. inl (same_way e h))

-- from u to v and on to w, one of the two turns to the left; xu, xv and xw are the turns of the three about another side
first_over : (uw uv vw xu xv xw : ℤ) → uw *ℤ xv ≡ uv *ℤ xw +ℤ vw *ℤ xu → pos 0 <ℤ xu → pos 0 <ℤ xv → pos 0 <ℤ xw
    → pos 0 <ℤ uv → pos 0 ≤ℤ vw → pos 0 <ℤ uw
first_over uw uv vw xu xv xw e hu hv hw h k =
    less_by (num (pos 0)) (var 0) (uw ∷ uv ∷ vw ∷ xu ∷ xv ∷ xw ∷ [])
    (λ denied. denied ⊠ positive (var 4) hv ⊞ positive (var 1) h ⊠ positive (var 5) hw ⊞ natural (var 2) k ⊠ positive (var 3) hu
    ⊞ same (var 0 ⊗ var 4) (var 1 ⊗ var 5 ⊕ var 2 ⊗ var 3) e) refl

-- the other one does
second_over : (uw uv vw xu xv xw : ℤ) → uw *ℤ xv ≡ uv *ℤ xw +ℤ vw *ℤ xu → pos 0 <ℤ xu → pos 0 <ℤ xv → pos 0 <ℤ xw
    → pos 0 ≤ℤ uv → pos 0 <ℤ vw → pos 0 <ℤ uw
second_over uw uv vw xu xv xw e hu hv hw h k =
    less_by (num (pos 0)) (var 0) (uw ∷ uv ∷ vw ∷ xu ∷ xv ∷ xw ∷ [])
    (λ denied. denied ⊠ positive (var 4) hv ⊞ natural (var 1) h ⊠ positive (var 5) hw ⊞ positive (var 2) k ⊠ positive (var 3) hu
    ⊞ same (var 0 ⊗ var 4) (var 1 ⊗ var 5 ⊕ var 2 ⊗ var 3) e) refl

-- neither turns
both_level : (uw uv vw xu xv xw : ℤ) → uw *ℤ xv ≡ uv *ℤ xw +ℤ vw *ℤ xu → pos 0 <ℤ xv → uv ≡ pos 0 → vw ≡ pos 0 → uw ≡ pos 0
both_level uw uv vw xu xv xw e hv h k =
    zero_factor xv uw (pos_nonzero hv)
    (same_from (var 4 ⊗ var 0) (num (pos 0)) (uw ∷ uv ∷ vw ∷ xu ∷ xv ∷ xw ∷ [])
    (same (var 0 ⊗ var 4) (var 1 ⊗ var 5 ⊕ var 2 ⊗ var 3) e ⊞ scaled (var 5) (vanishing (var 1) h) ⊞ scaled (var 3) (vanishing (var 2) k))
    refl)

-- of three fractions each at most the one before, the last is at most the first
fractions : (a b c d e f : ℤ) → pos 0 <ℤ b → pos 0 <ℤ d → pos 0 <ℤ f → (c *ℤ b) ≤ℤ (a *ℤ d) → (e *ℤ d) ≤ℤ (c *ℤ f) → (e *ℤ b) ≤ℤ (a *ℤ f)
fractions a b c d e f hb hd hf h k =
    at_most_by (var 4 ⊗ var 1) (var 0 ⊗ var 5) (a ∷ b ∷ c ∷ d ∷ e ∷ f ∷ [])
    (λ denied. denied ⊠ positive (var 3) hd ⊞ at_most (var 2 ⊗ var 1) (var 0 ⊗ var 3) h ⊠ positive (var 5) hf
    ⊞ at_most (var 4 ⊗ var 3) (var 2 ⊗ var 5) k ⊠ positive (var 1) hb) refl

-- what is 0 isn't below it
no_turn : {z : ℤ} → z ≡ pos 0 → pos 0 ≤ℤ z
no_turn {z} e = omega (arith, linear, e)

-- it is an order
through : (p x a u v w : Point) → Ahead p x a u → Ahead p x a v → Ahead p x a w → Before p x a u v → Before p x a v w → Before p x a u w
through p x a u v w gu gv gw = go
  where
    first : pos 0 <ℤ turn p u v → pos 0 ≤ℤ turn p v w → Before p x a u w
    first h k = right_of (first_over _ _ _ _ _ _ (fan p u v w x) gu.left gv.left gw.left h k)

    go : Before p x a u v → Before p x a v w → Before p x a u w
    go (right_of h) (right_of k) = first h (<ℤ_weaken k)
    go (right_of h) (same_way e k) = first h (no_turn e)
    go (same_way e h) (right_of k) = right_of (second_over _ _ _ _ _ _ (fan p u v w x) gu.left gv.left gw.left (no_turn e) k)
    go (same_way e h) (same_way f k) = same_way (both_level _ _ _ _ _ _ (fan p u v w x) gv.left e f)
        (fractions (turn x a u) u.w (turn x a v) v.w (turn x a w) w.w u.heavy v.heavy w.heavy h k)

-- ---- a point between p and what lies ahead
-- y is ahead, in the way of w, off the line of x and a, and farther from it than w
pub record IsInWay (p x a w y : Point) : Type 0 where
  pub left : pos 0 <ℤ turn p x y
  pub level : turn p w y ≡ pos 0
  pub near : pos 0 <ℤ turn x a y
  pub farther : (turn x a w *ℤ y.w) <ℤ (turn x a y *ℤ w.w)

-- a mix of what is 0 and what is positive
second_alone : (k z s o t b : ℤ) → k *ℤ z ≡ s *ℤ o +ℤ t *ℤ b → pos 0 <ℤ k → o ≡ pos 0 → pos 0 <ℤ t → pos 0 <ℤ b → pos 0 <ℤ z
second_alone k z s o t b e hk zero ht hb =
    less_by (num (pos 0)) (var 1) (k ∷ z ∷ s ∷ o ∷ t ∷ b ∷ [])
    (λ denied. denied ⊠ positive (var 0) hk ⊞ positive (var 4) ht ⊠ positive (var 5) hb
    ⊞ same (var 0 ⊗ var 1) (var 2 ⊗ var 3 ⊕ var 4 ⊗ var 5) e ⊞ scaled (var 2) (vanishing (var 3) zero)) refl

-- a mix of what is positive and what isn't negative
first_counts : (k z s o t b : ℤ) → k *ℤ z ≡ s *ℤ o +ℤ t *ℤ b → pos 0 <ℤ k → pos 0 <ℤ s → pos 0 <ℤ o → pos 0 <ℤ t → pos 0 ≤ℤ b → pos 0 <ℤ z
first_counts k z s o t b e hk hs ho ht hb =
    less_by (num (pos 0)) (var 1) (k ∷ z ∷ s ∷ o ∷ t ∷ b ∷ [])
    (λ denied. denied ⊠ positive (var 0) hk ⊞ positive (var 2) hs ⊠ positive (var 3) ho ⊞ positive (var 4) ht ⊠ natural (var 5) hb
    ⊞ same (var 0 ⊗ var 1) (var 2 ⊗ var 3 ⊕ var 4 ⊗ var 5) e) refl

-- a mix of zeros
mixed_zero : (k z s o t b : ℤ) → k *ℤ z ≡ s *ℤ o +ℤ t *ℤ b → pos 0 <ℤ k → o ≡ pos 0 → b ≡ pos 0 → z ≡ pos 0
mixed_zero k z s o t b e hk ho hb =
    zero_factor k z (pos_nonzero hk)
    (same_from (var 0 ⊗ var 1) (num (pos 0)) (k ∷ z ∷ s ∷ o ∷ t ∷ b ∷ [])
    (same (var 0 ⊗ var 1) (var 2 ⊗ var 3 ⊕ var 4 ⊗ var 5) e ⊞ scaled (var 2) (vanishing (var 3) ho)
    ⊞ scaled (var 4) (vanishing (var 5) hb)) refl)

-- a mix y of p and w is farther from the line of x and a than w: n is the distance of a point from it, d that of p
mixed_farther : (k ny s d t nw yw pw ww r l xw aw : ℤ) → k *ℤ ny ≡ s *ℤ d +ℤ t *ℤ nw → k *ℤ yw ≡ s *ℤ pw +ℤ t *ℤ ww
    → d *ℤ ww ≡ (nw *ℤ pw +ℤ r *ℤ xw) +ℤ l *ℤ aw → pos 0 <ℤ k → pos 0 <ℤ s → pos 0 ≤ℤ r → pos 0 <ℤ l → pos 0 <ℤ xw → pos 0 <ℤ aw
    → (nw *ℤ yw) <ℤ (ny *ℤ ww)
mixed_farther k ny s d t nw yw pw ww r l xw aw e f g hk hs hr hl hx ha =
    less_by (var 5 ⊗ var 6) (var 1 ⊗ var 8) (k ∷ ny ∷ s ∷ d ∷ t ∷ nw ∷ yw ∷ pw ∷ ww ∷ r ∷ l ∷ xw ∷ aw ∷ [])
    (λ denied. denied ⊠ positive (var 0) hk
    ⊞ scaled (minus (var 5)) (same (var 0 ⊗ var 6) (var 2 ⊗ var 7 ⊕ var 4 ⊗ var 8) f)
    ⊞ scaled (var 8) (same (var 0 ⊗ var 1) (var 2 ⊗ var 3 ⊕ var 4 ⊗ var 5) e)
    ⊞ scaled (var 2) (same (var 3 ⊗ var 8) ((var 5 ⊗ var 7 ⊕ var 9 ⊗ var 11) ⊕ var 10 ⊗ var 12) g)
    ⊞ positive (var 2) hs ⊠ natural (var 9) hr ⊠ positive (var 11) hx ⊞ positive (var 2) hs ⊠ positive (var 10) hl ⊠ positive (var 12) ha)
    refl

-- a point strictly between p and a point ahead is so
in_way : (p x a w y : Point) → pos 0 <ℤ turn p x a → Ahead p x a w → IsStrictlyBetween p w y → IsInWay p x a w y
in_way p x a w y broad g h = record {
  left = second_alone _ _ h.s (turn p x p) h.t (turn p x w) (mixed p x) m.some (turn_ends p x).0 h.some_second g.left;
  level = mixed_zero _ _ h.s (turn p w p) h.t (turn p w w) (mixed p w) m.some (turn_ends p w).0 (turn_ends p w).1;
  near = first_counts _ _ h.s (turn x a p) h.t (turn x a w) (mixed x a) m.some h.some_first at_p h.some_second g.near;
  farther = mixed_farther m.times (turn x a y) h.s (turn x a p) h.t (turn x a w) y.w p.w w.w (turn a p w) (turn p x w) x.w a.w (mixed x a)
      m.mass
      (ap (λ z. z *ℤ w.w) (sym (turn_cycle p x a)) ∙ parts_w p x a w) m.some h.some_first g.right g.left x.heavy a.heavy;
}
  where
    m : IsMix p w y h.s h.t
    m = h.mix

    mixed : (c d : Point) → m.times *ℤ turn c d y ≡ h.s *ℤ turn c d p +ℤ h.t *ℤ turn c d w
    mixed c d = turn-mix p w y h.s h.t m c d

    at_p : pos 0 <ℤ turn x a p
    at_p = subst (λ z. pos 0 <ℤ z) (turn_cycle p x a) broad

-- ---- an edge from v to another end passes through y, which is between p and w
-- d, t are the turns of the triangle and of q about p and w; r, l those of w and q about two sides
right_over : (d t rw lq rq lw : ℤ) → d *ℤ t ≡ rw *ℤ lq -ℤ rq *ℤ lw → pos 0 <ℤ d → pos 0 <ℤ lw → pos 0 ≤ℤ rw → pos 0 ≤ℤ lq → t <ℤ pos 0
    → pos 0 <ℤ rq
right_over d t rw lq rq lw e hd hl hr hq h =
    less_by (num (pos 0)) (var 4) (d ∷ t ∷ rw ∷ lq ∷ rq ∷ lw ∷ [])
    (λ denied. denied ⊠ positive (var 5) hl ⊞ natural (var 2) hr ⊠ natural (var 3) hq
    ⊞ same (var 0 ⊗ var 1) (var 2 ⊗ var 3 ⊖ var 4 ⊗ var 5) e ⊞ positive (var 0) hd ⊠ less (var 1) (num (pos 0)) h) refl

-- where q is in the way of w
right_up : (d t rw lq rq lw : ℤ) → d *ℤ t ≡ rw *ℤ lq -ℤ rq *ℤ lw → pos 0 <ℤ lw → pos 0 ≤ℤ rw → pos 0 ≤ℤ lq → t ≡ pos 0 → pos 0 ≤ℤ rq
right_up d t rw lq rq lw e hl hr hq h =
    at_most_by (num (pos 0)) (var 4) (d ∷ t ∷ rw ∷ lq ∷ rq ∷ lw ∷ [])
    (λ denied. denied ⊠ positive (var 5) hl ⊞ natural (var 2) hr ⊠ natural (var 3) hq
    ⊞ same (var 0 ⊗ var 1) (var 2 ⊗ var 3 ⊖ var 4 ⊗ var 5) e ⊞ scaled (minus (var 0)) (vanishing (var 1) h)) refl

-- what is at least as far as a point at a positive distance
far_over : (f yw h vw : ℤ) → pos 0 <ℤ f → pos 0 <ℤ vw → pos 0 <ℤ yw → (f *ℤ vw) ≤ℤ (h *ℤ yw) → pos 0 <ℤ h
far_over f yw h vw hf hv hy k =
    less_by (num (pos 0)) (var 2) (f ∷ yw ∷ h ∷ vw ∷ [])
    (λ denied. denied ⊠ positive (var 1) hy ⊞ at_most (var 0 ⊗ var 3) (var 2 ⊗ var 1) k ⊞ positive (var 0) hf ⊠ positive (var 3) hv) refl

-- opposite multiples cancel
cancelled : (l m : ℤ) → neg_ℤ l *ℤ m +ℤ m *ℤ l ≡ pos 0
cancelled l m = identity (minus (var 0) ⊗ var 1 ⊕ var 1 ⊗ var 0) (num (pos 0)) (l ∷ m ∷ []) refl

-- a mix of zeros
sum_of_zeros : (i j x y : ℤ) → x ≡ pos 0 → y ≡ pos 0 → i *ℤ x +ℤ j *ℤ y ≡ pos 0
sum_of_zeros i j x y e f =
    same_from (var 0 ⊗ var 2 ⊕ var 1 ⊗ var 3) (num (pos 0)) (i ∷ j ∷ x ∷ y ∷ [])
    (scaled (var 0) (vanishing (var 2) e) ⊞ scaled (var 1) (vanishing (var 3) f)) refl

-- a mix of what is 0 and what is negative
second_below : (i j x y : ℤ) → x ≡ pos 0 → pos 0 <ℤ j → y <ℤ pos 0 → (i *ℤ x +ℤ j *ℤ y) <ℤ pos 0
second_below i j x y e h k =
    less_by (var 0 ⊗ var 2 ⊕ var 1 ⊗ var 3) (num (pos 0)) (i ∷ j ∷ x ∷ y ∷ [])
    (λ denied. denied ⊞ scaled (minus (var 0)) (vanishing (var 2) e) ⊞ positive (var 1) h ⊠ less (var 3) (num (pos 0)) k) refl

-- a number of at most 0, turned
turned_up : {z : ℤ} → z ≤ℤ pos 0 → pos 0 ≤ℤ neg_ℤ z
turned_up {z} h = omega (arith, linear, h)

module _ (p x a w v v' y : Point) (broad : pos 0 <ℤ turn p x a) (g : Ahead p x a w) (b : IsInWay p x a w y) (on : IsOnSegment v v' y) where
  -- the end isn't in the way of w at least as far as y is: it would be a node before w, or p would be on the edge
  near_end : (Ahead p x a v → Before p x a w v) → ¬ IsOnSegment v v' p → turn p w v ≡ pos 0 → (turn x a y *ℤ v.w) ≤ℤ (turn x a v *ℤ y.w) → ⊥
  near_end before off e far = by_lt_z (pos 0) (turn p x v) ahead behind
    where
      clash : (turn x a v *ℤ w.w) ≤ℤ (turn x a w *ℤ v.w) → ⊥
      clash h =
          impossible_by (turn x a y ∷ y.w ∷ turn x a v ∷ v.w ∷ turn x a w ∷ w.w ∷ [])
          (less (var 4 ⊗ var 1) (var 0 ⊗ var 5) b.farther ⊠ positive (var 3) v.heavy
          ⊞ at_most (var 0 ⊗ var 3) (var 2 ⊗ var 1) far ⊠ positive (var 5) w.heavy
          ⊞ at_most (var 2 ⊗ var 5) (var 4 ⊗ var 3) h ⊠ positive (var 1) y.heavy) refl

      by_order : Before p x a w v → ⊥
      by_order (right_of h) = <ℤ_apart h (sym e)
      by_order (same_way f h) = clash h

      ahead : pos 0 <ℤ turn p x v → ⊥
      ahead l = by_order (before (record {
        left = l;
        right = right_up (turn p x a) (turn p w v) (turn a p w) (turn p x v) (turn a p v) (turn p x w) (angle_parts p x a w v) g.left
            g.right (<ℤ_weaken l) e;
        near = <ℤ_weaken (far_over (turn x a y) y.w (turn x a v) v.w b.near v.heavy y.heavy far);
      }))

      behind : turn p x v ≤ℤ pos 0 → ⊥
      behind l =
          let q = blend y v (neg_ℤ (turn p x v)) (turn p x y) (turned_up l) b.left in
          let side : turn p x q.at ≡ pos 0 = q.turns p x ∙ cancelled (turn p x v) (turn p x y) in
          let way : turn p w q.at ≡ pos 0 = q.turns p w
          ∙ sum_of_zeros (neg_ℤ (turn p x v)) (turn p x y) (turn p w y) (turn p w v) b.level e in
          let other : turn w p q.at ≡ pos 0 = omega (arith, linear, turn_swap p w q.at, way) in
          let at_p = at_corner p x w q.at (pos_nonzero g.left) side other in
          off (segment_same (same_refl v) (same_refl v') at_p (toward_start on q.on))

  -- a point right of the way to w, and not right of p and x
  right_side : (q : Point) → turn p w q <ℤ pos 0 → pos 0 ≤ℤ turn p x q → pos 0 <ℤ turn a p q
  right_side q h l = right_over (turn p x a) (turn p w q) (turn a p w) (turn p x q) (turn a p q) (turn p x w) (angle_parts p x a w q)
      broad g.left g.right l h

  module _ (before : Ahead p x a v → Before p x a w v)
      (cross : (q : Point) → IsOnSegment v v' q → IsOnSegment x a q → turn x a v <ℤ pos 0 → Ahead p x a q → pos 0 ≤ℤ turn p w q)
      (free : (m : Point) → IsOnSegment v v' m → IsOnSegment p x m → IsSamePoint m x)
      (lone : IsOnSegment v v' x → (turn x a v ≡ pos 0) × (turn x a v' ≡ pos 0)) where
    -- the edge leaves the triangle through the hit edge
    hits_a : turn p w v <ℤ pos 0 → turn x a v <ℤ pos 0 → pos 0 <ℤ (neg_ℤ (turn x a v) *ℤ turn p x y +ℤ turn x a y *ℤ turn p x v) → ⊥
    hits_a t n l =
        let q = blend y v (neg_ℤ (turn x a v)) (turn x a y) (turned_up (<ℤ_weaken n)) b.near in
        let right = subst (λ z. z <ℤ pos 0) (sym (q.turns p w))
        (second_below (neg_ℤ (turn x a v)) (turn x a y) (turn p w y) (turn p w v) b.level b.near t) in
        let left = subst (λ z. pos 0 <ℤ z) (sym (q.turns p x)) l in
        let line : turn x a q.at ≡ pos 0 = q.turns x a ∙ cancelled (turn x a v) (turn x a y) in
        let side = <ℤ_weaken (right_side q.at right (<ℤ_weaken left)) in
        let on_line = on_side x a p q.at (subst (λ z. pos 0 <ℤ z) (turn_cycle p x a) broad) line side (<ℤ_weaken left) in
        below_zero right (cross q.at (toward_start on q.on) on_line n (record { left = left; right = side; near = no_turn line }))

    -- the edge leaves the triangle through the way to the hit
    hits_x : turn p w v <ℤ pos 0 → turn p x v ≤ℤ pos 0 → pos 0 ≤ℤ (neg_ℤ (turn p x v) *ℤ turn x a y +ℤ turn p x y *ℤ turn x a v) → ⊥
    hits_x t n l =
        let q = blend y v (neg_ℤ (turn p x v)) (turn p x y) (turned_up n) b.left in
        let right = subst (λ z. z <ℤ pos 0) (sym (q.turns p w))
        (second_below (neg_ℤ (turn p x v)) (turn p x y) (turn p w y) (turn p w v) b.level b.left t) in
        let line : turn p x q.at ≡ pos 0 = q.turns p x ∙ cancelled (turn p x v) (turn p x y) in
        let near = subst (λ z. pos 0 ≤ℤ z) (sym (q.turns x a)) l in
        let on_way = on_side p x a q.at broad line near (<ℤ_weaken (right_side q.at right (no_turn line))) in
        let on_edge = toward_start on q.on in
        let flat = lone (segment_same (same_refl v) (same_refl v') (free q.at on_edge on_way) on_edge) in
        <ℤ_apart b.near (sym (mixed_zero on.mix.times (turn x a y) on.s (turn x a v) on.t (turn x a v')
        (turn-mix v v' y on.s on.t on.mix x a) on.mix.some flat.0 flat.1))

    -- where the edge comes to the side of p and x beyond x, it has come through the hit edge
    beyond : (l f m n : ℤ) → l ≤ℤ pos 0 → pos 0 <ℤ f → pos 0 <ℤ m → (neg_ℤ l *ℤ f +ℤ m *ℤ n) <ℤ pos 0
        → (n <ℤ pos 0) × (pos 0 <ℤ (neg_ℤ n *ℤ m +ℤ f *ℤ l))
    beyond l f m n hl hf hm h = (
      less_by (var 3) (num (pos 0)) (l ∷ f ∷ m ∷ n ∷ [])
          (λ denied. denied ⊠ positive (var 2) hm ⊞ less (minus (var 0) ⊗ var 1 ⊕ var 2 ⊗ var 3) (num (pos 0)) h
          ⊞ at_most (var 0) (num (pos 0)) hl ⊠ positive (var 1) hf) refl,
      less_by (num (pos 0)) (minus (var 3) ⊗ var 2 ⊕ var 1 ⊗ var 0) (l ∷ f ∷ m ∷ n ∷ [])
          (λ denied. denied ⊞ less (minus (var 0) ⊗ var 1 ⊕ var 2 ⊗ var 3) (num (pos 0)) h) refl,
    )

    -- the same where the edge's end is to the left of p and x
    out_beside : (l f m n : ℤ) → pos 0 <ℤ l → pos 0 <ℤ f → pos 0 <ℤ m → n <ℤ pos 0 → pos 0 <ℤ (neg_ℤ n *ℤ m +ℤ f *ℤ l)
    out_beside l f m n hl hf hm h =
        less_by (num (pos 0)) (minus (var 3) ⊗ var 2 ⊕ var 1 ⊗ var 0) (l ∷ f ∷ m ∷ n ∷ [])
        (λ denied. denied ⊞ less (var 3) (num (pos 0)) h ⊠ positive (var 2) hm ⊞ positive (var 1) hf ⊠ positive (var 0) hl) refl

    -- the end isn't right of the way to w
    right_end : turn p w v <ℤ pos 0 → ⊥
    right_end t = by_lt_z (pos 0) (turn p x v) inside outside
      where
        by_order : Before p x a w v → ⊥
        by_order (right_of h) = below_zero t (<ℤ_weaken h)
        by_order (same_way e h) = <ℤ_apart t e

        inside : pos 0 <ℤ turn p x v → ⊥
        inside l = by_lt_z (turn x a v) (pos 0)
            (λ n. hits_a t n (out_beside (turn p x v) (turn x a y) (turn p x y) (turn x a v) l b.near b.left n))
            (λ n. by_order (before (record { left = l; right = <ℤ_weaken (right_side v t (<ℤ_weaken l)); near = n })))

        outside : turn p x v ≤ℤ pos 0 → ⊥
        outside l = by_lt_z (neg_ℤ (turn p x v) *ℤ turn x a y +ℤ turn p x y *ℤ turn x a v) (pos 0)
            (λ h. let out = beyond (turn p x v) (turn x a y) (turn p x y) (turn x a v) l b.near b.left h in hits_a t out.0 out.1)
            (hits_x t l)

-- ---- where neither end is right of the way, one of them is in it, at least as far as y
-- the parts of a mix about the mix itself
balance : (k s t fy fu fv yw uw vw : ℤ) → k *ℤ fy ≡ s *ℤ fu +ℤ t *ℤ fv → k *ℤ yw ≡ s *ℤ uw +ℤ t *ℤ vw
    → s *ℤ (fu *ℤ yw -ℤ fy *ℤ uw) +ℤ t *ℤ (fv *ℤ yw -ℤ fy *ℤ vw) ≡ pos 0
balance k s t fy fu fv yw uw vw e f =
    same_from (var 1 ⊗ (var 4 ⊗ var 6 ⊖ var 3 ⊗ var 7) ⊕ var 2 ⊗ (var 5 ⊗ var 6 ⊖ var 3 ⊗ var 8)) (num (pos 0))
    (k ∷ s ∷ t ∷ fy ∷ fu ∷ fv ∷ yw ∷ uw ∷ vw ∷ [])
    (scaled (minus (var 6)) (same (var 0 ⊗ var 3) (var 1 ⊗ var 4 ⊕ var 2 ⊗ var 5) e)
    ⊞ scaled (var 3) (same (var 0 ⊗ var 6) (var 1 ⊗ var 7 ⊕ var 2 ⊗ var 8) f)) refl

-- one of two numbers of at least 0 with a sum of 0 under weights, where the first weight counts
first_zero : (s t tu tv : ℤ) → pos 0 <ℤ s → pos 0 ≤ℤ t → pos 0 ≤ℤ tu → pos 0 ≤ℤ tv → s *ℤ tu +ℤ t *ℤ tv ≡ pos 0 → tu ≡ pos 0
first_zero s t tu tv hs ht hu hv e = by_sign tu (λ h. absurd (below_zero h hu)) (λ z. z)
    (λ h. impossible_by (s ∷ t ∷ tu ∷ tv ∷ [])
    (positive (var 0) hs ⊠ positive (var 2) h ⊞ natural (var 1) ht ⊠ natural (var 3) hv
    ⊞ scaled (num (negsuc 0)) (vanishing (var 0 ⊗ var 2 ⊕ var 1 ⊗ var 3) e)) refl)

-- both weights are 0 for no mix
some_weight : (k s t w u v : ℤ) → k *ℤ w ≡ s *ℤ u +ℤ t *ℤ v → pos 0 <ℤ k → pos 0 <ℤ w → s ≡ pos 0 → t ≡ pos 0 → ⊥
some_weight k s t w u v e hk hw zs zt =
    impossible_by (k ∷ s ∷ t ∷ w ∷ u ∷ v ∷ [])
    (positive (var 0) hk ⊠ positive (var 3) hw ⊞ scaled (num (negsuc 0)) (same (var 0 ⊗ var 3) (var 1 ⊗ var 4 ⊕ var 2 ⊗ var 5) e)
    ⊞ scaled (minus (var 4)) (vanishing (var 1) zs) ⊞ scaled (minus (var 5)) (vanishing (var 2) zt)) refl

-- u's part is negative, so v's is positive, and v's weight counts
other_part : (s t m n : ℤ) → pos 0 ≤ℤ t → s *ℤ m +ℤ t *ℤ n ≡ pos 0 → pos 0 <ℤ s → m <ℤ pos 0 → (pos 0 <ℤ t) × (pos 0 ≤ℤ n)
other_part s t m n ht e hs h = (counts, up counts)
  where
    counts : pos 0 <ℤ t
    counts = by_sign t (λ k. absurd (below_zero k ht))
        (λ z. impossible_by (s ∷ t ∷ m ∷ n ∷ [])
        (positive (var 0) hs ⊠ less (var 2) (num (pos 0)) h ⊞ vanishing (var 0 ⊗ var 2 ⊕ var 1 ⊗ var 3) e
        ⊞ scaled (minus (var 3)) (vanishing (var 1) z)) refl)
        (λ k. k)

    up : pos 0 <ℤ t → pos 0 ≤ℤ n
    up k = at_most_by (num (pos 0)) (var 3) (s ∷ t ∷ m ∷ n ∷ [])
        (λ denied. denied ⊠ positive (var 1) k ⊞ positive (var 0) hs ⊠ less (var 2) (num (pos 0)) h
        ⊞ vanishing (var 0 ⊗ var 2 ⊕ var 1 ⊗ var 3) e) refl

-- by a difference
as_far : {x y : ℤ} → pos 0 ≤ℤ (x -ℤ y) → y ≤ℤ x
as_far {x} {y} h = omega (arith, linear, h)

-- t is a turn, n a distance, of the mix y and the ends u and v
one_end : (k s t ty tu tv ny nu nv yw uw vw : ℤ) → k *ℤ ty ≡ s *ℤ tu +ℤ t *ℤ tv → k *ℤ ny ≡ s *ℤ nu +ℤ t *ℤ nv
    → k *ℤ yw ≡ s *ℤ uw +ℤ t *ℤ vw
    → ty ≡ pos 0 → pos 0 ≤ℤ tu → pos 0 ≤ℤ tv → pos 0 <ℤ k → pos 0 ≤ℤ s → pos 0 ≤ℤ t → pos 0 <ℤ yw
    → ((tu ≡ pos 0) × ((ny *ℤ uw) ≤ℤ (nu *ℤ yw))) ⊎ ((tv ≡ pos 0) × ((ny *ℤ vw) ≤ℤ (nv *ℤ yw)))
one_end k s t ty tu tv ny nu nv yw uw vw e f g level hu hv hk hs ht hy = by_sign s (λ h. absurd (below_zero h hs)) first_none first_some
  where
    turns : s *ℤ tu +ℤ t *ℤ tv ≡ pos 0
    turns = sym e ∙ ap (λ z. k *ℤ z) level ∙ *ℤ-zero k

    parts : s *ℤ (nu *ℤ yw -ℤ ny *ℤ uw) +ℤ t *ℤ (nv *ℤ yw -ℤ ny *ℤ vw) ≡ pos 0
    parts = balance k s t ny nu nv yw uw vw f g

    swapped : (i j x y : ℤ) → i *ℤ x +ℤ j *ℤ y ≡ pos 0 → j *ℤ y +ℤ i *ℤ x ≡ pos 0
    swapped i j x y h = omega (arith, linear, h)

    second : pos 0 <ℤ t → pos 0 ≤ℤ (nv *ℤ yw -ℤ ny *ℤ vw) → ((tu ≡ pos 0) × ((ny *ℤ uw) ≤ℤ (nu *ℤ yw)))
        ⊎ ((tv ≡ pos 0) × ((ny *ℤ vw) ≤ℤ (nv *ℤ yw)))
    second h n = inr (first_zero t s tv tu h hs hv hu (swapped s t tu tv turns), as_far n)

    first_none : s ≡ pos 0 → ((tu ≡ pos 0) × ((ny *ℤ uw) ≤ℤ (nu *ℤ yw))) ⊎ ((tv ≡ pos 0) × ((ny *ℤ vw) ≤ℤ (nv *ℤ yw)))
    first_none z = by_sign t (λ h. absurd (below_zero h ht)) (λ zt. absurd (some_weight k s t yw uw vw g hk hy z zt))
        (λ h. second h (no_turn (zero_factor t (nv *ℤ yw -ℤ ny *ℤ vw) (pos_nonzero h) (last_alone s t _ _ z parts))))
      where
        last_alone : (s t m n : ℤ) → s ≡ pos 0 → s *ℤ m +ℤ t *ℤ n ≡ pos 0 → t *ℤ n ≡ pos 0
        last_alone s t m n zs h =
            same_from (var 1 ⊗ var 3) (num (pos 0)) (s ∷ t ∷ m ∷ n ∷ [])
            (vanishing (var 0 ⊗ var 2 ⊕ var 1 ⊗ var 3) h ⊞ scaled (minus (var 2)) (vanishing (var 0) zs)) refl

    first_some : pos 0 <ℤ s → ((tu ≡ pos 0) × ((ny *ℤ uw) ≤ℤ (nu *ℤ yw))) ⊎ ((tv ≡ pos 0) × ((ny *ℤ vw) ≤ℤ (nv *ℤ yw)))
    first_some h = by_lt_z (nu *ℤ yw -ℤ ny *ℤ uw) (pos 0)
        (λ n. let o = other_part s t (nu *ℤ yw -ℤ ny *ℤ uw) (nv *ℤ yw -ℤ ny *ℤ vw) ht parts h n in second o.0 o.1)
        (λ n. inl (first_zero s t tu tv h ht hu hv turns, as_far n))

-- ---- the theorem
-- the ends of an edge change places
swap_end : {edges : List Seg} {u v : Point} → IsEnd edges u v → IsEnd edges v u
swap_end {edges} {u} {v} e = record { place = e.place; edge = e.edge; edge_is = e.edge_is; ends = turned e.ends }
  where
    turned : ((u ≡ point_of e.edge.a) × (v ≡ point_of e.edge.b)) ⊎ ((u ≡ point_of e.edge.b) × (v ≡ point_of e.edge.a))
        → ((v ≡ point_of e.edge.a) × (u ≡ point_of e.edge.b)) ⊎ ((v ≡ point_of e.edge.b) × (u ≡ point_of e.edge.a))
    turned (inl h) = inr (h.1, h.0)
    turned (inr h) = inl (h.1, h.0)

module _ (edges : List Seg) (nodes : List Point) (p x a : Point) (broad : pos 0 <ℤ turn p x a) (a_node : IsAmong nodes a)
    (ends : (u v : Point) → IsEnd edges u v → IsAmong nodes u) (off : is_on_edges p edges ≡ false)
    (free : (u v m : Point) → IsEnd edges u v → IsOnSegment u v m → IsOnSegment p x m → IsSamePoint m x)
    (lone : (u v : Point) → IsEnd edges u v → IsOnSegment u v x → (turn x a u ≡ pos 0) × (turn x a v ≡ pos 0))
    (crossing : (u v q : Point) → IsEnd edges u v → IsOnSegment u v q → IsOnSegment x a q → turn x a u <ℤ pos 0 → IsAmong nodes q) where
  -- the chosen node
  abbrev Chosen : Type 0
  Chosen = Least (Ahead p x a) (Before p x a) (is_ahead p x a) (λ u v g h. either p x a u v) (through p x a) nodes

  -- the given node is ahead
  a_ahead : Ahead p x a a
  a_ahead = record { left = broad; right = no_turn (turn_ends_back a p); near = no_turn (turn_ends x a).1 }
    where
      turn_ends_back : (c d : Point) → turn c d c ≡ pos 0
      turn_ends_back c d = (turn_ends c d).0

  -- there is a least one
  chosen : Chosen
  chosen = go (least_of (Ahead p x a) (Before p x a) (is_ahead p x a) (λ u v g h. either p x a u v) (through p x a) nodes)
    where
      go : Chosen ⊎ NoItem (Ahead p x a) nodes → Chosen
      go (inl c) = c
      go (inr none) = absurd (none a_node.place a_node.node a_node.node_is (ahead_same p x a (same_sym a_node.same) a_ahead))

  -- the order is said of the points and not of their triples
  not_before : (c : Chosen) {q : Point} → IsAmong nodes q → Ahead p x a q → Before p x a c.least q
  not_before c {q} n g = moved (c.before n.place n.node n.node_is (ahead_same p x a (same_sym n.same) g))
    where
      level : turn p c.least n.node ≡ pos 0 → turn p c.least q ≡ pos 0
      level = (OneSign-zero (turn_same (same_refl p) (same_refl c.least) n.same)).0

      far : (turn x a n.node *ℤ c.least.w) ≤ℤ (turn x a c.least *ℤ n.node.w) → (turn x a q *ℤ c.least.w) ≤ℤ (turn x a c.least *ℤ q.w)
      far h = at_most_by (var 2 ⊗ var 1) (var 0 ⊗ var 3) (turn x a c.least ∷ c.least.w ∷ turn x a q ∷ q.w ∷ turn x a n.node ∷ n.node.w ∷ [])
          (λ denied. denied ⊠ positive (var 5) n.node.heavy ⊞ at_most (var 4 ⊗ var 1) (var 0 ⊗ var 5) h ⊠ positive (var 3) q.heavy
          ⊞ scaled (var 1) (same (var 4 ⊗ var 3) (var 2 ⊗ var 5) (turn_same_third x a n.same))) refl

      moved : Before p x a c.least n.node → Before p x a c.least q
      moved (right_of h) = right_of ((OneSign-pos (turn_same (same_refl p) (same_refl c.least) n.same)).0 h)
      moved (same_way e h) = same_way (level e) (far h)

  -- no edge comes between it and p
  blocked : (c : Chosen) (u v y : Point) → IsEnd edges u v → IsOnSegment u v y → IsStrictlyBetween p c.least y → ⊥
  blocked c u v y e on h = by_lt_z (turn p c.least u) (pos 0) (right u v e on)
      (λ t. by_lt_z (turn p c.least v) (pos 0) (right v u (swap_end e) (segment_flip on)) (by_ends t))
    where
      b : IsInWay p x a c.least y
      b = in_way p x a c.least y broad c.good h

      up : (q : Point) → Before p x a c.least q → pos 0 ≤ℤ turn p c.least q
      up q (right_of h) = <ℤ_weaken h
      up q (same_way e h) = no_turn e

      right : (u v : Point) → IsEnd edges u v → IsOnSegment u v y → turn p c.least u <ℤ pos 0 → ⊥
      right u v e on = right_end p x a c.least u v y broad c.good b on (not_before c (ends u v e))
          (λ q on_e on_line below g. up q (not_before c (crossing u v q e on_e on_line below) g)) (λ m. free u v m e) (lone u v e)

      end_of : (u v : Point) → IsEnd edges u v → IsOnSegment u v y → (turn p c.least u ≡ pos 0)
          × ((turn x a y *ℤ u.w) ≤ℤ (turn x a u *ℤ y.w)) → ⊥
      end_of u v e on f = near_end p x a c.least u v y broad c.good b on (not_before c (ends u v e)) (off_end edges p off e) f.0 f.1

      by_ends : pos 0 ≤ℤ turn p c.least u → pos 0 ≤ℤ turn p c.least v → ⊥
      by_ends t t' = go (one_end on.mix.times on.s on.t (turn p c.least y) (turn p c.least u) (turn p c.least v) (turn x a y) (turn x a u)
          (turn x a v) y.w u.w v.w
          (turn-mix u v y on.s on.t on.mix p c.least) (turn-mix u v y on.s on.t on.mix x a) on.mix.mass b.level t t' on.mix.some
          on.mix.first on.mix.second y.heavy)
        where
          go : ((turn p c.least u ≡ pos 0) × ((turn x a y *ℤ u.w) ≤ℤ (turn x a u *ℤ y.w)))
              ⊎ ((turn p c.least v ≡ pos 0) × ((turn x a y *ℤ v.w) ≤ℤ (turn x a v *ℤ y.w))) → ⊥
          go (inl f) = end_of u v e on f
          go (inr f) = end_of v u (swap_end e) (segment_flip on) f

  -- so it is seen
  sees : Sees edges nodes p
  sees = record {
    node = chosen.least;
    is_node = record { place = chosen.place; node = chosen.least; node_is = chosen.least_is; same = same_refl chosen.least };
    free = λ u v y e on h. blocked chosen u v y e on h;
  }

-- some node is seen over all edges
pub seen_node : LawSeenNode
seen_node = sees
