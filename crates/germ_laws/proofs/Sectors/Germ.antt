-- The germ of an area in a sector: it is the same along all directions that lie strictly within one in which no edge runs.
use Rattle.std.proofs.Common.{◌≡◌, ◌⊎◌, inl, inr, ℤ, pos, ◌+ℤ◌, ◌-ℤ◌, ◌*ℤ◌, neg_ℤ, ◌<ℤ◌, ◌≤ℤ◌, false, List, [], ◌∷◌, ap, refl, sym, ◌∙◌}
use Rattle.std.proofs.Common.{subst, arith}
use Rattle.std.proofs.lemmas.Bool.{or_parts, true≢false}
use lib.IntN.{*ℤ-zero, zero-*ℤ}
use Rattle.im_matrix.specs.declared.Loc.{Loc}
use Rattle.whole_algebra.proofs.Laws.{linear}
use Rattle.whole_algebra.proofs.Polynomials.{var, num, ◌⊕◌, ◌⊖◌, ◌⊗◌, minus, identity}
use Rattle.whole_algebra.proofs.Certificates.{natural, positive, less, same, same_from, less_by, impossible_by, whole, scaled, ◌⊞◌, ◌⊠◌}
use Rattle.whole_algebra.proofs.Signs.{by_sign, <ℤ_weaken, <ℤ_apart, pos_nonzero, nonneg-*-nonneg, pos-+-nonneg, zero_factor}
use Rattle.plane_laws.proofs.Directions.Angles.{no_bend}
use Rattle.plane_laws.specs.Plane.{Point, rise, shift}
use Rattle.plane_laws.specs.Directions.{Direction, bend_of, PointSameWay, IsStrictlyWithin}
use Rattle.plane_exact.specs.declared.point.Seg.{Seg}
use Rattle.point_set.specs.declared.figure.Area.{Area}
use Rattle.point_set.specs.Rings.{is_on_edge, is_on_edges}
use Rattle.point_set.specs.Location.{rings_of, edges_of_rings}
use Rattle.point_set.specs.Shape.{IsAreaShaped}
use Rattle.point_set.specs.Germ.{IsGerm}
use Rattle.plane_laws.specs.Along.{IsInCone}
use Rattle.point_set.specs.Sectors.{HasNoEdgeWithin}
use Rattle.ring_laws.proofs.Germs.Edges.{AreClear, shift_self, rise_self, moving}
use Rattle.ring_laws.proofs.Germs.Areas.{germ_exists, germ_same, clear_from}
use Rattle.ring_laws.proofs.Parity.Flip.{clash_lt}

-- ---- between two directions
-- (x, y) is i·d + j·e, for i and j of at least 0 that aren't both 0
pub record IsSum (d e : Direction) (x y : ℤ) : Type 0 where
  pub i : ℤ
  pub j : ℤ
  pub first : pos 0 ≤ℤ i
  pub second : pos 0 ≤ℤ j
  pub some : pos 0 <ℤ (i +ℤ j)
  pub across : x ≡ (i *ℤ d.x) +ℤ (j *ℤ e.x)
  pub above : y ≡ (i *ℤ d.y) +ℤ (j *ℤ e.y)

-- two directions aren't opposite
abbrev pub ArePointed : Direction → Direction → Type 0
ArePointed d e = ¬ IsSum d e (pos 0) (pos 0)

cone_sum : {v : Point} {d e : Direction} {a : Point} (c : IsInCone v d e a) → IsSum d e (c.times *ℤ shift v a) (c.times *ℤ rise v a)
cone_sum c = record { i = c.i; j = c.j; first = c.first; second = c.second; some = c.some; across = c.across; above = c.above }

zero_sum : {d e : Direction} {x y : ℤ} → IsSum d e x y → x ≡ pos 0 → y ≡ pos 0 → IsSum d e (pos 0) (pos 0)
zero_sum q h k = record
    { i = q.i; j = q.j; first = q.first; second = q.second; some = q.some; across = sym h ∙ q.across; above = sym k ∙ q.above }

-- v itself doesn't lie from v between two directions that aren't opposite
pub cone_pointed : (v : Point) {d e : Direction} → ArePointed d e → ¬ IsInCone v d e v
cone_pointed v n c = n
    (zero_sum (cone_sum c) (ap (λ z. c.times *ℤ z) (shift_self v) ∙ *ℤ-zero c.times)
    (ap (λ z. c.times *ℤ z) (rise_self v) ∙ *ℤ-zero c.times))

-- the direction from v to a point between the two
pub toward : {v : Point} {d e : Direction} {a : Point} → ArePointed d e → IsInCone v d e a → Direction
toward {v} {d} {e} {a} n c = record { x = c.times *ℤ shift v a; y = c.times *ℤ rise v a; moves = λ z. n (zero_sum (cone_sum c) z.0 z.1) }

-- it is a sum of the two
pub toward_sum :
    {v : Point} {d e : Direction} {a : Point} (n : ArePointed d e) (c : IsInCone v d e a) → IsSum d e (toward n c).x (toward n c).y
unfolding toward
toward_sum n c = cone_sum c

pub toward_is : {v : Point} {d e : Direction} {a : Point} (n : ArePointed d e) (c : IsInCone v d e a)
    → IsInCone v (toward n c) (toward n c) a
unfolding toward
toward_is {v} {d} {e} {a} n c = record {
  i = pos 1;
  j = pos 0;
  first = omega (arith, linear);
  second = omega (arith, linear);
  some = omega (arith, linear);
  times = c.times;
  positive = c.positive;
  across = once (c.times *ℤ shift v a);
  above = once (c.times *ℤ rise v a);
}
  where
    once : (z : ℤ) → z ≡ (pos 1 *ℤ z) +ℤ (pos 0 *ℤ z)
    once z = identity (var 0) (num (pos 1) ⊗ var 0 ⊕ num (pos 0) ⊗ var 0) (z ∷ []) refl

-- any two germs along d and e are equal
abbrev HaveOneGerm : Area → Point → Direction → Direction → Type 0
HaveOneGerm area v d e = (g h : Loc) → IsGerm area v d g → IsGerm area v e h → g ≡ h

-- ---- one step: where all directions between d and e lie strictly within the sector
step : (area : Area) → IsAreaShaped area → (v : Point) (r s : Direction) → HasNoEdgeWithin area v r s → (d e : Direction) → ArePointed d e
    → ((t : Direction) → IsSum d e t.x t.y → IsStrictlyWithin r s t) → HaveOneGerm area v d e
step area shaped v r s free d e n within =
    germ_same area shaped v d e (cone_pointed v n)
    (clear_from v d e (edges_of_rings (rings_of area)) (λ place f is on. (
      λ c. (free place f is on (toward n c) (within (toward n c) (toward_sum n c))).0 (toward_is n c),
      λ c. (free place f is on (toward n c) (within (toward n c) (toward_sum n c))).1 (toward_is n c),
    )))

-- ---- the left of a direction, and the right of one
left_value : (rx ry dx dy ex ey i j x y : ℤ) → pos 0 ≤ℤ i → pos 0 ≤ℤ j → pos 0 <ℤ (i +ℤ j) → x ≡ (i *ℤ dx) +ℤ (j *ℤ ex)
    → y ≡ (i *ℤ dy) +ℤ (j *ℤ ey) → pos 0 <ℤ ((rx *ℤ dy) -ℤ (ry *ℤ dx)) → pos 0 <ℤ ((rx *ℤ ey) -ℤ (ry *ℤ ex))
    → pos 0 <ℤ ((rx *ℤ y) -ℤ (ry *ℤ x))
left_value rx ry dx dy ex ey i j x y hi hj h across above k l =
    less_by (num (pos 0)) (var 0 ⊗ var 9 ⊖ var 1 ⊗ var 8) (rx ∷ ry ∷ dx ∷ dy ∷ ex ∷ ey ∷ i ∷ j ∷ x ∷ y ∷ [])
    (λ denied. denied ⊞ natural (var 6) hi ⊠ whole (positive (var 0 ⊗ var 3 ⊖ var 1 ⊗ var 2) k)
    ⊞ natural (var 7) hj ⊠ whole (positive (var 0 ⊗ var 5 ⊖ var 1 ⊗ var 4) l)
    ⊞ positive (var 6 ⊕ var 7) h
    ⊞ scaled (var 0) (same (var 9) (var 6 ⊗ var 3 ⊕ var 7 ⊗ var 5) above)
    ⊞ scaled (minus (var 1)) (same (var 8) (var 6 ⊗ var 2 ⊕ var 7 ⊗ var 4) across)) refl

-- what has s to the left is to the left of the opposite of s
pub over_back : (x y sx sy : ℤ) → (x *ℤ sy) -ℤ (y *ℤ sx) ≡ (neg_ℤ sx *ℤ y) -ℤ (neg_ℤ sy *ℤ x)
over_back x y sx sy = identity (var 0 ⊗ var 3 ⊖ var 1 ⊗ var 2) (minus (var 2) ⊗ var 1 ⊖ minus (var 3) ⊗ var 0) (x ∷ y ∷ sx ∷ sy ∷ []) refl

nothing_left : (a b : ℤ) → ¬ (pos 0 <ℤ ((a *ℤ pos 0) -ℤ (b *ℤ pos 0)))
nothing_left a b h = impossible_by (a ∷ b ∷ []) (positive (var 0 ⊗ num (pos 0) ⊖ var 1 ⊗ num (pos 0)) h) refl

left_stays : (r d e : Direction) → pos 0 <ℤ bend_of r d → pos 0 <ℤ bend_of r e → (t : Direction) → IsSum d e t.x t.y → pos 0 <ℤ bend_of r t
unfolding bend_of
left_stays r d e k l t q = left_value r.x r.y d.x d.y e.x e.y q.i q.j t.x t.y q.first q.second q.some q.across q.above k l

left_pointed : (r d e : Direction) → pos 0 <ℤ bend_of r d → pos 0 <ℤ bend_of r e → ArePointed d e
unfolding bend_of
left_pointed r d e k l q = nothing_left r.x r.y
    (left_value r.x r.y d.x d.y e.x e.y q.i q.j (pos 0) (pos 0) q.first q.second q.some q.across q.above k l)

-- the direction opposite to r
turned : (a : ℤ) → neg_ℤ a ≡ pos 0 → a ≡ pos 0
turned a h = omega (arith, linear, h)

back : Direction → Direction
back r = record { x = neg_ℤ r.x; y = neg_ℤ r.y; moves = λ z. r.moves (turned r.x z.0, turned r.y z.1) }

-- so the right of s is the left of its opposite
left_of_back : (s d : Direction) → bend_of d s ≡ bend_of (back s) d
unfolding bend_of back
left_of_back s d = over_back d.x d.y s.x s.y

to_left : (s d : Direction) → pos 0 <ℤ bend_of d s → pos 0 <ℤ bend_of (back s) d
to_left s d = subst (λ z. pos 0 <ℤ z) (left_of_back s d)

right_stays : (s d e : Direction) → pos 0 <ℤ bend_of d s → pos 0 <ℤ bend_of e s → (t : Direction) → IsSum d e t.x t.y → pos 0 <ℤ bend_of t s
right_stays s d e k l t q = subst (λ z. pos 0 <ℤ z) (sym (left_of_back s t)) (left_stays (back s) d e (to_left s d k) (to_left s e l) t q)

right_pointed : (s d e : Direction) → pos 0 <ℤ bend_of d s → pos 0 <ℤ bend_of e s → ArePointed d e
right_pointed s d e k l = left_pointed (back s) d e (to_left s d k) (to_left s e l)

-- ---- the same way
-- k of r are l of d, for k and l of at least 0 that aren't both 0
same_way_from : (r d : Direction) (k l : ℤ) → pos 0 ≤ℤ k → pos 0 ≤ℤ l → pos 0 <ℤ (k +ℤ l) → k *ℤ r.x ≡ l *ℤ d.x → k *ℤ r.y ≡ l *ℤ d.y
    → PointSameWay r d
same_way_from r d k l hk hl h across above = by_sign k (λ n. absurd (under k n hk))
    (λ z. absurd (d.moves (none_first r.x d.x z across, none_first r.y d.y z above))) some_k
  where
    under : (a : ℤ) → a <ℤ pos 0 → pos 0 ≤ℤ a → ⊥
    under a n m = omega (arith, linear, n, m)

    none_first : (x y : ℤ) → k ≡ pos 0 → k *ℤ x ≡ l *ℤ y → y ≡ pos 0
    none_first x y z e = zero_factor l y (λ w. <ℤ_apart h (omega (arith, linear, z, w))) (sym e ∙ ap (λ a. a *ℤ x) z ∙ zero-*ℤ x)

    none_second : (x y : ℤ) → l ≡ pos 0 → k *ℤ x ≡ l *ℤ y → x ≡ pos 0
    none_second x y z e = zero_factor k x (λ w. <ℤ_apart h (omega (arith, linear, z, w))) (e ∙ ap (λ a. a *ℤ y) z ∙ zero-*ℤ y)

    some_k : pos 0 <ℤ k → PointSameWay r d
    some_k p = by_sign l (λ n. absurd (under l n hl)) (λ z. absurd (r.moves (none_second r.x d.x z across, none_second r.y d.y z above)))
        (λ q. record { m = k; n = l; some = p; other = q; across = across; above = above })

unfoldable pub dot_of_ways : Direction → Direction → ℤ
dot_of_ways u w = (u.x *ℤ w.x) +ℤ (u.y *ℤ w.y)

pub level_same : (r s : Direction) → bend_of r s ≡ pos 0 → pos 0 <ℤ dot_of_ways r s → PointSameWay r s
unfolding bend_of dot_of_ways
level_same r s z h = record {
  m = (r.x *ℤ s.x) +ℤ (r.y *ℤ s.y);
  n = (r.x *ℤ r.x) +ℤ (r.y *ℤ r.y);
  some = h;
  other = moving r;
  across =
      same_from ((var 0 ⊗ var 2 ⊕ var 1 ⊗ var 3) ⊗ var 0) ((var 0 ⊗ var 0 ⊕ var 1 ⊗ var 1) ⊗ var 2) (r.x ∷ r.y ∷ s.x ∷ s.y ∷ [])
      (scaled (var 1) (same (var 0 ⊗ var 3 ⊖ var 1 ⊗ var 2) (num (pos 0)) z)) refl;
  above =
      same_from ((var 0 ⊗ var 2 ⊕ var 1 ⊗ var 3) ⊗ var 1) ((var 0 ⊗ var 0 ⊕ var 1 ⊗ var 1) ⊗ var 3) (r.x ∷ r.y ∷ s.x ∷ s.y ∷ [])
      (scaled (minus (var 0)) (same (var 0 ⊗ var 3 ⊖ var 1 ⊗ var 2) (num (pos 0)) z)) refl;
}

same_ahead : (r s : Direction) → PointSameWay r s → pos 0 <ℤ dot_of_ways r s
unfolding dot_of_ways
same_ahead r s h = go r.x r.y s.x s.y h.m h.n h.some h.other h.across h.above (moving r)
  where
    go : (rx ry sx sy m n : ℤ) → pos 0 <ℤ m → pos 0 <ℤ n → m *ℤ rx ≡ n *ℤ sx → m *ℤ ry ≡ n *ℤ sy → pos 0 <ℤ ((rx *ℤ rx) +ℤ (ry *ℤ ry))
        → pos 0 <ℤ ((rx *ℤ sx) +ℤ (ry *ℤ sy))
    go rx ry sx sy m n hm hn across above h =
        less_by (num (pos 0)) (var 0 ⊗ var 2 ⊕ var 1 ⊗ var 3) (rx ∷ ry ∷ sx ∷ sy ∷ m ∷ n ∷ [])
        (λ denied. denied ⊠ positive (var 5) hn ⊞ positive (var 4) hm ⊠ positive (var 0 ⊗ var 0 ⊕ var 1 ⊗ var 1) h
        ⊞ scaled (var 0) (same (var 5 ⊗ var 2) (var 4 ⊗ var 0) (sym across))
        ⊞ scaled (var 1) (same (var 5 ⊗ var 3) (var 4 ⊗ var 1) (sym above))) refl

-- directions on one line point the same way or they don't
pub same_or_opposite : (r s : Direction) → bend_of r s ≡ pos 0 → PointSameWay r s ⊎ (¬ PointSameWay r s)
same_or_opposite r s z = by_sign (dot_of_ways r s) (λ h. inr (λ q. not_ahead (<ℤ_weaken h) q))
    (λ e. inr (λ q. <ℤ_apart (same_ahead r s q) (sym e))) (λ h. inl (level_same r s z h))
  where
    not_ahead : dot_of_ways r s ≤ℤ pos 0 → ¬ PointSameWay r s
    not_ahead h q = let k = same_ahead r s q in omega (arith, linear, h, k)

-- ---- the direction opposite to r
-- no direction between back r and one off r's way points r's way
back_stays : (r d : Direction) → ¬ PointSameWay r d → (t : Direction) → IsSum d (back r) t.x t.y → ¬ PointSameWay r t
unfolding back
back_stays r d n t q h =
    n (same_way_from r d (h.m +ℤ (h.n *ℤ q.j)) (h.n *ℤ q.i) (<ℤ_weaken more) (nonneg-*-nonneg (<ℤ_weaken h.other) q.first)
    (pos-+-nonneg more (nonneg-*-nonneg (<ℤ_weaken h.other) q.first)) (along h.m h.n q.i q.j r.x d.x t.x q.across h.across)
    (along h.m h.n q.i q.j r.y d.y t.y q.above h.above))
  where
    more : pos 0 <ℤ (h.m +ℤ (h.n *ℤ q.j))
    more = pos-+-nonneg h.some (nonneg-*-nonneg (<ℤ_weaken h.other) q.second)

    along : (m n i j x y z : ℤ) → z ≡ (i *ℤ y) +ℤ (j *ℤ neg_ℤ x) → m *ℤ x ≡ n *ℤ z → (m +ℤ (n *ℤ j)) *ℤ x ≡ (n *ℤ i) *ℤ y
    along m n i j x y z e f =
        same_from ((var 0 ⊕ var 1 ⊗ var 3) ⊗ var 4) ((var 1 ⊗ var 2) ⊗ var 5) (m ∷ n ∷ i ∷ j ∷ x ∷ y ∷ z ∷ [])
        (same (var 0 ⊗ var 4) (var 1 ⊗ var 6) f ⊞ scaled (var 1) (same (var 6) (var 2 ⊗ var 5 ⊕ var 3 ⊗ minus (var 4)) e)) refl

back_pointed : (r d : Direction) → ¬ PointSameWay r d → ArePointed d (back r)
unfolding back
back_pointed r d n q = n
    (same_way_from r d q.j q.i q.second q.first (swapped q.i q.j q.some) (along q.i q.j r.x d.x q.across) (along q.i q.j r.y d.y q.above))
  where
    swapped : (i j : ℤ) → pos 0 <ℤ (i +ℤ j) → pos 0 <ℤ (j +ℤ i)
    swapped i j h = omega (arith, linear, h)

    along : (i j x y : ℤ) → pos 0 ≡ (i *ℤ y) +ℤ (j *ℤ neg_ℤ x) → j *ℤ x ≡ i *ℤ y
    along i j x y e = same_from (var 1 ⊗ var 2) (var 0 ⊗ var 3) (i ∷ j ∷ x ∷ y ∷ [])
        (same (num (pos 0)) (var 0 ⊗ var 3 ⊕ var 1 ⊗ minus (var 2)) e) refl

-- ---- the direction opposite to the sum of r and s
middle_moves : (r s : Direction) → bend_of r s <ℤ pos 0 → ¬ ((neg_ℤ (r.x +ℤ s.x) ≡ pos 0) × (neg_ℤ (r.y +ℤ s.y) ≡ pos 0))
unfolding bend_of
middle_moves r s h z = go r.x r.y s.x s.y z.0 z.1 h
  where
    go : (rx ry sx sy : ℤ) → neg_ℤ (rx +ℤ sx) ≡ pos 0 → neg_ℤ (ry +ℤ sy) ≡ pos 0 → ((rx *ℤ sy) -ℤ (ry *ℤ sx)) <ℤ pos 0 → ⊥
    go rx ry sx sy e f h =
        impossible_by (rx ∷ ry ∷ sx ∷ sy ∷ [])
        (less (var 0 ⊗ var 3 ⊖ var 1 ⊗ var 2) (num (pos 0)) h
        ⊞ scaled (var 1) (same (minus (var 0 ⊕ var 2)) (num (pos 0)) e)
        ⊞ scaled (minus (var 0)) (same (minus (var 1 ⊕ var 3)) (num (pos 0)) f)) refl

middle : (r s : Direction) → bend_of r s <ℤ pos 0 → Direction
middle r s h = record { x = neg_ℤ (r.x +ℤ s.x); y = neg_ℤ (r.y +ℤ s.y); moves = middle_moves r s h }

middle_left : (r s : Direction) (h : bend_of r s <ℤ pos 0) → pos 0 <ℤ bend_of r (middle r s h)
unfolding bend_of middle
middle_left r s h = go r.x r.y s.x s.y h
  where
    go : (rx ry sx sy : ℤ) → ((rx *ℤ sy) -ℤ (ry *ℤ sx)) <ℤ pos 0 → pos 0 <ℤ ((rx *ℤ neg_ℤ (ry +ℤ sy)) -ℤ (ry *ℤ neg_ℤ (rx +ℤ sx)))
    go rx ry sx sy h =
        less_by (num (pos 0)) (var 0 ⊗ minus (var 1 ⊕ var 3) ⊖ var 1 ⊗ minus (var 0 ⊕ var 2)) (rx ∷ ry ∷ sx ∷ sy ∷ [])
        (λ denied. denied ⊞ less (var 0 ⊗ var 3 ⊖ var 1 ⊗ var 2) (num (pos 0)) h) refl

middle_right : (r s : Direction) (h : bend_of r s <ℤ pos 0) → pos 0 <ℤ bend_of (middle r s h) s
unfolding bend_of middle
middle_right r s h = go r.x r.y s.x s.y h
  where
    go : (rx ry sx sy : ℤ) → ((rx *ℤ sy) -ℤ (ry *ℤ sx)) <ℤ pos 0 → pos 0 <ℤ ((neg_ℤ (rx +ℤ sx) *ℤ sy) -ℤ (neg_ℤ (ry +ℤ sy) *ℤ sx))
    go rx ry sx sy h =
        less_by (num (pos 0)) (minus (var 0 ⊕ var 2) ⊗ var 3 ⊖ minus (var 1 ⊕ var 3) ⊗ var 2) (rx ∷ ry ∷ sx ∷ sy ∷ [])
        (λ denied. denied ⊞ less (var 0 ⊗ var 3 ⊖ var 1 ⊗ var 2) (num (pos 0)) h) refl

-- ---- what lies strictly within, by the kind of the sector
-- s is to the left of r
pub within_left : {r s t : Direction} → pos 0 <ℤ bend_of r s → pos 0 <ℤ bend_of r t → pos 0 <ℤ bend_of t s → IsStrictlyWithin r s t
within_left h k l = record {
  left = λ _. (k, l);
  right = λ n. absurd (clash_lt n h);
  opposite = λ z _. absurd (<ℤ_apart h (sym z));
  same = λ q _. <ℤ_apart h (sym (no_bend q));
}

-- s is to the right of r
pub within_right : {r s t : Direction} → bend_of r s <ℤ pos 0 → (pos 0 <ℤ bend_of r t) ⊎ (pos 0 <ℤ bend_of t s) → IsStrictlyWithin r s t
within_right h k = record {
  left = λ p. absurd (clash_lt h p);
  right = λ _. k;
  opposite = λ z _. absurd (<ℤ_apart h z);
  same = λ q _. <ℤ_apart h (no_bend q);
}

-- s is opposite to r
pub within_opposite : {r s t : Direction} → bend_of r s ≡ pos 0 → ¬ PointSameWay r s → pos 0 <ℤ bend_of r t → IsStrictlyWithin r s t
within_opposite z n k = record {
  left = λ p. absurd (<ℤ_apart p (sym z));
  right = λ p. absurd (<ℤ_apart p z);
  opposite = λ _ _. k;
  same = λ q _. n q;
}

-- s points r's way
pub within_whole : {r s t : Direction} → PointSameWay r s → ¬ PointSameWay r t → IsStrictlyWithin r s t
within_whole same n = record {
  left = λ p. absurd (<ℤ_apart p (sym (no_bend same)));
  right = λ p. absurd (<ℤ_apart p (no_bend same));
  opposite = λ _ m. absurd (m same);
  same = λ _. n;
}

-- ---- from one direction of a sector to any other
-- a relation that holds of two directions wherever all directions between them lie in the sector, and that goes by way of a third
module _ (r s : Direction) (Alike : Direction → Direction → Type 0)
    (step : (d e : Direction) → ArePointed d e → ((t : Direction) → IsSum d e t.x t.y → IsStrictlyWithin r s t) → Alike d e)
    (by_way_of : (m d e : Direction) → Alike d m → Alike e m → Alike d e) where
  narrow_sector : pos 0 <ℤ bend_of r s → (d e : Direction) → IsStrictlyWithin r s d → IsStrictlyWithin r s e → Alike d e
  narrow_sector p d e in_d in_e =
      let a = in_d.left p in
      let b = in_e.left p in
      step d e (left_pointed r d e a.0 b.0) (λ t q. within_left p (left_stays r d e a.0 b.0 t q) (right_stays s d e a.1 b.1 t q))

  left_half : bend_of r s <ℤ pos 0 → (d e : Direction) → pos 0 <ℤ bend_of r d → pos 0 <ℤ bend_of r e → Alike d e
  left_half n d e a b = step d e (left_pointed r d e a b) (λ t q. within_right n (inl (left_stays r d e a b t q)))

  right_half : bend_of r s <ℤ pos 0 → (d e : Direction) → pos 0 <ℤ bend_of d s → pos 0 <ℤ bend_of e s → Alike d e
  right_half n d e a b = step d e (right_pointed s d e a b) (λ t q. within_right n (inr (right_stays s d e a b t q)))

  to_middle : (n : bend_of r s <ℤ pos 0) (d : Direction) → IsStrictlyWithin r s d → Alike d (middle r s n)
  to_middle n d in_d = go (in_d.right n)
    where
      go : (pos 0 <ℤ bend_of r d) ⊎ (pos 0 <ℤ bend_of d s) → Alike d (middle r s n)
      go (inl a) = left_half n d (middle r s n) a (middle_left r s n)
      go (inr a) = right_half n d (middle r s n) a (middle_right r s n)

  half_turn : bend_of r s ≡ pos 0 → ¬ PointSameWay r s → (d e : Direction) → IsStrictlyWithin r s d → IsStrictlyWithin r s e → Alike d e
  half_turn z n d e in_d in_e =
      let a = in_d.opposite z n in
      let b = in_e.opposite z n in
      step d e (left_pointed r d e a b) (λ t q. within_opposite z n (left_stays r d e a b t q))

  to_back : PointSameWay r s → (d : Direction) → IsStrictlyWithin r s d → Alike d (back r)
  to_back same d in_d =
      step d (back r) (back_pointed r d (in_d.same same)) (λ t q. within_whole same (back_stays r d (in_d.same same) t q))

  -- holds of any two directions of the sector
  pub alike_within : (d e : Direction) → IsStrictlyWithin r s d → IsStrictlyWithin r s e → Alike d e
  alike_within d e in_d in_e =
      by_sign (bend_of r s) (λ n. by_way_of (middle r s n) d e (to_middle n d in_d) (to_middle n e in_e))
      (λ z. level z (same_or_opposite r s z)) (λ p. narrow_sector p d e in_d in_e)
    where
      level : bend_of r s ≡ pos 0 → PointSameWay r s ⊎ (¬ PointSameWay r s) → Alike d e
      level z (inl same) = by_way_of (back r) d e (to_back same d in_d) (to_back same e in_e)
      level z (inr n) = half_turn z n d e in_d in_e

-- ---- the germ in a sector
-- along two directions that each have the same germ as a third
by_way_of : (area : Area) → IsAreaShaped area → (v : Point) (m d e : Direction) → HaveOneGerm area v d m → HaveOneGerm area v e m
    → HaveOneGerm area v d e
by_way_of area shaped v m d e from_d from_e g h is_g is_h =
    let k = germ_exists area shaped v m in
    from_d g k.germ is_g k.is ∙ sym (from_e h k.germ is_h k.is)

-- so the germ is one in the whole sector
pub same_in_sector : (area : Area) → IsAreaShaped area → (v : Point) (r s : Direction) → HasNoEdgeWithin area v r s → (d e : Direction)
    → IsStrictlyWithin r s d → IsStrictlyWithin r s e → (g h : Loc) → IsGerm area v d g → IsGerm area v e h → g ≡ h
same_in_sector area shaped v r s free =
    alike_within r s (HaveOneGerm area v) (step area shaped v r s free) (by_way_of area shaped v)

-- ---- the germ at a point from which no edge runs
bare_clear : (v : Point) (d e : Direction) (edges : List Seg) → is_on_edges v edges ≡ false → AreClear v d e edges
bare_clear v d e [] off = tt
bare_clear v d e (f ∷ edges) off =
    let parts = or_parts (is_on_edge v f) (is_on_edges v edges) off in
    (λ on. absurd (true≢false (sym on ∙ parts.0)), bare_clear v d e edges parts.1)

bent_pointed : (d e : Direction) → ¬ (bend_of d e ≡ pos 0) → ArePointed d e
unfolding bend_of
bent_pointed d e n q = <ℤ_apart q.some
    (sym (both (none_first d.x d.y e.x e.y q.i q.j n q.across q.above) (none_second d.x d.y e.x e.y q.i q.j n q.across q.above)))
  where
    both : q.i ≡ pos 0 → q.j ≡ pos 0 → q.i +ℤ q.j ≡ pos 0
    both h k = omega (arith, linear, h, k)

    none_first : (dx dy ex ey i j : ℤ) → ¬ ((dx *ℤ ey) -ℤ (dy *ℤ ex) ≡ pos 0) → pos 0 ≡ (i *ℤ dx) +ℤ (j *ℤ ex)
        → pos 0 ≡ (i *ℤ dy) +ℤ (j *ℤ ey) → i ≡ pos 0
    none_first dx dy ex ey i j m a b =
        zero_factor ((dx *ℤ ey) -ℤ (dy *ℤ ex)) i m
        (same_from ((var 0 ⊗ var 3 ⊖ var 1 ⊗ var 2) ⊗ var 4) (num (pos 0)) (dx ∷ dy ∷ ex ∷ ey ∷ i ∷ j ∷ [])
        (scaled (minus (var 3)) (same (num (pos 0)) (var 4 ⊗ var 0 ⊕ var 5 ⊗ var 2) a)
        ⊞ scaled (var 2) (same (num (pos 0)) (var 4 ⊗ var 1 ⊕ var 5 ⊗ var 3) b)) refl)

    none_second : (dx dy ex ey i j : ℤ) → ¬ ((dx *ℤ ey) -ℤ (dy *ℤ ex) ≡ pos 0) → pos 0 ≡ (i *ℤ dx) +ℤ (j *ℤ ex)
        → pos 0 ≡ (i *ℤ dy) +ℤ (j *ℤ ey) → j ≡ pos 0
    none_second dx dy ex ey i j m a b =
        zero_factor ((dx *ℤ ey) -ℤ (dy *ℤ ex)) j m
        (same_from ((var 0 ⊗ var 3 ⊖ var 1 ⊗ var 2) ⊗ var 5) (num (pos 0)) (dx ∷ dy ∷ ex ∷ ey ∷ i ∷ j ∷ [])
        (scaled (var 1) (same (num (pos 0)) (var 4 ⊗ var 0 ⊕ var 5 ⊗ var 2) a)
        ⊞ scaled (minus (var 0)) (same (num (pos 0)) (var 4 ⊗ var 1 ⊕ var 5 ⊗ var 3) b)) refl)

-- d turned left by a quarter
quarter : Direction → Direction
quarter d = record { x = neg_ℤ d.y; y = d.x; moves = λ z. d.moves (z.1, turned d.y z.0) }

quarter_bends : (d : Direction) → ¬ (bend_of d (quarter d) ≡ pos 0)
unfolding bend_of quarter
quarter_bends d z = go d.x d.y (moving d) z
  where
    go : (x y : ℤ) → pos 0 <ℤ ((x *ℤ x) +ℤ (y *ℤ y)) → (x *ℤ x) -ℤ (y *ℤ neg_ℤ y) ≡ pos 0 → ⊥
    go x y h e =
        impossible_by (x ∷ y ∷ [])
        (positive (var 0 ⊗ var 0 ⊕ var 1 ⊗ var 1) h ⊞ scaled (minus (num (pos 1)))
        (same (var 0 ⊗ var 0 ⊖ var 1 ⊗ minus (var 1)) (num (pos 0)) e)) refl

-- what is on one line with d is off the line of the quarter
quarter_apart : (d e : Direction) → bend_of d e ≡ pos 0 → ¬ (bend_of e (quarter d) ≡ pos 0)
unfolding bend_of quarter
quarter_apart d e z k = go d.x d.y e.x e.y (moving d) (moving e) z k
  where
    go : (x y u w : ℤ) → pos 0 <ℤ ((x *ℤ x) +ℤ (y *ℤ y)) → pos 0 <ℤ ((u *ℤ u) +ℤ (w *ℤ w)) → (x *ℤ w) -ℤ (y *ℤ u) ≡ pos 0
        → (u *ℤ x) -ℤ (w *ℤ neg_ℤ y) ≡ pos 0 → ⊥
    go x y u w h k e f =
        impossible_by (x ∷ y ∷ u ∷ w ∷ [])
        (positive (var 0 ⊗ var 0 ⊕ var 1 ⊗ var 1) h ⊠ positive (var 2 ⊗ var 2 ⊕ var 3 ⊗ var 3) k
        ⊞ scaled (minus (var 0 ⊗ var 3 ⊖ var 1 ⊗ var 2)) (same (var 0 ⊗ var 3 ⊖ var 1 ⊗ var 2) (num (pos 0)) e)
        ⊞ scaled (minus (var 2 ⊗ var 0 ⊖ var 3 ⊗ minus (var 1))) (same (var 2 ⊗ var 0 ⊖ var 3 ⊗ minus (var 1)) (num (pos 0)) f)) refl

-- a relation that holds of any two directions that aren't opposite, and that goes by way of a third, holds of any two
pub alike_all : (Alike : Direction → Direction → Type 0) → ((d e : Direction) → ArePointed d e → Alike d e)
    → ((m d e : Direction) → Alike d m → Alike e m → Alike d e) → (d e : Direction) → Alike d e
alike_all Alike step by_way_of d e = by_sign (bend_of d e) (λ n. bent d e (<ℤ_apart n)) level (λ p. bent d e (pos_nonzero p))
  where
    bent : (d e : Direction) → ¬ (bend_of d e ≡ pos 0) → Alike d e
    bent d e n = step d e (bent_pointed d e n)

    level : bend_of d e ≡ pos 0 → Alike d e
    level z = by_way_of (quarter d) d e (bent d (quarter d) (quarter_bends d)) (bent e (quarter d) (quarter_apart d e z))

-- so the germ is one along all directions where no edge runs from v
pub same_where_clear : (area : Area) → IsAreaShaped area → (v : Point)
    → ((d e : Direction) → ArePointed d e → AreClear v d e (edges_of_rings (rings_of area))) → (d e : Direction) (g h : Loc)
    → IsGerm area v d g → IsGerm area v e h → g ≡ h
same_where_clear area shaped v clear =
    alike_all (HaveOneGerm area v) (λ d e pointed. germ_same area shaped v d e (cone_pointed v pointed) (clear d e pointed))
    (by_way_of area shaped v)

pub same_off_edges : (area : Area) → IsAreaShaped area → (v : Point) → is_on_edges v (edges_of_rings (rings_of area)) ≡ false
    → (d e : Direction) (g h : Loc) → IsGerm area v d g → IsGerm area v e h → g ≡ h
same_off_edges area shaped v off = same_where_clear area shaped v (λ d e _. bare_clear v d e (edges_of_rings (rings_of area)) off)
