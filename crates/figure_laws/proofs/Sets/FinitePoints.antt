-- Finitely many positions hold no segment and no triangle, and leave some triangle free.
use Rattle.std.proofs.Common.{◌≡◌, ℕ, ◌+◌, ◌<◌, ℤ, pos, ◌+ℤ◌, ◌-ℤ◌, ◌*ℤ◌, ◌<ℤ◌, ◌≤ℤ◌, Bool, true, false, List, [], ◌∷◌, refl, sym, ◌∙◌}
use Rattle.std.proofs.Common.{arith}
use Rattle.std.proofs.lemmas.Bool.{or_from, true≢false, false_from_ne_true}
use Rattle.std.proofs.lemmas.Int.{by_lt_z}
use Rattle.whole_algebra.proofs.Laws.{linear, *ℤ_one, one-*ℤ, +ℤ-*ℤ}
use Rattle.whole_algebra.proofs.Polynomials.{var, num, ◌⊕◌, ◌⊖◌, ◌⊗◌, identity}
use Rattle.whole_algebra.proofs.Certificates.{same, same_from, at_most_by, natural, positive, ◌⊞◌, ◌⊠◌, scaled}
use Rattle.whole_algebra.proofs.Signs.{cancel_≡, scale_≤ℤ_right, ≤ℤ_trans, <ℤ_weaken, nonneg-*-nonneg, nonneg-+-pos}
use Rattle.plane_laws.proofs.Points.Same.{Decides-is_same_point, same_trans, same_sym}
use Rattle.plane_laws.specs.Plane.{Point, IsSamePoint, IsOnSegment, turn}
use Rattle.plane_laws.proofs.Segments.Mixes.{mix_of_sums}
use Rattle.plane_exact.specs.Places.{point_of}
use Rattle.plane_exact.specs.declared.point.Pt.{Pt}
use Rattle.figure_laws.proofs.Sets.Dimensions.{segment_of_triangle}
use Rattle.point_set.specs.Lines.{is_at, is_at_some}
use Rattle.point_set.specs.Dimension.{HoldsTriangle, HoldsSegment}

-- ---- endlessly many points: one is at none of the positions
-- no two points of a sequence are the same
pub record AreDifferent (f : ℕ → Point) : Type 0 where
  pub apart : (n m : ℕ) → n < m → ¬ IsSamePoint (f n) (f m)

-- a point of the sequence is at none of the positions
pub record Misses (f : ℕ → Point) (positions : List Pt) : Type 0 where
  pub n : ℕ
  pub off : is_at_some (f n) positions ≡ false

at_one : (q : Pt) {p r : Point} → is_at p q ≡ true → is_at r q ≡ true → IsSamePoint p r
at_one q {p} {r} h k = same_trans ((Decides-is_same_point p (point_of q)).0 h) (same_sym ((Decides-is_same_point r (point_of q)).0 k))

-- the sequence behind its item n
later : ℕ → (ℕ → Point) → ℕ → Point
later n f m = f ((n + 1) + m)

later_differ : (n : ℕ) {f : ℕ → Point} → AreDifferent f → AreDifferent (later n f)
unfolding later
later_differ n d = record { apart = λ i j h. d.apart ((n + 1) + i) ((n + 1) + j) (omega arith) }

misses_more : (q : Pt) (others : List Pt) → ((f : ℕ → Point) → AreDifferent f → Misses f others) → (f : ℕ → Point) → AreDifferent f
    → Misses f (q ∷ others)
unfolding later
misses_more q others missed f d = go (missed f d)
  where
    off_tail : (g : ℕ → Point) (n : ℕ) → is_at (g n) q ≡ false → is_at_some (g n) others ≡ false → is_at_some (g n) (q ∷ others) ≡ false
    off_tail g n h k = or_from (is_at (g n) q) (is_at_some (g n) others) h k

    step_on : (n : ℕ) → is_at (f n) q ≡ true → Misses (later n f) others → Misses f (q ∷ others)
    step_on n hit next = record {
      n = (n + 1) + next.n;
      off = off_tail f ((n + 1) + next.n)
          (false_from_ne_true (is_at (f ((n + 1) + next.n)) q) (λ h. d.apart n ((n + 1) + next.n) (omega arith) (at_one q hit h))) next.off;
    }

    by_test : (n : ℕ) (b : Bool) → is_at (f n) q ≡ b → is_at_some (f n) others ≡ false → Misses f (q ∷ others)
    by_test n true hit off = step_on n hit (missed (later n f) (later_differ n d))
    by_test n false away off = record { n = n; off = off_tail f n away off }

    go : Misses f others → Misses f (q ∷ others)
    go m = by_test m.n (is_at (f m.n) q) refl m.off

pub some_missed : (positions : List Pt) (f : ℕ → Point) → AreDifferent f → Misses f positions
some_missed [] f d = record { n = 0; off = refl }
some_missed (q ∷ others) f d = misses_more q others (some_missed others) f d

-- ---- the points of a segment that are n copies of the one end and one of the other
pub heavy_sum : (n : ℕ) {u v : ℤ} → pos 0 <ℤ u → pos 0 <ℤ v → pos 0 <ℤ (pos n *ℤ u +ℤ v)
heavy_sum n {u} {v} h k = nonneg-+-pos (nonneg-*-nonneg {a = pos n} (omega (arith, linear)) (<ℤ_weaken h)) k

abbrev pub step_of : Point → Point → ℕ → Point
step_of a b n = record {
  x = pos n *ℤ a.x +ℤ b.x;
  y = pos n *ℤ a.y +ℤ b.y;
  w = pos n *ℤ a.w +ℤ b.w;
  heavy = heavy_sum n a.heavy b.heavy;
}

once : (n u v : ℤ) → pos 1 *ℤ (n *ℤ u +ℤ v) ≡ n *ℤ u +ℤ pos 1 *ℤ v
once n u v = identity (num (pos 1) ⊗ (var 0 ⊗ var 1 ⊕ var 2)) (var 0 ⊗ var 1 ⊕ num (pos 1) ⊗ var 2) (n ∷ u ∷ v ∷ []) refl

pub step_on_segment : (a b : Point) (n : ℕ) → IsOnSegment a b (step_of a b n)
step_on_segment a b n = record {
  s = pos n;
  t = pos 1;
  mix = mix_of_sums (omega (arith, linear)) (omega (arith, linear)) (once (pos n) a.x b.x) (once (pos n) a.y b.y) (once (pos n) a.w b.w);
}

steps_apart : (n m u v w z : ℤ) → n <ℤ m → (n *ℤ u +ℤ v) *ℤ (m *ℤ w +ℤ z) ≡ (m *ℤ u +ℤ v) *ℤ (n *ℤ w +ℤ z) → u *ℤ z ≡ v *ℤ w
steps_apart n m u v w z h e =
    let vs = n ∷ m ∷ u ∷ v ∷ w ∷ z ∷ [] in
    cancel_≡ (n -ℤ m) (u *ℤ z) (v *ℤ w) (λ k. differ k)
    (same_from ((var 0 ⊖ var 1) ⊗ (var 2 ⊗ var 5)) ((var 0 ⊖ var 1) ⊗ (var 3 ⊗ var 4)) vs
    (same ((var 0 ⊗ var 2 ⊕ var 3) ⊗ (var 1 ⊗ var 4 ⊕ var 5)) ((var 1 ⊗ var 2 ⊕ var 3) ⊗ (var 0 ⊗ var 4 ⊕ var 5)) e) refl)
  where
    differ : n -ℤ m ≡ pos 0 → ⊥
    differ k = omega (arith, linear, k, h)

steps_differ : (a b : Point) → ¬ IsSamePoint a b → AreDifferent (step_of a b)
steps_differ a b apart = record {
  apart = λ n m h e. apart (record {
    across = steps_apart (pos n) (pos m) a.x b.x a.w b.w (omega (arith, linear)) e.across;
    above = steps_apart (pos n) (pos m) a.y b.y a.w b.w (omega (arith, linear)) e.above;
  });
}

-- on every segment with two different ends a point is at none of the positions
pub record PointOff (a b : Point) (positions : List Pt) : Type 0 where
  pub p : Point
  pub on : IsOnSegment a b p
  pub off : is_at_some p positions ≡ false

pub segment_leaves : (positions : List Pt) (a b : Point) → ¬ IsSamePoint a b → PointOff a b positions
segment_leaves positions a b apart =
    let m = some_missed positions (step_of a b) (steps_differ a b apart) in
    record { p = step_of a b m.n; on = step_on_segment a b m.n; off = m.off }

pub finite-no-segment : (positions : List Pt) → ¬ HoldsSegment (λ p. is_at_some p positions ≡ true)
finite-no-segment positions h =
    let left = segment_leaves positions h.a h.b h.apart in
    true≢false (sym (h.held left.p left.on) ∙ left.off)

pub finite-no-triangle : (positions : List Pt) → ¬ HoldsTriangle (λ p. is_at_some p positions ≡ true)
finite-no-triangle positions h = finite-no-segment positions (segment_of_triangle h)

-- ---- a triangle on the right of all positions
-- all points at the abscissa m or farther right are at none of the positions
pub record Beyond (positions : List Pt) : Type 0 where
  pub m : ℤ
  pub off : (p : Point) → (m *ℤ p.w) ≤ℤ p.x → is_at_some p positions ≡ false

farther : (x w u m : ℤ) → pos 0 <ℤ w → (m *ℤ w) ≤ℤ x → (u +ℤ pos 1) ≤ℤ m → ¬ (x *ℤ pos 1 ≡ u *ℤ w)
farther x w u m heavy h k e =
    let below : ((u +ℤ pos 1) *ℤ w) ≤ℤ x = ≤ℤ_trans (scale_≤ℤ_right (<ℤ_weaken heavy) k) h in
    omega (arith, linear, below, +ℤ-*ℤ u (pos 1) w, one-*ℤ w, *ℤ_one x, e, heavy)

off_more : (q : Pt) (others : List Pt) (m : ℤ) → (q.x +ℤ pos 1) ≤ℤ m → ((p : Point) → (m *ℤ p.w) ≤ℤ p.x → is_at_some p others ≡ false)
    → (p : Point) → (m *ℤ p.w) ≤ℤ p.x → is_at_some p (q ∷ others) ≡ false
off_more q others m k off p h =
    or_from (is_at p q) (is_at_some p others)
    (false_from_ne_true (is_at p q) (λ e. farther p.x p.w q.x m p.heavy h k ((Decides-is_same_point p (point_of q)).0 e).across))
    (off p h)

beyond_more : (q : Pt) (others : List Pt) → Beyond others → Beyond (q ∷ others)
beyond_more q others b = by_lt_z b.m (q.x +ℤ pos 1) moved kept
  where
    moved : b.m <ℤ (q.x +ℤ pos 1) → Beyond (q ∷ others)
    moved h = record {
      m = q.x +ℤ pos 1;
      off = off_more q others (q.x +ℤ pos 1) (omega (arith, linear))
          (λ p k. b.off p (≤ℤ_trans (scale_≤ℤ_right (<ℤ_weaken p.heavy) (<ℤ_weaken h)) k));
    }

    kept : (q.x +ℤ pos 1) ≤ℤ b.m → Beyond (q ∷ others)
    kept h = record { m = b.m; off = off_more q others b.m h b.off }

pub beyond_all : (positions : List Pt) → Beyond positions
beyond_all [] = record { m = pos 0; off = λ p h. refl }
beyond_all (q ∷ others) = beyond_more q others (beyond_all others)

right_of_corner : (m s t u k x w : ℤ) → pos 0 ≤ℤ t → pos 0 <ℤ k → k *ℤ x ≡ (s *ℤ m +ℤ t *ℤ (m +ℤ pos 1)) +ℤ u *ℤ m
    → k *ℤ w ≡ (s *ℤ pos 1 +ℤ t *ℤ pos 1) +ℤ u *ℤ pos 1 → (m *ℤ w) ≤ℤ x
right_of_corner m s t u k x w h some e f =
    let vs = m ∷ s ∷ t ∷ u ∷ k ∷ x ∷ w ∷ [] in
    let one = num (pos 1) in
    let pm = var 0 in
    at_most_by (var 0 ⊗ var 6) (var 5) vs
    (λ denied. denied ⊠ positive (var 4) some ⊞ natural (var 2) h
    ⊞ same (var 4 ⊗ var 5) (var 1 ⊗ pm ⊕ var 2 ⊗ (pm ⊕ one) ⊕ var 3 ⊗ pm) e
    ⊞ scaled (num (pos 0) ⊖ pm) (same (var 4 ⊗ var 6) (var 1 ⊗ one ⊕ var 2 ⊗ one ⊕ var 3 ⊗ one) f)) refl

corner : ℤ → ℤ → Point
corner m n = record { x = m; y = n; w = pos 1; heavy = omega (arith, linear) }

corners_broad : (m : ℤ) → turn (corner m (pos 0)) (corner (m +ℤ pos 1) (pos 0)) (corner m (pos 1)) ≡ pos 1
unfolding turn corner
corners_broad m =
    let one = num (pos 1) in
    let none = num (pos 0) in
    let x = var 0 in
    identity (x ⊗ (none ⊗ one ⊖ one ⊗ one) ⊖ none ⊗ ((x ⊕ one) ⊗ one ⊖ one ⊗ x) ⊕ one ⊗ ((x ⊕ one) ⊗ one ⊖ none ⊗ x)) one (m ∷ []) refl

pub finite-avoided : (positions : List Pt) → HoldsTriangle (λ p. is_at_some p positions ≡ false)
unfolding corner
finite-avoided positions =
    let right = beyond_all positions in
    record {
      a = corner right.m (pos 0);
      b = corner (right.m +ℤ pos 1) (pos 0);
      c = corner right.m (pos 1);
      broad = λ e. broad right.m e;
      held = λ p h. right.off p
          (right_of_corner right.m h.s h.t h.u h.mix.times p.x p.w h.mix.second h.mix.some h.mix.across h.mix.mass);
    }
  where
    broad : (m : ℤ) → ¬ (turn (corner m (pos 0)) (corner (m +ℤ pos 1) (pos 0)) (corner m (pos 1)) ≡ pos 0)
    broad m e = one_nonzero (sym (corners_broad m) ∙ e)
      where
        one_nonzero : ¬ (pos 1 ≡ pos 0)
        one_nonzero k = omega (arith, linear, k)
