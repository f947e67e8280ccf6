-- The common point of two segments that cross, by the turns of each one's ends about the other.
use Rattle.std.proofs.Common.{ℕ, ◌≡◌, ℤ, pos, ◌+ℤ◌, ◌-ℤ◌, ◌*ℤ◌, neg_ℤ, ◌<ℤ◌, ◌≤ℤ◌, List, [], ◌∷◌, refl, sym, ◌∙◌, ap, arith}
use lib.IntN.{*ℤ-zero, *ℤ_comm}
use Rattle.whole_algebra.proofs.Laws.{linear}
use Rattle.whole_algebra.proofs.Polynomials.{Poly, var, num, ◌⊕◌, ◌⊖◌, ◌⊗◌, minus, identity}
use Rattle.whole_algebra.proofs.Certificates.{same, same_from, scaled, vanishing, positive, natural, less, impossible_by, ◌⊞◌, ◌⊠◌}
use Rattle.whole_algebra.proofs.Signs.{by_sign, zero_factor, pos_nonzero, <ℤ_weaken, nonneg-*-nonneg, pos-*-pos}
use Rattle.plane_laws.specs.Plane.{IsAt, Point, IsOnSegment, IsSamePoint, turn}
use Rattle.plane_laws.proofs.Segments.On.{mix_turn}
use Rattle.plane_laws.proofs.Turns.Turns.{turn_swap, point_at, turn_poly, ◌then◌}
use Rattle.plane_laws.proofs.Segments.Onto.{turn-mix}

-- ---- on one side of a line there is nothing of it
-- a positive turn at both ends is positive all along the segment
positive_mix : (k s t x y z v w m : ℤ) → pos 0 <ℤ k → pos 0 ≤ℤ s → pos 0 ≤ℤ t → k *ℤ z ≡ s *ℤ x +ℤ t *ℤ y → pos 0 <ℤ x → pos 0 <ℤ y
    → k *ℤ m ≡ s *ℤ v +ℤ t *ℤ w → pos 0 <ℤ m → ¬ (z ≡ pos 0)
positive_mix k s t x y z v w m hk hs ht e hx hy mass hm none = by_sign s
    (λ h. impossible_by (s ∷ []) (natural (var 0) hs ⊞ less (var 0) (num (pos 0)) h) refl)
    (λ zs. by_sign t
    (λ h. impossible_by (t ∷ []) (natural (var 0) ht ⊞ less (var 0) (num (pos 0)) h) refl)
    (λ zt. impossible_by (k ∷ s ∷ t ∷ v ∷ w ∷ m ∷ [])
    (positive (var 0) hk ⊠ positive (var 5) hm ⊞ same (var 1 ⊗ var 3 ⊕ var 2 ⊗ var 4) (var 0 ⊗ var 5) (sym mass)
    ⊞ scaled (minus (var 3)) (vanishing (var 1) zs) ⊞ scaled (minus (var 4)) (vanishing (var 2) zt)) refl)
    (λ h. impossible_by (k ∷ s ∷ t ∷ x ∷ y ∷ z ∷ [])
    (positive (var 2) h ⊠ positive (var 4) hy ⊞ natural (var 1) hs ⊠ positive (var 3) hx
    ⊞ same (var 0 ⊗ var 5) (var 1 ⊗ var 3 ⊕ var 2 ⊗ var 4) e ⊞ scaled (minus (var 0)) (vanishing (var 5) none)) refl))
    (λ h. impossible_by (k ∷ s ∷ t ∷ x ∷ y ∷ z ∷ [])
    (positive (var 1) h ⊠ positive (var 3) hx ⊞ natural (var 2) ht ⊠ positive (var 4) hy
    ⊞ same (var 0 ⊗ var 5) (var 1 ⊗ var 3 ⊕ var 2 ⊗ var 4) e ⊞ scaled (minus (var 0)) (vanishing (var 5) none)) refl)

-- a segment whose ends are to the left of the line through a and b doesn't meet that line
pub apart_left : (a b c d p : Point) → pos 0 <ℤ turn a b c → pos 0 <ℤ turn a b d → IsOnSegment c d p → ¬ (turn a b p ≡ pos 0)
apart_left a b c d p hc hd on =
    let m = on.mix in
    positive_mix m.times on.s on.t (turn a b c) (turn a b d) (turn a b p) c.w d.w p.w m.some m.first m.second
    (turn-mix c d p on.s on.t m a b) hc hd m.mass p.heavy

pub apart_right : (a b c d p : Point) → turn a b c <ℤ pos 0 → turn a b d <ℤ pos 0 → IsOnSegment c d p → ¬ (turn a b p ≡ pos 0)
apart_right a b c d p hc hd on e = apart_left b a c d p (omega (arith, linear, turn_swap a b c, hc))
    (omega (arith, linear, turn_swap a b d, hd)) on (omega (arith, linear, turn_swap a b p, e))

-- ---- the four turns of two segments: the same point, as a mix of either one's ends
abbrev vs : Point → Point → Point → Point → List ℤ
vs a b c d = a then b then c then d then []

abbrev turn_at : ℕ → ℕ → ℕ → Poly
turn_at i j k = turn_poly (point_at i) (point_at j) (point_at k)

crossing_x : (a b c d : Point) → turn c d b *ℤ a.x -ℤ turn c d a *ℤ b.x ≡ turn a b c *ℤ d.x -ℤ turn a b d *ℤ c.x
unfolding turn
crossing_x a b c d = identity (turn_at 6 9 3 ⊗ var 0 ⊖ turn_at 6 9 0 ⊗ var 3) (turn_at 0 3 6 ⊗ var 9 ⊖ turn_at 0 3 9 ⊗ var 6)
    (vs a b c d) refl

crossing_y : (a b c d : Point) → turn c d b *ℤ a.y -ℤ turn c d a *ℤ b.y ≡ turn a b c *ℤ d.y -ℤ turn a b d *ℤ c.y
unfolding turn
crossing_y a b c d = identity (turn_at 6 9 3 ⊗ var 1 ⊖ turn_at 6 9 0 ⊗ var 4) (turn_at 0 3 6 ⊗ var 10 ⊖ turn_at 0 3 9 ⊗ var 7)
    (vs a b c d) refl

pub crossing_w : (a b c d : Point) → turn c d b *ℤ a.w -ℤ turn c d a *ℤ b.w ≡ turn a b c *ℤ d.w -ℤ turn a b d *ℤ c.w
unfolding turn
crossing_w a b c d = identity (turn_at 6 9 3 ⊗ var 2 ⊖ turn_at 6 9 0 ⊗ var 5) (turn_at 0 3 6 ⊗ var 11 ⊖ turn_at 0 3 9 ⊗ var 8)
    (vs a b c d) refl

-- the point q at the mean of a and b by the turns of b and a: it is on both segments, and no other point is
module _ (a b c d q : Point)
    (at : IsAt q (turn c d b *ℤ a.x -ℤ turn c d a *ℤ b.x) (turn c d b *ℤ a.y -ℤ turn c d a *ℤ b.y)
    (turn c d b *ℤ a.w -ℤ turn c d a *ℤ b.w)) (some : pos 0 <ℤ (turn c d b *ℤ a.w -ℤ turn c d a *ℤ b.w)) where
  pub on_first : turn c d a ≤ℤ pos 0 → pos 0 ≤ℤ turn c d b → IsOnSegment a b q
  on_first h k = record {
    s = q.w *ℤ turn c d b;
    t = q.w *ℤ neg_ℤ (turn c d a);
    mix = record {
      first = nonneg-*-nonneg (<ℤ_weaken q.heavy) k;
      second = nonneg-*-nonneg (<ℤ_weaken q.heavy) (omega (arith, linear, h));
      times = turn c d b *ℤ a.w -ℤ turn c d a *ℤ b.w;
      some = some;
      across = part a.x b.x q.x (turn c d b *ℤ a.w -ℤ turn c d a *ℤ b.w) at.across;
      above = part a.y b.y q.y (turn c d b *ℤ a.w -ℤ turn c d a *ℤ b.w) at.above;
      mass = part a.w b.w q.w (turn c d b *ℤ a.w -ℤ turn c d a *ℤ b.w) (*ℤ_comm q.w (turn c d b *ℤ a.w -ℤ turn c d a *ℤ b.w));
    };
  }
    where
      part : (x y z w : ℤ) → z *ℤ w ≡ (turn c d b *ℤ x -ℤ turn c d a *ℤ y) *ℤ q.w
          → w *ℤ z ≡ (q.w *ℤ turn c d b) *ℤ x +ℤ (q.w *ℤ neg_ℤ (turn c d a)) *ℤ y
      part x y z w e =
          same_from (var 3 ⊗ var 2) ((var 4 ⊗ var 5) ⊗ var 0 ⊕ (var 4 ⊗ minus (var 6)) ⊗ var 1)
          (x ∷ y ∷ z ∷ w ∷ q.w ∷ turn c d b ∷ turn c d a ∷ [])
          (same (var 2 ⊗ var 3) ((var 5 ⊗ var 0 ⊖ var 6 ⊗ var 1) ⊗ var 4) e) refl

  pub on_second : turn a b d ≤ℤ pos 0 → pos 0 ≤ℤ turn a b c → IsOnSegment c d q
  on_second h k = record {
    s = q.w *ℤ neg_ℤ (turn a b d);
    t = q.w *ℤ turn a b c;
    mix = record {
      first = nonneg-*-nonneg (<ℤ_weaken q.heavy) (omega (arith, linear, h));
      second = nonneg-*-nonneg (<ℤ_weaken q.heavy) k;
      times = turn c d b *ℤ a.w -ℤ turn c d a *ℤ b.w;
      some = some;
      across = part c.x d.x q.x (turn c d b *ℤ a.w -ℤ turn c d a *ℤ b.w) (at.across ∙ ap (λ z. z *ℤ q.w) (crossing_x a b c d));
      above = part c.y d.y q.y (turn c d b *ℤ a.w -ℤ turn c d a *ℤ b.w) (at.above ∙ ap (λ z. z *ℤ q.w) (crossing_y a b c d));
      mass = part c.w d.w q.w (turn c d b *ℤ a.w -ℤ turn c d a *ℤ b.w)
          (*ℤ_comm q.w (turn c d b *ℤ a.w -ℤ turn c d a *ℤ b.w) ∙ ap (λ z. z *ℤ q.w) (crossing_w a b c d));
    };
  }
    where
      part : (x y z w : ℤ) → z *ℤ w ≡ (turn a b c *ℤ y -ℤ turn a b d *ℤ x) *ℤ q.w
          → w *ℤ z ≡ (q.w *ℤ neg_ℤ (turn a b d)) *ℤ x +ℤ (q.w *ℤ turn a b c) *ℤ y
      part x y z w e =
          same_from (var 3 ⊗ var 2) ((var 4 ⊗ minus (var 6)) ⊗ var 0 ⊕ (var 4 ⊗ var 5) ⊗ var 1)
          (x ∷ y ∷ z ∷ w ∷ q.w ∷ turn a b c ∷ turn a b d ∷ [])
          (same (var 2 ⊗ var 3) ((var 5 ⊗ var 1 ⊖ var 6 ⊗ var 0) ⊗ var 4) e) refl

  pub only : (p : Point) → IsOnSegment a b p → IsOnSegment c d p → IsSamePoint p q
  only p f g = record { across = part a.x b.x p.x q.x f.mix.across at.across; above = part a.y b.y p.y q.y f.mix.above at.above }
    where
      balance : f.s *ℤ turn c d a +ℤ f.t *ℤ turn c d b ≡ pos 0
      balance = sym (turn-mix a b p f.s f.t f.mix c d) ∙ ap (λ z. f.mix.times *ℤ z) (mix_turn g.mix) ∙ *ℤ-zero f.mix.times

      w : ℤ
      w = turn c d b *ℤ a.w -ℤ turn c d a *ℤ b.w

      part : (x y u v : ℤ) → f.mix.times *ℤ u ≡ f.s *ℤ x +ℤ f.t *ℤ y → v *ℤ w ≡ (turn c d b *ℤ x -ℤ turn c d a *ℤ y) *ℤ q.w
          → u *ℤ q.w ≡ v *ℤ p.w
      part x y u v h k =
          let p5 = turn c d b in
          let n = f.mix.times in
          let big = n *ℤ w in
          let zero : big *ℤ (u *ℤ q.w -ℤ v *ℤ p.w) ≡ pos 0 =
          same_from ((var 0 ⊗ (var 5 ⊗ var 7 ⊖ var 6 ⊗ var 8)) ⊗ (var 3 ⊗ var 9 ⊖ var 4 ⊗ var 10)) (num (pos 0))
          (n ∷ x ∷ y ∷ u ∷ v ∷ p5 ∷ turn c d a ∷ a.w ∷ b.w ∷ q.w ∷ p.w ∷ f.s ∷ f.t ∷ [])
          (scaled ((var 5 ⊗ var 7 ⊖ var 6 ⊗ var 8) ⊗ var 9) (same (var 0 ⊗ var 3) (var 11 ⊗ var 1 ⊕ var 12 ⊗ var 2) h)
          ⊞ scaled (minus (var 0 ⊗ var 10)) (same (var 4 ⊗ (var 5 ⊗ var 7 ⊖ var 6 ⊗ var 8)) ((var 5 ⊗ var 1 ⊖ var 6 ⊗ var 2) ⊗ var 9) k)
          ⊞ scaled (minus ((var 5 ⊗ var 1 ⊖ var 6 ⊗ var 2) ⊗ var 9)) (same (var 0 ⊗ var 10) (var 11 ⊗ var 7 ⊕ var 12 ⊗ var 8) f.mix.mass)
          ⊞ scaled (var 9 ⊗ (var 7 ⊗ var 2 ⊖ var 1 ⊗ var 8)) (vanishing (var 11 ⊗ var 6 ⊕ var 12 ⊗ var 5) balance)) refl in
          let none = zero_factor big (u *ℤ q.w -ℤ v *ℤ p.w) (pos_nonzero (pos-*-pos f.mix.some some)) zero in
          omega (arith, linear, none)
