-- The turns of a point about the sides of a triangle, as its weights; and points made of two others.
use Rattle.std.proofs.Common.{◌≡◌, ℕ, ℤ, pos, ◌+ℤ◌, ◌-ℤ◌, ◌*ℤ◌, neg_ℤ, ◌<ℤ◌, ◌≤ℤ◌, [], ◌∷◌, refl, sym, ◌∙◌, arith}
use Rattle.whole_algebra.proofs.Laws.{linear, one-*ℤ}
use Rattle.whole_algebra.proofs.Polynomials.{Poly, var, num, minus, ◌⊕◌, ◌⊖◌, ◌⊗◌, identity}
use Rattle.whole_algebra.proofs.Certificates.{same, same_from, vanishing, scaled, ◌⊞◌}
use Rattle.whole_algebra.proofs.Signs.{<ℤ_weaken, pos-*-pos, nonneg-*-nonneg, nonneg-+-pos, zero_factor}
use Rattle.plane_laws.proofs.Segments.Mixes.{start_on_segment}
use Rattle.plane_laws.proofs.Turns.Turns.{point_at, turn_poly, ◌then◌}
use Rattle.plane_laws.proofs.Segments.Onto.{turn-mix}
use Rattle.plane_laws.specs.Plane.{Point, IsSamePoint, IsMix, IsOnSegment, turn}
use Rattle.ring_laws.proofs.Germs.Areas.{segment_within}

-- ---- equations between turns
-- the turn of three points whose variables begin at these places
abbrev turn_at : ℕ → ℕ → ℕ → Poly
turn_at i j k = turn_poly (point_at i) (point_at j) (point_at k)

-- the last two points change places
pub turn_back : (a b c : Point) → turn a c b ≡ neg_ℤ (turn a b c)
unfolding turn
turn_back a b c = identity (turn_at 0 6 3) (minus (turn_at 0 3 6)) (a then b then c then []) refl

-- the turns about p of u, v and w, where x gives the scale
pub fan : (p u v w x : Point) → turn p u w *ℤ turn p x v ≡ turn p u v *ℤ turn p x w +ℤ turn p v w *ℤ turn p x u
unfolding turn
fan p u v w x =
    identity (turn_at 0 3 9 ⊗ turn_at 0 12 6) (turn_at 0 3 6 ⊗ turn_at 0 12 9 ⊕ turn_at 0 6 9 ⊗ turn_at 0 12 3)
    (p then u then v then w then x then []) refl

-- the turn from w to q about p, by the turns of both about two sides of the triangle p, x, a
pub angle_parts : (p x a w q : Point) → turn p x a *ℤ turn p w q ≡ turn a p w *ℤ turn p x q -ℤ turn a p q *ℤ turn p x w
unfolding turn
angle_parts p x a w q =
    identity (turn_at 0 3 6 ⊗ turn_at 0 9 12) (turn_at 6 0 9 ⊗ turn_at 0 3 12 ⊖ turn_at 6 0 12 ⊗ turn_at 0 3 9)
    (p then x then a then w then q then []) refl

-- every point is made of three others, with its turns about their sides as weights
pub parts_x : (a b c q : Point) → turn a b c *ℤ q.x ≡ (turn b c q *ℤ a.x +ℤ turn c a q *ℤ b.x) +ℤ turn a b q *ℤ c.x
unfolding turn
parts_x a b c q =
    identity (turn_at 0 3 6 ⊗ var 9) ((turn_at 3 6 9 ⊗ var 0 ⊕ turn_at 6 0 9 ⊗ var 3) ⊕ turn_at 0 3 9 ⊗ var 6)
    (a then b then c then q then []) refl

pub parts_y : (a b c q : Point) → turn a b c *ℤ q.y ≡ (turn b c q *ℤ a.y +ℤ turn c a q *ℤ b.y) +ℤ turn a b q *ℤ c.y
unfolding turn
parts_y a b c q =
    identity (turn_at 0 3 6 ⊗ var 10) ((turn_at 3 6 9 ⊗ var 1 ⊕ turn_at 6 0 9 ⊗ var 4) ⊕ turn_at 0 3 9 ⊗ var 7)
    (a then b then c then q then []) refl

pub parts_w : (a b c q : Point) → turn a b c *ℤ q.w ≡ (turn b c q *ℤ a.w +ℤ turn c a q *ℤ b.w) +ℤ turn a b q *ℤ c.w
unfolding turn
parts_w a b c q =
    identity (turn_at 0 3 6 ⊗ var 11) ((turn_at 3 6 9 ⊗ var 2 ⊕ turn_at 6 0 9 ⊗ var 5) ⊕ turn_at 0 3 9 ⊗ var 8)
    (a then b then c then q then []) refl

-- ---- a point on a side
-- a sum of three of which the last weight is 0
without_last : (l r s u a b c : ℤ) → l ≡ (r *ℤ a +ℤ s *ℤ b) +ℤ u *ℤ c → u ≡ pos 0 → l ≡ r *ℤ a +ℤ s *ℤ b
without_last l r s u a b c e z =
    same_from (var 0) (var 1 ⊗ var 4 ⊕ var 2 ⊗ var 5) (l ∷ r ∷ s ∷ u ∷ a ∷ b ∷ c ∷ [])
    (same (var 0) ((var 1 ⊗ var 4 ⊕ var 2 ⊗ var 5) ⊕ var 3 ⊗ var 6) e ⊞ scaled (var 6) (vanishing (var 3) z)) refl

-- a point of a triangle that is on the line of its first side is on that side
pub on_side : (a b c q : Point) → pos 0 <ℤ turn a b c → turn a b q ≡ pos 0 → pos 0 ≤ℤ turn b c q → pos 0 ≤ℤ turn c a q → IsOnSegment a b q
on_side a b c q broad level first second = record {
  s = turn b c q;
  t = turn c a q;
  mix = record {
    first = first;
    second = second;
    times = turn a b c;
    some = broad;
    across = without_last (turn a b c *ℤ q.x) (turn b c q) (turn c a q) (turn a b q) a.x b.x c.x (parts_x a b c q) level;
    above = without_last (turn a b c *ℤ q.y) (turn b c q) (turn c a q) (turn a b q) a.y b.y c.y (parts_y a b c q) level;
    mass = without_last (turn a b c *ℤ q.w) (turn b c q) (turn c a q) (turn a b q) a.w b.w c.w (parts_w a b c q) level;
  };
}

-- equal multiples of two pairs of numbers
pub crosswise : (d k x w u v : ℤ) → ¬ (d ≡ pos 0) → d *ℤ x ≡ k *ℤ u → d *ℤ w ≡ k *ℤ v → x *ℤ v ≡ u *ℤ w
crosswise d k x w u v some e f =
    let zero = zero_factor d (x *ℤ v -ℤ u *ℤ w) some
    (same_from (var 0 ⊗ (var 2 ⊗ var 5 ⊖ var 4 ⊗ var 3)) (num (pos 0)) (d ∷ k ∷ x ∷ w ∷ u ∷ v ∷ [])
    (scaled (var 5) (same (var 0 ⊗ var 2) (var 1 ⊗ var 4) e) ⊞ scaled (minus (var 4)) (same (var 0 ⊗ var 3) (var 1 ⊗ var 5) f)) refl) in
    same_from (var 0 ⊗ var 3) (var 2 ⊗ var 1) (x ∷ w ∷ u ∷ v ∷ []) (vanishing (var 0 ⊗ var 3 ⊖ var 2 ⊗ var 1) zero) refl

-- a sum of three of which the last two weights are 0
first_alone : (l r s u a b c : ℤ) → l ≡ (r *ℤ a +ℤ s *ℤ b) +ℤ u *ℤ c → s ≡ pos 0 → u ≡ pos 0 → l ≡ r *ℤ a
first_alone l r s u a b c e y z =
    same_from (var 0) (var 1 ⊗ var 4) (l ∷ r ∷ s ∷ u ∷ a ∷ b ∷ c ∷ [])
    (same (var 0) ((var 1 ⊗ var 4 ⊕ var 2 ⊗ var 5) ⊕ var 3 ⊗ var 6) e ⊞ scaled (var 5) (vanishing (var 2) y)
    ⊞ scaled (var 6) (vanishing (var 3) z)) refl

-- a point on the lines from a to b and from a to c, which differ, is a
pub at_corner : (a b c q : Point) → ¬ (turn a b c ≡ pos 0) → turn a b q ≡ pos 0 → turn c a q ≡ pos 0 → IsSamePoint q a
at_corner a b c q some level other =
    let x = first_alone (turn a b c *ℤ q.x) (turn b c q) (turn c a q) (turn a b q) a.x b.x c.x (parts_x a b c q) other level in
    let y = first_alone (turn a b c *ℤ q.y) (turn b c q) (turn c a q) (turn a b q) a.y b.y c.y (parts_y a b c q) other level in
    let w = first_alone (turn a b c *ℤ q.w) (turn b c q) (turn c a q) (turn a b q) a.w b.w c.w (parts_w a b c q) other level in
    record {
      across = crosswise (turn a b c) (turn b c q) q.x q.w a.x a.w some x w;
      above = crosswise (turn a b c) (turn b c q) q.y q.w a.y a.w some y w;
    }

-- ---- i copies of y and j of v, as a point
pub record Blend (y v : Point) (i j : ℤ) : Type 0 where
  pub at : Point
  pub on : IsOnSegment y v at
  pub turns : (b c : Point) → turn b c at ≡ i *ℤ turn b c y +ℤ j *ℤ turn b c v

-- their mix, with turns that are the mix of the turns
pub blend : (y v : Point) (i j : ℤ) → pos 0 ≤ℤ i → pos 0 <ℤ j → Blend y v i j
blend y v i j h k = record { at = q; on = record { s = i; t = j; mix = mix }; turns = turns }
  where
    q : Point
    q = record {
      x = i *ℤ y.x +ℤ j *ℤ v.x;
      y = i *ℤ y.y +ℤ j *ℤ v.y;
      w = i *ℤ y.w +ℤ j *ℤ v.w;
      heavy = nonneg-+-pos (nonneg-*-nonneg h (<ℤ_weaken y.heavy)) (pos-*-pos k v.heavy);
    }

    mix : IsMix y v q i j
    mix = record {
      first = h;
      second = <ℤ_weaken k;
      times = pos 1;
      some = omega (arith, linear);
      across = one-*ℤ (i *ℤ y.x +ℤ j *ℤ v.x);
      above = one-*ℤ (i *ℤ y.y +ℤ j *ℤ v.y);
      mass = one-*ℤ (i *ℤ y.w +ℤ j *ℤ v.w);
    }

    turns : (b c : Point) → turn b c q ≡ i *ℤ turn b c y +ℤ j *ℤ turn b c v
    turns b c = sym (one-*ℤ (turn b c q)) ∙ turn-mix y v q i j mix b c

-- between a point of an edge and its first end
pub toward_start : {u v y q : Point} → IsOnSegment u v y → IsOnSegment y u q → IsOnSegment u v q
toward_start {u} {v} on within = segment_within on (start_on_segment u v) within
