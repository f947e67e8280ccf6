-- Directions that point the same way have one cone and one germ, and so have triples of one point; a direction turned left by a
-- quarter.
use Rattle.std.proofs.Common.{◌≡◌, suc, ◌+◌, ℤ, pos, ◌+ℤ◌, ◌-ℤ◌, ◌*ℤ◌, neg_ℤ, ◌<ℤ◌, [], ◌∷◌, refl, subst, arith}
use Rattle.im_matrix.specs.declared.Loc.{Loc}
use Rattle.whole_algebra.proofs.Laws.{linear}
use Rattle.whole_algebra.proofs.Polynomials.{var, num, ◌⊕◌, ◌⊖◌, ◌⊗◌, minus, identity}
use Rattle.whole_algebra.proofs.Certificates.{same, same_from, scaled, positive, less_by, ◌⊞◌}
use Rattle.whole_algebra.proofs.Signs.{<ℤ_weaken, pos-*-pos, nonneg-*-nonneg}
use Rattle.plane_laws.proofs.Points.Same.{same_sym}
use Rattle.plane_laws.specs.Plane.{Point, IsSamePoint, rise, shift}
use Rattle.plane_laws.specs.Directions.{Direction, bend_of, PointSameWay}
use Rattle.point_set.specs.declared.figure.Area.{Area}
use Rattle.plane_laws.specs.Along.{IsInCone}
use Rattle.point_set.specs.Germ.{IsGerm}
use Rattle.point_set.specs.Shape.{IsAreaShaped}
use Rattle.plane_laws.proofs.Near.Away.{away_point, away_point_is, away_near, far_for}
use Rattle.ring_laws.proofs.Germs.Edges.{squares}
use Rattle.side_laws.proofs.Edges.Strip.{away_same}
use Rattle.germ_laws.proofs.Room.Germs.{germ_room, away_cone}

-- ---- the germ is said of the way
pub cone_way : {v : Point} {d e : Direction} {p : Point} → PointSameWay d e → IsInCone v d d p → IsInCone v e e p
cone_way {v} {d} {e} {p} q c = record {
  i = q.n *ℤ (c.i +ℤ c.j);
  j = pos 0;
  first = <ℤ_weaken weight;
  second = omega (arith, linear);
  some = omega (arith, linear, weight);
  times = q.m *ℤ c.times;
  positive = pos-*-pos q.some c.positive;
  across = along c.times c.i c.j q.m q.n d.x e.x (shift v p) c.across q.across;
  above = along c.times c.i c.j q.m q.n d.y e.y (rise v p) c.above q.above;
}
  where
    weight : pos 0 <ℤ (q.n *ℤ (c.i +ℤ c.j))
    weight = pos-*-pos q.other c.some

    along : (k i j m n x y z : ℤ) → k *ℤ z ≡ (i *ℤ x) +ℤ (j *ℤ x) → m *ℤ x ≡ n *ℤ y → (m *ℤ k) *ℤ z ≡ ((n *ℤ (i +ℤ j)) *ℤ y) +ℤ (pos 0 *ℤ y)
    along k i j m n x y z e f =
        same_from ((var 3 ⊗ var 0) ⊗ var 7) ((var 4 ⊗ (var 1 ⊕ var 2)) ⊗ var 6 ⊕ num (pos 0) ⊗ var 6) (k ∷ i ∷ j ∷ m ∷ n ∷ x ∷ y ∷ z ∷ [])
        (scaled (var 3) (same (var 0 ⊗ var 7) (var 1 ⊗ var 5 ⊕ var 2 ⊗ var 5) e)
        ⊞ scaled (var 1 ⊕ var 2) (same (var 3 ⊗ var 5) (var 4 ⊗ var 6) f)) refl

pub germ_of_way : (area : Area) → IsAreaShaped area → (v : Point) (d e : Direction) → PointSameWay d e → (g : Loc) → IsGerm area v d g
    → IsGerm area v e g
germ_of_way area shaped v d e q g is =
    let r = germ_room area shaped v in
    let n = is.from + far_for d r.n in
    let away = away_point_is v d n in
    subst (λ h. IsGerm area v e h) (is.holds (suc n) (omega arith) (away_point v d n) away)
    (r.germ r.n (omega arith) (away_point v d n) (away_near r.n (omega arith) away) e (cone_way q (away_cone (omega arith) away)))

-- ---- and of the point
pub germ_of_point : (area : Area) {v w : Point} {d : Direction} → IsSamePoint v w → (g : Loc) → IsGerm area v d g → IsGerm area w d g
germ_of_point area same g is = record { from = is.from; holds = λ n far p away. is.holds n far p (away_same (same_sym same) away) }

-- as is the cone
same_step : (vw vx ww wx pw px t i j x y : ℤ) → vx *ℤ ww ≡ wx *ℤ vw → t *ℤ ((px *ℤ vw) -ℤ (vx *ℤ pw)) ≡ (i *ℤ x) +ℤ (j *ℤ y)
    → (vw *ℤ t) *ℤ ((px *ℤ ww) -ℤ (wx *ℤ pw)) ≡ ((ww *ℤ i) *ℤ x) +ℤ ((ww *ℤ j) *ℤ y)
same_step vw vx ww wx pw px t i j x y e f =
    same_from ((var 0 ⊗ var 6) ⊗ (var 5 ⊗ var 2 ⊖ var 3 ⊗ var 4)) ((var 2 ⊗ var 7) ⊗ var 9 ⊕ (var 2 ⊗ var 8) ⊗ var 10)
    (vw ∷ vx ∷ ww ∷ wx ∷ pw ∷ px ∷ t ∷ i ∷ j ∷ x ∷ y ∷ [])
    (scaled (var 2) (same (var 6 ⊗ (var 5 ⊗ var 0 ⊖ var 1 ⊗ var 4)) (var 7 ⊗ var 9 ⊕ var 8 ⊗ var 10) f)
    ⊞ scaled (var 6 ⊗ var 4) (same (var 1 ⊗ var 2) (var 3 ⊗ var 0) e)) refl

pub cone_of_point : {v w : Point} {d e : Direction} {p : Point} → IsSamePoint v w → IsInCone v d e p → IsInCone w d e p
unfolding shift rise
cone_of_point {v} {w} {d} {e} {p} same_point c = record {
  i = w.w *ℤ c.i;
  j = w.w *ℤ c.j;
  first = nonneg-*-nonneg (<ℤ_weaken w.heavy) c.first;
  second = nonneg-*-nonneg (<ℤ_weaken w.heavy) c.second;
  some = less_by (num (pos 0)) (var 0 ⊗ var 1 ⊕ var 0 ⊗ var 2) (w.w ∷ c.i ∷ c.j ∷ [])
      (λ denied. denied ⊞ positive (var 0 ⊗ (var 1 ⊕ var 2)) (pos-*-pos w.heavy c.some)) refl;
  times = v.w *ℤ c.times;
  positive = pos-*-pos v.heavy c.positive;
  across = same_step v.w v.x w.w w.x p.w p.x c.times c.i c.j d.x e.x same_point.across c.across;
  above = same_step v.w v.y w.w w.y p.w p.y c.times c.i c.j d.y e.y same_point.above c.above;
}

pub left_turn : Direction → Direction
left_turn d = record { x = neg_ℤ d.y; y = d.x; moves = λ z. d.moves (z.1, let e = z.0 in omega (arith, linear, e)) }

pub left_turn_left : (d : Direction) → pos 0 <ℤ bend_of d (left_turn d)
unfolding bend_of left_turn
left_turn_left d = subst (λ (z : ℤ). pos 0 <ℤ z)
    (identity (var 0 ⊗ var 0 ⊕ var 1 ⊗ var 1) (var 0 ⊗ var 0 ⊖ var 1 ⊗ minus (var 1)) (d.x ∷ d.y ∷ []) refl) (squares d.x d.y d.moves)
