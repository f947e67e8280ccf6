-- Points along one way: which of two comes first, and where a point is strictly between.
use Rattle.std.proofs.Common.{◌≡◌, ◌⊎◌, inl, inr, ℤ, pos, negsuc, ◌+ℤ◌, ◌-ℤ◌, ◌*ℤ◌, ◌<ℤ◌, ◌≤ℤ◌, [], ◌∷◌, refl, sym, subst, arith}
use Rattle.std.proofs.lemmas.Int.{by_lt_z}
use Rattle.whole_algebra.proofs.Laws.{linear}
use Rattle.whole_algebra.proofs.Polynomials.{var, num, minus, ◌⊕◌, ◌⊖◌, ◌⊗◌, identity}
use Rattle.whole_algebra.proofs.Certificates.{same, same_from, vanishing, scaled, ◌⊞◌}
use Rattle.whole_algebra.proofs.Signs.{by_sign, <ℤ_weaken, pos-*-pos, nonneg-*-nonneg, pos_nonzero, zero_factor}
use Rattle.plane_laws.proofs.Segments.Mixes.{mix_flip}
use Rattle.plane_laws.proofs.Segments.On.{on_segment_of_same}
use Rattle.plane_laws.proofs.Points.Same.{same_sym}
use Rattle.plane_laws.specs.Plane.{Point, IsSamePoint, IsMix, IsOnSegment, IsStrictlyBetween, shift, rise}
use Rattle.plane_laws.specs.Directions.{Direction}
use Rattle.plane_laws.specs.Along.{IsInCone}
use Rattle.meeting_laws.proofs.Ways.Corners.{crosswise}

-- no number is both
none_below : {z : ℤ} → z <ℤ pos 0 → pos 0 ≤ℤ z → ⊥
none_below {z} h k = omega (arith, linear, h, k)

-- ---- two points of the way from p to x
-- m and n are mixes of p and x: n's weight of m, and m's of p and n
nearer_part : (k l s t u v m n p x : ℤ) → k *ℤ m ≡ s *ℤ p +ℤ t *ℤ x → l *ℤ n ≡ u *ℤ p +ℤ v *ℤ x
    → (k *ℤ v) *ℤ m ≡ (s *ℤ v -ℤ t *ℤ u) *ℤ p +ℤ (t *ℤ l) *ℤ n
nearer_part k l s t u v m n p x e f =
    same_from ((var 0 ⊗ var 5) ⊗ var 6) ((var 2 ⊗ var 5 ⊖ var 3 ⊗ var 4) ⊗ var 8 ⊕ (var 3 ⊗ var 1) ⊗ var 7)
    (k ∷ l ∷ s ∷ t ∷ u ∷ v ∷ m ∷ n ∷ p ∷ x ∷ [])
    (scaled (var 5) (same (var 0 ⊗ var 6) (var 2 ⊗ var 8 ⊕ var 3 ⊗ var 9) e)
    ⊞ scaled (minus (var 3)) (same (var 1 ⊗ var 7) (var 4 ⊗ var 8 ⊕ var 5 ⊗ var 9) f)) refl

-- where n isn't p and m counts p at least as much as n does, m is on the way from p to n
nearer : {p x m n : Point} {s t u v : ℤ} → IsMix p x m s t → IsMix p x n u v → pos 0 <ℤ v → pos 0 ≤ℤ (s *ℤ v -ℤ t *ℤ u) → IsOnSegment p n m
nearer {p} {x} {m} {n} {s} {t} {u} {v} f g some order = record {
  s = s *ℤ v -ℤ t *ℤ u;
  t = t *ℤ g.times;
  mix = record {
    first = order;
    second = nonneg-*-nonneg f.second (<ℤ_weaken g.some);
    times = f.times *ℤ v;
    some = pos-*-pos f.some some;
    across = nearer_part f.times g.times s t u v m.x n.x p.x x.x f.across g.across;
    above = nearer_part f.times g.times s t u v m.y n.y p.y x.y f.above g.above;
    mass = nearer_part f.times g.times s t u v m.w n.w p.w x.w f.mass g.mass;
  };
}

-- a mix in which only p counts is on the way from p to any point
start_part : (k s t m p x n : ℤ) → k *ℤ m ≡ s *ℤ p +ℤ t *ℤ x → t ≡ pos 0 → k *ℤ m ≡ s *ℤ p +ℤ t *ℤ n
start_part k s t m p x n e z =
    same_from (var 0 ⊗ var 3) (var 1 ⊗ var 4 ⊕ var 2 ⊗ var 6) (k ∷ s ∷ t ∷ m ∷ p ∷ x ∷ n ∷ [])
    (same (var 0 ⊗ var 3) (var 1 ⊗ var 4 ⊕ var 2 ⊗ var 5) e ⊞ scaled (var 5 ⊖ var 6) (vanishing (var 2) z)) refl

-- so it is on the way from p to any point n
at_start : {p x m : Point} {s t : ℤ} → IsMix p x m s t → t ≡ pos 0 → (n : Point) → IsOnSegment p n m
at_start {p} {x} {m} {s} {t} f z n = record {
  s = s;
  t = t;
  mix = record {
    first = f.first;
    second = f.second;
    times = f.times;
    some = f.some;
    across = start_part f.times s t m.x p.x x.x n.x f.across z;
    above = start_part f.times s t m.y p.y x.y n.y f.above z;
    mass = start_part f.times s t m.w p.w x.w n.w f.mass z;
  };
}

-- of two points of the way from p to x, one is on the way to the other
pub one_nearer : {p x m n : Point} → IsOnSegment p x m → IsOnSegment p x n → IsOnSegment p n m ⊎ IsOnSegment p m n
one_nearer {p} {x} {m} {n} f g = by_sign f.t (λ h. absurd (none_below h f.mix.second)) (λ z. inl (at_start f.mix z n)) by_second
  where
    turned : (s t u v : ℤ) → (s *ℤ v -ℤ t *ℤ u) <ℤ pos 0 → pos 0 ≤ℤ (u *ℤ t -ℤ v *ℤ s)
    turned s t u v h = <ℤ_weaken (subst (λ z. pos 0 <ℤ z) (opposite s t u v) (above h))
      where
        above : {z : ℤ} → z <ℤ pos 0 → pos 0 <ℤ (pos 0 -ℤ z)
        above {z} k = omega (arith, linear, k)

        opposite : (s t u v : ℤ) → pos 0 -ℤ (s *ℤ v -ℤ t *ℤ u) ≡ u *ℤ t -ℤ v *ℤ s
        opposite s t u v = identity (num (pos 0) ⊖ (var 0 ⊗ var 3 ⊖ var 1 ⊗ var 2)) (var 2 ⊗ var 1 ⊖ var 3 ⊗ var 0) (s ∷ t ∷ u ∷ v ∷ [])
            refl

    by_order : pos 0 <ℤ f.t → pos 0 <ℤ g.t → IsOnSegment p n m ⊎ IsOnSegment p m n
    by_order h k = by_lt_z (f.s *ℤ g.t -ℤ f.t *ℤ g.s) (pos 0) (λ o. inr (nearer g.mix f.mix h (turned f.s f.t g.s g.t o)))
        (λ o. inl (nearer f.mix g.mix k o))

    by_second : pos 0 <ℤ f.t → IsOnSegment p n m ⊎ IsOnSegment p m n
    by_second h = by_sign g.t (λ k. absurd (none_below k g.mix.second)) (λ z. inr (at_start g.mix z m)) (by_order h)

-- ---- strictly between
second_alone : (k s t m a b : ℤ) → k *ℤ m ≡ s *ℤ a +ℤ t *ℤ b → s ≡ pos 0 → k *ℤ m ≡ t *ℤ b
second_alone k s t m a b e z =
    same_from (var 0 ⊗ var 3) (var 2 ⊗ var 5) (k ∷ s ∷ t ∷ m ∷ a ∷ b ∷ [])
    (same (var 0 ⊗ var 3) (var 1 ⊗ var 4 ⊕ var 2 ⊗ var 5) e ⊞ scaled (var 4) (vanishing (var 1) z)) refl

-- a mix in which only b counts is b
at_second : {a b m : Point} {s t : ℤ} → IsMix a b m s t → s ≡ pos 0 → IsSamePoint m b
at_second {a} {b} {m} {s} {t} f z =
    let mass = second_alone f.times s t m.w a.w b.w f.mass z in
    record {
      across = crosswise f.times t m.x m.w b.x b.w (pos_nonzero f.some) (second_alone f.times s t m.x a.x b.x f.across z) mass;
      above = crosswise f.times t m.y m.w b.y b.w (pos_nonzero f.some) (second_alone f.times s t m.y a.y b.y f.above z) mass;
    }

-- a point of a segment that is neither end
pub strictly : {a b m : Point} → IsOnSegment a b m → ¬ IsSamePoint m a → ¬ IsSamePoint m b → IsStrictlyBetween a b m
strictly {a} {b} {m} on not_a not_b = record {
  s = on.s;
  t = on.t;
  mix = on.mix;
  some_first = by_sign on.s (λ h. absurd (none_below h on.mix.first)) (λ z. absurd (not_b (at_second on.mix z))) (λ h. h);
  some_second = by_sign on.t (λ h. absurd (none_below h on.mix.second)) (λ z. absurd (not_a (at_second (mix_flip on.mix) z))) (λ h. h);
  apart = λ s. not_a (same_sym (on_segment_of_same s on));
}

-- ---- two points in one direction from v
-- what lies in a direction from v isn't v
way_zero : (c i j x s : ℤ) → c *ℤ s ≡ (i *ℤ x) +ℤ (j *ℤ x) → pos 0 <ℤ (i +ℤ j) → s ≡ pos 0 → x ≡ pos 0
way_zero c i j x s e some z =
    zero_factor (i +ℤ j) x (pos_nonzero some)
    (same_from ((var 1 ⊕ var 2) ⊗ var 3) (num (pos 0)) (c ∷ i ∷ j ∷ x ∷ s ∷ [])
    (scaled (num (negsuc 0)) (same (var 0 ⊗ var 4) (var 1 ⊗ var 3 ⊕ var 2 ⊗ var 3) e) ⊞ scaled (var 0) (vanishing (var 4) z)) refl)

-- so such a point isn't the same as v
pub cone_apart : {v : Point} {d : Direction} {z : Point} → IsInCone v d d z → ¬ IsSamePoint z v
unfolding shift rise
cone_apart {v} {d} {z} c h =
    d.moves (
      way_zero c.times c.i c.j d.x (z.x *ℤ v.w -ℤ v.x *ℤ z.w) c.across c.some (level (z.x *ℤ v.w) (v.x *ℤ z.w) h.across),
      way_zero c.times c.i c.j d.y (z.y *ℤ v.w -ℤ v.y *ℤ z.w) c.above c.some (level (z.y *ℤ v.w) (v.y *ℤ z.w) h.above),
    )
  where
    level : (x y : ℤ) → x ≡ y → x -ℤ y ≡ pos 0
    level x y e = omega (arith, linear, e)

-- z is m.w·m of the way, in numbers: its weights of v and p
ray_part : (m n v vw z zw p pw : ℤ) → m *ℤ (z *ℤ vw -ℤ v *ℤ zw) ≡ n *ℤ (p *ℤ vw -ℤ v *ℤ pw)
    → (m *ℤ vw) *ℤ z ≡ (m *ℤ zw -ℤ n *ℤ pw) *ℤ v +ℤ (n *ℤ vw) *ℤ p
ray_part m n v vw z zw p pw e =
    same_from ((var 0 ⊗ var 3) ⊗ var 4) ((var 0 ⊗ var 5 ⊖ var 1 ⊗ var 7) ⊗ var 2 ⊕ (var 1 ⊗ var 3) ⊗ var 6)
    (m ∷ n ∷ v ∷ vw ∷ z ∷ zw ∷ p ∷ pw ∷ [])
    (same (var 0 ⊗ (var 4 ⊗ var 3 ⊖ var 2 ⊗ var 5)) (var 1 ⊗ (var 6 ⊗ var 3 ⊖ var 2 ⊗ var 7)) e) refl

-- the same of the weights
ray_mass : (m n vw zw pw : ℤ) → (m *ℤ vw) *ℤ zw ≡ (m *ℤ zw -ℤ n *ℤ pw) *ℤ vw +ℤ (n *ℤ vw) *ℤ pw
ray_mass m n vw zw pw =
    identity ((var 0 ⊗ var 2) ⊗ var 3) ((var 0 ⊗ var 3 ⊖ var 1 ⊗ var 4) ⊗ var 2 ⊕ (var 1 ⊗ var 2) ⊗ var 4) (m ∷ n ∷ vw ∷ zw ∷ pw ∷ []) refl

-- z is at most as far as p: it is on the way to p
within_way : (v p z : Point) (m n : ℤ) → pos 0 <ℤ m → pos 0 <ℤ n → m *ℤ shift v z ≡ n *ℤ shift v p → m *ℤ rise v z ≡ n *ℤ rise v p
    → pos 0 ≤ℤ (m *ℤ z.w -ℤ n *ℤ p.w) → IsOnSegment v p z
unfolding shift rise
within_way v p z m n hm hn across above order = record {
  s = m *ℤ z.w -ℤ n *ℤ p.w;
  t = n *ℤ v.w;
  mix = record {
    first = order;
    second = <ℤ_weaken (pos-*-pos hn v.heavy);
    times = m *ℤ v.w;
    some = pos-*-pos hm v.heavy;
    across = ray_part m n v.x v.w z.x z.w p.x p.w across;
    above = ray_part m n v.y v.w z.y z.w p.y p.w above;
    mass = ray_mass m n v.w z.w p.w;
  };
}

-- positive multiples of the steps from v to z and to p are equal: one of the two is on the way to the other
pub one_ray : (v p z : Point) (m n : ℤ) → pos 0 <ℤ m → pos 0 <ℤ n → m *ℤ shift v z ≡ n *ℤ shift v p → m *ℤ rise v z ≡ n *ℤ rise v p
    → IsOnSegment v p z ⊎ IsOnSegment v z p
one_ray v p z m n hm hn across above =
    by_lt_z (m *ℤ z.w -ℤ n *ℤ p.w) (pos 0) (λ h. inr (within_way v z p n m hn hm (sym across) (sym above)
    (turned (m *ℤ z.w) (n *ℤ p.w) h))) (λ h. inl (within_way v p z m n hm hn across above h))
  where
    turned : (x y : ℤ) → (x -ℤ y) <ℤ pos 0 → pos 0 ≤ℤ (y -ℤ x)
    turned x y h = omega (arith, linear, h)
