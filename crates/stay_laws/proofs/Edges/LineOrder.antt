-- Three points on one segment: seen from the first, the third lies towards the second, or opposite to it.
use Rattle.std.proofs.Common.{◌≡◌, ℤ, pos, negsuc, ◌+ℤ◌, ◌-ℤ◌, ◌*ℤ◌, neg_ℤ, ◌<ℤ◌, [], ◌∷◌, ap, refl, sym, ◌∙◌, arith}
use lib.IntN.{*ℤ-zero, zero-*ℤ}
use Rattle.whole_algebra.proofs.Laws.{linear}
use Rattle.whole_algebra.proofs.Polynomials.{var, num, ◌⊕◌, ◌⊖◌, ◌⊗◌, minus}
use Rattle.whole_algebra.proofs.Certificates.{same, same_from, vanishing, scaled, ◌⊞◌}
use Rattle.whole_algebra.proofs.Signs.{by_sign, <ℤ_weaken, pos-*-neg, pos-*-pos, zero_factor, pos_nonzero}
use Rattle.plane_laws.proofs.Segments.On.{same_from_steps}
use Rattle.plane_laws.specs.Plane.{Point, IsSamePoint, IsOnSegment, IsStrictlyBetween, shift, rise}
use Rattle.plane_laws.specs.Along.{IsInCone}
use Rattle.ring_laws.proofs.Germs.Edges.{shift_self, rise_self}
use Rattle.plane_laws.proofs.Near.Near.{shift_mix, rise_mix}
use Rattle.germ_laws.proofs.Rays.WayTo.{way_to}

-- ---- steps between mixes of two ends
-- what k and l steps are, by weights: the step from x to y is (s·v − t·u) of the whole
step_of_mixes :
    (k s t l u v x xw y yw a aw b bw : ℤ) → k *ℤ x ≡ (s *ℤ a) +ℤ (t *ℤ b) → k *ℤ xw ≡ (s *ℤ aw) +ℤ (t *ℤ bw) → l *ℤ y ≡ (u *ℤ a) +ℤ (v *ℤ b)
    → l *ℤ yw ≡ (u *ℤ aw) +ℤ (v *ℤ bw) → (k *ℤ l) *ℤ ((y *ℤ xw) -ℤ (x *ℤ yw)) ≡ ((s *ℤ v) -ℤ (t *ℤ u)) *ℤ ((b *ℤ aw) -ℤ (a *ℤ bw))
step_of_mixes k s t l u v x xw y yw a aw b bw e f g h =
    same_from ((var 0 ⊗ var 3) ⊗ (var 8 ⊗ var 7 ⊖ var 6 ⊗ var 9)) ((var 1 ⊗ var 5 ⊖ var 2 ⊗ var 4) ⊗ (var 12 ⊗ var 11 ⊖ var 10 ⊗ var 13))
    (k ∷ s ∷ t ∷ l ∷ u ∷ v ∷ x ∷ xw ∷ y ∷ yw ∷ a ∷ aw ∷ b ∷ bw ∷ [])
    (scaled (var 0 ⊗ var 7) (same (var 3 ⊗ var 8) (var 4 ⊗ var 10 ⊕ var 5 ⊗ var 12) g)
    ⊞ scaled (minus (var 0 ⊗ var 6)) (same (var 3 ⊗ var 9) (var 4 ⊗ var 11 ⊕ var 5 ⊗ var 13) h)
    ⊞ scaled (var 4 ⊗ var 10 ⊕ var 5 ⊗ var 12) (same (var 0 ⊗ var 7) (var 1 ⊗ var 11 ⊕ var 2 ⊗ var 13) f)
    ⊞ scaled (minus (var 4 ⊗ var 11 ⊕ var 5 ⊗ var 13)) (same (var 0 ⊗ var 6) (var 1 ⊗ var 10 ⊕ var 2 ⊗ var 12) e)) refl

-- for two mixes of the same ends: across, and above
steps_of_mixes :
    {a b x y : Point} (on_x : IsOnSegment a b x) (on_y : IsOnSegment a b y)
    → ((on_x.mix.times *ℤ on_y.mix.times) *ℤ shift x y ≡ ((on_x.s *ℤ on_y.t) -ℤ (on_x.t *ℤ on_y.s)) *ℤ shift a b)
    × ((on_x.mix.times *ℤ on_y.mix.times) *ℤ rise x y ≡ ((on_x.s *ℤ on_y.t) -ℤ (on_x.t *ℤ on_y.s)) *ℤ rise a b)
unfolding shift rise
steps_of_mixes {a} {b} {x} {y} on_x on_y =
    let step = step_of_mixes on_x.mix.times on_x.s on_x.t on_y.mix.times on_y.s on_y.t in
    let m = on_x.mix in
    let n = on_y.mix in (
      step x.x x.w y.x y.w a.x a.w b.x b.w m.across m.mass n.across n.mass,
      step x.y x.w y.y y.w a.y a.w b.y b.w m.above m.mass n.above n.mass,
    )

-- two multiples of one whole
ratio : (k l m c d y z whole : ℤ) → (k *ℤ l) *ℤ y ≡ c *ℤ whole → (k *ℤ m) *ℤ z ≡ d *ℤ whole → ((k *ℤ m) *ℤ c) *ℤ z ≡ ((k *ℤ l) *ℤ d) *ℤ y
ratio k l m c d y z whole e f =
    same_from (((var 0 ⊗ var 2) ⊗ var 3) ⊗ var 6) (((var 0 ⊗ var 1) ⊗ var 4) ⊗ var 5) (k ∷ l ∷ m ∷ c ∷ d ∷ y ∷ z ∷ whole ∷ [])
    (scaled (var 3) (same ((var 0 ⊗ var 2) ⊗ var 6) (var 4 ⊗ var 7) f)
    ⊞ scaled (minus (var 4)) (same ((var 0 ⊗ var 1) ⊗ var 5) (var 3 ⊗ var 7) e)) refl

-- the same with both factors turned
ratio_turned : (u w y z : ℤ) → u *ℤ z ≡ w *ℤ y → neg_ℤ u *ℤ z ≡ neg_ℤ w *ℤ y
ratio_turned u w y z e =
    same_from (minus (var 0) ⊗ var 3) (minus (var 1) ⊗ var 2) (u ∷ w ∷ y ∷ z ∷ [])
    (scaled (num (negsuc 0)) (same (var 0 ⊗ var 3) (var 1 ⊗ var 2) e)) refl

-- u steps from x to z are w steps from x to y, and u is positive
pub record HasRatio (x y z : Point) : Type 0 where
  pub u : ℤ
  pub w : ℤ
  pub positive : pos 0 <ℤ u
  pub across : u *ℤ shift x z ≡ w *ℤ shift x y
  pub above : u *ℤ rise x z ≡ w *ℤ rise x y

-- x and y differ, so the step to z is a multiple of the step to y
pub line_ratio : {a b x y z : Point} → IsOnSegment a b x → IsOnSegment a b y → IsOnSegment a b z → ¬ IsSamePoint x y → HasRatio x y z
line_ratio {a} {b} {x} {y} {z} on_x on_y on_z apart = by_sign c
    (λ h. record {
      u = neg_ℤ (km *ℤ c);
      w = neg_ℤ (kl *ℤ d);
      positive = turned (pos-*-neg (pos-*-pos on_x.mix.some on_z.mix.some) h);
      across = ratio_turned (km *ℤ c) (kl *ℤ d) (shift x y) (shift x z) shifts;
      above = ratio_turned (km *ℤ c) (kl *ℤ d) (rise x y) (rise x z) rises;
    })
    (λ h. absurd (apart (same_from_steps x y (none (shift x y) (shift a b) shift_y h) (none (rise x y) (rise a b) rise_y h))))
    (λ h. record {
      u = km *ℤ c;
      w = kl *ℤ d;
      positive = pos-*-pos (pos-*-pos on_x.mix.some on_z.mix.some) h;
      across = shifts;
      above = rises;
    })
  where
    c : ℤ
    c = (on_x.s *ℤ on_y.t) -ℤ (on_x.t *ℤ on_y.s)

    d : ℤ
    d = (on_x.s *ℤ on_z.t) -ℤ (on_x.t *ℤ on_z.s)

    kl : ℤ
    kl = on_x.mix.times *ℤ on_y.mix.times

    km : ℤ
    km = on_x.mix.times *ℤ on_z.mix.times

    shift_y : kl *ℤ shift x y ≡ c *ℤ shift a b
    shift_y = (steps_of_mixes on_x on_y).0

    rise_y : kl *ℤ rise x y ≡ c *ℤ rise a b
    rise_y = (steps_of_mixes on_x on_y).1

    shift_z : km *ℤ shift x z ≡ d *ℤ shift a b
    shift_z = (steps_of_mixes on_x on_z).0

    rise_z : km *ℤ rise x z ≡ d *ℤ rise a b
    rise_z = (steps_of_mixes on_x on_z).1

    shifts : (km *ℤ c) *ℤ shift x z ≡ (kl *ℤ d) *ℤ shift x y
    shifts = ratio on_x.mix.times on_y.mix.times on_z.mix.times c d (shift x y) (shift x z) (shift a b) shift_y shift_z

    rises : (km *ℤ c) *ℤ rise x z ≡ (kl *ℤ d) *ℤ rise x y
    rises = ratio on_x.mix.times on_y.mix.times on_z.mix.times c d (rise x y) (rise x z) (rise a b) rise_y rise_z

    none : (step whole : ℤ) → kl *ℤ step ≡ c *ℤ whole → c ≡ pos 0 → step ≡ pos 0
    none step whole e h =
        zero_factor kl step (pos_nonzero (pos-*-pos on_x.mix.some on_y.mix.some)) (e ∙ ap (λ n. n *ℤ whole) h ∙ zero-*ℤ whole)

    turned : {n : ℤ} → n <ℤ pos 0 → pos 0 <ℤ neg_ℤ n
    turned {n} h = omega (arith, linear, h)

-- ---- towards or opposite
-- z lies from x towards y, or opposite to it
pub data IsBeside (x y z : Point) (apart : ¬ IsSamePoint x y) : Type 0 where
  toward : IsInCone x (way_to x y apart) (way_to x y apart) z → IsBeside x y z apart
  opposite :
      (u w : ℤ) → pos 0 <ℤ u → pos 0 <ℤ w → (u *ℤ shift x z) +ℤ (w *ℤ shift x y) ≡ pos 0 → (u *ℤ rise x z) +ℤ (w *ℤ rise x y) ≡ pos 0
      → IsBeside x y z apart

-- a multiple, with none of a second one
with_none : (u w y z : ℤ) → u *ℤ z ≡ w *ℤ y → u *ℤ z ≡ (w *ℤ y) +ℤ (pos 0 *ℤ y)
with_none u w y z e =
    e ∙ same_from (var 0 ⊗ var 1) (var 0 ⊗ var 1 ⊕ num (pos 0) ⊗ var 1) (w ∷ y ∷ []) (same (num (pos 0)) (num (pos 0)) refl) refl

-- a multiple of the other sign, as a sum that cancels
sum_none : (u w y z : ℤ) → u *ℤ z ≡ w *ℤ y → (u *ℤ z) +ℤ (neg_ℤ w *ℤ y) ≡ pos 0
sum_none u w y z e =
    same_from (var 0 ⊗ var 3 ⊕ minus (var 1) ⊗ var 2) (num (pos 0)) (u ∷ w ∷ y ∷ z ∷ []) (same (var 0 ⊗ var 3) (var 1 ⊗ var 2) e) refl

-- by the sign of that multiple
pub beside :
    {a b x y z : Point} → IsOnSegment a b x → IsOnSegment a b y → IsOnSegment a b z → (apart : ¬ IsSamePoint x y) → ¬ IsSamePoint x z
    → IsBeside x y z apart
unfolding way_to
beside {a} {b} {x} {y} {z} on_x on_y on_z apart away = by_sign r.w
    (λ h. opposite r.u (neg_ℤ r.w) r.positive (omega (arith, linear, h)) (sum_none r.u r.w (shift x y) (shift x z) r.across)
    (sum_none r.u r.w (rise x y) (rise x z) r.above))
    (λ h. absurd (away (same_from_steps x z (none (shift x z) (shift x y) r.across h) (none (rise x z) (rise x y) r.above h))))
    (λ h. toward (record {
      i = r.w;
      j = pos 0;
      first = <ℤ_weaken h;
      second = omega (arith, linear);
      some = omega (arith, linear, h);
      times = r.u;
      positive = r.positive;
      across = with_none r.u r.w (shift x y) (shift x z) r.across;
      above = with_none r.u r.w (rise x y) (rise x z) r.above;
    }))
  where
    r : HasRatio x y z
    r = line_ratio on_x on_y on_z apart

    none : (step other : ℤ) → r.u *ℤ step ≡ r.w *ℤ other → r.w ≡ pos 0 → step ≡ pos 0
    none step other e h = zero_factor r.u step (pos_nonzero r.positive) (e ∙ ap (λ n. n *ℤ other) h ∙ zero-*ℤ other)

-- ---- the other end of an edge
-- c of A are r of Z, u of Z and w of Y cancel, s of A and t of B cancel: B is along Y
other_step :
    (c i j u w s t y z a b : ℤ) → c *ℤ a ≡ (i *ℤ z) +ℤ (j *ℤ z) → (u *ℤ z) +ℤ (w *ℤ y) ≡ pos 0 → (s *ℤ a) +ℤ (t *ℤ b) ≡ pos 0
    → ((t *ℤ c) *ℤ u) *ℤ b ≡ (((s *ℤ (i +ℤ j)) *ℤ w) *ℤ y) +ℤ (pos 0 *ℤ y)
other_step c i j u w s t y z a b e f g =
    same_from (((var 6 ⊗ var 0) ⊗ var 3) ⊗ var 10) (((var 5 ⊗ (var 1 ⊕ var 2)) ⊗ var 4) ⊗ var 7 ⊕ num (pos 0) ⊗ var 7)
    (c ∷ i ∷ j ∷ u ∷ w ∷ s ∷ t ∷ y ∷ z ∷ a ∷ b ∷ [])
    (scaled (var 0 ⊗ var 3) (vanishing (var 5 ⊗ var 9 ⊕ var 6 ⊗ var 10) g)
    ⊞ scaled (minus (var 3 ⊗ var 5)) (same (var 0 ⊗ var 9) (var 1 ⊗ var 8 ⊕ var 2 ⊗ var 8) e)
    ⊞ scaled (minus (var 5 ⊗ (var 1 ⊕ var 2))) (vanishing (var 3 ⊗ var 8 ⊕ var 4 ⊗ var 7) f)) refl

-- x strictly between A and B, A towards z, and y opposite to z: then B lies towards y
pub other_end :
    {x y z a b : Point} (apart : ¬ IsSamePoint x y) (away : ¬ IsSamePoint x z) (u w : ℤ) → pos 0 <ℤ u → pos 0 <ℤ w
    → (u *ℤ shift x z) +ℤ (w *ℤ shift x y) ≡ pos 0 → (u *ℤ rise x z) +ℤ (w *ℤ rise x y) ≡ pos 0 → IsStrictlyBetween a b x
    → IsInCone x (way_to x z away) (way_to x z away) a → IsInCone x (way_to x y apart) (way_to x y apart) b
unfolding way_to
other_end {x} {y} {z} {a} {b} apart away u w hu hw e f on c =
    let weight = pos-*-pos (pos-*-pos on.some_first c.some) hw in
    record {
      i = (on.s *ℤ (c.i +ℤ c.j)) *ℤ w;
      j = pos 0;
      first = <ℤ_weaken weight;
      second = omega (arith, linear);
      some = omega (arith, linear, weight);
      times = (on.t *ℤ c.times) *ℤ u;
      positive = pos-*-pos (pos-*-pos on.some_second c.positive) hu;
      across =
          other_step c.times c.i c.j u w on.s on.t (shift x y) (shift x z) (shift x a) (shift x b) c.across e
          (still (shift x x) (sym (shift_mix x on.mix)) (shift_self x));
      above =
          other_step c.times c.i c.j u w on.s on.t (rise x y) (rise x z) (rise x a) (rise x b) c.above f
          (still (rise x x) (sym (rise_mix x on.mix)) (rise_self x));
    }
  where
    still : {sum : ℤ} (step : ℤ) → sum ≡ on.mix.times *ℤ step → step ≡ pos 0 → sum ≡ pos 0
    still step h z = h ∙ ap (λ n. on.mix.times *ℤ n) z ∙ *ℤ-zero on.mix.times
