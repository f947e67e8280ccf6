-- Mixes of two and of three points: their order, their reading as means, and that they hold for the points and not for their triples.
use Rattle.std.proofs.Common.{◌≡◌, ℤ, pos, ◌+ℤ◌, ◌*ℤ◌, ◌<ℤ◌, ◌≤ℤ◌, [], ◌∷◌, refl, ◌∙◌, subst, arith}
use lib.IntN.{+ℤ_comm, *ℤ_comm}
use Rattle.whole_algebra.proofs.Laws.{linear}
use Rattle.whole_algebra.proofs.Polynomials.{var, num, ◌⊕◌, ◌⊗◌, minus, identity}
use Rattle.whole_algebra.proofs.Certificates.{same, same_from, scaled, ◌⊞◌}
use Rattle.whole_algebra.proofs.Signs.{pos-*-pos, nonneg-*-nonneg, <ℤ_weaken}
use Rattle.plane_laws.proofs.Points.Same.{same_sym, same_trans}
use Rattle.plane_laws.proofs.Turns.Turns.{OneSign-zero, turn_same}
use Rattle.plane_laws.specs.Plane.{Point, IsSamePoint, IsMix, IsMixOfThree, IsMean, IsOnSegment, IsStrictlyBetween, IsInTriangle}
use Rattle.plane_laws.specs.Plane.{IsStrictlyInTriangle}

-- ---- the order of the ends, and the ends themselves
pub mix_flip : {a b p : Point} {s t : ℤ} → IsMix a b p s t → IsMix b a p t s
mix_flip {a} {b} {p} {s} {t} m = record {
  first = m.second;
  second = m.first;
  times = m.times;
  some = m.some;
  across = m.across ∙ +ℤ_comm (s *ℤ a.x) (t *ℤ b.x);
  above = m.above ∙ +ℤ_comm (s *ℤ a.y) (t *ℤ b.y);
  mass = m.mass ∙ +ℤ_comm (s *ℤ a.w) (t *ℤ b.w);
}

pub segment_flip : {a b p : Point} → IsOnSegment a b p → IsOnSegment b a p
segment_flip on = record { s = on.t; t = on.s; mix = mix_flip on.mix }

only_first : (a b : ℤ) → pos 1 *ℤ a ≡ pos 1 *ℤ a +ℤ pos 0 *ℤ b
only_first a b = identity (num (pos 1) ⊗ var 0) (num (pos 1) ⊗ var 0 ⊕ num (pos 0) ⊗ var 1) (a ∷ b ∷ []) refl

-- a point whose numbers are sums of multiples of those of the ends is a mix
pub mix_of_sums : {a b p : Point} {s t : ℤ} → pos 0 ≤ℤ s → pos 0 ≤ℤ t → pos 1 *ℤ p.x ≡ s *ℤ a.x +ℤ t *ℤ b.x
    → pos 1 *ℤ p.y ≡ s *ℤ a.y +ℤ t *ℤ b.y → pos 1 *ℤ p.w ≡ s *ℤ a.w +ℤ t *ℤ b.w → IsMix a b p s t
mix_of_sums hs ht across above mass =
    record { first = hs; second = ht; times = pos 1; some = omega (arith, linear); across = across; above = above; mass = mass }

pub start_on_segment : (a b : Point) → IsOnSegment a b a
start_on_segment a b = record {
  s = pos 1;
  t = pos 0;
  mix = mix_of_sums (omega (arith, linear)) (omega (arith, linear)) (only_first a.x b.x) (only_first a.y b.y) (only_first a.w b.w);
}

pub end_on_segment : (a b : Point) → IsOnSegment a b b
end_on_segment a b = segment_flip (start_on_segment b a)

-- ---- masses and weights
mass_to_weight : (k s t ax aw bx bw px pw : ℤ) → k *ℤ px ≡ s *ℤ ax +ℤ t *ℤ bx → k *ℤ pw ≡ s *ℤ aw +ℤ t *ℤ bw
    → (px *ℤ (s *ℤ aw +ℤ t *ℤ bw)) *ℤ (aw *ℤ bw) ≡ pw *ℤ (((s *ℤ aw) *ℤ ax) *ℤ bw +ℤ ((t *ℤ bw) *ℤ bx) *ℤ aw)
mass_to_weight k s t ax aw bx bw px pw h e =
    let vs = k ∷ s ∷ t ∷ ax ∷ aw ∷ bx ∷ bw ∷ px ∷ pw ∷ [] in
    let sum_x = var 1 ⊗ var 3 ⊕ var 2 ⊗ var 5 in
    let sum_w = var 1 ⊗ var 4 ⊕ var 2 ⊗ var 6 in
    same_from (var 7 ⊗ sum_w ⊗ (var 4 ⊗ var 6)) (var 8 ⊗ (var 1 ⊗ var 4 ⊗ var 3 ⊗ var 6 ⊕ var 2 ⊗ var 6 ⊗ var 5 ⊗ var 4)) vs
    (scaled (minus (var 7 ⊗ var 4 ⊗ var 6)) (same (var 0 ⊗ var 8) sum_w e)
    ⊞ scaled (var 8 ⊗ var 4 ⊗ var 6) (same (var 0 ⊗ var 7) sum_x h)) refl

pub mix_is_mean : {a b p : Point} {s t : ℤ} → IsMix a b p s t → IsMean a b p (s *ℤ a.w) (t *ℤ b.w)
mix_is_mean {a} {b} {p} {s} {t} m = record {
  first = nonneg-*-nonneg m.first (<ℤ_weaken a.heavy);
  second = nonneg-*-nonneg m.second (<ℤ_weaken b.heavy);
  some = subst (λ z. pos 0 <ℤ z) m.mass (pos-*-pos m.some p.heavy);
  across = mass_to_weight m.times s t a.x a.w b.x b.w p.x p.w m.across m.mass;
  above = mass_to_weight m.times s t a.y a.w b.y b.w p.y p.w m.above m.mass;
}

weight_to_mass : (s t ax aw bx bw px pw : ℤ) → (px *ℤ (s +ℤ t)) *ℤ (aw *ℤ bw) ≡ pw *ℤ ((s *ℤ ax) *ℤ bw +ℤ (t *ℤ bx) *ℤ aw)
    → ((s +ℤ t) *ℤ (aw *ℤ bw)) *ℤ px ≡ ((s *ℤ bw) *ℤ pw) *ℤ ax +ℤ ((t *ℤ aw) *ℤ pw) *ℤ bx
weight_to_mass s t ax aw bx bw px pw h =
    let vs = s ∷ t ∷ ax ∷ aw ∷ bx ∷ bw ∷ px ∷ pw ∷ [] in
    same_from ((var 0 ⊕ var 1) ⊗ (var 3 ⊗ var 5) ⊗ var 6) (var 0 ⊗ var 5 ⊗ var 7 ⊗ var 2 ⊕ var 1 ⊗ var 3 ⊗ var 7 ⊗ var 4) vs
    (same (var 6 ⊗ (var 0 ⊕ var 1) ⊗ (var 3 ⊗ var 5)) (var 7 ⊗ (var 0 ⊗ var 2 ⊗ var 5 ⊕ var 1 ⊗ var 4 ⊗ var 3)) h) refl

all_mass : (s t aw bw pw : ℤ) → ((s +ℤ t) *ℤ (aw *ℤ bw)) *ℤ pw ≡ ((s *ℤ bw) *ℤ pw) *ℤ aw +ℤ ((t *ℤ aw) *ℤ pw) *ℤ bw
all_mass s t aw bw pw =
    identity ((var 0 ⊕ var 1) ⊗ (var 2 ⊗ var 3) ⊗ var 4) (var 0 ⊗ var 3 ⊗ var 4 ⊗ var 2 ⊕ var 1 ⊗ var 2 ⊗ var 4 ⊗ var 3)
    (s ∷ t ∷ aw ∷ bw ∷ pw ∷ []) refl

pub mean_is_mix : {a b p : Point} {s t : ℤ} → IsMean a b p s t → IsMix a b p ((s *ℤ b.w) *ℤ p.w) ((t *ℤ a.w) *ℤ p.w)
mean_is_mix {a} {b} {p} {s} {t} m = record {
  first = nonneg-*-nonneg (nonneg-*-nonneg m.first (<ℤ_weaken b.heavy)) (<ℤ_weaken p.heavy);
  second = nonneg-*-nonneg (nonneg-*-nonneg m.second (<ℤ_weaken a.heavy)) (<ℤ_weaken p.heavy);
  times = (s +ℤ t) *ℤ (a.w *ℤ b.w);
  some = pos-*-pos m.some (pos-*-pos a.heavy b.heavy);
  across = weight_to_mass s t a.x a.w b.x b.w p.x p.w m.across;
  above = weight_to_mass s t a.y a.w b.y b.w p.y p.w m.above;
  mass = all_mass s t a.w b.w p.w;
}

-- ---- the same points in place of the ends and of the mix
move_first : (k p s a v t b a' v' : ℤ) → k *ℤ p ≡ s *ℤ a +ℤ t *ℤ b → a *ℤ v' ≡ a' *ℤ v → (k *ℤ v') *ℤ p ≡ (s *ℤ v) *ℤ a' +ℤ (t *ℤ v') *ℤ b
move_first k p s a v t b a' v' h e =
    let vs = k ∷ p ∷ s ∷ a ∷ v ∷ t ∷ b ∷ a' ∷ v' ∷ [] in
    same_from (var 0 ⊗ var 8 ⊗ var 1) (var 2 ⊗ var 4 ⊗ var 7 ⊕ var 5 ⊗ var 8 ⊗ var 6) vs
    (scaled (var 8) (same (var 0 ⊗ var 1) (var 2 ⊗ var 3 ⊕ var 5 ⊗ var 6) h)
    ⊞ scaled (var 2) (same (var 3 ⊗ var 8) (var 7 ⊗ var 4) e)) refl

pub mix_same_first : {a a' b p : Point} {s t : ℤ} → IsSamePoint a a' → IsMix a b p s t → IsMix a' b p (s *ℤ a.w) (t *ℤ a'.w)
mix_same_first {a} {a'} {b} {p} {s} {t} h m = record {
  first = nonneg-*-nonneg m.first (<ℤ_weaken a.heavy);
  second = nonneg-*-nonneg m.second (<ℤ_weaken a'.heavy);
  times = m.times *ℤ a'.w;
  some = pos-*-pos m.some a'.heavy;
  across = move_first m.times p.x s a.x a.w t b.x a'.x a'.w m.across h.across;
  above = move_first m.times p.y s a.y a.w t b.y a'.y a'.w m.above h.above;
  mass = move_first m.times p.w s a.w a.w t b.w a'.w a'.w m.mass (*ℤ_comm a.w a'.w);
}

move_mix : (k p v s a t b p' v' : ℤ) → k *ℤ p ≡ s *ℤ a +ℤ t *ℤ b → p *ℤ v' ≡ p' *ℤ v → (k *ℤ v) *ℤ p' ≡ (s *ℤ v') *ℤ a +ℤ (t *ℤ v') *ℤ b
move_mix k p v s a t b p' v' h e =
    let vs = k ∷ p ∷ v ∷ s ∷ a ∷ t ∷ b ∷ p' ∷ v' ∷ [] in
    same_from (var 0 ⊗ var 2 ⊗ var 7) (var 3 ⊗ var 8 ⊗ var 4 ⊕ var 5 ⊗ var 8 ⊗ var 6) vs
    (scaled (var 8) (same (var 0 ⊗ var 1) (var 3 ⊗ var 4 ⊕ var 5 ⊗ var 6) h)
    ⊞ scaled (minus (var 0)) (same (var 1 ⊗ var 8) (var 7 ⊗ var 2) e)) refl

pub mix_same_mix : {a b p p' : Point} {s t : ℤ} → IsSamePoint p p' → IsMix a b p s t → IsMix a b p' (s *ℤ p'.w) (t *ℤ p'.w)
mix_same_mix {a} {b} {p} {p'} {s} {t} h m = record {
  first = nonneg-*-nonneg m.first (<ℤ_weaken p'.heavy);
  second = nonneg-*-nonneg m.second (<ℤ_weaken p'.heavy);
  times = m.times *ℤ p.w;
  some = pos-*-pos m.some p.heavy;
  across = move_mix m.times p.x p.w s a.x t b.x p'.x p'.w m.across h.across;
  above = move_mix m.times p.y p.w s a.y t b.y p'.y p'.w m.above h.above;
  mass = move_mix m.times p.w p.w s a.w t b.w p'.w p'.w m.mass (*ℤ_comm p.w p'.w);
}

-- each of the three points by another triple of it
module _ {a a' b b' p p' : Point} (ha : IsSamePoint a a') (hb : IsSamePoint b b') (hp : IsSamePoint p p') where
  mix_same : {s t : ℤ} → IsMix a b p s t → IsMix a' b' p' (((s *ℤ a.w) *ℤ b'.w) *ℤ p'.w) (((t *ℤ a'.w) *ℤ b.w) *ℤ p'.w)
  mix_same m = mix_same_mix hp (mix_flip (mix_same_first hb (mix_flip (mix_same_first ha m))))

  pub segment_same : IsOnSegment a b p → IsOnSegment a' b' p'
  segment_same on = record { s = ((on.s *ℤ a.w) *ℤ b'.w) *ℤ p'.w; t = ((on.t *ℤ a'.w) *ℤ b.w) *ℤ p'.w; mix = mix_same on.mix }

  pub between_same : IsStrictlyBetween a b p → IsStrictlyBetween a' b' p'
  between_same on = record {
    s = ((on.s *ℤ a.w) *ℤ b'.w) *ℤ p'.w;
    t = ((on.t *ℤ a'.w) *ℤ b.w) *ℤ p'.w;
    mix = mix_same on.mix;
    some_first = pos-*-pos (pos-*-pos (pos-*-pos on.some_first a.heavy) b'.heavy) p'.heavy;
    some_second = pos-*-pos (pos-*-pos (pos-*-pos on.some_second a'.heavy) b.heavy) p'.heavy;
    apart = λ e. on.apart (same_trans ha (same_trans e (same_sym hb)));
  }

-- ---- three points
three_turned : (x y z : ℤ) → (x +ℤ y) +ℤ z ≡ (y +ℤ z) +ℤ x
three_turned x y z = identity (var 0 ⊕ var 1 ⊕ var 2) (var 1 ⊕ var 2 ⊕ var 0) (x ∷ y ∷ z ∷ []) refl

pub three_cycle : {a b c p : Point} {s t u : ℤ} → IsMixOfThree a b c p s t u → IsMixOfThree b c a p t u s
three_cycle {a} {b} {c} {p} {s} {t} {u} m = record {
  first = m.second;
  second = m.third;
  third = m.first;
  times = m.times;
  some = m.some;
  across = m.across ∙ three_turned (s *ℤ a.x) (t *ℤ b.x) (u *ℤ c.x);
  above = m.above ∙ three_turned (s *ℤ a.y) (t *ℤ b.y) (u *ℤ c.y);
  mass = m.mass ∙ three_turned (s *ℤ a.w) (t *ℤ b.w) (u *ℤ c.w);
}

move_first_of_three : (k p s a v t b u c a' v' : ℤ) → k *ℤ p ≡ (s *ℤ a +ℤ t *ℤ b) +ℤ u *ℤ c → a *ℤ v' ≡ a' *ℤ v
    → (k *ℤ v') *ℤ p ≡ ((s *ℤ v) *ℤ a' +ℤ (t *ℤ v') *ℤ b) +ℤ (u *ℤ v') *ℤ c
move_first_of_three k p s a v t b u c a' v' h e =
    let vs = k ∷ p ∷ s ∷ a ∷ v ∷ t ∷ b ∷ u ∷ c ∷ a' ∷ v' ∷ [] in
    same_from (var 0 ⊗ var 10 ⊗ var 1) (var 2 ⊗ var 4 ⊗ var 9 ⊕ var 5 ⊗ var 10 ⊗ var 6 ⊕ var 7 ⊗ var 10 ⊗ var 8) vs
    (scaled (var 10) (same (var 0 ⊗ var 1) (var 2 ⊗ var 3 ⊕ var 5 ⊗ var 6 ⊕ var 7 ⊗ var 8) h)
    ⊞ scaled (var 2) (same (var 3 ⊗ var 10) (var 9 ⊗ var 4) e)) refl

pub three_same_first : {a a' b c p : Point} {s t u : ℤ} → IsSamePoint a a' → IsMixOfThree a b c p s t u
    → IsMixOfThree a' b c p (s *ℤ a.w) (t *ℤ a'.w) (u *ℤ a'.w)
three_same_first {a} {a'} {b} {c} {p} {s} {t} {u} h m = record {
  first = nonneg-*-nonneg m.first (<ℤ_weaken a.heavy);
  second = nonneg-*-nonneg m.second (<ℤ_weaken a'.heavy);
  third = nonneg-*-nonneg m.third (<ℤ_weaken a'.heavy);
  times = m.times *ℤ a'.w;
  some = pos-*-pos m.some a'.heavy;
  across = move_first_of_three m.times p.x s a.x a.w t b.x u c.x a'.x a'.w m.across h.across;
  above = move_first_of_three m.times p.y s a.y a.w t b.y u c.y a'.y a'.w m.above h.above;
  mass = move_first_of_three m.times p.w s a.w a.w t b.w u c.w a'.w a'.w m.mass (*ℤ_comm a.w a'.w);
}

move_mix_of_three : (k p v s a t b u c p' v' : ℤ) → k *ℤ p ≡ (s *ℤ a +ℤ t *ℤ b) +ℤ u *ℤ c → p *ℤ v' ≡ p' *ℤ v
    → (k *ℤ v) *ℤ p' ≡ ((s *ℤ v') *ℤ a +ℤ (t *ℤ v') *ℤ b) +ℤ (u *ℤ v') *ℤ c
move_mix_of_three k p v s a t b u c p' v' h e =
    let vs = k ∷ p ∷ v ∷ s ∷ a ∷ t ∷ b ∷ u ∷ c ∷ p' ∷ v' ∷ [] in
    same_from (var 0 ⊗ var 2 ⊗ var 9) (var 3 ⊗ var 10 ⊗ var 4 ⊕ var 5 ⊗ var 10 ⊗ var 6 ⊕ var 7 ⊗ var 10 ⊗ var 8) vs
    (scaled (var 10) (same (var 0 ⊗ var 1) (var 3 ⊗ var 4 ⊕ var 5 ⊗ var 6 ⊕ var 7 ⊗ var 8) h)
    ⊞ scaled (minus (var 0)) (same (var 1 ⊗ var 10) (var 9 ⊗ var 2) e)) refl

pub three_same_mix : {a b c p p' : Point} {s t u : ℤ} → IsSamePoint p p' → IsMixOfThree a b c p s t u
    → IsMixOfThree a b c p' (s *ℤ p'.w) (t *ℤ p'.w) (u *ℤ p'.w)
three_same_mix {a} {b} {c} {p} {p'} {s} {t} {u} h m = record {
  first = nonneg-*-nonneg m.first (<ℤ_weaken p'.heavy);
  second = nonneg-*-nonneg m.second (<ℤ_weaken p'.heavy);
  third = nonneg-*-nonneg m.third (<ℤ_weaken p'.heavy);
  times = m.times *ℤ p.w;
  some = pos-*-pos m.some p.heavy;
  across = move_mix_of_three m.times p.x p.w s a.x t b.x u c.x p'.x p'.w m.across h.across;
  above = move_mix_of_three m.times p.y p.w s a.y t b.y u c.y p'.y p'.w m.above h.above;
  mass = move_mix_of_three m.times p.w p.w s a.w t b.w u c.w p'.w p'.w m.mass (*ℤ_comm p.w p'.w);
}

-- what both kinds of lying in a triangle share: the weights for the new triples, positive where the old ones are
record MixOfSame (a' b' c' p' : Point) (s t u : ℤ) : Type 0 where
  s' : ℤ
  t' : ℤ
  u' : ℤ
  mix : IsMixOfThree a' b' c' p' s' t' u'
  some_first : pos 0 <ℤ s → pos 0 <ℤ s'
  some_second : pos 0 <ℤ t → pos 0 <ℤ t'
  some_third : pos 0 <ℤ u → pos 0 <ℤ u'

four : {s v w x y : ℤ} → pos 0 <ℤ v → pos 0 <ℤ w → pos 0 <ℤ x → pos 0 <ℤ y → pos 0 <ℤ s → pos 0 <ℤ ((((s *ℤ v) *ℤ w) *ℤ x) *ℤ y)
four hv hw hx hy hs = pos-*-pos (pos-*-pos (pos-*-pos (pos-*-pos hs hv) hw) hx) hy

mix_of_same : {a a' b b' c c' p p' : Point} {s t u : ℤ} → IsSamePoint a a' → IsSamePoint b b' → IsSamePoint c c' → IsSamePoint p p'
    → IsMixOfThree a b c p s t u → MixOfSame a' b' c' p' s t u
mix_of_same {a} {a'} {b} {b'} {c} {c'} {p} {p'} {s} {t} {u} ha hb hc hp m = record {
  s' = (((s *ℤ a.w) *ℤ b'.w) *ℤ c'.w) *ℤ p'.w;
  t' = (((t *ℤ a'.w) *ℤ b.w) *ℤ c'.w) *ℤ p'.w;
  u' = (((u *ℤ a'.w) *ℤ b'.w) *ℤ c.w) *ℤ p'.w;
  mix = three_same_mix hp (three_cycle (three_same_first hc (three_cycle (three_same_first hb (three_cycle (three_same_first ha m))))));
  some_first = four a.heavy b'.heavy c'.heavy p'.heavy;
  some_second = four a'.heavy b.heavy c'.heavy p'.heavy;
  some_third = four a'.heavy b'.heavy c.heavy p'.heavy;
}

pub triangle_same : {a a' b b' c c' p p' : Point} → IsSamePoint a a' → IsSamePoint b b' → IsSamePoint c c' → IsSamePoint p p'
    → IsInTriangle a b c p → IsInTriangle a' b' c' p'
triangle_same ha hb hc hp on = let m = mix_of_same ha hb hc hp on.mix in record { s = m.s'; t = m.t'; u = m.u'; mix = m.mix }

pub strict_triangle_same : {a a' b b' c c' p p' : Point} → IsSamePoint a a' → IsSamePoint b b' → IsSamePoint c c' → IsSamePoint p p'
    → IsStrictlyInTriangle a b c p → IsStrictlyInTriangle a' b' c' p'
strict_triangle_same {a} {a'} {b} {b'} {c} {c'} ha hb hc hp on = let m = mix_of_same ha hb hc hp on.mix in record {
  s = m.s';
  t = m.t';
  u = m.u';
  mix = m.mix;
  some_first = m.some_first on.some_first;
  some_second = m.some_second on.some_second;
  some_third = m.some_third on.some_third;
  broad = λ e. on.broad ((OneSign-zero (turn_same ha hb hc)).1 e);
}

-- ---- sides and insides
-- a point of a triangle's side is a point of the triangle
add_none : (s a t b c : ℤ) → s *ℤ a +ℤ t *ℤ b ≡ (s *ℤ a +ℤ t *ℤ b) +ℤ pos 0 *ℤ c
add_none s a t b c =
    let vs = s ∷ a ∷ t ∷ b ∷ c ∷ [] in
    identity (var 0 ⊗ var 1 ⊕ var 2 ⊗ var 3) (var 0 ⊗ var 1 ⊕ var 2 ⊗ var 3 ⊕ num (pos 0) ⊗ var 4) vs refl

pub side_in_triangle : (c : Point) {a b p : Point} → IsOnSegment a b p → IsInTriangle a b c p
side_in_triangle c {a} {b} on = record {
  s = on.s;
  t = on.t;
  u = pos 0;
  mix = record {
    first = on.mix.first;
    second = on.mix.second;
    third = omega (arith, linear);
    times = on.mix.times;
    some = on.mix.some;
    across = on.mix.across ∙ add_none on.s a.x on.t b.x c.x;
    above = on.mix.above ∙ add_none on.s a.y on.t b.y c.y;
    mass = on.mix.mass ∙ add_none on.s a.w on.t b.w c.w;
  };
}

pub in_from_strictly_in : {a b c p : Point} → IsStrictlyInTriangle a b c p → IsInTriangle a b c p
in_from_strictly_in on = record { s = on.s; t = on.t; u = on.u; mix = on.mix }

pub on_from_strictly_between : {a b p : Point} → IsStrictlyBetween a b p → IsOnSegment a b p
on_from_strictly_between on = record { s = on.s; t = on.t; mix = on.mix }
