-- The computed test of lying on a segment is the relation; segments of two same ends; signs as tests.
use Rattle.std.proofs.Common.{negsuc, ◌≡◌, ◌⊎◌, inl, inr, ℤ, pos, ◌+ℤ◌, ◌-ℤ◌, ◌*ℤ◌, neg_ℤ, ◌<ℤ◌, ◌≤ℤ◌, ◌&&◌, [], ◌∷◌, ap, refl, sym, ◌∙◌}
use Rattle.std.proofs.Common.{subst, arith}
use Rattle.std.specs.Bool.{Decides}
use Rattle.std.specs.Ordering.{int_eq}
use Rattle.std.specs.Prelude.{int_le, int_lt}
use Rattle.std.proofs.lemmas.Bool.Decides.{Decides-int_eq, Decides-and, Decides-or, Decides-like, same_from_decides}
use Rattle.std.proofs.lemmas.Int.{ints, by_lt_z}
use lib.IntN.{zero-*ℤ, *ℤ-zero, *ℤ_comm}
use Rattle.whole_algebra.proofs.Laws.{linear}
use Rattle.whole_algebra.proofs.Polynomials.{var, num, ◌⊕◌, ◌⊖◌, ◌⊗◌, minus, identity}
use Rattle.whole_algebra.proofs.Certificates.{same, same_from, scaled, ◌⊞◌}
use Rattle.whole_algebra.proofs.Signs.{by_sign, nonneg_factor, nonpos_factor, zero_factor, nonneg-*-nonneg, nonneg-*-nonpos}
use Rattle.whole_algebra.proofs.Signs.{nonneg-+-nonneg, sum_zero, pos_nonzero, <ℤ_weaken, <ℤ_apart}
use Rattle.plane_laws.proofs.Points.Same.{same_refl, same_sym}
use Rattle.plane_laws.proofs.Turns.Turns.{point_at, turn_poly, ◌then◌}
use Rattle.plane_laws.proofs.Segments.Mixes.{segment_same, start_on_segment}
use Rattle.plane_laws.specs.Plane.{Point, IsSamePoint, IsMix, IsOnSegment, turn, shift, rise, is_same_way, is_on_segment}

pub Decides-int_le : (x y : ℤ) → Decides (int_le x y) (x ≤ℤ y)
Decides-int_le x y = (λ e. omega (arith, ints, e), λ h. grind (arith, ints))

pub Decides-int_lt : (x y : ℤ) → Decides (int_lt x y) (x <ℤ y)
Decides-int_lt x y = (λ e. omega (arith, ints, e), λ h. grind (arith, ints))

-- two steps go the same way
abbrev pub IsSameWay : ℤ → ℤ → Type 0
IsSameWay u v = ((pos 0 ≤ℤ u) × (pos 0 ≤ℤ v)) ⊎ ((u ≤ℤ pos 0) × (v ≤ℤ pos 0))

pub Decides-is_same_way : (u v : ℤ) → Decides (is_same_way u v) (IsSameWay u v)
Decides-is_same_way u v =
    Decides-or (int_le (pos 0) u && int_le (pos 0) v) (int_le u (pos 0) && int_le v (pos 0))
    (Decides-and (int_le (pos 0) u) (int_le (pos 0) v) (Decides-int_le (pos 0) u) (Decides-int_le (pos 0) v))
    (Decides-and (int_le u (pos 0)) (int_le v (pos 0)) (Decides-int_le u (pos 0)) (Decides-int_le v (pos 0)))

-- ---- from a mix to its steps
pub mix_turn : {a b p : Point} {s t : ℤ} → IsMix a b p s t → turn a b p ≡ pos 0
unfolding turn
mix_turn {a} {b} {p} {s} {t} m =
    zero_factor m.times (turn a b p) (pos_nonzero m.some)
    (let pa = point_at 3 in
    let pb = point_at 6 in
    let pp = point_at 9 in
    same_from (var 0 ⊗ turn_poly pa pb pp) (num (pos 0)) (m.times ∷ s ∷ t ∷ (a then b then p then []))
    (scaled (pa.y ⊗ pb.w ⊖ pa.w ⊗ pb.y) (same (var 0 ⊗ pp.x) (var 1 ⊗ pa.x ⊕ var 2 ⊗ pb.x) m.across)
    ⊞ scaled (pa.w ⊗ pb.x ⊖ pa.x ⊗ pb.w) (same (var 0 ⊗ pp.y) (var 1 ⊗ pa.y ⊕ var 2 ⊗ pb.y) m.above)
    ⊞ scaled (pa.x ⊗ pb.y ⊖ pa.y ⊗ pb.x) (same (var 0 ⊗ pp.w) (var 1 ⊗ pa.w ⊕ var 2 ⊗ pb.w) m.mass)) refl)

-- one coordinate of the ends and of the mix: k steps from the start are t steps of the whole way, and k to the end are s of them
steps_of_mix : (k s t a v b w p z : ℤ) → k *ℤ p ≡ s *ℤ a +ℤ t *ℤ b → k *ℤ z ≡ s *ℤ v +ℤ t *ℤ w
    → (k *ℤ (p *ℤ v -ℤ a *ℤ z) ≡ t *ℤ (b *ℤ v -ℤ a *ℤ w)) × (k *ℤ (b *ℤ z -ℤ p *ℤ w) ≡ s *ℤ (b *ℤ v -ℤ a *ℤ w))
steps_of_mix k s t a v b w p z h e =
    let vs = k ∷ s ∷ t ∷ a ∷ v ∷ b ∷ w ∷ p ∷ z ∷ [] in
    let whole = var 5 ⊗ var 4 ⊖ var 3 ⊗ var 6 in
    let place = same {vs = vs} (var 0 ⊗ var 7) (var 1 ⊗ var 3 ⊕ var 2 ⊗ var 5) h in
    let weight = same {vs = vs} (var 0 ⊗ var 8) (var 1 ⊗ var 4 ⊕ var 2 ⊗ var 6) e in (
      same_from (var 0 ⊗ (var 7 ⊗ var 4 ⊖ var 3 ⊗ var 8)) (var 2 ⊗ whole) vs (scaled (var 4) place ⊞ scaled (minus (var 3)) weight) refl,
      same_from (var 0 ⊗ (var 5 ⊗ var 8 ⊖ var 7 ⊗ var 6)) (var 1 ⊗ whole) vs (scaled (minus (var 6)) place ⊞ scaled (var 5) weight) refl,
    )

pub mix_shift_start : {a b p : Point} {s t : ℤ} (m : IsMix a b p s t) → m.times *ℤ shift a p ≡ t *ℤ shift a b
unfolding shift
mix_shift_start {a} {b} {p} {s} {t} m = (steps_of_mix m.times s t a.x a.w b.x b.w p.x p.w m.across m.mass).0

pub mix_shift_end : {a b p : Point} {s t : ℤ} (m : IsMix a b p s t) → m.times *ℤ shift p b ≡ s *ℤ shift a b
unfolding shift
mix_shift_end {a} {b} {p} {s} {t} m = (steps_of_mix m.times s t a.x a.w b.x b.w p.x p.w m.across m.mass).1

pub mix_rise_start : {a b p : Point} {s t : ℤ} (m : IsMix a b p s t) → m.times *ℤ rise a p ≡ t *ℤ rise a b
unfolding rise
mix_rise_start {a} {b} {p} {s} {t} m = (steps_of_mix m.times s t a.y a.w b.y b.w p.y p.w m.above m.mass).0

pub mix_rise_end : {a b p : Point} {s t : ℤ} (m : IsMix a b p s t) → m.times *ℤ rise p b ≡ s *ℤ rise a b
unfolding rise
mix_rise_end {a} {b} {p} {s} {t} m = (steps_of_mix m.times s t a.y a.w b.y b.w p.y p.w m.above m.mass).1

-- both steps are parts of one way
parts_of_way : (k s t d u v : ℤ) → pos 0 <ℤ k → pos 0 ≤ℤ s → pos 0 ≤ℤ t → k *ℤ u ≡ t *ℤ d → k *ℤ v ≡ s *ℤ d → IsSameWay u v
parts_of_way k s t d u v some hs ht e f = by_lt_z d (pos 0)
    (λ h. inr (back t u ht e (<ℤ_weaken h), back s v hs f (<ℤ_weaken h)))
    (λ h. inl (on t u ht e h, on s v hs f h))
  where
    on : (r y : ℤ) → pos 0 ≤ℤ r → k *ℤ y ≡ r *ℤ d → pos 0 ≤ℤ d → pos 0 ≤ℤ y
    on r y hr g h = nonneg_factor k y some (subst (λ z. pos 0 ≤ℤ z) (sym g) (nonneg-*-nonneg hr h))

    back : (r y : ℤ) → pos 0 ≤ℤ r → k *ℤ y ≡ r *ℤ d → d ≤ℤ pos 0 → y ≤ℤ pos 0
    back r y hr g h = nonpos_factor k y some (subst (λ z. z ≤ℤ pos 0) (sym g) (nonneg-*-nonpos hr h))

-- ---- from the steps to a mix
-- p is on the line of a and b, at the steps u from a and v to b of the way d
pub record AreSteps (a b p : Point) (d u v : ℤ) : Type 0 where
  pub across : d *ℤ p.x ≡ v *ℤ a.x +ℤ u *ℤ b.x
  pub above : d *ℤ p.y ≡ v *ℤ a.y +ℤ u *ℤ b.y
  pub mass : d *ℤ p.w ≡ v *ℤ a.w +ℤ u *ℤ b.w

-- the steps across and up of a point of the line
pub are_steps : (a b p : Point) → turn a b p ≡ pos 0
    → AreSteps a b p (shift a b) (shift a p) (shift p b) × AreSteps a b p (rise a b) (rise a p) (rise p b)
unfolding turn shift rise
are_steps a b p e =
    let pa = point_at 0 in
    let pb = point_at 3 in
    let pp = point_at 6 in
    let vs = a then b then p then [] in
    let level = same (turn_poly pa pb pp) (num (pos 0)) e in
    let d = pb.x ⊗ pa.w ⊖ pa.x ⊗ pb.w in
    let u = pp.x ⊗ pa.w ⊖ pa.x ⊗ pp.w in
    let v = pb.x ⊗ pp.w ⊖ pp.x ⊗ pb.w in
    let d' = pb.y ⊗ pa.w ⊖ pa.y ⊗ pb.w in
    let u' = pp.y ⊗ pa.w ⊖ pa.y ⊗ pp.w in
    let v' = pb.y ⊗ pp.w ⊖ pp.y ⊗ pb.w in (
      record {
        across = identity (d ⊗ pp.x) (v ⊗ pa.x ⊕ u ⊗ pb.x) vs refl;
        above = same_from (d ⊗ pp.y) (v ⊗ pa.y ⊕ u ⊗ pb.y) vs level refl;
        mass = identity (d ⊗ pp.w) (v ⊗ pa.w ⊕ u ⊗ pb.w) vs refl;
      },
      record {
        across = same_from (d' ⊗ pp.x) (v' ⊗ pa.x ⊕ u' ⊗ pb.x) vs (scaled (num (negsuc 0)) level) refl;
        above = identity (d' ⊗ pp.y) (v' ⊗ pa.y ⊕ u' ⊗ pb.y) vs refl;
        mass = identity (d' ⊗ pp.w) (v' ⊗ pa.w ⊕ u' ⊗ pb.w) vs refl;
      },
    )

turned_step : (d p v a u b : ℤ) → d *ℤ p ≡ v *ℤ a +ℤ u *ℤ b → neg_ℤ d *ℤ p ≡ neg_ℤ v *ℤ a +ℤ neg_ℤ u *ℤ b
turned_step d p v a u b h =
    let vs = d ∷ p ∷ v ∷ a ∷ u ∷ b ∷ [] in
    same_from (minus (var 0) ⊗ var 1) (minus (var 2) ⊗ var 3 ⊕ minus (var 4) ⊗ var 5) vs
    (scaled (num (negsuc 0)) (same (var 0 ⊗ var 1) (var 2 ⊗ var 3 ⊕ var 4 ⊗ var 5) h)) refl

turned_steps : {a b p : Point} {d u v : ℤ} → AreSteps a b p d u v → AreSteps a b p (neg_ℤ d) (neg_ℤ u) (neg_ℤ v)
turned_steps {a} {b} {p} {d} {u} {v} st = record {
  across = turned_step d p.x v a.x u b.x st.across;
  above = turned_step d p.y v a.y u b.y st.above;
  mass = turned_step d p.w v a.w u b.w st.mass;
}

sum_of_parts : {u v a b : ℤ} → pos 0 ≤ℤ u → pos 0 ≤ℤ v → pos 0 <ℤ a → pos 0 <ℤ b → pos 0 ≤ℤ (v *ℤ a +ℤ u *ℤ b)
sum_of_parts hu hv ha hb = nonneg-+-nonneg (nonneg-*-nonneg hv (<ℤ_weaken ha)) (nonneg-*-nonneg hu (<ℤ_weaken hb))

whole_way : {a b p : Point} {d u v : ℤ} → AreSteps a b p d u v → pos 0 ≤ℤ u → pos 0 ≤ℤ v → pos 0 ≤ℤ d
whole_way {a} {b} {p} {d} {u} {v} st hu hv =
    nonneg_factor p.w d p.heavy (subst (λ z. pos 0 ≤ℤ z) (sym st.mass ∙ *ℤ_comm d p.w) (sum_of_parts hu hv a.heavy b.heavy))

pub forward : {a b p : Point} {d u v : ℤ} → AreSteps a b p d u v → ¬ (d ≡ pos 0) → pos 0 ≤ℤ u → pos 0 ≤ℤ v → IsOnSegment a b p
forward {a} {b} {p} {d} {u} {v} st moves hu hv = record { s = v; t = u; mix = mix }
  where
    clash : d <ℤ pos 0 → pos 0 ≤ℤ d → ⊥
    clash h k = omega (arith, linear, h, k)

    some : pos 0 <ℤ d
    some = by_sign d (λ h. absurd (clash h (whole_way st hu hv))) (λ e. absurd (moves e)) (λ h. h)

    mix : IsMix a b p v u
    mix = record { first = hv; second = hu; times = d; some = some; across = st.across; above = st.above; mass = st.mass }

segment_from_steps : {a b p : Point} {d u v : ℤ} → AreSteps a b p d u v → ¬ (d ≡ pos 0) → IsSameWay u v → IsOnSegment a b p
segment_from_steps st moves (inl h) = forward st moves h.0 h.1
segment_from_steps {d} {u} {v} st moves (inr h) =
    forward (turned_steps st) (λ e. moves (omega (arith, linear, e))) (omega (arith, linear, h.0)) (omega (arith, linear, h.1))

-- no way, so no steps
no_step_forward : {a b p : Point} {d u v : ℤ} → AreSteps a b p d u v → d ≡ pos 0 → pos 0 ≤ℤ u → pos 0 ≤ℤ v → u ≡ pos 0
no_step_forward {a} {b} {p} {d} {u} {v} st e hu hv =
    let parts = sum_zero (v *ℤ a.w) (u *ℤ b.w) (nonneg-*-nonneg hv (<ℤ_weaken a.heavy)) (nonneg-*-nonneg hu (<ℤ_weaken b.heavy))
    (sym st.mass ∙ ap (λ z. z *ℤ p.w) e ∙ zero-*ℤ p.w) in
    zero_factor b.w u (pos_nonzero b.heavy) (*ℤ_comm b.w u ∙ parts.1)

no_step : {a b p : Point} {d u v : ℤ} → AreSteps a b p d u v → d ≡ pos 0 → IsSameWay u v → u ≡ pos 0
no_step st e (inl h) = no_step_forward st e h.0 h.1
no_step {d} {u} {v} st e (inr h) =
    let turned : neg_ℤ u ≡ pos 0 = no_step_forward (turned_steps st) (omega (arith, linear, e)) (omega (arith, linear, h.0))
    (omega (arith, linear, h.1)) in
    omega (arith, linear, turned)

pub same_from_steps : (a p : Point) → shift a p ≡ pos 0 → rise a p ≡ pos 0 → IsSamePoint a p
unfolding shift rise
same_from_steps a p e f = record { across = omega (arith, linear, e); above = omega (arith, linear, f) }

pub on_from_steps : (a b p : Point) → turn a b p ≡ pos 0 → IsSameWay (shift a p) (shift p b) → IsSameWay (rise a p) (rise p b)
    → IsOnSegment a b p
on_from_steps a b p e across above =
    let shifts = (are_steps a b p e).0 in
    let rises = (are_steps a b p e).1 in
    by_zero (shift a b)
    (λ none. by_zero (rise a b)
    (λ nothing. segment_same (same_refl a) (same_refl b)
    (same_from_steps a p (no_step shifts none across) (no_step rises nothing above)) (start_on_segment a b))
    (λ moves. segment_from_steps rises moves above))
    (λ moves. segment_from_steps shifts moves across)
  where
    by_zero : (z : ℤ) → (z ≡ pos 0 → IsOnSegment a b p) → (¬ (z ≡ pos 0) → IsOnSegment a b p) → IsOnSegment a b p
    by_zero z f g = by_sign z (λ h. g (<ℤ_apart h)) f (λ h. g (pos_nonzero h))

-- ---- the test
pub Decides-is_on_segment : (a b p : Point) → Decides (is_on_segment a b p) (IsOnSegment a b p)
Decides-is_on_segment a b p =
    Decides-like (is_on_segment a b p) (λ h. on_from_steps a b p h.0 h.1.0 h.1.1) from
    (Decides-and (int_eq (turn a b p) (pos 0)) (is_same_way (shift a p) (shift p b) && is_same_way (rise a p) (rise p b))
    (Decides-int_eq (turn a b p) (pos 0))
    (Decides-and (is_same_way (shift a p) (shift p b)) (is_same_way (rise a p) (rise p b))
    (Decides-is_same_way (shift a p) (shift p b)) (Decides-is_same_way (rise a p) (rise p b))))
  where
    from : IsOnSegment a b p → (turn a b p ≡ pos 0) × (IsSameWay (shift a p) (shift p b) × IsSameWay (rise a p) (rise p b))
    from on =
        let m = on.mix in (
          mix_turn m,
          (
            parts_of_way m.times on.s on.t (shift a b) (shift a p) (shift p b) m.some m.first m.second (mix_shift_start m)
                (mix_shift_end m),
            parts_of_way m.times on.s on.t (rise a b) (rise a p) (rise p b) m.some m.first m.second (mix_rise_start m) (mix_rise_end m),
          ),
        )

pub on_test_same : {a a' b b' p p' : Point} → IsSamePoint a a' → IsSamePoint b b' → IsSamePoint p p'
    → is_on_segment a b p ≡ is_on_segment a' b' p'
on_test_same {a} {a'} {b} {b'} {p} {p'} ha hb hp =
    same_from_decides (is_on_segment a b p) (is_on_segment a' b' p') (Decides-is_on_segment a b p)
    (Decides-like (is_on_segment a' b' p') (segment_same (same_sym ha) (same_sym hb) (same_sym hp)) (segment_same ha hb hp)
    (Decides-is_on_segment a' b' p'))

-- ---- a segment of two same ends
steps_of_same : {a b : Point} → IsSamePoint a b → (shift a b ≡ pos 0) × (rise a b ≡ pos 0)
unfolding shift rise
steps_of_same {a} {b} h = let across = h.across in let above = h.above in (omega (arith, linear, across), omega (arith, linear, above))

pub on_segment_of_same : {a b p : Point} → IsSamePoint a b → IsOnSegment a b p → IsSamePoint a p
on_segment_of_same {a} {b} {p} h on =
    same_from_steps a p (none (shift a p) (shift a b) (steps_of_same h).0 (mix_shift_start on.mix))
    (none (rise a p) (rise a b) (steps_of_same h).1 (mix_rise_start on.mix))
  where
    none : (u d : ℤ) → d ≡ pos 0 → on.mix.times *ℤ u ≡ on.t *ℤ d → u ≡ pos 0
    none u d e f = zero_factor on.mix.times u (pos_nonzero on.mix.some) (f ∙ ap (λ z. on.t *ℤ z) e ∙ *ℤ-zero on.t)
