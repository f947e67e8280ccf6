-- Affine functions with whole coefficients, and a point that one of them parts from a segment.
use Rattle.std.proofs.Common.{◌≡◌, ◌⊎◌, inl, inr, ℤ, pos, ◌+ℤ◌, ◌-ℤ◌, ◌*ℤ◌, neg_ℤ, ◌<ℤ◌, ◌≤ℤ◌, false, ◌&&◌, [], ◌∷◌, refl, sym, ◌∙◌, arith}
use Rattle.std.specs.Ordering.{int_eq}
use Rattle.std.proofs.lemmas.Bool.{and_cases}
use Rattle.std.proofs.lemmas.Bool.Decides.{Decides-int_eq, not_from_Decides}
use Rattle.std.proofs.lemmas.Int.{by_lt_z}
use Rattle.whole_algebra.proofs.Laws.{linear}
use Rattle.whole_algebra.proofs.Polynomials.{var, num, ◌⊕◌, ◌⊖◌, ◌⊗◌, minus, identity}
use Rattle.whole_algebra.proofs.Certificates.{natural, positive, at_most, same, same_from, at_most_by, scaled, ◌⊞◌, ◌⊠◌}
use Rattle.whole_algebra.proofs.Signs.{by_sign, <ℤ_weaken}
use Rattle.plane_laws.proofs.Turns.Turns.{point_at, turn_poly, ◌then◌, turn_twice, turn_cycle, turn_swap}
use Rattle.plane_laws.proofs.Segments.On.{IsSameWay, Decides-is_same_way}
use Rattle.plane_laws.specs.Plane.{Point, IsMix, IsOnSegment, turn, rise, shift, is_same_way, is_on_segment}

-- ---- affine functions with whole coefficients
pub record Affine : Type 0 where
  pub x : ℤ
  pub y : ℤ
  pub w : ℤ

-- the value at a point, times its weight
abbrev pub at_point : Affine → Point → ℤ
at_point f p = ((f.x *ℤ p.x) +ℤ (f.y *ℤ p.y)) +ℤ (f.w *ℤ p.w)

pub affine_mix : (f : Affine) {a b m : Point} {s t : ℤ} (mix : IsMix a b m s t)
    → mix.times *ℤ at_point f m ≡ (s *ℤ at_point f a) +ℤ (t *ℤ at_point f b)
affine_mix f {a} {b} {m} {s} {t} mix =
    let pa = point_at 6 in
    let pb = point_at 9 in
    let pm = point_at 12 in
    same_from (var 0 ⊗ ((var 3 ⊗ pm.x ⊕ var 4 ⊗ pm.y) ⊕ var 5 ⊗ pm.w))
    (var 1 ⊗ ((var 3 ⊗ pa.x ⊕ var 4 ⊗ pa.y) ⊕ var 5 ⊗ pa.w) ⊕ var 2 ⊗ ((var 3 ⊗ pb.x ⊕ var 4 ⊗ pb.y) ⊕ var 5 ⊗ pb.w))
    (mix.times ∷ s ∷ t ∷ f.x ∷ f.y ∷ f.w ∷ (a then b then m then []))
    (scaled (var 3) (same (var 0 ⊗ pm.x) (var 1 ⊗ pa.x ⊕ var 2 ⊗ pb.x) mix.across)
    ⊞ scaled (var 4) (same (var 0 ⊗ pm.y) (var 1 ⊗ pa.y ⊕ var 2 ⊗ pb.y) mix.above)
    ⊞ scaled (var 5) (same (var 0 ⊗ pm.w) (var 1 ⊗ pa.w ⊕ var 2 ⊗ pb.w) mix.mass))
    refl

-- a mix is on no side on which neither end is
pub affine_on : (f : Affine) {a b m : Point} → IsOnSegment a b m → at_point f a ≤ℤ pos 0 → at_point f b ≤ℤ pos 0 → at_point f m ≤ℤ pos 0
affine_on f {a} {b} {m} on ha hb = go (at_point f a) (at_point f b) (at_point f m) on.mix.times on.s on.t on.mix.some on.mix.first
    on.mix.second (affine_mix f on.mix) ha hb
  where
    go : (u v z k s t : ℤ) → pos 0 <ℤ k → pos 0 ≤ℤ s → pos 0 ≤ℤ t → k *ℤ z ≡ (s *ℤ u) +ℤ (t *ℤ v) → u ≤ℤ pos 0 → v ≤ℤ pos 0 → z ≤ℤ pos 0
    go u v z k s t hk hs ht e hu hv =
        at_most_by (var 2) (num (pos 0)) (u ∷ v ∷ z ∷ k ∷ s ∷ t ∷ [])
        (λ denied. denied ⊠ positive (var 3) hk ⊞ natural (var 4) hs ⊠ at_most (var 0) (num (pos 0)) hu
        ⊞ natural (var 5) ht ⊠ at_most (var 1) (num (pos 0)) hv ⊞ same (var 4 ⊗ var 0 ⊕ var 5 ⊗ var 1) (var 3 ⊗ var 2) (sym e)) refl

-- ---- parted: an affine function is positive at v and not at a and b
pub record AreParted (a b v : Point) : Type 0 where
  pub by : Affine
  pub positive_at : pos 0 <ℤ at_point by v
  pub first : at_point by a ≤ℤ pos 0
  pub second : at_point by b ≤ℤ pos 0

pub turn_by : Point → Point → Affine
turn_by a b = record { x = (a.y *ℤ b.w) -ℤ (a.w *ℤ b.y); y = (a.w *ℤ b.x) -ℤ (a.x *ℤ b.w); w = (a.x *ℤ b.y) -ℤ (a.y *ℤ b.x) }

pub turn_by_is : (a b p : Point) → at_point (turn_by a b) p ≡ turn a b p
unfolding turn turn_by
turn_by_is a b p =
    let pa = point_at 0 in
    let pb = point_at 3 in
    let pp = point_at 6 in
    identity (((pa.y ⊗ pb.w ⊖ pa.w ⊗ pb.y) ⊗ pp.x ⊕ (pa.w ⊗ pb.x ⊖ pa.x ⊗ pb.w) ⊗ pp.y) ⊕ (pa.x ⊗ pb.y ⊖ pa.y ⊗ pb.x) ⊗ pp.w)
    (turn_poly pa pb pp) (a then b then p then []) refl

pub turn_ends : (a b : Point) → (turn a b a ≡ pos 0) × (turn a b b ≡ pos 0)
turn_ends a b = (sym (turn_cycle a a b) ∙ turn_twice a b, turn_cycle a b b ∙ turn_twice b a)

left_parted : (a b v : Point) → pos 0 <ℤ turn a b v → AreParted a b v
left_parted a b v h = record {
  by = turn_by a b;
  positive_at = omega (arith, linear, h, turn_by_is a b v);
  first = omega (arith, linear, (turn_ends a b).0, turn_by_is a b a);
  second = omega (arith, linear, (turn_ends a b).1, turn_by_is a b b);
}

pub parted_swap : {a b v : Point} → AreParted a b v → AreParted b a v
parted_swap parted = record { by = parted.by; positive_at = parted.positive_at; first = parted.second; second = parted.first }

turn_parted : (a b v : Point) → ¬ (turn a b v ≡ pos 0) → AreParted a b v
turn_parted a b v apart = by_sign (turn a b v)
    (λ h. parted_swap (left_parted b a v (omega (arith, linear, h, turn_swap a b v))))
    (λ e. absurd (apart e))
    (λ h. left_parted a b v h)

-- steps along one axis, as affine functions of where they end and of where they begin
pub record AreStepsBy (step : Point → Point → ℤ) (to_end from_end : Point → Affine) : Type 0 where
  pub ends : (c p : Point) → at_point (to_end c) p ≡ step c p
  pub begins : (c p : Point) → at_point (from_end c) p ≡ step p c
  pub turned : (c p : Point) → step p c ≡ neg_ℤ (step c p)

step_parted : {step : Point → Point → ℤ} {to_end from_end : Point → Affine} → AreStepsBy step to_end from_end → (a b v : Point)
    → ¬ IsSameWay (step a v) (step v b) → AreParted a b v
step_parted {step} {to_end} {from_end} st a b v apart = by_sign (step a v)
    (λ h. by_lt_z (pos 0) (step v b) (λ k. before h k) (λ k. absurd (apart (inr (<ℤ_weaken h, k)))))
    (λ e. by_lt_z (step v b) (pos 0) (λ k. absurd (apart (inr (omega (arith, linear, e), <ℤ_weaken k))))
    (λ k. absurd (apart (inl (omega (arith, linear, e), k)))))
    (λ h. by_lt_z (step v b) (pos 0) (λ k. behind h k) (λ k. absurd (apart (inl (<ℤ_weaken h, k)))))
  where
    none : (z : ℤ) → z ≡ neg_ℤ z → z ≡ pos 0
    none z e = omega (arith, linear, e)

    before : step a v <ℤ pos 0 → pos 0 <ℤ step v b → AreParted a b v
    before h k = by_lt_z (step a b) (pos 0)
        (λ l. record {
          by = from_end b;
          positive_at = omega (arith, linear, st.begins b v, k);
          first = omega (arith, linear, st.begins b a, l);
          second = omega (arith, linear, st.begins b b, none (step b b) (st.turned b b));
        })
        (λ l. record {
          by = from_end a;
          positive_at = omega (arith, linear, st.begins a v, st.turned a v, h);
          first = omega (arith, linear, st.begins a a, none (step a a) (st.turned a a));
          second = omega (arith, linear, st.begins a b, st.turned a b, l);
        })

    behind : pos 0 <ℤ step a v → step v b <ℤ pos 0 → AreParted a b v
    behind h k = by_lt_z (pos 0) (step a b)
        (λ l. record {
          by = to_end b;
          positive_at = omega (arith, linear, st.ends b v, st.turned b v, k);
          first = omega (arith, linear, st.ends b a, st.turned a b, l);
          second = omega (arith, linear, st.ends b b, none (step b b) (st.turned b b));
        })
        (λ l. record {
          by = to_end a;
          positive_at = omega (arith, linear, st.ends a v, h);
          first = omega (arith, linear, st.ends a a, none (step a a) (st.turned a a));
          second = omega (arith, linear, st.ends a b, l);
        })

pub shift_steps : AreStepsBy shift (λ c. record { x = c.w; y = pos 0; w = neg_ℤ c.x }) (λ c. record { x = neg_ℤ c.w; y = pos 0; w = c.x })
unfolding shift
shift_steps = record {
  ends = λ c p. identity ((var 2 ⊗ var 3 ⊕ num (pos 0) ⊗ var 4) ⊕ minus (var 0) ⊗ var 5) (var 3 ⊗ var 2 ⊖ var 0 ⊗ var 5)
      (c then p then []) refl;
  begins = λ c p. identity ((minus (var 2) ⊗ var 3 ⊕ num (pos 0) ⊗ var 4) ⊕ var 0 ⊗ var 5) (var 0 ⊗ var 5 ⊖ var 3 ⊗ var 2)
      (c then p then []) refl;
  turned = λ c p. omega (arith, linear);
}

pub rise_steps : AreStepsBy rise (λ c. record { x = pos 0; y = c.w; w = neg_ℤ c.y }) (λ c. record { x = pos 0; y = neg_ℤ c.w; w = c.y })
unfolding rise
rise_steps = record {
  ends = λ c p. identity ((num (pos 0) ⊗ var 3 ⊕ var 2 ⊗ var 4) ⊕ minus (var 1) ⊗ var 5) (var 4 ⊗ var 2 ⊖ var 1 ⊗ var 5)
      (c then p then []) refl;
  begins = λ c p. identity ((num (pos 0) ⊗ var 3 ⊕ minus (var 2) ⊗ var 4) ⊕ var 1 ⊗ var 5) (var 1 ⊗ var 5 ⊖ var 4 ⊗ var 2)
      (c then p then []) refl;
  turned = λ c p. omega (arith, linear);
}

pub off_parted : (a b v : Point) → is_on_segment a b v ≡ false → AreParted a b v
off_parted a b v off = first
    (and_cases (int_eq (turn a b v) (pos 0)) (is_same_way (shift a v) (shift v b) && is_same_way (rise a v) (rise v b)) off)
  where
    second : (is_same_way (shift a v) (shift v b) ≡ false) ⊎ (is_same_way (rise a v) (rise v b) ≡ false) → AreParted a b v
    second (inl h) = step_parted shift_steps a b v
        (not_from_Decides (is_same_way (shift a v) (shift v b)) (Decides-is_same_way (shift a v) (shift v b)) h)
    second (inr h) = step_parted rise_steps a b v
        (not_from_Decides (is_same_way (rise a v) (rise v b)) (Decides-is_same_way (rise a v) (rise v b)) h)

    first : (int_eq (turn a b v) (pos 0) ≡ false) ⊎ ((is_same_way (shift a v) (shift v b) && is_same_way (rise a v) (rise v b)) ≡ false)
        → AreParted a b v
    first (inl h) = turn_parted a b v (not_from_Decides (int_eq (turn a b v) (pos 0)) (Decides-int_eq (turn a b v) (pos 0)) h)
    first (inr h) = second (and_cases (is_same_way (shift a v) (shift v b)) (is_same_way (rise a v) (rise v b)) h)
