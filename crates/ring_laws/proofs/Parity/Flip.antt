-- Across an edge: where the segment from p to q cuts the edge from a to b, away from all four ends, the ray of p crosses the
-- edge once more or once less than that of q, but for the ends beside the segment.
use Rattle.std.proofs.Common.{◌≡◌, ℤ, pos, ◌+ℤ◌, ◌-ℤ◌, ◌*ℤ◌, neg_ℤ, ◌<ℤ◌, ◌≤ℤ◌, Bool, true, false, not, ◌&&◌, [], ◌∷◌, ap, refl, sym, ◌∙◌}
use Rattle.std.proofs.Common.{subst, arith}
use Rattle.std.specs.Prelude.{int_lt}
use Rattle.std.proofs.lemmas.Int.{by_lt_z}
use Rattle.std.specs.Bool.{MatchBool}
use Rattle.std.proofs.lemmas.Bool.Decides.{when_true, when_false}
use Rattle.std.proofs.Math.Bool.{not-not}
use lib.IntN.{*ℤ-zero}
use lib.Signed.{<ℤ_irrefl, <ℤ-≤ℤ_trans}
use Rattle.whole_algebra.proofs.Laws.{linear}
use Rattle.whole_algebra.proofs.Polynomials.{var, ◌⊕◌, ◌⊖◌, ◌⊗◌, identity}
use Rattle.whole_algebra.proofs.Certificates.{same, same_from, scaled, ◌⊞◌}
use Rattle.whole_algebra.proofs.Signs.{zero_factor, nonpos_factor, pos_factor, pos_nonzero, <ℤ_apart, <ℤ_weaken, pos-*-pos, pos-*-neg}
use Rattle.whole_algebra.proofs.Signs.{neg-*-pos, nonneg-*-nonneg, nonneg-*-nonpos, nonpos-*-nonneg, nonpos-*-nonpos}
use Rattle.plane_laws.proofs.Turns.Turns.{point_at, turn_poly, ◌then◌, turn_swap}
use Rattle.plane_laws.proofs.Segments.On.{mix_turn}
use Rattle.plane_laws.specs.Plane.{Point, IsMix, IsOnSegment, IsStrictlyBetween, turn, rise, shift}
use Rattle.point_set.specs.Rings.{is_low, crosses_from, differ}
use Rattle.ring_laws.proofs.Parity.Tests.{tells_lt, same_tests}
use Rattle.ring_laws.proofs.Parity.Cases.{Heights}
use Rattle.ring_laws.proofs.Parity.Bands.{beside_by}
use Rattle.ring_laws.proofs.Parity.OneEdge.{crosses_between, is_beside, heights, low_stays, tells_low, rise_p}

-- a number is positive, or it is negative
abbrev pub HasSign : Bool → ℤ → Type 0
HasSign s z = MatchBool s (pos 0 <ℤ z) (z <ℤ pos 0)

pub signed_nonzero : (s : Bool) (z : ℤ) → HasSign s z → ¬ (z ≡ pos 0)
signed_nonzero true z h = pos_nonzero h
signed_nonzero false z h = <ℤ_apart h

-- the segment from p to q cuts the edge from a to b: each has its ends strictly on two sides of the other. The sign tells the side of p
pub record IsCut (s : Bool) (a b p q : Point) : Type 0 where
  pub first : HasSign s (turn a b p)
  pub second : HasSign (not s) (turn a b q)
  pub third : HasSign (not s) (turn p q a)
  pub fourth : HasSign s (turn p q b)

-- ---- the tests, by that sign
abbrev pub crossing_of : Bool → Bool → Bool → Bool
crossing_of true true s = false
crossing_of true false s = s
crossing_of false true s = not s
crossing_of false false s = false

pub clash_lt : {z : ℤ} → z <ℤ pos 0 → pos 0 <ℤ z → ⊥
clash_lt {z} h k = omega (arith, linear, h, k)

pub test_pos : (s : Bool) (z : ℤ) → HasSign s z → int_lt (pos 0) z ≡ s
test_pos s z h = same_tests (int_lt (pos 0) z) s (tells_lt (pos 0) z) h (λ l k. clash_lt k l) (λ l k. <ℤ_irrefl (<ℤ-≤ℤ_trans k l))

test_neg : (s : Bool) (z : ℤ) → HasSign s z → int_lt z (pos 0) ≡ not s
test_neg true z h = same_tests (int_lt z (pos 0)) false {R = ⊥} (tells_lt z (pos 0)) h (λ l k. clash_lt l k) (λ l k. k)
test_neg false z h = same_tests (int_lt z (pos 0)) true {S = ⊥} (tells_lt z (pos 0)) h (λ l k. k) (λ l k. <ℤ_irrefl (<ℤ-≤ℤ_trans k l))

pub crosses_by_sign : (l m s : Bool) (t : ℤ) → HasSign s t → crosses_from l m t ≡ crossing_of l m s
crosses_by_sign true true s t h = refl
crosses_by_sign true false s t h = test_pos s t h
crosses_by_sign false true s t h = test_neg s t h
crosses_by_sign false false s t h = refl

-- a point on the edge's line isn't counted
pub crosses_none : (l m : Bool) (t : ℤ) → t ≡ pos 0 → crosses_from l m t ≡ false
crosses_none l m t h = ap (crosses_from l m) h ∙ none l m
  where
    none : (l m : Bool) → crosses_from l m (pos 0) ≡ false
    none true true = refl
    none true false = refl
    none false true = refl
    none false false = refl

beside_by_sign : (l m s : Bool) (t : ℤ) → HasSign s t → beside_by l m t ≡ (not l && (m && not s))
beside_by_sign l m s t h = ap (λ z. not l && (m && z)) (test_neg s t h)

flip_tests : (la ma lb mb s : Bool) → (la ≡ true → ma ≡ false → ⊥) → (lb ≡ true → mb ≡ false → ⊥) → (la ≡ true → lb ≡ true → ⊥)
    → (ma ≡ false → mb ≡ false → ⊥) → crossing_of la lb s ≡ not
    (differ (crossing_of ma mb (not s)) (differ (not la && (ma && s)) (not lb && (mb && not s))))
flip_tests true false lb mb s f g h k = absurd (f refl refl)
flip_tests la ma true false s f g h k = absurd (g refl refl)
flip_tests true true true true s f g h k = absurd (h refl refl)
flip_tests false false false false s f g h k = absurd (k refl refl)
flip_tests true true false true true f g h k = refl
flip_tests true true false true false f g h k = refl
flip_tests true true false false true f g h k = refl
flip_tests true true false false false f g h k = refl
flip_tests false true true true true f g h k = refl
flip_tests false true true true false f g h k = refl
flip_tests false true false true true f g h k = refl
flip_tests false true false true false f g h k = refl
flip_tests false true false false true f g h k = refl
flip_tests false true false false false f g h k = refl
flip_tests false false true true true f g h k = refl
flip_tests false false true true false f g h k = refl
flip_tests false false false true true f g h k = refl
flip_tests false false false true false f g h k = refl

-- ---- no cut where both ends are at most as high as p, or both higher than q
pub turn_by_heights : (a b p : Point) → p.w *ℤ turn a b p ≡ (shift p a *ℤ rise p b) -ℤ (shift p b *ℤ rise p a)
unfolding turn rise shift
turn_by_heights a b p =
    let pa = point_at 0 in
    let pb = point_at 3 in
    let pp = point_at 6 in
    identity (pp.w ⊗ turn_poly pa pb pp)
    ((pa.x ⊗ pp.w ⊖ pp.x ⊗ pa.w) ⊗ rise_p pp pb ⊖ (pb.x ⊗ pp.w ⊖ pp.x ⊗ pb.w) ⊗ rise_p pp pa) (a then b then p then []) refl

level_turn : (a b p : Point) → rise p a ≡ pos 0 → rise p b ≡ pos 0 → turn a b p ≡ pos 0
level_turn a b p h k =
    zero_factor p.w (turn a b p) (pos_nonzero p.heavy)
    (omega (
      arith,
      linear,
      turn_by_heights a b p,
      ap (λ z. shift p a *ℤ z) k,
      ap (λ z. shift p b *ℤ z) h,
      *ℤ-zero (shift p a),
      *ℤ-zero
          (shift p b),
    ))

both_low_signs : {pa pb qa qb h ab sa sb tp tq : ℤ} → Heights pa pb qa qb h ab sa sb tp tq → pos 0 <ℤ tp → pos 0 <ℤ sb → sa <ℤ pos 0
    → pa ≤ℤ pos 0 → pb ≤ℤ pos 0 → (pa ≡ pos 0) × (pb ≡ pos 0)
both_low_signs {pa} {pb} {qa} {qb} {h} {ab} {sa} {sb} {tp} {tq} e ht hb hs la lb =
    let up : pos 0 ≤ℤ (tp *ℤ h) = nonneg-*-nonneg (<ℤ_weaken ht) e.level in
    let x : (sb *ℤ pa) ≤ℤ pos 0 = nonneg-*-nonpos (<ℤ_weaken hb) la in
    let y : pos 0 ≤ℤ (sa *ℤ pb) = nonpos-*-nonpos (<ℤ_weaken hs) lb in (
      zero_factor sb pa (pos_nonzero hb) (omega (arith, linear, up, x, y, e.of_p)),
      zero_factor sa pb (<ℤ_apart hs) (omega (arith, linear, up, x, y, e.of_p)),
    )

both_low : (a b p q : Point) → pos 0 ≤ℤ rise p q → IsCut true a b p q → rise p a ≤ℤ pos 0 → rise p b ≤ℤ pos 0 → ⊥
both_low a b p q level cut la lb =
    let zero = both_low_signs (heights a b p q level) cut.first cut.fourth cut.third la lb in
    pos_nonzero cut.first (level_turn a b p zero.0 zero.1)

both_high_signs : {pa pb qa qb h ab sa sb tp tq : ℤ} → Heights pa pb qa qb h ab sa sb tp tq → tq <ℤ pos 0 → pos 0 <ℤ sb → sa <ℤ pos 0
    → pos 0 <ℤ qa → pos 0 <ℤ qb → ⊥
both_high_signs {pa} {pb} {qa} {qb} {h} {ab} {sa} {sb} {tp} {tq} e ht hb hs la lb =
    omega (arith, linear, nonpos-*-nonneg (<ℤ_weaken ht) e.level, pos-*-pos hb la, neg-*-pos hs lb, e.of_q)

both_high : (a b p q : Point) → pos 0 ≤ℤ rise p q → IsCut true a b p q → pos 0 <ℤ rise q a → pos 0 <ℤ rise q b → ⊥
both_high a b p q level cut la lb = both_high_signs (heights a b p q level) cut.second cut.fourth cut.third la lb

-- the edge turned round
turned_pos : (s : Bool) (x y : ℤ) → y ≡ neg_ℤ x → HasSign s x → HasSign (not s) y
turned_pos true x y e h = omega (arith, linear, e, h)
turned_pos false x y e h = omega (arith, linear, e, h)

pub turned_cut : (s : Bool) {a b p q : Point} → IsCut s a b p q → IsCut (not s) b a p q
turned_cut s {a} {b} {p} {q} cut = record {
  first = turned_pos s (turn a b p) (turn b a p) (turn_swap a b p) cut.first;
  second = turned_pos (not s) (turn a b q) (turn b a q) (turn_swap a b q) cut.second;
  third = subst (λ z. HasSign z (turn p q b)) (sym (not-not s)) cut.fourth;
  fourth = cut.third;
}

none_low : (s : Bool) (a b p q : Point) → pos 0 ≤ℤ rise p q → IsCut s a b p q → rise p a ≤ℤ pos 0 → rise p b ≤ℤ pos 0 → ⊥
none_low true a b p q level cut la lb = both_low a b p q level cut la lb
none_low false a b p q level cut la lb = both_low b a p q level (turned_cut false cut) lb la

none_high : (s : Bool) (a b p q : Point) → pos 0 ≤ℤ rise p q → IsCut s a b p q → pos 0 <ℤ rise q a → pos 0 <ℤ rise q b → ⊥
none_high true a b p q level cut la lb = both_high a b p q level cut la lb
none_high false a b p q level cut la lb = both_high b a p q level (turned_cut false cut) lb la

-- ---- the ray of p crosses a cut edge where that of q doesn't, but for the ends beside the segment
pub flip : (s : Bool) (a b p q : Point) → pos 0 ≤ℤ rise p q → IsCut s a b p q
    → crosses_between p a b ≡ not (differ (crosses_between q a b) (differ (is_beside p q a) (is_beside p q b)))
flip s a b p q level cut =
    crosses_by_sign (is_low p a) (is_low p b) s (turn a b p) cut.first
    ∙ flip_tests (is_low p a) (is_low q a) (is_low p b) (is_low q b) s
    (λ h k. low_stays p q a level (below p a h) (over q a k)) (λ h k. low_stays p q b level (below p b h) (over q b k))
    (λ h k. none_low s a b p q level cut (below p a h) (below p b k)) (λ h k. none_high s a b p q level cut (over q a h) (over q b k))
    ∙ (λ i. not (differ (crosses_q i) (differ (beside_a i) (beside_b i))))
  where
    below : (v w : Point) → is_low v w ≡ true → rise v w ≤ℤ pos 0
    below v w h = when_true (rise v w ≤ℤ pos 0) (pos 0 <ℤ rise v w) h (tells_low v w)

    over : (v w : Point) → is_low v w ≡ false → pos 0 <ℤ rise v w
    over v w h = when_false (rise v w ≤ℤ pos 0) (pos 0 <ℤ rise v w) h (tells_low v w)

    crosses_q : crossing_of (is_low q a) (is_low q b) (not s) ≡ crosses_between q a b
    crosses_q = sym (crosses_by_sign (is_low q a) (is_low q b) (not s) (turn a b q) cut.second)

    beside_a : (not (is_low p a) && (is_low q a && s)) ≡ is_beside p q a
    beside_a = sym (beside_by_sign (is_low p a) (is_low q a) (not s) (turn p q a) cut.third
        ∙ ap (λ z. not (is_low p a) && (is_low q a && z)) (not-not s))

    beside_b : (not (is_low p b) && (is_low q b && not s)) ≡ is_beside p q b
    beside_b = sym (beside_by_sign (is_low p b) (is_low q b) s (turn p q b) cut.fourth)

-- the segment turned round
pub swapped_cut : (s : Bool) {a b p q : Point} → IsCut s a b p q → IsCut (not s) a b q p
swapped_cut s {a} {b} {p} {q} cut = record {
  first = cut.second;
  second = subst (λ z. HasSign z (turn a b p)) (sym (not-not s)) cut.first;
  third = turned_pos (not s) (turn p q a) (turn q p a) (turn_swap p q a) cut.third;
  fourth = turned_pos s (turn p q b) (turn q p b) (turn_swap p q b) cut.fourth;
}

pub turned_rise : (p q : Point) → rise p q <ℤ pos 0 → pos 0 ≤ℤ rise q p
unfolding rise
turned_rise p q h = omega (arith, linear, h)

-- ---- a cut, from a common point
-- the turn with a mix is the same mix of the turns with its ends
pub turn_mix : (p q : Point) {a b m : Point} {s t : ℤ} (mix : IsMix a b m s t)
    → mix.times *ℤ turn p q m ≡ (s *ℤ turn p q a) +ℤ (t *ℤ turn p q b)
unfolding turn
turn_mix p q {a} {b} {m} {s} {t} mix =
    let pp = point_at 3 in
    let pq = point_at 6 in
    let pa = point_at 9 in
    let pb = point_at 12 in
    let pm = point_at 15 in
    same_from (var 0 ⊗ turn_poly pp pq pm) (var 1 ⊗ turn_poly pp pq pa ⊕ var 2 ⊗ turn_poly pp pq pb)
    (mix.times ∷ s ∷ t ∷ (p then q then a then b then m then []))
    (scaled (pp.y ⊗ pq.w ⊖ pp.w ⊗ pq.y) (same (var 0 ⊗ pm.x) (var 1 ⊗ pa.x ⊕ var 2 ⊗ pb.x) mix.across)
    ⊞ scaled (pp.w ⊗ pq.x ⊖ pp.x ⊗ pq.w) (same (var 0 ⊗ pm.y) (var 1 ⊗ pa.y ⊕ var 2 ⊗ pb.y) mix.above)
    ⊞ scaled (pp.x ⊗ pq.y ⊖ pp.y ⊗ pq.x) (same (var 0 ⊗ pm.w) (var 1 ⊗ pa.w ⊕ var 2 ⊗ pb.w) mix.mass))
    refl

-- the turns of the segment with the edge's ends, from those of the edge with the segment's
pub turn_weights : (a b p q : Point) → (turn p q b *ℤ a.w) -ℤ (turn p q a *ℤ b.w) ≡ (turn a b p *ℤ q.w) -ℤ (turn a b q *ℤ p.w)
unfolding turn
turn_weights a b p q =
    let pa = point_at 0 in
    let pb = point_at 3 in
    let pp = point_at 6 in
    let pq = point_at 9 in
    identity (turn_poly pp pq pb ⊗ pa.w ⊖ turn_poly pp pq pa ⊗ pb.w) (turn_poly pa pb pp ⊗ pq.w ⊖ turn_poly pa pb pq ⊗ pp.w)
    (a then b then p then q then []) refl

two_sides : (s t u v a b p q tp tq : ℤ) → pos 0 <ℤ s → pos 0 <ℤ t → (s *ℤ u) +ℤ (t *ℤ v) ≡ pos 0 → pos 0 <ℤ a → pos 0 <ℤ b → pos 0 <ℤ p
    → pos 0 <ℤ q → pos 0 <ℤ tp → tq <ℤ pos 0 → (v *ℤ a) -ℤ (u *ℤ b) ≡ (tp *ℤ q) -ℤ (tq *ℤ p) → (u <ℤ pos 0) × (pos 0 <ℤ v)
two_sides s t u v a b p q tp tq hs ht e ha hb hp hq hl hr k = (below, above)
  where
    below : u <ℤ pos 0
    below = by_lt_z u (pos 0) (λ h. h) (λ h. absurd (clash h
        (nonpos_factor t v ht (omega (arith, linear, e, nonneg-*-nonneg (<ℤ_weaken hs) h)))))
      where
        clash : pos 0 ≤ℤ u → v ≤ℤ pos 0 → ⊥
        clash h l = omega (
          arith,
          linear,
          k,
          nonpos-*-nonneg l (<ℤ_weaken ha),
          nonneg-*-nonneg h
              (<ℤ_weaken hb),
          pos-*-pos hl hq,
          neg-*-pos hr hp,
        )

    above : pos 0 <ℤ v
    above = pos_factor t v ht (omega (arith, linear, e, pos-*-neg hs below))

pub cut_from_meet : (a b p q m : Point) → pos 0 <ℤ turn a b p → turn a b q <ℤ pos 0 → IsStrictlyBetween a b m → IsOnSegment p q m
    → IsCut true a b p q
cut_from_meet a b p q m left right between on = record { first = left; second = right; third = sides.0; fourth = sides.1 }
  where
    sides : (turn p q a <ℤ pos 0) × (pos 0 <ℤ turn p q b)
    sides = two_sides between.s between.t (turn p q a) (turn p q b) a.w b.w p.w q.w (turn a b p)
        (turn a b q) between.some_first between.some_second
        (sym (turn_mix p q between.mix) ∙ ap (λ z. between.mix.times *ℤ z) (mix_turn on.mix) ∙ *ℤ-zero between.mix.times)
        a.heavy b.heavy p.heavy q.heavy left right (turn_weights a b p q)
