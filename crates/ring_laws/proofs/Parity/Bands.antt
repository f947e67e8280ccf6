-- How the ray to the right of a point crosses an edge, where that point moves along a segment: the bands of height.
use Rattle.std.proofs.Common.{◌≡◌, ℤ, pos, neg_ℤ, ◌<ℤ◌, ◌≤ℤ◌, Bool, true, false, not, ◌&&◌, ap, refl, sym, ◌∙◌, arith}
use Rattle.std.specs.Prelude.{int_lt}
use Rattle.std.specs.Bool.{MatchBool}
use Rattle.whole_algebra.proofs.Laws.{linear}
use Rattle.point_set.specs.Rings.{crosses_from, differ}
use Rattle.ring_laws.proofs.Parity.Tests.{tells_lt, same_tests, differ_none, differ_self}
use Rattle.ring_laws.proofs.Parity.Cases.{Heights, AreWeights, mirrored, low_high, low_high', low_mid, low_mid', mid_high, mid_high'}
use Rattle.ring_laws.proofs.Parity.Cases.{mid_mid}

-- a point is beside the segment from p to q: higher than p, at most as high as q, and with a turn that says strictly right of the segment
abbrev pub beside_by : Bool → Bool → ℤ → Bool
beside_by low_p low_q s = not low_p && (low_q && int_lt s (pos 0))

-- the edge turned round crosses the same rays
pub crosses_from_swap : (l m : Bool) (t : ℤ) → crosses_from l m (neg_ℤ t) ≡ crosses_from m l t
crosses_from_swap true true t = refl
crosses_from_swap true false t = same_tests (int_lt (pos 0) (neg_ℤ t)) (int_lt t (pos 0)) (tells_lt (pos 0) (neg_ℤ t))
    (tells_lt t (pos 0)) (λ h k. omega (arith, linear, h, k)) (λ h k. omega (arith, linear, h, k))
crosses_from_swap false true t = same_tests (int_lt (neg_ℤ t) (pos 0)) (int_lt (pos 0) t) (tells_lt (neg_ℤ t) (pos 0))
    (tells_lt (pos 0) t) (λ h k. omega (arith, linear, h, k)) (λ h k. omega (arith, linear, h, k))
crosses_from_swap false false t = refl

-- ---- each pair of bands
-- no common point of the edge and the segment has the turns as weights, in either order
pub record NoWeights (sa sb tp tq : ℤ) : Type 0 where
  pub one : ¬ AreWeights sa sb tp tq
  pub other : ¬ AreWeights sb sa tq tp

turned : {x y z w : ℤ} → AreWeights x y (neg_ℤ z) (neg_ℤ w) → AreWeights x y w z
turned {x} {y} {z} {w} a = record {
  first = a.first;
  second = a.second;
  third = omega (arith, linear, a.fourth);
  fourth = omega (arith, linear, a.third);
  some = omega (arith, linear, a.some);
}

mirrored_none : {sa sb tp tq : ℤ} → NoWeights sa sb tp tq → NoWeights sb sa (neg_ℤ tp) (neg_ℤ tq)
mirrored_none n = record { one = λ a. n.other (turned a); other = λ a. n.one (turned a) }

by_low_high : {pa pb qa qb h ab sa sb tp tq : ℤ} → Heights pa pb qa qb h ab sa sb tp tq → NoWeights sa sb tp tq → pa ≤ℤ pos 0
    → pos 0 <ℤ pb → qa ≤ℤ pos 0 → pos 0 <ℤ qb → int_lt (pos 0) tp ≡ int_lt (pos 0) tq
by_low_high {tp = tp} {tq = tq} e n ha hb ka kb =
    same_tests (int_lt (pos 0) tp) (int_lt (pos 0) tq) (tells_lt (pos 0) tp) (tells_lt (pos 0) tq)
    (λ p q. n.one (low_high e ha hb ka kb p q)) (λ p q. n.other (low_high' e ha hb ka kb p q))

by_low_mid : {pa pb qa qb h ab sa sb tp tq : ℤ} → Heights pa pb qa qb h ab sa sb tp tq → NoWeights sa sb tp tq → pa ≤ℤ pos 0 → pos 0 <ℤ pb
    → qa ≤ℤ pos 0 → qb ≤ℤ pos 0 → int_lt (pos 0) tp ≡ int_lt sb (pos 0)
by_low_mid {sb = sb} {tp = tp} e n ha hb ka kb =
    same_tests (int_lt (pos 0) tp) (int_lt sb (pos 0)) (tells_lt (pos 0) tp) (tells_lt sb (pos 0))
    (λ p s. n.one (low_mid e ha hb ka kb p s)) (λ p s. n.other (low_mid' e ha hb ka kb p s))

by_mid_high : {pa pb qa qb h ab sa sb tp tq : ℤ} → Heights pa pb qa qb h ab sa sb tp tq → NoWeights sa sb tp tq → pos 0 <ℤ pa
    → pos 0 <ℤ pb → qa ≤ℤ pos 0 → pos 0 <ℤ qb → int_lt (pos 0) tq ≡ int_lt sa (pos 0)
by_mid_high {sa = sa} {tq = tq} e n ha hb ka kb =
    same_tests (int_lt (pos 0) tq) (int_lt sa (pos 0)) (tells_lt (pos 0) tq) (tells_lt sa (pos 0))
    (λ q s. n.other (mid_high e ha hb ka kb q s)) (λ q s. n.one (mid_high' e ha hb ka kb q s))

by_mid_mid : {pa pb qa qb h ab sa sb tp tq : ℤ} → Heights pa pb qa qb h ab sa sb tp tq → NoWeights sa sb tp tq → pos 0 <ℤ pa → pos 0 <ℤ pb
    → qa ≤ℤ pos 0 → qb ≤ℤ pos 0 → int_lt sa (pos 0) ≡ int_lt sb (pos 0)
by_mid_mid {sa = sa} {sb = sb} e n ha hb ka kb =
    same_tests (int_lt sa (pos 0)) (int_lt sb (pos 0)) (tells_lt sa (pos 0)) (tells_lt sb (pos 0))
    (λ r s. n.one (mid_mid e ha hb ka kb r s)) (λ r s. n.other (turned (mid_mid (mirrored e) hb ha kb ka s r)))

-- ---- all pairs: la and lb say whether a and b are at most as high as p, ma and mb whether they are at most as high as q
both_none : (b c : Bool) → b ≡ c → false ≡ differ b (differ c false)
both_none b c e = sym (ap (λ z. differ z (differ c false)) e ∙ ap (differ c) (differ_none c) ∙ differ_self c)

abbrev pub Low : Bool → ℤ → Type 0
Low b z = MatchBool b (z ≤ℤ pos 0) (pos 0 <ℤ z)

swap_tests : (b c : Bool) (tp tq : ℤ) → crosses_from b c (neg_ℤ tp) ≡ crosses_from b c (neg_ℤ tq)
    → crosses_from c b tp ≡ crosses_from c b tq
swap_tests b c tp tq e = sym (crosses_from_swap b c tp) ∙ e ∙ crosses_from_swap b c tq

pub by_bands : {pa pb qa qb h ab sa sb tp tq : ℤ} (la ma lb mb : Bool) → Low la pa → Low ma qa → Low lb pb → Low mb qb
    → (pa ≤ℤ pos 0 → pos 0 <ℤ qa → ⊥) → (pb ≤ℤ pos 0 → pos 0 <ℤ qb → ⊥) → Heights pa pb qa qb h ab sa sb tp tq → NoWeights sa sb tp tq
    → crosses_from la lb tp ≡ differ (crosses_from ma mb tq) (differ (beside_by la ma sa) (beside_by lb mb sb))
by_bands true false lb mb ha ka hb kb ca cb e n = absurd (ca ha ka)
by_bands la ma true false ha ka hb kb ca cb e n = absurd (cb hb kb)
by_bands true true true true ha ka hb kb ca cb e n = refl
by_bands {tp = tp} {tq = tq} true true false false ha ka hb kb ca cb e n = by_low_high e n ha hb ka kb
    ∙ sym (differ_none (int_lt (pos 0) tq))
by_bands true true false true ha ka hb kb ca cb e n = by_low_mid e n ha hb ka kb
by_bands {sa = sa} {sb = sb} false true false true ha ka hb kb ca cb e n =
    sym (ap (λ z. differ z (int_lt sb (pos 0))) (by_mid_mid e n ha hb ka kb) ∙ differ_self (int_lt sb (pos 0)))
by_bands {sa = sa} {tq = tq} false true false false ha ka hb kb ca cb e n =
    both_none (int_lt (pos 0) tq) (int_lt sa (pos 0)) (by_mid_high e n ha hb ka kb)
by_bands {sa = sa} {tp = tp} false true true true ha ka hb kb ca cb e n = sym (crosses_from_swap true false tp)
    ∙ by_low_mid (mirrored e) (mirrored_none n) hb ha kb ka ∙ sym (differ_none (int_lt sa (pos 0)))
by_bands false false false false ha ka hb kb ca cb e n = refl
by_bands {tp = tp} {tq = tq} false false true true ha ka hb kb ca cb e n =
    swap_tests true false tp tq (by_low_high (mirrored e) (mirrored_none n) hb ha kb ka) ∙ sym (differ_none (int_lt tq (pos 0)))
by_bands {sb = sb} {tq = tq} false false false true ha ka hb kb ca cb e n =
    sym (ap (λ z. differ z (int_lt sb (pos 0)))
    (sym (crosses_from_swap true false tq) ∙ by_mid_high (mirrored e) (mirrored_none n) hb ha kb ka) ∙ differ_self (int_lt sb (pos 0)))
