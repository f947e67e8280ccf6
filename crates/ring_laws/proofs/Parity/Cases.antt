-- How the ray to the right of a point crosses an edge, where that point moves along a segment: what the heights of the edge's
-- ends above the segment's ends tell of the turns. The segment goes from p to q and isn't falling, the edge from a to b. Here
-- pa, pb, qa, qb are the heights of a and b above p and q, h that of q above p and ab that of b above a; sa and sb are the
-- turns of p, q with a and b, and tp and tq those of a, b with p and q.
use Rattle.std.proofs.Common.{◌≡◌, ℤ, pos, ◌+ℤ◌, ◌-ℤ◌, ◌*ℤ◌, neg_ℤ, ◌<ℤ◌, ◌≤ℤ◌, [], ◌∷◌, refl, sym, arith}
use Rattle.std.proofs.lemmas.Int.{by_lt_z}
use lib.IntN.{*ℤ_comm}
use lib.Signed.{<ℤ_irrefl, <ℤ-≤ℤ_trans}
use Rattle.whole_algebra.proofs.Laws.{linear}
use Rattle.whole_algebra.proofs.Polynomials.{var, ◌⊖◌, ◌⊗◌, minus}
use Rattle.whole_algebra.proofs.Certificates.{same, same_from}
use Rattle.whole_algebra.proofs.Signs.{nonpos_factor, nonneg_factor, nonneg-*-nonneg, nonneg-*-nonpos, nonpos-*-nonneg, nonpos-*-nonpos}
use Rattle.whole_algebra.proofs.Signs.{pos-*-pos, neg-*-pos, <ℤ_weaken, ≤ℤ-<ℤ_trans}

pub record Heights (pa pb qa qb h ab sa sb tp tq : ℤ) : Type 0 where
  pub level : pos 0 ≤ℤ h
  pub of_p : tp *ℤ h ≡ (sb *ℤ pa) -ℤ (sa *ℤ pb)
  pub of_q : tq *ℤ h ≡ (sb *ℤ qa) -ℤ (sa *ℤ qb)
  pub of_a : sa *ℤ ab ≡ (tp *ℤ qa) -ℤ (tq *ℤ pa)
  pub of_b : sb *ℤ ab ≡ (tp *ℤ qb) -ℤ (tq *ℤ pb)
  pub rising_a : pos 0 <ℤ pa → qa ≤ℤ pos 0 → pos 0 <ℤ h
  pub rising_b : pos 0 <ℤ pb → qb ≤ℤ pos 0 → pos 0 <ℤ h
  pub rising_ab : pa ≤ℤ pos 0 → pos 0 <ℤ pb → pos 0 <ℤ ab
  pub falling_ab : pb ≤ℤ pos 0 → pos 0 <ℤ pa → ab <ℤ pos 0

-- the turns are weights of a common point of the edge and the segment
pub record AreWeights (sa sb tp tq : ℤ) : Type 0 where
  pub first : sa ≤ℤ pos 0
  pub second : pos 0 ≤ℤ sb
  pub third : pos 0 ≤ℤ tp
  pub fourth : tq ≤ℤ pos 0
  pub some : pos 0 <ℤ ((sb -ℤ sa) +ℤ (tp -ℤ tq))

-- the edge turned round
mirror_one : (t h s x u y : ℤ) → t *ℤ h ≡ (s *ℤ x) -ℤ (u *ℤ y) → neg_ℤ t *ℤ h ≡ (u *ℤ y) -ℤ (s *ℤ x)
mirror_one t h s x u y e =
    let vs = t ∷ h ∷ s ∷ x ∷ u ∷ y ∷ [] in
    same_from (minus (var 0) ⊗ var 1) (var 4 ⊗ var 5 ⊖ var 2 ⊗ var 3) vs
    (same (var 2 ⊗ var 3 ⊖ var 4 ⊗ var 5) (var 0 ⊗ var 1) (sym e)) refl

mirror_two : (s k t x u y : ℤ) → s *ℤ k ≡ (t *ℤ x) -ℤ (u *ℤ y) → s *ℤ neg_ℤ k ≡ (neg_ℤ t *ℤ x) -ℤ (neg_ℤ u *ℤ y)
mirror_two s k t x u y e =
    let vs = s ∷ k ∷ t ∷ x ∷ u ∷ y ∷ [] in
    same_from (var 0 ⊗ minus (var 1)) (minus (var 2) ⊗ var 3 ⊖ minus (var 4) ⊗ var 5) vs
    (same (var 2 ⊗ var 3 ⊖ var 4 ⊗ var 5) (var 0 ⊗ var 1) (sym e)) refl

negated : (z : ℤ) → z <ℤ pos 0 → pos 0 <ℤ neg_ℤ z
negated z h = omega (arith, linear, h)

negated' : (z : ℤ) → pos 0 <ℤ z → neg_ℤ z <ℤ pos 0
negated' z h = omega (arith, linear, h)

pub mirrored : {pa pb qa qb h ab sa sb tp tq : ℤ} → Heights pa pb qa qb h ab sa sb tp tq
    → Heights pb pa qb qa h (neg_ℤ ab) sb sa (neg_ℤ tp) (neg_ℤ tq)
mirrored {pa} {pb} {qa} {qb} {h} {ab} {sa} {sb} {tp} {tq} e = record {
  level = e.level;
  of_p = mirror_one tp h sb pa sa pb e.of_p;
  of_q = mirror_one tq h sb qa sa qb e.of_q;
  of_a = mirror_two sb ab tp qb tq pb e.of_b;
  of_b = mirror_two sa ab tp qa tq pa e.of_a;
  rising_a = e.rising_b;
  rising_b = e.rising_a;
  rising_ab = λ k l. negated ab (e.falling_ab k l);
  falling_ab = λ k l. negated' ab (e.rising_ab k l);
}

-- ---- the sign of one factor, from an equation between products
falls : (s k x y : ℤ) → s *ℤ k ≡ x -ℤ y → pos 0 <ℤ k → x ≤ℤ pos 0 → pos 0 ≤ℤ y → s ≤ℤ pos 0
falls s k x y e hk hx hy = nonpos_factor k s hk (omega (arith, linear, e, hx, hy, *ℤ_comm k s))

climbs : (s k x y : ℤ) → s *ℤ k ≡ x -ℤ y → pos 0 <ℤ k → pos 0 ≤ℤ x → y ≤ℤ pos 0 → pos 0 ≤ℤ s
climbs s k x y e hk hx hy = nonneg_factor k s hk (omega (arith, linear, e, hx, hy, *ℤ_comm k s))

-- the same equation, for its last product
exchanged : (a b c d e f : ℤ) → a *ℤ b ≡ (c *ℤ d) -ℤ (e *ℤ f) → e *ℤ f ≡ (c *ℤ d) -ℤ (a *ℤ b)
exchanged a b c d e f h = omega (arith, linear, h)

-- a factor of a product that is positive, or negative, where the other factor is at most 0
falls' : (s k : ℤ) → pos 0 <ℤ (s *ℤ k) → k ≤ℤ pos 0 → s ≤ℤ pos 0
falls' s k h hk = by_lt_z (pos 0) s (λ d. absurd (<ℤ_irrefl (<ℤ-≤ℤ_trans h (nonneg-*-nonpos (<ℤ_weaken d) hk)))) (λ d. d)

climbs' : (s k : ℤ) → (s *ℤ k) <ℤ pos 0 → k ≤ℤ pos 0 → pos 0 ≤ℤ s
climbs' s k h hk = by_lt_z s (pos 0) (λ d. absurd (<ℤ_irrefl (≤ℤ-<ℤ_trans (nonpos-*-nonpos (<ℤ_weaken d) hk) h))) (λ d. d)

-- ---- the impossible cases, by the bands of height: low is at most as high as p, mid is higher than p and at most as high as
-- q, high is higher than q
pub low_high : {pa pb qa qb h ab sa sb tp tq : ℤ} → Heights pa pb qa qb h ab sa sb tp tq → pa ≤ℤ pos 0 → pos 0 <ℤ pb → qa ≤ℤ pos 0
    → pos 0 <ℤ qb → pos 0 <ℤ tp → tq ≤ℤ pos 0 → AreWeights sa sb tp tq
low_high {pa} {pb} {qa} {qb} {h} {ab} {sa} {sb} {tp} {tq} e ha hb ka kb p q =
    let f : sa ≤ℤ pos 0 = falls sa ab (tp *ℤ qa) (tq *ℤ pa) e.of_a (e.rising_ab ha hb) (nonneg-*-nonpos (<ℤ_weaken p) ka)
    (nonpos-*-nonpos q ha) in
    let g : pos 0 ≤ℤ sb = climbs sb ab (tp *ℤ qb) (tq *ℤ pb) e.of_b (e.rising_ab ha hb) (nonneg-*-nonneg (<ℤ_weaken p) (<ℤ_weaken kb))
    (nonpos-*-nonneg q (<ℤ_weaken hb)) in
    record { first = f; second = g; third = <ℤ_weaken p; fourth = q; some = omega (arith, linear, f, g, p, q) }

pub low_high' : {pa pb qa qb h ab sa sb tp tq : ℤ} → Heights pa pb qa qb h ab sa sb tp tq → pa ≤ℤ pos 0 → pos 0 <ℤ pb → qa ≤ℤ pos 0
    → pos 0 <ℤ qb → tp ≤ℤ pos 0 → pos 0 <ℤ tq → AreWeights sb sa tq tp
low_high' {pa} {pb} {qa} {qb} {h} {ab} {sa} {sb} {tp} {tq} e ha hb ka kb p q =
    let f : sb ≤ℤ pos 0 = falls sb ab (tp *ℤ qb) (tq *ℤ pb) e.of_b (e.rising_ab ha hb) (nonpos-*-nonneg p (<ℤ_weaken kb))
    (nonneg-*-nonneg (<ℤ_weaken q) (<ℤ_weaken hb)) in
    let g : pos 0 ≤ℤ sa = climbs sa ab (tp *ℤ qa) (tq *ℤ pa) e.of_a (e.rising_ab ha hb) (nonpos-*-nonpos p ka)
    (nonneg-*-nonpos (<ℤ_weaken q) ha) in
    record { first = f; second = g; third = <ℤ_weaken q; fourth = p; some = omega (arith, linear, f, g, p, q) }

pub low_mid : {pa pb qa qb h ab sa sb tp tq : ℤ} → Heights pa pb qa qb h ab sa sb tp tq → pa ≤ℤ pos 0 → pos 0 <ℤ pb → qa ≤ℤ pos 0
    → qb ≤ℤ pos 0 → pos 0 <ℤ tp → pos 0 ≤ℤ sb → AreWeights sa sb tp tq
low_mid {pa} {pb} {qa} {qb} {h} {ab} {sa} {sb} {tp} {tq} e ha hb ka kb p s =
    let f : sa ≤ℤ pos 0 = falls sa pb (sb *ℤ pa) (tp *ℤ h) (exchanged tp h sb pa sa pb e.of_p) hb (nonneg-*-nonpos s ha)
    (nonneg-*-nonneg (<ℤ_weaken p) e.level) in
    let g : tq ≤ℤ pos 0 = falls tq h (sb *ℤ qa) (sa *ℤ qb) e.of_q (e.rising_b hb kb) (nonneg-*-nonpos s ka) (nonpos-*-nonpos f kb) in
    record { first = f; second = s; third = <ℤ_weaken p; fourth = g; some = omega (arith, linear, f, g, p, s) }

pub low_mid' : {pa pb qa qb h ab sa sb tp tq : ℤ} → Heights pa pb qa qb h ab sa sb tp tq → pa ≤ℤ pos 0 → pos 0 <ℤ pb → qa ≤ℤ pos 0
    → qb ≤ℤ pos 0 → tp ≤ℤ pos 0 → sb <ℤ pos 0 → AreWeights sb sa tq tp
low_mid' {pa} {pb} {qa} {qb} {h} {ab} {sa} {sb} {tp} {tq} e ha hb ka kb p s =
    let f : pos 0 ≤ℤ sa = climbs sa pb (sb *ℤ pa) (tp *ℤ h) (exchanged tp h sb pa sa pb e.of_p) hb (nonpos-*-nonpos (<ℤ_weaken s) ha)
    (nonpos-*-nonneg p e.level) in
    let g : pos 0 ≤ℤ tq = climbs tq h (sb *ℤ qa) (sa *ℤ qb) e.of_q (e.rising_b hb kb) (nonpos-*-nonpos (<ℤ_weaken s) ka)
    (nonneg-*-nonpos f kb) in
    record { first = <ℤ_weaken s; second = f; third = g; fourth = p; some = omega (arith, linear, f, g, p, s) }

pub mid_high : {pa pb qa qb h ab sa sb tp tq : ℤ} → Heights pa pb qa qb h ab sa sb tp tq → pos 0 <ℤ pa → pos 0 <ℤ pb → qa ≤ℤ pos 0
    → pos 0 <ℤ qb → pos 0 <ℤ tq → pos 0 ≤ℤ sa → AreWeights sb sa tq tp
mid_high {pa} {pb} {qa} {qb} {h} {ab} {sa} {sb} {tp} {tq} e ha hb ka kb q s =
    let i : pos 0 <ℤ (sb *ℤ qa) = omega (arith, linear, e.of_q, pos-*-pos q (e.rising_a ha ka), nonneg-*-nonneg s (<ℤ_weaken kb)) in
    let f : sb ≤ℤ pos 0 = falls' sb qa i ka in
    let g : tp ≤ℤ pos 0 = falls tp h (sb *ℤ pa) (sa *ℤ pb) e.of_p (e.rising_a ha ka) (nonpos-*-nonneg f (<ℤ_weaken ha))
    (nonneg-*-nonneg s (<ℤ_weaken hb)) in
    record { first = f; second = s; third = <ℤ_weaken q; fourth = g; some = omega (arith, linear, f, g, q, s) }

pub mid_high' : {pa pb qa qb h ab sa sb tp tq : ℤ} → Heights pa pb qa qb h ab sa sb tp tq → pos 0 <ℤ pa → pos 0 <ℤ pb → qa ≤ℤ pos 0
    → pos 0 <ℤ qb → tq ≤ℤ pos 0 → sa <ℤ pos 0 → AreWeights sa sb tp tq
mid_high' {pa} {pb} {qa} {qb} {h} {ab} {sa} {sb} {tp} {tq} e ha hb ka kb q s =
    let i : (sb *ℤ qa) <ℤ pos 0 = omega (arith, linear, e.of_q, nonpos-*-nonneg q e.level, neg-*-pos s kb) in
    let f : pos 0 ≤ℤ sb = climbs' sb qa i ka in
    let g : pos 0 ≤ℤ tp = climbs tp h (sb *ℤ pa) (sa *ℤ pb) e.of_p (e.rising_a ha ka) (nonneg-*-nonneg f (<ℤ_weaken ha))
    (nonpos-*-nonneg (<ℤ_weaken s) (<ℤ_weaken hb)) in
    record { first = <ℤ_weaken s; second = f; third = g; fourth = q; some = omega (arith, linear, f, g, q, s) }

pub mid_mid : {pa pb qa qb h ab sa sb tp tq : ℤ} → Heights pa pb qa qb h ab sa sb tp tq → pos 0 <ℤ pa → pos 0 <ℤ pb → qa ≤ℤ pos 0
    → qb ≤ℤ pos 0 → sa <ℤ pos 0 → pos 0 ≤ℤ sb → AreWeights sa sb tp tq
mid_mid {pa} {pb} {qa} {qb} {h} {ab} {sa} {sb} {tp} {tq} e ha hb ka kb r s =
    let f : pos 0 ≤ℤ tp = climbs tp h (sb *ℤ pa) (sa *ℤ pb) e.of_p (e.rising_a ha ka) (nonneg-*-nonneg s (<ℤ_weaken ha))
    (nonpos-*-nonneg (<ℤ_weaken r) (<ℤ_weaken hb)) in
    let g : tq ≤ℤ pos 0 = falls tq h (sb *ℤ qa) (sa *ℤ qb) e.of_q (e.rising_a ha ka) (nonneg-*-nonpos s ka)
    (nonpos-*-nonpos (<ℤ_weaken r) kb) in
    record { first = <ℤ_weaken r; second = s; third = f; fourth = g; some = omega (arith, linear, f, g, r, s) }
