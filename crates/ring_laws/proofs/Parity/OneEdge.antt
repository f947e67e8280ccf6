-- Crossing parity of one edge: where the segment from p to q meets the edge from a to b nowhere, the ray to the right of p
-- crosses the edge exactly as often as that of q, but for the ends that are beside the segment.
use Rattle.std.proofs.Common.{◌≡◌, ℤ, pos, ◌+ℤ◌, ◌-ℤ◌, ◌*ℤ◌, neg_ℤ, ◌<ℤ◌, ◌≤ℤ◌, Bool, true, false, [], ap, refl, ◌∙◌, ◌∷◌, arith}
use Rattle.std.specs.Bool.{MatchBool}
use Rattle.std.specs.Prelude.{int_le}
use lib.IntN.{*ℤ_comm}
use Rattle.whole_algebra.proofs.Laws.{linear, one-*ℤ, neg-*ℤ}
use Rattle.whole_algebra.proofs.Polynomials.{Poly, var, num, ◌⊕◌, ◌⊖◌, ◌⊗◌, minus, identity}
use Rattle.whole_algebra.proofs.Certificates.{natural, positive, at_most, same, less_by, whole, ◌⊞◌, ◌⊠◌}
use Rattle.whole_algebra.proofs.Signs.{pos_factor, neg_factor, <ℤ_weaken, pos-*-pos, nonpos-*-nonneg}
use Rattle.plane_laws.proofs.Segments.Mixes.{segment_flip, mix_of_sums}
use Rattle.plane_laws.proofs.Turns.Turns.{PolyPoint, point_at, turn_poly, ◌then◌, turn_swap}
use Rattle.plane_laws.specs.Plane.{Point, IsOnSegment, turn, rise}
use Rattle.point_set.specs.Rings.{is_low, crosses_from, differ}
use Rattle.ring_laws.proofs.Parity.Cases.{Heights, AreWeights}
use Rattle.ring_laws.proofs.Parity.Tests.{tells_le}
use Rattle.ring_laws.proofs.Parity.Bands.{NoWeights, Low, beside_by, by_bands, crosses_from_swap}

-- the segments from a to b and from p to q have no common point
pub record AreApart (a b p q : Point) : Type 0 where
  pub none : (m : Point) → IsOnSegment a b m → IsOnSegment p q m → ⊥

-- whether the ray to the right of p crosses the edge from a to b
abbrev pub crosses_between : Point → Point → Point → Bool
crosses_between p a b = crosses_from (is_low p a) (is_low p b) (turn a b p)

-- whether v is higher than p, at most as high as q, and strictly right of the line from p to q
abbrev pub is_beside : Point → Point → Point → Bool
is_beside p q v = beside_by (is_low p v) (is_low q v) (turn p q v)

-- ---- heights
abbrev pub rise_p : PolyPoint → PolyPoint → Poly
rise_p a b = b.y ⊗ a.w ⊖ a.y ⊗ b.w

-- four points as polynomials, and the turn of each with the two points of the other segment
abbrev pa : PolyPoint
pa = point_at 0

abbrev pb : PolyPoint
pb = point_at 3

abbrev pp : PolyPoint
pp = point_at 6

abbrev pq : PolyPoint
pq = point_at 9

abbrev turn_of_a : Poly
turn_of_a = turn_poly pp pq pa

abbrev turn_of_b : Poly
turn_of_b = turn_poly pp pq pb

abbrev turn_of_p : Poly
turn_of_p = turn_poly pa pb pp

abbrev turn_of_q : Poly
turn_of_q = turn_poly pa pb pq

moved : (b : Bool) {P Q R S : Type 0} → (P → R) → (Q → S) → MatchBool b P Q → MatchBool b R S
moved true f g h = f h
moved false f g h = g h

pub tells_low : (p a : Point) → Low (is_low p a) (rise p a)
unfolding rise
tells_low p a =
    moved (int_le (a.y *ℤ p.w) (p.y *ℤ a.w)) (λ h. omega (arith, linear, h)) (λ h. omega (arith, linear, h))
    (tells_le (a.y *ℤ p.w) (p.y *ℤ a.w))

-- how much higher b is than a, from their heights and that of a third point
pub level_by : (a b p : Point) → p.w *ℤ rise a b ≡ (b.w *ℤ rise a p) -ℤ (a.w *ℤ rise b p)
unfolding rise
level_by a b p = identity (pp.w ⊗ rise_p pa pb) (pb.w ⊗ rise_p pa pp ⊖ pa.w ⊗ rise_p pb pp) (a then b then p then []) refl

-- how much higher b is than a, from their heights above p
edge_by : (a b p : Point) → p.w *ℤ rise a b ≡ (a.w *ℤ rise p b) -ℤ (b.w *ℤ rise p a)
unfolding rise
edge_by a b p = identity (pp.w ⊗ rise_p pa pb) (pa.w ⊗ rise_p pp pb ⊖ pb.w ⊗ rise_p pp pa) (a then b then p then []) refl

rising : (k h u x v y : ℤ) → k *ℤ h ≡ (u *ℤ x) -ℤ (v *ℤ y) → pos 0 <ℤ k → pos 0 <ℤ u → pos 0 <ℤ v → pos 0 <ℤ x → y ≤ℤ pos 0 → pos 0 <ℤ h
rising k h u x v y e hk hu hv hx hy =
    pos_factor k h hk (omega (arith, linear, e, pos-*-pos hu hx, nonpos-*-nonneg hy (<ℤ_weaken hv), *ℤ_comm v y))

falling : (k h u x v y : ℤ) → k *ℤ h ≡ (u *ℤ x) -ℤ (v *ℤ y) → pos 0 <ℤ k → pos 0 <ℤ u → pos 0 <ℤ v → x ≤ℤ pos 0 → pos 0 <ℤ y → h <ℤ pos 0
falling k h u x v y e hk hu hv hx hy =
    neg_factor k h hk (omega (arith, linear, e, pos-*-pos hv hy, nonpos-*-nonneg hx (<ℤ_weaken hu), *ℤ_comm u x))

-- what is at most as high as p is at most as high as q
pub low_stays : (p q a : Point) → pos 0 ≤ℤ rise p q → rise p a ≤ℤ pos 0 → pos 0 <ℤ rise q a → ⊥
low_stays p q a level ha ka =
    let down : rise p q <ℤ pos 0 = falling a.w (rise p q) q.w (rise p a) p.w (rise q a) (level_by p q a) a.heavy q.heavy p.heavy ha ka in
    omega (arith, linear, down, level)

-- how the turns of the four points go with their heights
turns_by_heights : (a b p q : Point) → (turn a b p *ℤ rise p q ≡ (turn p q b *ℤ rise p a) -ℤ (turn p q a *ℤ rise p b))
    × (turn a b q *ℤ rise p q ≡ (turn p q b *ℤ rise q a) -ℤ (turn p q a *ℤ rise q b))
    × (turn p q a *ℤ rise a b ≡ (turn a b p *ℤ rise q a) -ℤ (turn a b q *ℤ rise p a))
    × (turn p q b *ℤ rise a b ≡ (turn a b p *ℤ rise q b) -ℤ (turn a b q *ℤ rise p b))
unfolding turn rise
turns_by_heights a b p q =
    let vs = a then b then p then q then [] in (
      identity (turn_of_p ⊗ rise_p pp pq) (turn_of_b ⊗ rise_p pp pa ⊖ turn_of_a ⊗ rise_p pp pb) vs refl,
      identity (turn_of_q ⊗ rise_p pp pq) (turn_of_b ⊗ rise_p pq pa ⊖ turn_of_a ⊗ rise_p pq pb) vs refl,
      identity (turn_of_a ⊗ rise_p pa pb) (turn_of_p ⊗ rise_p pq pa ⊖ turn_of_q ⊗ rise_p pp pa) vs refl,
      identity (turn_of_b ⊗ rise_p pa pb) (turn_of_p ⊗ rise_p pq pb ⊖ turn_of_q ⊗ rise_p pp pb) vs refl,
    )

pub heights : (a b p q : Point) → pos 0 ≤ℤ rise p q → Heights (rise p a) (rise p b) (rise q a) (rise q b) (rise p q) (rise a b)
    (turn p q a) (turn p q b) (turn a b p) (turn a b q)
heights a b p q level = record {
  level = level;
  of_p = (turns_by_heights a b p q).0;
  of_q = (turns_by_heights a b p q).1;
  of_a = (turns_by_heights a b p q).2;
  of_b = (turns_by_heights a b p q).3;
  rising_a = rising a.w (rise p q) q.w (rise p a) p.w (rise q a) (level_by p q a) a.heavy q.heavy p.heavy;
  rising_b = rising b.w (rise p q) q.w (rise p b) p.w (rise q b) (level_by p q b) b.heavy q.heavy p.heavy;
  rising_ab = λ h k. rising p.w (rise a b) a.w (rise p b) b.w (rise p a) (edge_by a b p) p.heavy a.heavy b.heavy k h;
  falling_ab = λ h k. falling p.w (rise a b) a.w (rise p b) b.w (rise p a) (edge_by a b p) p.heavy a.heavy b.heavy h k;
}

-- ---- the common point that has the turns as weights
-- the same sum of two points' coordinates, by the ends of either segment
record AreSums (a b p q : Point) (sa sb tp tq : ℤ) : Type 0 where
  across : (sb *ℤ a.x) +ℤ (neg_ℤ sa *ℤ b.x) ≡ (neg_ℤ tq *ℤ p.x) +ℤ (tp *ℤ q.x)
  above : (sb *ℤ a.y) +ℤ (neg_ℤ sa *ℤ b.y) ≡ (neg_ℤ tq *ℤ p.y) +ℤ (tp *ℤ q.y)
  mass : (sb *ℤ a.w) +ℤ (neg_ℤ sa *ℤ b.w) ≡ (neg_ℤ tq *ℤ p.w) +ℤ (tp *ℤ q.w)

sums : (a b p q : Point) → AreSums a b p q (turn p q a) (turn p q b) (turn a b p) (turn a b q)
unfolding turn
sums a b p q =
    let vs = a then b then p then q then [] in
    record {
      across = identity (turn_of_b ⊗ pa.x ⊕ minus turn_of_a ⊗ pb.x) (minus turn_of_q ⊗ pp.x ⊕ turn_of_p ⊗ pq.x) vs refl;
      above = identity (turn_of_b ⊗ pa.y ⊕ minus turn_of_a ⊗ pb.y) (minus turn_of_q ⊗ pp.y ⊕ turn_of_p ⊗ pq.y) vs refl;
      mass = identity (turn_of_b ⊗ pa.w ⊕ minus turn_of_a ⊗ pb.w) (minus turn_of_q ⊗ pp.w ⊕ turn_of_p ⊗ pq.w) vs refl;
    }

heavy_mix : (sa sb tp tq a b p q : ℤ) → AreWeights sa sb tp tq → pos 0 <ℤ a → pos 0 <ℤ b → pos 0 <ℤ p → pos 0 <ℤ q
    → (sb *ℤ a) +ℤ (neg_ℤ sa *ℤ b) ≡ (neg_ℤ tq *ℤ p) +ℤ (tp *ℤ q) → pos 0 <ℤ ((sb *ℤ a) +ℤ (neg_ℤ sa *ℤ b))
heavy_mix sa sb tp tq a b p q w ha hb hp hq e =
    let x = var 0 in
    let y = var 1 in
    let u = var 2 in
    let v = var 3 in
    let one = y ⊗ var 4 ⊕ minus x ⊗ var 5 in
    let other = minus v ⊗ var 6 ⊕ u ⊗ var 7 in
    less_by (num (pos 0)) one (sa ∷ sb ∷ tp ∷ tq ∷ a ∷ b ∷ p ∷ q ∷ [])
    (λ denied. denied ⊞ denied ⊞ same one other e
    ⊞ natural y w.second ⊠ whole (positive (var 4) ha) ⊞ at_most x (num (pos 0)) w.first ⊠ whole (positive (var 5) hb)
    ⊞ at_most v (num (pos 0)) w.fourth ⊠ whole (positive (var 6) hp) ⊞ natural u w.third ⊠ whole (positive (var 7) hq)
    ⊞ positive ((y ⊖ x) ⊕ (u ⊖ v)) w.some)
    refl

-- the point s·a + t·b
abbrev sum_point : (a b : Point) (s t : ℤ) → pos 0 <ℤ ((s *ℤ a.w) +ℤ (t *ℤ b.w)) → Point
sum_point a b s t h = record { x = (s *ℤ a.x) +ℤ (t *ℤ b.x); y = (s *ℤ a.y) +ℤ (t *ℤ b.y); w = (s *ℤ a.w) +ℤ (t *ℤ b.w); heavy = h }

common : (a b p q : Point) → AreApart a b p q → {sa sb tp tq : ℤ} → AreSums a b p q sa sb tp tq → AreWeights sa sb tp tq → ⊥
common a b p q apart {sa} {sb} {tp} {tq} e w =
    let m = sum_point a b sb (neg_ℤ sa) (heavy_mix sa sb tp tq a.w b.w p.w q.w w a.heavy b.heavy p.heavy q.heavy e.mass) in
    apart.none m
    (record { s = sb; t = neg_ℤ sa; mix = mix_of_sums w.second (omega (arith, linear, w.first)) (one-*ℤ m.x) (one-*ℤ m.y) (one-*ℤ m.w) })
    (record {
      s = neg_ℤ tq;
      t = tp;
      mix = mix_of_sums (omega (arith, linear, w.fourth)) w.third
          (one-*ℤ m.x ∙ e.across) (one-*ℤ m.y ∙ e.above) (one-*ℤ m.w ∙ e.mass);
    })

turned_sum : (s t u v a b c d : ℤ) → (s *ℤ a) +ℤ (neg_ℤ t *ℤ b) ≡ (neg_ℤ u *ℤ c) +ℤ (v *ℤ d)
    → (t *ℤ b) +ℤ (neg_ℤ s *ℤ a) ≡ (neg_ℤ v *ℤ d) +ℤ (u *ℤ c)
turned_sum s t u v a b c d e = omega (arith, linear, e, neg-*ℤ s a, neg-*ℤ t b, neg-*ℤ u c, neg-*ℤ v d)

-- the same for both segments turned round
turned_sums : {a b p q : Point} {sa sb tp tq : ℤ} → AreSums a b p q sa sb tp tq → AreSums b a q p sb sa tq tp
turned_sums {a} {b} {p} {q} {sa} {sb} {tp} {tq} e = record {
  across = turned_sum sb sa tq tp a.x b.x p.x q.x e.across;
  above = turned_sum sb sa tq tp a.y b.y p.y q.y e.above;
  mass = turned_sum sb sa tq tp a.w b.w p.w q.w e.mass;
}

pub turned_apart : {a b p q : Point} → AreApart a b p q → AreApart b a q p
turned_apart apart = record { none = λ m h k. apart.none m (segment_flip h) (segment_flip k) }

pub no_weights : (a b p q : Point) → AreApart a b p q → NoWeights (turn p q a) (turn p q b) (turn a b p) (turn a b q)
no_weights a b p q apart = record {
  one = common a b p q apart (sums a b p q);
  other = common b a q p (turned_apart apart) (turned_sums (sums a b p q));
}

-- ---- the ray of p crosses the edge as often as that of q, but for the ends beside the segment
pub parity : (a b p q : Point) → pos 0 ≤ℤ rise p q → AreApart a b p q
    → crosses_between p a b ≡ differ (crosses_between q a b) (differ (is_beside p q a) (is_beside p q b))
parity a b p q level apart =
    by_bands (is_low p a) (is_low q a) (is_low p b) (is_low q b) (tells_low p a) (tells_low q a) (tells_low p b) (tells_low q b)
    (low_stays p q a level) (low_stays p q b level) (heights a b p q level) (no_weights a b p q apart)

-- an edge turned round crosses the same rays
pub crosses_swap : (p a b : Point) → crosses_between p b a ≡ crosses_between p a b
crosses_swap p a b = ap (crosses_from (is_low p b) (is_low p a)) (turn_swap a b p)
    ∙ crosses_from_swap (is_low p b) (is_low p a) (turn a b p)
