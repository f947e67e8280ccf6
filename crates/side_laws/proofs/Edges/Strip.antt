-- Along an edge of a ring the inside stays on one hand: a thin strip beside the edge is met by no edge.
use Rattle.std.proofs.Common.{◌≡◌, ◌⊎◌, inl, inr, ℕ, suc, ◌+◌, ◌<◌, ℤ, pos, ◌+ℤ◌, ◌-ℤ◌, ◌*ℤ◌, ◌<ℤ◌, ◌≤ℤ◌, Bool, true, false, List, [], ◌∷◌}
use Rattle.std.proofs.Common.{ap, refl, sym, ◌∙◌, subst, arith}
use Rattle.std.specs.Prelude.{slice_get}
use Rattle.std.proofs.lemmas.Bool.{cases_eq, or_from}
use lib.IntN.{*ℤ-zero, zero-*ℤ}
use lib.Signed.{<ℤ_irrefl, <ℤ-≤ℤ_trans}
use Rattle.whole_algebra.proofs.Laws.{linear}
use Rattle.whole_algebra.proofs.Polynomials.{var, num, ◌⊕◌, ◌⊖◌, ◌⊗◌, minus}
use Rattle.whole_algebra.proofs.Certificates.{same, same_from, scaled, ◌⊞◌}
use Rattle.whole_algebra.proofs.Signs.{by_sign, <ℤ_apart, pos_nonzero, pos-*-pos, zero_factor, cancel_≡}
use Rattle.plane_laws.proofs.Turns.Turns.{point_at, turn_poly, ◌then◌}
use Rattle.plane_laws.proofs.Segments.Mixes.{on_from_strictly_between}
use Rattle.plane_laws.proofs.Points.Same.{same_sym}
use Rattle.plane_laws.specs.Plane.{Point, IsSamePoint, IsMix, IsOnSegment, IsStrictlyBetween, turn}
use Rattle.plane_exact.specs.Places.{point_of}
use Rattle.plane_laws.specs.Directions.{Direction}
use Rattle.plane_exact.specs.declared.point.Pt.{Pt}
use Rattle.plane_exact.specs.declared.point.Seg.{Seg}
use Rattle.point_set.specs.Rings.{edges_of, is_on_edge, is_on_edges, is_inside}
use Rattle.point_set.specs.Shape.{IsClosed}
use Rattle.point_set.specs.Validity.{IsAtPlace, IsOnEdge}
use Rattle.plane_laws.specs.Along.{IsAway, HoldsAlong}
use Rattle.ring_laws.proofs.Parity.OneEdge.{AreApart}
use Rattle.ring_laws.proofs.Parity.Flip.{HasSign, turn_mix, signed_nonzero}
use Rattle.ring_laws.proofs.Parity.Ring.{inside_stays}
use Rattle.figure_laws.proofs.Lists.Places.{some_same}
use Rattle.plane_laws.proofs.Near.Parted.{Affine, at_point, affine_mix, affine_on}
use Rattle.plane_laws.proofs.Near.Near.{positive_near, reach_of}
use Rattle.plane_laws.proofs.Near.Away.{away_point, away_point_is, away_near, far_for, some_weight}
use Rattle.ring_laws.proofs.Germs.Areas.{mix_within}
use Rattle.side_laws.proofs.Edges.Places.{IsSimple, alone_within, off_edge}
use Rattle.side_laws.proofs.Edges.Germ.{edge_turn, edge_turn_on, edge_turn_ends, between_not_start, between_not_end, signed_sum}
use Rattle.side_laws.proofs.Edges.Beside.{IsBesideAt, by_hand, side_of}
use Rattle.side_laws.proofs.Edges.Parted.{ArePartedFrom, AreOnLine, edge_parted}

-- ---- a segment between two points to one side of an edge's line doesn't meet what lies on that line
pub turn_between : (s : Bool) (e : Seg) {p q m : Point} → HasSign s (edge_turn e p) → HasSign s (edge_turn e q) → IsOnSegment p q m
    → HasSign s (edge_turn e m)
unfolding edge_turn
turn_between s e {p} {q} {m} hp hq on =
    signed_sum s on.mix.times on.s on.t (edge_turn e p) (edge_turn e q) (edge_turn e m) on.mix.some on.mix.first on.mix.second
    (some_weight on.mix)
    (turn_mix (point_of e.a) (point_of e.b) on.mix) hp hq

pub no_turn_on : (e f : Seg) {m : Point} → edge_turn e (point_of f.a) ≡ pos 0 → edge_turn e (point_of f.b) ≡ pos 0 → IsOnEdge f m
    → edge_turn e m ≡ pos 0
unfolding edge_turn
no_turn_on e f {m} ha hb on =
    zero_factor on.mix.times (edge_turn e m) (pos_nonzero on.mix.some)
    (turn_mix (point_of e.a) (point_of e.b) on.mix
    ∙ (λ i. (on.s *ℤ ha i) +ℤ (on.t *ℤ hb i)) ∙ (λ i. *ℤ-zero on.s i +ℤ *ℤ-zero on.t i))

-- the same for what an affine function parts from both points
pub positive_between : (f : Affine) {p q m : Point} → pos 0 <ℤ at_point f p → pos 0 <ℤ at_point f q → IsOnSegment p q m
    → pos 0 <ℤ at_point f m
positive_between f {p} {q} {m} hp hq on =
    signed_sum true on.mix.times on.s on.t (at_point f p) (at_point f q) (at_point f m) on.mix.some on.mix.first on.mix.second
    (some_weight on.mix)
    (affine_mix f on.mix) hp hq

pub parted_off : {v w p q m : Point} (f : Seg) (h : ArePartedFrom v w (point_of f.a) (point_of f.b)) → pos 0 <ℤ at_point h.by p
    → pos 0 <ℤ at_point h.by q → IsOnSegment p q m → IsOnEdge f m → ⊥
parted_off f h hp hq on on_f = <ℤ_irrefl (<ℤ-≤ℤ_trans (positive_between h.by hp hq on) (affine_on h.by on_f h.first h.second))

-- ---- the strip
-- each edge is parted from v and w, or has no point of a set
abbrev pub IsBeyond : (Point → Type 0) → Point → Point → Seg → Type 0
IsBeyond Set v w f = ArePartedFrom v w (point_of f.a) (point_of f.b) ⊎ ((m : Point) → Set m → IsOnEdge f m → ⊥)

abbrev pub AreBeyond : (Point → Type 0) → Point → Point → List Seg → Type 0
AreBeyond Set v w [] = Unit {0}
AreBeyond Set v w (f ∷ edges) = IsBeyond Set v w f × AreBeyond Set v w edges

-- from some n on, no point of the set on a segment between v + d/n and w + d'/l is on an edge
pub record HasStrip (Set : Point → Type 0) (v w : Point) (d d' : Direction) (edges : List Seg) : Type 0 where
  pub from : ℕ
  pub free : (n l : ℕ) → from < n → from < l → (p q m : Point) → IsAway v d n p → IsAway w d' l q → IsOnSegment p q m → Set m
      → is_on_edges m edges ≡ false

strip_more : (Set : Point → Type 0) (v w : Point) (d d' : Direction) (f : Seg) (edges : List Seg) → HasStrip Set v w d d' edges
    → IsBeyond Set v w f → HasStrip Set v w d d' (f ∷ edges)
strip_more Set v w d d' f edges rest (inl h) = record {
  from = (far_for d (reach_of h.by v) + far_for d' (reach_of h.by w)) + rest.from;
  free = λ n l far far' p q m away away' on held.
      or_from (is_on_edge m f) (is_on_edges m edges)
      (off_edge f m (parted_off f h
      (positive_near h.by v p (reach_of h.by v) h.at_first (omega arith) (away_near (reach_of h.by v) (omega (arith, far)) away))
      (positive_near h.by w q (reach_of h.by w) h.at_second (omega arith) (away_near (reach_of h.by w) (omega (arith, far')) away')) on))
      (rest.free n l (omega (arith, far)) (omega (arith, far')) p q m away away' on held);
}
strip_more Set v w d d' f edges rest (inr h) = record {
  from = rest.from;
  free = λ n l far far' p q m away away' on held.
      or_from (is_on_edge m f) (is_on_edges m edges) (off_edge f m (h m held)) (rest.free n l far far' p q m away away' on held);
}

pub strip : (Set : Point → Type 0) (v w : Point) (d d' : Direction) (edges : List Seg) → AreBeyond Set v w edges
    → HasStrip Set v w d d' edges
strip Set v w d d' [] beyond = record { from = 0; free = λ n l far far' p q m away away' on held. refl }
strip Set v w d d' (f ∷ edges) beyond = strip_more Set v w d d' f edges (strip Set v w d d' edges beyond.1) beyond.0

-- ---- two points strictly between an edge's ends
within_weight : (s t k l u w : ℤ) → pos 0 ≤ℤ s → pos 0 ≤ℤ t → pos 0 <ℤ (s +ℤ t) → pos 0 <ℤ k → pos 0 <ℤ l → pos 0 <ℤ u → pos 0 <ℤ w
    → pos 0 <ℤ (((s *ℤ k) *ℤ u) +ℤ ((t *ℤ l) *ℤ w))
within_weight s t k l u w hs ht h hk hl hu hw =
    signed_sum true (pos 1) s t ((k *ℤ u)) ((l *ℤ w)) (((s *ℤ k) *ℤ u) +ℤ ((t *ℤ l) *ℤ w)) (omega (arith, linear)) hs ht h
    (same_from (num (pos 1) ⊗ ((var 0 ⊗ var 2) ⊗ var 4 ⊕ (var 1 ⊗ var 3) ⊗ var 5)) (var 0 ⊗ (var 2 ⊗ var 4) ⊕ var 1 ⊗ (var 3 ⊗ var 5))
    (s ∷ t ∷ k ∷ l ∷ u ∷ w ∷ []) (same (num (pos 0)) (num (pos 0)) refl) refl)
    (pos-*-pos hk hu) (pos-*-pos hl hw)

pub between_within : {a b v w m : Point} → IsStrictlyBetween a b v → IsStrictlyBetween a b w → IsOnSegment v w m → IsStrictlyBetween a b m
between_within {a} {b} {v} {w} {m} hv hw on = record {
  s = ((on.s *ℤ hw.mix.times) *ℤ hv.s) +ℤ ((on.t *ℤ hv.mix.times) *ℤ hw.s);
  t = ((on.s *ℤ hw.mix.times) *ℤ hv.t) +ℤ ((on.t *ℤ hv.mix.times) *ℤ hw.t);
  mix = mix_within hv.mix hw.mix on.mix;
  some_first = within_weight on.s on.t hw.mix.times hv.mix.times hv.s hw.s on.mix.first on.mix.second
      (some_weight on.mix) hw.mix.some hv.mix.some hv.some_first hw.some_first;
  some_second = within_weight on.s on.t hw.mix.times hv.mix.times hv.t hw.t on.mix.first on.mix.second
      (some_weight on.mix) hw.mix.some hv.mix.some hv.some_second hw.some_second;
  apart = hv.apart;
}

-- ---- the turn with two points of an edge, by the turn with the edge
order_of : {a b v w : Point} {s t s' t' : ℤ} → IsMix a b v s t → IsMix a b w s' t' → ℤ
order_of {a} {b} {v} {w} {s} {t} {s'} {t'} h k = (s *ℤ t') -ℤ (t *ℤ s')

turn_of_parts : {a b v w : Point} {s t s' t' : ℤ} (h : IsMix a b v s t) (k : IsMix a b w s' t') (x : Point)
    → (h.times *ℤ k.times) *ℤ turn v w x ≡ order_of h k *ℤ turn a b x
unfolding turn order_of
turn_of_parts {a} {b} {v} {w} {s} {t} {s'} {t'} h k x =
    let pa = point_at 6 in
    let pb = point_at 9 in
    let pv = point_at 12 in
    let pw = point_at 15 in
    let px = point_at 18 in
    let k' = var 1 in
    same_from ((var 0 ⊗ k') ⊗ turn_poly pv pw px) ((var 2 ⊗ var 5 ⊖ var 3 ⊗ var 4) ⊗ turn_poly pa pb px)
    (h.times ∷ k.times ∷ s ∷ t ∷ s' ∷ t' ∷ (a then b then v then w then x then []))
    (scaled (k' ⊗ (pw.y ⊗ px.w ⊖ pw.w ⊗ px.y)) (same (var 0 ⊗ pv.x) (var 2 ⊗ pa.x ⊕ var 3 ⊗ pb.x) h.across)
    ⊞ scaled (minus (k' ⊗ (pw.x ⊗ px.w ⊖ pw.w ⊗ px.x))) (same (var 0 ⊗ pv.y) (var 2 ⊗ pa.y ⊕ var 3 ⊗ pb.y) h.above)
    ⊞ scaled (k' ⊗ (pw.x ⊗ px.y ⊖ pw.y ⊗ px.x)) (same (var 0 ⊗ pv.w) (var 2 ⊗ pa.w ⊕ var 3 ⊗ pb.w) h.mass)
    ⊞ scaled (minus ((var 2 ⊗ pa.y ⊕ var 3 ⊗ pb.y) ⊗ px.w ⊖ (var 2 ⊗ pa.w ⊕ var 3 ⊗ pb.w) ⊗ px.y))
    (same (k' ⊗ pw.x) (var 4 ⊗ pa.x ⊕ var 5 ⊗ pb.x) k.across)
    ⊞ scaled ((var 2 ⊗ pa.x ⊕ var 3 ⊗ pb.x) ⊗ px.w ⊖ (var 2 ⊗ pa.w ⊕ var 3 ⊗ pb.w) ⊗ px.x)
    (same (k' ⊗ pw.y) (var 4 ⊗ pa.y ⊕ var 5 ⊗ pb.y) k.above)
    ⊞ scaled (minus ((var 2 ⊗ pa.x ⊕ var 3 ⊗ pb.x) ⊗ px.y ⊖ (var 2 ⊗ pa.y ⊕ var 3 ⊗ pb.y) ⊗ px.x))
    (same (k' ⊗ pw.w) (var 4 ⊗ pa.w ⊕ var 5 ⊗ pb.w) k.mass)) refl

-- two mixes in one proportion are the same point
parts_across : (k l s t s' t' a aw b bw v vw w ww : ℤ) → k *ℤ v ≡ (s *ℤ a) +ℤ (t *ℤ b) → k *ℤ vw ≡ (s *ℤ aw) +ℤ (t *ℤ bw)
    → l *ℤ w ≡ (s' *ℤ a) +ℤ (t' *ℤ b) → l *ℤ ww ≡ (s' *ℤ aw) +ℤ (t' *ℤ bw)
    → (k *ℤ l) *ℤ ((v *ℤ ww) -ℤ (w *ℤ vw)) ≡ ((s *ℤ t') -ℤ (t *ℤ s')) *ℤ ((a *ℤ bw) -ℤ (b *ℤ aw))
parts_across k l s t s' t' a aw b bw v vw w ww e f g h =
    same_from ((var 0 ⊗ var 1) ⊗ (var 10 ⊗ var 13 ⊖ var 12 ⊗ var 11)) ((var 2 ⊗ var 5 ⊖ var 3 ⊗ var 4) ⊗ (var 6 ⊗ var 9 ⊖ var 8 ⊗ var 7))
    (k ∷ l ∷ s ∷ t ∷ s' ∷ t' ∷ a ∷ aw ∷ b ∷ bw ∷ v ∷ vw ∷ w ∷ ww ∷ [])
    (scaled (var 1 ⊗ var 13) (same (var 0 ⊗ var 10) (var 2 ⊗ var 6 ⊕ var 3 ⊗ var 8) e)
    ⊞ scaled (minus (var 1 ⊗ var 12)) (same (var 0 ⊗ var 11) (var 2 ⊗ var 7 ⊕ var 3 ⊗ var 9) f)
    ⊞ scaled (minus (var 2 ⊗ var 7 ⊕ var 3 ⊗ var 9)) (same (var 1 ⊗ var 12) (var 4 ⊗ var 6 ⊕ var 5 ⊗ var 8) g)
    ⊞ scaled (var 2 ⊗ var 6 ⊕ var 3 ⊗ var 8) (same (var 1 ⊗ var 13) (var 4 ⊗ var 7 ⊕ var 5 ⊗ var 9) h)) refl

same_by : (k l z x y w : ℤ) → pos 0 <ℤ k → pos 0 <ℤ l → z ≡ pos 0 → (k *ℤ l) *ℤ (x -ℤ y) ≡ z *ℤ w → x ≡ y
same_by k l z x y w hk hl none e =
    let d : x -ℤ y ≡ pos 0 = zero_factor (k *ℤ l) (x -ℤ y) (pos_nonzero (pos-*-pos hk hl)) (e ∙ ap (λ u. u *ℤ w) none ∙ zero-*ℤ w) in
    omega (arith, linear, d)

same_parts : {a b v w : Point} {s t s' t' : ℤ} (h : IsMix a b v s t) (k : IsMix a b w s' t') → order_of h k ≡ pos 0 → IsSamePoint v w
unfolding order_of
same_parts {a} {b} {v} {w} {s} {t} {s'} {t'} h k none = record {
  across = same_by h.times k.times ((s *ℤ t') -ℤ (t *ℤ s')) (v.x *ℤ w.w) (w.x *ℤ v.w) ((a.x *ℤ b.w) -ℤ (b.x *ℤ a.w)) h.some k.some none
      (parts_across h.times k.times s t s' t' a.x a.w b.x b.w v.x v.w w.x w.w h.across h.mass k.across k.mass);
  above = same_by h.times k.times ((s *ℤ t') -ℤ (t *ℤ s')) (v.y *ℤ w.w) (w.y *ℤ v.w) ((a.y *ℤ b.w) -ℤ (b.y *ℤ a.w)) h.some k.some none
      (parts_across h.times k.times s t s' t' a.y a.w b.y b.w v.y v.w w.y w.w h.above h.mass k.above k.mass);
}

-- ---- along an edge
away_same_axis : (p pw v vw w ww n d : ℤ) → pos 0 <ℤ vw → v *ℤ ww ≡ w *ℤ vw → p *ℤ (vw *ℤ n) ≡ ((v *ℤ n) +ℤ (d *ℤ vw)) *ℤ pw
    → p *ℤ (ww *ℤ n) ≡ ((w *ℤ n) +ℤ (d *ℤ ww)) *ℤ pw
away_same_axis p pw v vw w ww n d hv e f =
    cancel_≡ vw (p *ℤ (ww *ℤ n)) (((w *ℤ n) +ℤ (d *ℤ ww)) *ℤ pw) (pos_nonzero hv)
    (same_from (var 3 ⊗ (var 0 ⊗ (var 5 ⊗ var 6))) (var 3 ⊗ ((var 4 ⊗ var 6 ⊕ var 7 ⊗ var 5) ⊗ var 1))
    (p ∷ pw ∷ v ∷ vw ∷ w ∷ ww ∷ n ∷ d ∷ [])
    (scaled (var 5) (same (var 0 ⊗ (var 3 ⊗ var 6)) ((var 2 ⊗ var 6 ⊕ var 7 ⊗ var 3) ⊗ var 1) f)
    ⊞ scaled (var 6 ⊗ var 1) (same (var 2 ⊗ var 5) (var 4 ⊗ var 3) e)) refl)

-- v + d/n is the same for each triple of v
pub away_same : {v w : Point} {d : Direction} {n : ℕ} {p : Point} → IsSamePoint v w → IsAway v d n p → IsAway w d n p
away_same {v} {w} {d} {n} {p} h away = record {
  across = away_same_axis p.x p.w v.x v.w w.x w.w (pos n) d.x v.heavy h.across away.across;
  above = away_same_axis p.y p.w v.y v.w w.y w.w (pos n) d.y v.heavy h.above away.above;
}

pub beside_same : {ring : List Pt} {e : Seg} {v w : Point} {b : Bool} → IsSamePoint v w → IsBesideAt ring e v b → IsBesideAt ring e w b
beside_same {ring} {e} {v} {w} {b} same h = record {
  along = λ s d to. record
      { from = (h.along s d to).from; holds = λ n far p away. (h.along s d to).holds n far p (away_same (same_sym same) away) };
}

pub beyond_by_places : (Set : Point → Type 0) (v w : Point) (edges : List Seg)
    → ((j : ℕ) (f : Seg) → IsAtPlace edges j f → IsBeyond Set v w f) → AreBeyond Set v w edges
beyond_by_places Set v w [] h = tt
beyond_by_places Set v w (f ∷ edges) h = (h 0 f refl, beyond_by_places Set v w edges (λ j g is. h (suc j) g is))

-- what holds near one end of a strip holds near the other
pub carried_over : (ring : List Pt) → IsClosed ring → (Set : Point → Type 0) (v w : Point) (d d' : Direction) (b : Bool)
    → HasStrip Set v w d d' (edges_of ring) → HoldsAlong (λ p. is_inside p ring ≡ b) v d → (from : ℕ)
    → ((n l : ℕ) → from < n → from < l → (p q m : Point) → IsAway v d n p → IsAway w d' l q → IsOnSegment p q m → Set m)
    → HoldsAlong (λ q. is_inside q ring ≡ b) w d'
carried_over ring closed Set v w d d' b st h from held =
    let n = (st.from + h.from) + from in
    let p = away_point v d n in
    let away = away_point_is v d n in
    record {
      from = st.from + from;
      holds = λ l far q away'.
          sym (inside_stays p q ring closed (record {
            off = λ m on. st.free (suc n) l (omega arith) (omega (arith, far)) p q m away away' on
                (held (suc n) l (omega arith) (omega (arith, far)) p q m away away' on);
          }))
          ∙ h.holds (suc n) (omega arith) p away;
    }

pub along_edge : (ring : List Pt) → IsClosed ring → IsSimple (edges_of ring) → (i : ℕ) (e : Seg) → IsAtPlace (edges_of ring) i e
    → (v w : Point) → IsStrictlyBetween (point_of e.a) (point_of e.b) v → IsStrictlyBetween (point_of e.a) (point_of e.b) w → (b : Bool)
    → IsBesideAt ring e v b → IsBesideAt ring e w b
unfolding edge_turn
along_edge ring closed simple i e is v w hv hw b h = by_sign (order_of hv.mix hw.mix) (λ k. apart (<ℤ_apart k))
    (λ k. beside_same (same_parts hv.mix hw.mix k) h) (λ k. apart (pos_nonzero k))
  where
    off_line : (s : Bool) (f : Seg) → edge_turn e (point_of f.a) ≡ pos 0 → edge_turn e (point_of f.b) ≡ pos 0 → (m : Point)
        → HasSign s (edge_turn e m) → IsOnEdge f m → ⊥
    off_line s f ha hb m to on_f = signed_nonzero s (edge_turn e m) to (no_turn_on e f ha hb on_f)

    other_beyond : (s : Bool) → ¬ (order_of hv.mix hw.mix ≡ pos 0) → (f : Seg) → ArePartedFrom v w (point_of f.a) (point_of f.b)
        ⊎ AreOnLine v w (point_of f.a) (point_of f.b) → IsBeyond (λ m. HasSign s (edge_turn e m)) v w f
    other_beyond s moves f (inl parted) = inl parted
    other_beyond s moves f (inr line) = inr (off_line s f (on_line (point_of f.a) line.first) (on_line (point_of f.b) line.second))
      where
        on_line : (x : Point) → turn v w x ≡ pos 0 → edge_turn e x ≡ pos 0
        on_line x z =
            zero_factor (order_of hv.mix hw.mix) (edge_turn e x) moves
            (sym (turn_of_parts hv.mix hw.mix x) ∙ ap (λ y. (hv.mix.times *ℤ hw.mix.times) *ℤ y) z ∙ *ℤ-zero (hv.mix.times *ℤ hw.mix.times))

    unmet : (j : ℕ) (f : Seg) → (i ≡ j → ⊥) → IsAtPlace (edges_of ring) j f → AreApart (point_of f.a) (point_of f.b) v w
    unmet j f differ is_f = record {
      none = λ m on_f on.
          let within = between_within hv hw on in
          alone_within simple i j e f differ is is_f m (between_not_start within) (between_not_end within)
          (on_from_strictly_between within) on_f;
    }

    by_place : (s : Bool) → ¬ (order_of hv.mix hw.mix ≡ pos 0) → (j : ℕ) (f : Seg) → IsAtPlace (edges_of ring) j f → (i ≡ j) ⊎ (i ≡ j → ⊥)
        → IsBeyond (λ m. HasSign s (edge_turn e m)) v w f
    by_place s moves j f is_f (inl same) =
        inr (subst (λ g. (m : Point) → HasSign s (edge_turn e m) → IsOnEdge g m → ⊥)
        (some_same (sym is ∙ ap (slice_get (edges_of ring)) same ∙ is_f)) (off_line s e (edge_turn_ends e).0 (edge_turn_ends e).1))
    by_place s moves j f is_f (inr differ) = other_beyond s moves f (edge_parted v w f (unmet j f differ is_f))

    apart : ¬ (order_of hv.mix hw.mix ≡ pos 0) → IsBesideAt ring e w b
    apart moves = record {
      along = λ s d to.
          carried_over ring closed (λ m. HasSign s (edge_turn e m)) v w d d (by_hand s b)
          (strip (λ m. HasSign s (edge_turn e m)) v w d d (edges_of ring)
          (beyond_by_places (λ m. HasSign s (edge_turn e m)) v w (edges_of ring) (λ j f is_f. by_place s moves j f is_f (cases_eq i j))))
          (h.along s d to) 0
          (λ n l some some' p q m away away' on.
          turn_between s e (side_of s e (edge_turn_on e (on_from_strictly_between hv)) to some away)
          (side_of s e (edge_turn_on e (on_from_strictly_between hw)) to some' away') on);
    }
