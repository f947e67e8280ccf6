-- The two sides of an edge of a ring at a point strictly between its ends: on one hand all points near it are inside the ring,
-- or none is, and on the other hand it is the other way round.
use Rattle.std.proofs.Common.{◌≡◌, ◌⊎◌, inl, inr, ℕ, ℤ, pos, ◌+ℤ◌, ◌-ℤ◌, ◌*ℤ◌, ◌<ℤ◌, ◌≤ℤ◌, Bool, true, false, List, [], ◌∷◌, ap, refl, sym}
use Rattle.std.proofs.Common.{◌∙◌, subst}
use Rattle.std.specs.Prelude.{slice_get}
use Rattle.std.proofs.lemmas.Bool.{cases_eq}
use lib.IntN.{*ℤ-zero}
use Rattle.whole_algebra.proofs.Polynomials.{var, num, ◌⊕◌, ◌⊖◌, ◌⊗◌, minus}
use Rattle.whole_algebra.proofs.Certificates.{natural, positive, less, same, same_from, less_by, whole, scaled, ◌⊞◌, ◌⊠◌}
use Rattle.whole_algebra.proofs.Signs.{pos_nonzero, pos-*-pos, zero_factor}
use Rattle.plane_laws.proofs.Turns.Turns.{PolyPoint, point_at, turn_poly, ◌then◌, OneSign-zero, shift_same, rise_same}
use Rattle.plane_laws.proofs.Segments.Mixes.{on_from_strictly_between, mix_flip}
use Rattle.plane_laws.proofs.Segments.On.{Decides-is_on_segment, mix_turn, mix_shift_start, mix_rise_start, same_from_steps}
use Rattle.plane_laws.proofs.Points.Same.{same_refl, same_sym}
use Rattle.plane_laws.specs.Plane.{Point, IsSamePoint, IsStrictlyBetween, turn, rise, shift}
use Rattle.plane_exact.specs.Places.{point_of}
use Rattle.plane_laws.specs.Directions.{Direction}
use Rattle.plane_exact.specs.declared.point.Seg.{Seg}
use Rattle.point_set.specs.Validity.{IsAtPlace, IsOnEdge}
use Rattle.plane_laws.specs.Along.{IsInCone}
use Rattle.point_set.specs.Sides.{slope}
use Rattle.ring_laws.proofs.Parity.Flip.{HasSign, signed_nonzero}
use Rattle.figure_laws.proofs.Lists.Places.{some_same}
use Rattle.plane_laws.proofs.Near.Parted.{turn_ends}
use Rattle.ring_laws.proofs.Germs.Edges.{AreJoined, joined_between, shift_self, rise_self}
use Rattle.ring_laws.proofs.Germs.Areas.{clear_from}
use Rattle.side_laws.proofs.Edges.Places.{IsSimple, alone_within}

-- ---- a point strictly between two ends is neither
none_of_product : (k t x y : ℤ) → pos 0 <ℤ t → k *ℤ x ≡ t *ℤ y → x ≡ pos 0 → y ≡ pos 0
none_of_product k t x y ht e h = zero_factor t y (pos_nonzero ht) (sym e ∙ ap (λ z. k *ℤ z) h ∙ *ℤ-zero k)

pub between_not_start : {a b m : Point} → IsStrictlyBetween a b m → ¬ IsSamePoint a m
between_not_start {a} {b} {m} h same =
    h.apart (same_from_steps a b
    (none_of_product h.mix.times h.t (shift a m) (shift a b) h.some_second (mix_shift_start h.mix)
    ((OneSign-zero (shift_same (same_refl a) (same_sym same))).1 (shift_self a)))
    (none_of_product h.mix.times h.t (rise a m) (rise a b) h.some_second (mix_rise_start h.mix)
    ((OneSign-zero (rise_same (same_refl a) (same_sym same))).1 (rise_self a))))

pub between_flip : {a b m : Point} → IsStrictlyBetween a b m → IsStrictlyBetween b a m
between_flip h = record {
  s = h.t;
  t = h.s;
  mix = mix_flip h.mix;
  some_first = h.some_second;
  some_second = h.some_first;
  apart = λ same. h.apart (same_sym same);
}

pub between_not_end : {a b m : Point} → IsStrictlyBetween a b m → ¬ IsSamePoint b m
between_not_end h = between_not_start (between_flip h)

-- ---- the side of an edge's line on which a point is, from a point of the line
unfoldable pub edge_turn : Seg → Point → ℤ
edge_turn e p = turn (point_of e.a) (point_of e.b) p

pub turn_from : (e : Seg) (v p : Point) → edge_turn e v ≡ pos 0
    → edge_turn e p *ℤ v.w ≡ ((e.b.x -ℤ e.a.x) *ℤ rise v p) -ℤ ((e.b.y -ℤ e.a.y) *ℤ shift v p)
unfolding edge_turn turn shift rise
turn_from e v p on =
    let pa : PolyPoint = record { x = var 0; y = var 1; w = num (pos 1) } in
    let pb : PolyPoint = record { x = var 2; y = var 3; w = num (pos 1) } in
    let pv = point_at 4 in
    let pp = point_at 7 in
    same_from (turn_poly pa pb pp ⊗ pv.w)
    ((pb.x ⊖ pa.x) ⊗ (pp.y ⊗ pv.w ⊖ pv.y ⊗ pp.w) ⊖ (pb.y ⊖ pa.y) ⊗ (pp.x ⊗ pv.w ⊖ pv.x ⊗ pp.w))
    (e.a.x ∷ e.a.y ∷ e.b.x ∷ e.b.y ∷ (v then p then []))
    (scaled pp.w (same (turn_poly pa pb pv) (num (pos 0)) on)) refl

cone_turn : (c i j u w across above dx dy ex ey z v_w : ℤ) → c *ℤ across ≡ (i *ℤ dx) +ℤ (j *ℤ ex) → c *ℤ above ≡ (i *ℤ dy) +ℤ (j *ℤ ey)
    → z *ℤ v_w ≡ (u *ℤ above) -ℤ (w *ℤ across) → (c *ℤ v_w) *ℤ z ≡ (i *ℤ ((u *ℤ dy) -ℤ (w *ℤ dx))) +ℤ (j *ℤ ((u *ℤ ey) -ℤ (w *ℤ ex)))
cone_turn c i j u w across above dx dy ex ey z v_w e f g =
    same_from ((var 0 ⊗ var 12) ⊗ var 11) (var 1 ⊗ (var 3 ⊗ var 8 ⊖ var 4 ⊗ var 7) ⊕ var 2 ⊗ (var 3 ⊗ var 10 ⊖ var 4 ⊗ var 9))
    (c ∷ i ∷ j ∷ u ∷ w ∷ across ∷ above ∷ dx ∷ dy ∷ ex ∷ ey ∷ z ∷ v_w ∷ [])
    (scaled (minus (var 4)) (same (var 0 ⊗ var 5) (var 1 ⊗ var 7 ⊕ var 2 ⊗ var 9) e)
    ⊞ scaled (var 3) (same (var 0 ⊗ var 6) (var 1 ⊗ var 8 ⊕ var 2 ⊗ var 10) f)
    ⊞ scaled (var 0) (same (var 11 ⊗ var 12) (var 3 ⊗ var 6 ⊖ var 4 ⊗ var 5) g)) refl

pub signed_sum : (s : Bool) (k i j x y z : ℤ) → pos 0 <ℤ k → pos 0 ≤ℤ i → pos 0 ≤ℤ j → pos 0 <ℤ (i +ℤ j) → k *ℤ z ≡ (i *ℤ x) +ℤ (j *ℤ y)
    → HasSign s x → HasSign s y → HasSign s z
signed_sum true k i j x y z hk hi hj h e hx hy =
    less_by (num (pos 0)) (var 5) (k ∷ i ∷ j ∷ x ∷ y ∷ z ∷ [])
    (λ denied. denied ⊠ positive (var 0) hk ⊞ natural (var 1) hi ⊠ whole (positive (var 3) hx)
    ⊞ natural (var 2) hj ⊠ whole (positive (var 4) hy)
    ⊞ positive (var 1 ⊕ var 2) h ⊞ same (var 0 ⊗ var 5) (var 1 ⊗ var 3 ⊕ var 2 ⊗ var 4) e) refl
signed_sum false k i j x y z hk hi hj h e hx hy =
    less_by (var 5) (num (pos 0)) (k ∷ i ∷ j ∷ x ∷ y ∷ z ∷ [])
    (λ denied. denied ⊠ positive (var 0) hk ⊞ natural (var 1) hi ⊠ whole (less (var 3) (num (pos 0)) hx)
    ⊞ natural (var 2) hj ⊠ whole (less (var 4) (num (pos 0)) hy)
    ⊞ positive (var 1 ⊕ var 2) h ⊞ same (var 1 ⊗ var 3 ⊕ var 2 ⊗ var 4) (var 0 ⊗ var 5) (sym e)) refl

-- what lies between two directions to one side of an edge lies on that side of its line
pub cone_side : (s : Bool) (e : Seg) {v : Point} {d d' : Direction} {m : Point} → edge_turn e v ≡ pos 0 → HasSign s (slope e d)
    → HasSign s (slope e d') → IsInCone v d d' m → HasSign s (edge_turn e m)
cone_side s e {v} {d} {d'} {m} on h h' c =
    signed_sum s (c.times *ℤ v.w) c.i c.j (slope e d) (slope e d') (edge_turn e m) (pos-*-pos c.positive v.heavy) c.first c.second c.some
    (cone_turn c.times c.i c.j (e.b.x -ℤ e.a.x) (e.b.y -ℤ e.a.y) (shift v m) (rise v m) d.x d.y d'.x d'.y
    (edge_turn e m) v.w c.across c.above (turn_from e v m on))
    h h'

pub edge_turn_on : (e : Seg) {v : Point} → IsOnEdge e v → edge_turn e v ≡ pos 0
unfolding edge_turn
edge_turn_on e on = mix_turn on.mix

pub edge_turn_ends : (e : Seg) → (edge_turn e (point_of e.a) ≡ pos 0) × (edge_turn e (point_of e.b) ≡ pos 0)
unfolding edge_turn
edge_turn_ends e = turn_ends (point_of e.a) (point_of e.b)

-- ---- two directions to one side of an edge, at a point of it that is on no other edge
pub record IsAlone (edges : List Seg) (place : ℕ) (e : Seg) (v : Point) : Type 0 where
  pub is : IsAtPlace edges place e
  pub on : IsOnEdge e v
  pub alone : (j : ℕ) (f : Seg) → ¬ (place ≡ j) → IsAtPlace edges j f → IsOnEdge f v → ⊥

pub between_is_alone : {edges : List Seg} → IsSimple edges → (i : ℕ) (e : Seg) → IsAtPlace edges i e → (v : Point)
    → IsStrictlyBetween (point_of e.a) (point_of e.b) v → IsAlone edges i e v
between_is_alone simple i e is v between = record {
  is = is;
  on = on_from_strictly_between between;
  alone = λ j f apart is_f on_f.
      alone_within simple i j e f apart is is_f v (between_not_start between) (between_not_end between)
      (on_from_strictly_between between) on_f;
}

pub sided_joined : (s : Bool) {edges : List Seg} {i : ℕ} {e : Seg} {v : Point} → IsAlone edges i e v → (d d' : Direction)
    → HasSign s (slope e d) → HasSign s (slope e d') → AreJoined v d d' edges
sided_joined s {edges} {i} {e} {v} one d d' h h' =
    joined_between v d d' (off_line v (edge_turn_on e one.on)) edges
    (clear_from v d d' edges
    (λ j f is_f on_f. by_place j f (cases_eq i j) is_f ((Decides-is_on_segment (point_of f.a) (point_of f.b) v).0 on_f)))
  where
    off_line : (m : Point) → edge_turn e m ≡ pos 0 → ¬ IsInCone v d d' m
    off_line m z c = signed_nonzero s (edge_turn e m) (cone_side s e (edge_turn_on e one.on) h h' c) z

    by_place : (j : ℕ) (f : Seg) → (i ≡ j) ⊎ (i ≡ j → ⊥) → IsAtPlace edges j f → IsOnEdge f v → (¬ IsInCone v d d' (point_of f.a))
        × (¬ IsInCone v d d' (point_of f.b))
    by_place j f (inl h) is_f on_f =
        subst (λ g. (¬ IsInCone v d d' (point_of g.a)) × (¬ IsInCone v d d' (point_of g.b)))
        (some_same (sym one.is ∙ ap (slice_get edges) h ∙ is_f))
        (off_line (point_of e.a) (edge_turn_ends e).0, off_line (point_of e.b) (edge_turn_ends e).1)
    by_place j f (inr h) is_f on_f = absurd (one.alone j f h is_f on_f)
