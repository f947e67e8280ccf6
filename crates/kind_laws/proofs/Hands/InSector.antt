-- The hand of an edge, seen from any of its points: beside the edge the whole sector is inside its area, or outside.
use Rattle.std.proofs.Common.{◌≡◌, ◌⊎◌, inl, inr, ℕ, zero, suc, ◌+◌, ◌<◌, ℤ, pos, ◌+ℤ◌, ◌-ℤ◌, ◌*ℤ◌, neg_ℤ, ◌<ℤ◌, ◌≤ℤ◌, Bool, true, false}
use Rattle.std.proofs.Common.{List, [], ◌∷◌, ap, refl, sym, ◌∙◌, subst, arith}
use Rattle.std.specs.Prelude.{slice_get}
use Rattle.std.proofs.lemmas.Bool.{true≢false, cases_order, cases_eq}
use Rattle.im_matrix.specs.declared.Loc.{Loc}
use Rattle.im_matrix.specs.declared.Loc.TheVariants.{Interior, Exterior}
use Rattle.whole_algebra.proofs.Laws.{linear}
use Rattle.whole_algebra.proofs.Polynomials.{var, num, ◌⊕◌, ◌⊖◌, ◌⊗◌, minus}
use Rattle.whole_algebra.proofs.Certificates.{natural, positive, same, same_from, less_by, whole, scaled, ◌⊞◌, ◌⊠◌}
use Rattle.whole_algebra.proofs.Signs.{by_sign, pos_nonzero, zero_factor}
use Rattle.plane_laws.proofs.Segments.Mixes.{start_on_segment, end_on_segment, segment_same, on_from_strictly_between}
use Rattle.plane_laws.proofs.Segments.On.{Decides-is_on_segment, on_segment_of_same, mix_shift_start, mix_shift_end, mix_rise_start}
use Rattle.plane_laws.proofs.Segments.On.{mix_rise_end}
use Rattle.plane_laws.proofs.Points.Same.{same_refl, same_sym, same_trans}
use Rattle.plane_exact.proofs.Laws.{shift-positions, rise-positions}
use Rattle.plane_laws.specs.Plane.{Point, IsSamePoint, IsOnSegment, IsStrictlyBetween, rise, shift}
use Rattle.plane_exact.specs.Places.{point_of}
use Rattle.plane_laws.specs.Directions.{Direction, bend_of, IsStrictlyWithin}
use Rattle.plane_exact.specs.declared.point.Pt.{Pt}
use Rattle.plane_exact.specs.declared.point.Seg.{Seg}
use Rattle.point_set.specs.declared.edge.Hand.{Hand}
use Rattle.point_set.specs.declared.edge.Hand.TheVariants as hand
use Rattle.point_set.specs.declared.figure.Area.{Area}
use Rattle.point_set.specs.declared.figure.Figure.{Figure}
use Rattle.point_set.specs.Edges.{IsAreaHand, IsOnEdgeAlone, far_end, hand_of_way}
use Rattle.point_set.specs.Germ.{IsGerm}
use Rattle.plane_laws.specs.Along.{IsInCone}
use Rattle.point_set.specs.Location.{edges_of_rings, rings_of}
use Rattle.point_set.specs.Rings.{edges_of, is_on_edge}
use Rattle.point_set.specs.Sectors.{HasNoEdgeWithin}
use Rattle.point_set.specs.Shape.{IsAreaShaped, IsRingShaped, IsWellShaped}
use Rattle.point_set.specs.Sides.{slope, PointsTo}
use Rattle.point_set.specs.Validity.{IsAtPlace, IsOnEdge, IsValid, ring_cross}
use Rattle.figure_laws.proofs.Lists.Places.{some_same}
use Rattle.plane_laws.proofs.Near.Near.{IsNear, near_mix}
use Rattle.ring_laws.proofs.Room.Edges.{HoldBoth, HasRoom, room}
use Rattle.plane_laws.proofs.Near.Away.{away_point, away_point_is, away_near, far_for}
use Rattle.ring_laws.proofs.Germs.Areas.{segment_within}
use Rattle.ring_laws.proofs.Germs.Edges.{on_true}
use Rattle.side_laws.proofs.Areas.Hands.{AreRingsClean, area_clean, hole_shaped, rings_unshared}
use Rattle.side_laws.proofs.Edges.Beside.{held_at}
use Rattle.side_laws.proofs.Edges.Germ.{between_not_start, between_not_end}
use Rattle.side_laws.proofs.Edges.Places.{IsSimple, ring_is_simple, alone_within}
use Rattle.germ_laws.proofs.Room.Starry.{near_self, ray_order, not_here}
use Rattle.germ_laws.proofs.Room.Germs.{away_cone}
use Rattle.germ_laws.proofs.Room.Ways.{left_turn, left_turn_left}
use Rattle.figure_laws.proofs.Edges.Owners.{HasRing, ring_of}
use Rattle.germ_laws.proofs.Sectors.BesideRay.{reach, germ_after}

-- ---- the rings of a valid area
ring_shaped : (area : Area) → IsAreaShaped area → (k : ℕ) (ring : List Pt) → IsAtPlace (rings_of area) k ring → IsRingShaped ring
ring_shaped area shaped zero ring is = subst IsRingShaped (some_same is) shaped.shell
ring_shaped area shaped (suc k) ring is = hole_shaped area shaped k ring is

module _ (f : Figure) (shaped : IsWellShaped f) (valid : IsValid f) (place : ℕ) (area : Area) (is : IsAtPlace f.areas place area) where
  clean : AreRingsClean area
  clean = area_clean f shaped valid place area is

  simple : (k : ℕ) (ring : List Pt) → IsAtPlace (rings_of area) k ring → IsSimple (edges_of ring)
  simple k ring ring_is =
      ring_is_simple ring (ring_shaped area clean.shaped k ring ring_is).closed
      (λ h. valid place ring_cross
      (record { area = area; area_is = is; is_so = record { place = k; ring = ring; ring_is = ring_is; is_so = h } }))

  pub one_edge_a_way : (i j : ℕ) (e g : Seg) → IsAtPlace (edges_of_rings (rings_of area)) i e
      → IsAtPlace (edges_of_rings (rings_of area)) j g → (v q : Point) → ¬ IsSamePoint v q → IsOnEdge e v → IsOnEdge g v → IsOnEdge g q
      → IsStrictlyBetween (point_of e.a) (point_of e.b) q → e ≡ g
  one_edge_a_way i j e g e_is g_is v q apart on_e on_g on_q between =
      by_ring (ring_of (rings_of area) i e e_is) (ring_of (rings_of area) j g g_is)
    where
      q_on_e : IsOnEdge e q
      q_on_e = on_from_strictly_between between

      crossed : (k l : ℕ) → k < l → (one other : List Pt) → IsAtPlace (rings_of area) k one → IsAtPlace (rings_of area) l other
          → (x y : ℕ) (a b : Seg) → IsAtPlace (edges_of one) x a → IsAtPlace (edges_of other) y b → IsOnEdge a v → IsOnEdge a q
          → IsOnEdge b v → IsOnEdge b q → ⊥
      crossed k l before one other one_is other_is x y a b a_is b_is a_v a_q b_v b_q =
          rings_unshared clean.unshared k l before one other one_is other_is x y a b a_is b_is
          (record { a = v; b = q; apart = apart; held = λ p on. (segment_within a_v a_q on, segment_within b_v b_q on) })

      by_place : (ring : List Pt) → IsSimple (edges_of ring) → (x y : ℕ) → IsAtPlace (edges_of ring) x e → IsAtPlace (edges_of ring) y g
          → (x ≡ y) ⊎ (x ≡ y → ⊥) → e ≡ g
      by_place ring s x y x_is y_is (inl h) = some_same (sym x_is ∙ ap (slice_get (edges_of ring)) h ∙ y_is)
      by_place ring s x y x_is y_is (inr n) = absurd
          (alone_within s x y e g n x_is y_is q (between_not_start between) (between_not_end between) q_on_e on_q)

      by_ring : HasRing (rings_of area) e → HasRing (rings_of area) g → e ≡ g
      by_ring a b = by_order (cases_order a.k b.k)
        where
          by_order : (a.k ≡ b.k) ⊎ ((a.k < b.k) ⊎ (b.k < a.k)) → e ≡ g
          by_order (inl h) =
              let one : a.ring ≡ b.ring = some_same (sym a.ring_is ∙ ap (slice_get (rings_of area)) h ∙ b.ring_is) in
              by_place a.ring (simple a.k a.ring a.ring_is) a.i b.i a.is (subst (λ ring. IsAtPlace (edges_of ring) b.i g) (sym one) b.is)
              (cases_eq a.i b.i)
          by_order (inr (inl h)) = absurd (crossed a.k b.k h a.ring b.ring a.ring_is b.ring_is a.i b.i e g a.is b.is on_e q_on_e on_g on_q)
          by_order (inr (inr h)) = absurd (crossed b.k a.k h b.ring a.ring b.ring_is a.ring_is b.i a.i g e b.is a.is on_g on_q on_e q_on_e)

  pub moving : (i : ℕ) (e : Seg) → IsAtPlace (edges_of_rings (rings_of area)) i e → ¬ IsSamePoint (point_of e.a) (point_of e.b)
  moving i e e_is = let a = ring_of (rings_of area) i e e_is in (simple a.k a.ring a.ring_is).moving a.i e a.is

-- ---- on a segment and at neither end is strictly between
only_other : (k s t p_x p_w b_x b_w a_x a_w : ℤ) → pos 0 <ℤ k → s ≡ pos 0 → k *ℤ p_x ≡ (s *ℤ a_x) +ℤ (t *ℤ b_x)
    → k *ℤ p_w ≡ (s *ℤ a_w) +ℤ (t *ℤ b_w) → b_x *ℤ p_w ≡ p_x *ℤ b_w
only_other k s t p_x p_w b_x b_w a_x a_w hk z e f =
    let none = zero_factor k ((b_x *ℤ p_w) -ℤ (p_x *ℤ b_w)) (pos_nonzero hk)
    (same_from (var 0 ⊗ (var 5 ⊗ var 4 ⊖ var 3 ⊗ var 6)) (num (pos 0)) (k ∷ s ∷ t ∷ p_x ∷ p_w ∷ b_x ∷ b_w ∷ a_x ∷ a_w ∷ [])
    (scaled (var 5) (same (var 0 ⊗ var 4) (var 1 ⊗ var 8 ⊕ var 2 ⊗ var 6) f)
    ⊞ scaled (minus (var 6)) (same (var 0 ⊗ var 3) (var 1 ⊗ var 7 ⊕ var 2 ⊗ var 5) e)
    ⊞ scaled (var 5 ⊗ var 8 ⊖ var 6 ⊗ var 7) (same (var 1) (num (pos 0)) z)) refl) in
    omega (arith, linear, none)

pub strictly_from_on : {a b q : Point} → ¬ IsSamePoint a b → IsOnSegment a b q → ¬ IsSamePoint a q → ¬ IsSamePoint b q
    → IsStrictlyBetween a b q
strictly_from_on {a} {b} {q} apart on not_a not_b = record {
  s = on.s;
  t = on.t;
  mix = on.mix;
  some_first = by_sign on.s (λ h. absurd (under on.s h on.mix.first)) (λ z. absurd (not_b (record {
    across = only_other on.mix.times on.s on.t q.x q.w b.x b.w a.x a.w on.mix.some z on.mix.across on.mix.mass;
    above = only_other on.mix.times on.s on.t q.y q.w b.y b.w a.y a.w on.mix.some z on.mix.above on.mix.mass;
  }))) (λ h. h);
  some_second = by_sign on.t (λ h. absurd (under on.t h on.mix.second)) (λ z. absurd (not_a (record {
    across = only_other on.mix.times on.t on.s q.x q.w a.x a.w b.x b.w on.mix.some z (let e = on.mix.across in omega (arith, linear, e))
        (let e = on.mix.mass in omega (arith, linear, e));
    above = only_other on.mix.times on.t on.s q.y q.w a.y a.w b.y b.w on.mix.some z (let e = on.mix.above in omega (arith, linear, e))
        (let e = on.mix.mass in omega (arith, linear, e));
  }))) (λ h. h);
  apart = apart;
}
  where
    under : (z : ℤ) → z <ℤ pos 0 → pos 0 ≤ℤ z → ⊥
    under z h k = omega (arith, linear, h, k)

-- ---- the slope of a direction beside an edge that runs along r
slope_sign : (k w m c bx by rx ry tx ty : ℤ) → pos 0 <ℤ k → pos 0 ≤ℤ w → pos 0 <ℤ m → pos 0 <ℤ c → k *ℤ (w *ℤ bx) ≡ m *ℤ (c *ℤ rx)
    → k *ℤ (w *ℤ by) ≡ m *ℤ (c *ℤ ry) → pos 0 <ℤ ((rx *ℤ ty) -ℤ (ry *ℤ tx)) → pos 0 <ℤ ((bx *ℤ ty) -ℤ (by *ℤ tx))
slope_sign k w m c bx by rx ry tx ty hk hw hm hc e f h =
    less_by (num (pos 0)) (var 4 ⊗ var 9 ⊖ var 5 ⊗ var 8) (k ∷ w ∷ m ∷ c ∷ bx ∷ by ∷ rx ∷ ry ∷ tx ∷ ty ∷ [])
    (λ denied. denied ⊠ natural (var 1) hw ⊠ positive (var 0) hk
    ⊞ positive (var 2) hm ⊠ positive (var 3) hc ⊠ positive (var 6 ⊗ var 9 ⊖ var 7 ⊗ var 8) h
    ⊞ scaled (var 9) (same (var 0 ⊗ (var 1 ⊗ var 4)) (var 2 ⊗ (var 3 ⊗ var 6)) e)
    ⊞ scaled (minus (var 8)) (same (var 0 ⊗ (var 1 ⊗ var 5)) (var 2 ⊗ (var 3 ⊗ var 7)) f)) refl

-- the steps: k steps to the end are c of r, m of them are w of the edge
pub step_ahead : (k m w i j step whole r : ℤ) → k *ℤ step ≡ (i *ℤ r) +ℤ (j *ℤ r) → m *ℤ step ≡ w *ℤ whole
    → k *ℤ (w *ℤ whole) ≡ m *ℤ ((i +ℤ j) *ℤ r)
step_ahead k m w i j step whole r e f =
    same_from (var 0 ⊗ (var 2 ⊗ var 6)) (var 1 ⊗ ((var 3 ⊕ var 4) ⊗ var 7)) (k ∷ m ∷ w ∷ i ∷ j ∷ step ∷ whole ∷ r ∷ [])
    (scaled (var 1) (same (var 0 ⊗ var 5) (var 3 ⊗ var 7 ⊕ var 4 ⊗ var 7) e)
    ⊞ scaled (minus (var 0)) (same (var 1 ⊗ var 5) (var 2 ⊗ var 6) f)) refl

pub step_back : (k m w i j step back whole r : ℤ) → k *ℤ step ≡ (i *ℤ r) +ℤ (j *ℤ r) → step ≡ neg_ℤ back → m *ℤ back ≡ w *ℤ whole
    → k *ℤ (w *ℤ neg_ℤ whole) ≡ m *ℤ ((i +ℤ j) *ℤ r)
step_back k m w i j step back whole r e b f =
    same_from (var 0 ⊗ (var 2 ⊗ minus (var 7))) (var 1 ⊗ ((var 3 ⊕ var 4) ⊗ var 8)) (k ∷ m ∷ w ∷ i ∷ j ∷ step ∷ back ∷ whole ∷ r ∷ [])
    (scaled (var 1) (same (var 0 ⊗ var 5) (var 3 ⊗ var 8 ⊕ var 4 ⊗ var 8) e)
    ⊞ scaled (minus (var 0 ⊗ var 1)) (same (var 5) (minus (var 6)) b)
    ⊞ scaled (var 0) (same (var 1 ⊗ var 6) (var 2 ⊗ var 7) f)) refl

pub shift_back : (a v : Point) → shift v a ≡ neg_ℤ (shift a v)
unfolding shift
shift_back a v = omega (arith, linear)

pub rise_back : (a v : Point) → rise v a ≡ neg_ℤ (rise a v)
unfolding rise
rise_back a v = omega (arith, linear)

pub left_forward : (e : Seg) {v : Point} {r : Direction} → IsOnEdge e v → IsInCone v r r (point_of e.b) → (t : Direction)
    → pos 0 <ℤ bend_of r t → pos 0 <ℤ slope e t
unfolding bend_of
left_forward e {v} {r} on c t h =
    slope_sign c.times on.s on.mix.times (c.i +ℤ c.j) (e.b.x -ℤ e.a.x) (e.b.y -ℤ e.a.y) r.x r.y t.x t.y c.positive on.mix.first
    on.mix.some c.some
    (step_ahead c.times on.mix.times on.s c.i c.j (shift v (point_of e.b)) (e.b.x -ℤ e.a.x) r.x c.across
    (mix_shift_end on.mix ∙ ap (λ z. on.s *ℤ z) (shift-positions e.a e.b)))
    (step_ahead c.times on.mix.times on.s c.i c.j (rise v (point_of e.b)) (e.b.y -ℤ e.a.y) r.y c.above
    (mix_rise_end on.mix ∙ ap (λ z. on.s *ℤ z) (rise-positions e.a e.b)))
    h

pub right_backward : (e : Seg) {v : Point} {r : Direction} → IsOnEdge e v → IsInCone v r r (point_of e.a) → (t : Direction)
    → pos 0 <ℤ bend_of r t → slope e t <ℤ pos 0
unfolding bend_of
right_backward e {v} {r} on c t h =
    let k = slope_sign c.times on.t on.mix.times (c.i +ℤ c.j) (neg_ℤ (e.b.x -ℤ e.a.x))
    (neg_ℤ (e.b.y -ℤ e.a.y)) r.x r.y t.x t.y c.positive on.mix.second on.mix.some c.some
    (step_back c.times on.mix.times on.t c.i c.j (shift v (point_of e.a)) (shift (point_of e.a) v) (e.b.x -ℤ e.a.x) r.x c.across
    (shift_back (point_of e.a) v) (mix_shift_start on.mix ∙ ap (λ z. on.t *ℤ z) (shift-positions e.a e.b)))
    (step_back c.times on.mix.times on.t c.i c.j (rise v (point_of e.a)) (rise (point_of e.a) v) (e.b.y -ℤ e.a.y) r.y c.above
    (rise_back (point_of e.a) v) (mix_rise_start on.mix ∙ ap (λ z. on.t *ℤ z) (rise-positions e.a e.b)))
    h in
    turned (e.b.x -ℤ e.a.x) (e.b.y -ℤ e.a.y) t.x t.y k
  where
    turned : (bx by tx ty : ℤ) → pos 0 <ℤ ((neg_ℤ bx *ℤ ty) -ℤ (neg_ℤ by *ℤ tx)) → ((bx *ℤ ty) -ℤ (by *ℤ tx)) <ℤ pos 0
    turned bx by tx ty h = less_by (var 0 ⊗ var 3 ⊖ var 1 ⊗ var 2) (num (pos 0)) (bx ∷ by ∷ tx ∷ ty ∷ [])
        (λ denied. denied ⊞ positive (minus (var 0) ⊗ var 3 ⊖ minus (var 1) ⊗ var 2) h) refl

-- what an area's hand says of a direction to the left of an edge as it is walked
pub by_hand : (area : Area) (e : Seg) (forward : Bool) (side : Hand) → IsAreaHand area e (hand_of_way forward side) → (q : Point)
    (t : Direction) → IsOnEdgeAlone area e q → PointsTo (hand_of_way forward hand.Left) e t
    → (side ≡ hand.Left → IsGerm area q t Interior) × (side ≡ hand.Right → IsGerm area q t Exterior)
by_hand area e true hand.Left h q t one to = (λ _. h.inside q one t to, λ z. cc)
by_hand area e true hand.Right h q t one to = (λ z. cc, λ _. h.outside q one t to)
by_hand area e false hand.Left h q t one to = (λ _. h.inside q one t to, λ z. cc)
by_hand area e false hand.Right h q t one to = (λ z. cc, λ _. h.outside q one t to)
by_hand area e forward hand.Line h q t one to = (λ z. cc, λ z. cc)

-- and so of one to the left of the way
way_inside : (area : Area) (e : Seg) (forward : Bool) (side : Hand) → IsAreaHand area e (hand_of_way forward side)
    → {v : Point} {r : Direction} → IsOnEdge e v → IsInCone v r r (point_of (far_end forward e)) → (t : Direction) → pos 0 <ℤ bend_of r t
    → (q : Point) → IsOnEdgeAlone area e q → (side ≡ hand.Left → IsGerm area q t Interior) × (side ≡ hand.Right → IsGerm area q t Exterior)
way_inside area e true side h on c t left q one = by_hand area e true side h q t one (left_forward e on c t left)
way_inside area e false side h on c t left q one = by_hand area e false side h q t one (right_backward e on c t left)

-- ---- where near v only e is met along the way, the sector after the way is inside the area or outside by the hand
module _ (area : Area) (shaped : IsAreaShaped area) (e : Seg) (forward : Bool) (v : Point) (on : IsOnEdge e v) (r : Direction)
    (c : IsInCone v r r (point_of (far_end forward e))) (bound : ℕ)
    (alone : (n : ℕ) → bound < suc n → IsOnEdgeAlone area e (away_point v r n)) where
  pub hand_where_alone : (side : Hand) → IsAreaHand area e (hand_of_way forward side) → (s : Direction) → HasNoEdgeWithin area v r s
      → (d : Direction) → IsStrictlyWithin r s d
      → (side ≡ hand.Left → IsGerm area v d Interior) × (side ≡ hand.Right → IsGerm area v d Exterior)
  hand_where_alone side h s free d within = (λ z. to_germ Interior (ways.0 z), λ z. to_germ Exterior (ways.1 z))
    where
      n : ℕ
      n = bound + reach area shaped v r

      q : Point
      q = away_point v r n

      t : Direction
      t = left_turn r

      ways : (side ≡ hand.Left → IsGerm area q t Interior) × (side ≡ hand.Right → IsGerm area q t Exterior)
      ways = way_inside area e forward side h on c t (left_turn_left r) q (alone n (omega arith))

      to_germ : (g : Loc) → IsGerm area q t g → IsGerm area v d g
      to_germ g g_is = germ_after area shaped v r s free n (omega arith) t (left_turn_left r) g g_is d within

-- ---- near a point of the edge, on the way, the edge is alone
abbrev spot : Pt → Seg
spot a = record { a = a; b = a }

not_end : (v q : Point) (a : Pt) → (is_on_edge v (spot a) ≡ false → is_on_edge q (spot a) ≡ false) → ¬ IsSamePoint v q
    → ¬ IsSamePoint (point_of a) q
not_end v q a held apart h = by_test (is_on_edge v (spot a)) refl
  where
    by_test : (b : Bool) → is_on_edge v (spot a) ≡ b → ⊥
    by_test true on = apart (same_trans (same_sym (on_segment_of_same (same_refl (point_of a)) (on_true {p = v} {f = spot a} on))) h)
    by_test false off =
        true≢false (sym ((Decides-is_on_segment (point_of a) (point_of a) q).1
        (segment_same (same_refl (point_of a)) (same_refl (point_of a)) h (start_on_segment (point_of a) (point_of a)))) ∙ held off)

far_held : (forward : Bool) (e : Seg) (v m : Point) → HoldBoth v m (spot e.a ∷ spot e.b ∷ [])
    → is_on_edge v (spot (far_end forward e)) ≡ false → is_on_edge m (spot (far_end forward e)) ≡ false
far_held true e v m both = both.1.0
far_held false e v m both = both.0

-- an end is on its edge
pub on_far : (forward : Bool) (e : Seg) → IsOnEdge e (point_of (far_end forward e))
on_far true e = end_on_segment (point_of e.a) (point_of e.b)
on_far false e = start_on_segment (point_of e.a) (point_of e.b)

module _ (f : Figure) (shaped : IsWellShaped f) (valid : IsValid f) (place : ℕ) (area : Area) (is : IsAtPlace f.areas place area)
    (e : Seg) (i : ℕ) (e_is : IsAtPlace (edges_of_rings (rings_of area)) i e) (forward : Bool) (v : Point) (on : IsOnEdge e v)
    (r : Direction) (c : IsInCone v r r (point_of (far_end forward e))) where
  edges : List Seg
  edges = edges_of_rings (rings_of area)

  around_v : HasRoom v edges
  around_v = room v edges

  around_ends : HasRoom v (spot e.a ∷ spot e.b ∷ [])
  around_ends = room v (spot e.a ∷ spot e.b ∷ [])

  pub way_bound : ℕ
  way_bound = far_for r around_v.n + far_for r around_ends.n

  -- of the area's edges only e holds the points v + r/n
  pub alone_on_way : (n : ℕ) → way_bound < suc n → IsOnEdgeAlone area e (away_point v r n)
  unfolding way_bound edges
  alone_on_way n far = record {
    between = between;
    alone = λ j g g_is on_g.
        sym (one_edge_a_way f shaped valid place area is i j e g e_is g_is v q apart on (holds_v j g g_is on_g) on_g between);
  }
    where
      q : Point
      q = away_point v r n

      near_e : IsNear v around_ends.n q
      near_e = away_near around_ends.n (omega (arith, far)) (away_point_is v r n)

      near_v : IsNear v around_v.n q
      near_v = away_near around_v.n (omega (arith, far)) (away_point_is v r n)

      in_way : IsInCone v r r q
      in_way = away_cone (omega arith) (away_point_is v r n)

      apart : ¬ IsSamePoint v q
      apart = not_here in_way

      last : Pt
      last = far_end forward e

      on_q : IsOnEdge e q
      on_q = by_order (ray_order in_way c)
        where
          by_order : IsOnSegment v (point_of last) q ⊎ IsOnSegment v q (point_of last) → IsOnEdge e q
          by_order (inl k) = segment_within on (on_far forward e) k
          by_order (inr k) =
              absurd (not_end v (point_of last) last
              (far_held forward e v (point_of last)
              (around_ends.free around_ends.n (omega arith) (point_of last) (near_mix (near_self v around_ends.n) near_e k)))
              (not_here c) (same_refl (point_of last)))

      between : IsStrictlyBetween (point_of e.a) (point_of e.b) q
      between =
          let both = around_ends.free around_ends.n (omega arith) q near_e in
          strictly_from_on (moving f shaped valid place area is i e e_is) on_q (not_end v q e.a both.0 apart)
          (not_end v q e.b both.1.0 apart)

      holds_v : (j : ℕ) (g : Seg) → IsAtPlace edges j g → IsOnEdge g q → IsOnEdge g v
      holds_v j g g_is on_g = by_test (is_on_edge v g) refl
        where
          by_test : (b : Bool) → is_on_edge v g ≡ b → IsOnEdge g v
          by_test true k = on_true {p = v} {f = g} k
          by_test false k =
              let held = held_at v q edges (around_v.free around_v.n (omega arith) q near_v) j g g_is k in
              absurd (true≢false (sym ((Decides-is_on_segment (point_of g.a) (point_of g.b) q).1 on_g) ∙ held))

  pub hand_in_sector : (side : Hand) → IsAreaHand area e (hand_of_way forward side) → (s : Direction) → HasNoEdgeWithin area v r s
      → (d : Direction) → IsStrictlyWithin r s d
      → (side ≡ hand.Left → IsGerm area v d Interior) × (side ≡ hand.Right → IsGerm area v d Exterior)
  hand_in_sector = hand_where_alone area (area_clean f shaped valid place area is).shaped e forward v on r c way_bound alone_on_way
