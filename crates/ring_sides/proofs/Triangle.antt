-- A triangle is a ring that neither has too few points nor crosses itself, and a figure of one such ring is valid.
use Rattle.std.proofs.Common.{◌≡◌, ◌≢◌, ◌⊎◌, inl, inr, ℕ, zero, suc, ◌<◌, ℤ, pos, ◌-ℤ◌, ◌*ℤ◌, false, List, [], ◌∷◌, ap, refl, sym, ◌∙◌}
use Rattle.std.proofs.Common.{subst, arith}
use Rattle.std.proofs.lemmas.Bool.{false_from_ne_true}
use Rattle.std.proofs.lemmas.List.Elements.{All-head, All-tail}
use lib.IntN.{zero-*ℤ, *ℤ_comm}
use Rattle.whole_algebra.proofs.Polynomials.{var, num, ◌⊕◌, ◌⊖◌, ◌⊗◌}
use Rattle.whole_algebra.proofs.Certificates.{same, same_from, scaled, ◌⊞◌}
use Rattle.whole_algebra.proofs.Signs.{zero_factor, pos_nonzero}
use Rattle.plane_exact.proofs.Laws.{turn-positions}
use Rattle.plane_laws.proofs.Turns.Turns.{point_at, turn_poly, ◌then◌, turn_cycle, turn_twice}
use Rattle.plane_laws.proofs.Segments.On.{mix_turn, mix_shift_end, mix_rise_end, same_from_steps}
use Rattle.plane_laws.proofs.Points.Same.{same_sym}
use Rattle.plane_laws.specs.Plane.{Point, IsSamePoint, IsMix, IsOnSegment, turn, shift, rise}
use Rattle.plane_exact.specs.Places.{point_of}
use Rattle.plane_exact.specs.declared.point.Pt.{Pt}
use Rattle.plane_exact.specs.declared.point.Seg.{Seg}
use Rattle.point_set.specs.declared.figure.Area.{Area}
use Rattle.point_set.specs.declared.figure.Figure.{Figure}
use Rattle.point_set.specs.Rings.{is_same_position, edge_before, edges_of}
use Rattle.point_set.specs.Location.{rings_of}
use Rattle.point_set.specs.Validity.{IsAtPlace, IsOnEdge, IsJoint, HasTooFewPoints, CrossesItself, SomeRing, SomeArea, SomeEarlier}
use Rattle.point_set.specs.Validity.{RingsShareSegment, HasHoleOutside, HasHolesThatOverlap, Touch, HasTouchCycle, AreasShareSegment}
use Rattle.point_set.specs.Validity.{AreasOverlap, too_few_points, ring_cross, rings_share_edge, hole_outside, holes_overlap, disconnected}
use Rattle.point_set.specs.Validity.{elements_share_edge, elements_overlap, IsValid}
use Rattle.figure_laws.proofs.Lists.Places.{same_position, some_same}

-- ---- two sides of a triangle have only their corner in common
pub record AreCorners (a b c : Pt) : Type 0 where
  pub broad : ¬ (turn (point_of a) (point_of b) (point_of c) ≡ pos 0)

pub corners_from : (a b c : Pt) → ¬ ((b.x -ℤ a.x) *ℤ (c.y -ℤ a.y) -ℤ (b.y -ℤ a.y) *ℤ (c.x -ℤ a.x) ≡ pos 0) → AreCorners a b c
corners_from a b c h = record { broad = λ e. h (turn-positions a b c ∙ e) }

corners_cycle : {a b c : Pt} → AreCorners a b c → AreCorners b c a
corners_cycle {a} {b} {c} h = record { broad = λ e. h.broad (turn_cycle (point_of a) (point_of b) (point_of c) ∙ e) }

weight_of_start : (c : Point) {a b p : Point} {s t : ℤ} → IsMix a b p s t → turn b c p ≡ pos 0 → s *ℤ turn a b c ≡ pos 0
unfolding turn
weight_of_start c {a} {b} {p} {s} {t} m on =
    let pa = point_at 3 in
    let pb = point_at 6 in
    let pc = point_at 9 in
    let pp = point_at 12 in
    same_from (var 1 ⊗ turn_poly pa pb pc) (num (pos 0)) (m.times ∷ s ∷ t ∷ (a then b then c then p then []))
    (scaled (pb.w ⊗ pc.y ⊖ pb.y ⊗ pc.w) (same (var 0 ⊗ pp.x) (var 1 ⊗ pa.x ⊕ var 2 ⊗ pb.x) m.across)
    ⊞ scaled (pb.x ⊗ pc.w ⊖ pb.w ⊗ pc.x) (same (var 0 ⊗ pp.y) (var 1 ⊗ pa.y ⊕ var 2 ⊗ pb.y) m.above)
    ⊞ scaled (pb.y ⊗ pc.x ⊖ pb.x ⊗ pc.y) (same (var 0 ⊗ pp.w) (var 1 ⊗ pa.w ⊕ var 2 ⊗ pb.w) m.mass)
    ⊞ scaled (var 0) (same (turn_poly pb pc pp) (num (pos 0)) on)) refl

none_of_way : (k s u d : ℤ) → ¬ (k ≡ pos 0) → s ≡ pos 0 → k *ℤ u ≡ s *ℤ d → u ≡ pos 0
none_of_way k s u d some none e = zero_factor k u some (e ∙ ap (λ z. z *ℤ d) none ∙ zero-*ℤ d)

pub corner_alone : {a b c p : Point} → ¬ (turn a b c ≡ pos 0) → IsOnSegment a b p → IsOnSegment b c p → IsSamePoint b p
corner_alone {a} {b} {c} {p} broad on on' =
    let m = on.mix in
    let none : on.s ≡ pos 0 = zero_factor (turn a b c) on.s broad (*ℤ_comm (turn a b c) on.s ∙ weight_of_start c m (mix_turn on'.mix)) in
    same_sym (same_from_steps p b
    (none_of_way m.times on.s (shift p b) (shift a b) (pos_nonzero m.some) none (mix_shift_end m))
    (none_of_way m.times on.s (rise p b) (rise a b) (pos_nonzero m.some) none (mix_rise_end m)))

-- ---- the ring of a triangle
abbrev pub ring_of : Pt → Pt → Pt → List Pt
ring_of a b c = a ∷ b ∷ c ∷ a ∷ []

abbrev pub three_edges : Pt → Pt → Pt → List Seg
three_edges a b c = record { a = a; b = b } ∷ record { a = b; b = c } ∷ record { a = c; b = a } ∷ []

corners_differ : {a b c : Pt} → AreCorners a b c → ¬ (a ≡ b)
corners_differ {a} {b} {c} h e =
    h.broad (subst (λ q. turn (point_of a) (point_of q) (point_of c) ≡ pos 0) e (turn_twice (point_of a) (point_of c)))

corners_apart : {a b c : Pt} → AreCorners a b c → is_same_position a b ≡ false
corners_apart {a} {b} h = false_from_ne_true (is_same_position a b) (λ e. corners_differ h (same_position a b e))

edge_first :
    (p q : Pt) (edges : List Seg) → is_same_position p q ≡ false
    → edge_before (is_same_position p q) p q edges ≡ record { a = p; b = q } ∷ edges
edge_first p q edges h = ap (λ same. edge_before same p q edges) h

pub triangle_edges : {a b c : Pt} → AreCorners a b c → edges_of (ring_of a b c) ≡ three_edges a b c
triangle_edges {a} {b} {c} h =
    edge_first a b (edge_before (is_same_position b c) b c (edge_before (is_same_position c a) c a [])) (corners_apart h)
    ∙ ap (λ edges. record { a = a; b = b } ∷ edges)
    (edge_first b c (edge_before (is_same_position c a) c a []) (corners_apart (corners_cycle h))
    ∙ ap (λ edges. record { a = b; b = c } ∷ edges) (edge_first c a [] (corners_apart (corners_cycle (corners_cycle h)))))

-- three corners aren't among two positions
not_among_two : {a b c : Pt} → AreCorners a b c → (p q : Pt) → (a ≡ p) ⊎ (a ≡ q) → (b ≡ p) ⊎ (b ≡ q) → (c ≡ p) ⊎ (c ≡ q) → ⊥
not_among_two h p q (inl at_a) (inl at_b) at_c = corners_differ h (at_a ∙ sym at_b)
not_among_two h p q (inr at_a) (inr at_b) at_c = corners_differ h (at_a ∙ sym at_b)
not_among_two h p q (inl at_a) (inr at_b) (inl at_c) = corners_differ (corners_cycle (corners_cycle h)) (at_c ∙ sym at_a)
not_among_two h p q (inr at_a) (inl at_b) (inr at_c) = corners_differ (corners_cycle (corners_cycle h)) (at_c ∙ sym at_a)
not_among_two h p q (inl at_a) (inr at_b) (inr at_c) = corners_differ (corners_cycle h) (at_b ∙ sym at_c)
not_among_two h p q (inr at_a) (inl at_b) (inl at_c) = corners_differ (corners_cycle h) (at_b ∙ sym at_c)

pub triangle_enough : {a b c : Pt} → AreCorners a b c → ¬ HasTooFewPoints (ring_of a b c)
triangle_enough {a} {b} {c} h few =
    let IsOneOf : Pt → Type 0 = λ p. (p ≡ few.one) ⊎ (p ≡ few.other) in
    let after_a = All-tail IsOneOf a (b ∷ c ∷ a ∷ []) few.two_at_most in
    not_among_two h few.one few.other (All-head IsOneOf a (b ∷ c ∷ a ∷ []) few.two_at_most)
    (All-head IsOneOf b (c ∷ a ∷ []) after_a) (All-head IsOneOf c (a ∷ []) (All-tail IsOneOf b (c ∷ a ∷ []) after_a))

on_same : {e g : Seg} {p : Point} → g ≡ e → IsOnEdge e p → IsOnEdge g p
on_same {p} h on = subst (λ s. IsOnEdge s p) (sym h) on

starts_same : {e g : Seg} {p : Point} → g ≡ e → IsSamePoint (point_of g.a) p → IsSamePoint (point_of e.a) p
starts_same {p} h at = subst (λ (s : Seg). IsSamePoint (point_of s.a) p) h at

-- a common point of two edges is their joint
abbrev MeetAtJoints : List Seg → Type 0
MeetAtJoints edges =
    (i j : ℕ) (e f : Seg) → i < j → IsAtPlace edges i e → IsAtPlace edges j f → (p : Point) → IsOnEdge e p → IsOnEdge f p
    → IsJoint edges i j e f p

three_meet : {a b c : Pt} → AreCorners a b c → MeetAtJoints (three_edges a b c)
three_meet h i zero e f before is_e is_f p on_e on_f = absurd (omega (arith, before))
three_meet h zero (suc zero) e f before is_e is_f p on_e on_f =
    inl (refl, starts_same (some_same is_f) (corner_alone h.broad (on_same (some_same is_e) on_e) (on_same (some_same is_f) on_f)))
three_meet h (suc i) (suc zero) e f before is_e is_f p on_e on_f = absurd (omega (arith, before))
three_meet h zero (suc (suc zero)) e f before is_e is_f p on_e on_f =
    inr (
      refl,
      refl,
      starts_same (some_same is_e)
          (corner_alone (corners_cycle (corners_cycle h)).broad (on_same (some_same is_f) on_f) (on_same (some_same is_e) on_e)),
    )
three_meet h (suc zero) (suc (suc zero)) e f before is_e is_f p on_e on_f =
    inl (
      refl,
      starts_same (some_same is_f)
          (corner_alone (corners_cycle h).broad (on_same (some_same is_e) on_e) (on_same (some_same is_f) on_f)),
    )
three_meet h (suc (suc i)) (suc (suc zero)) e f before is_e is_f p on_e on_f = absurd (omega (arith, before))
three_meet h i (suc (suc (suc j))) e f before is_e is_f p on_e on_f = cc

pub triangle_simple : {a b c : Pt} → AreCorners a b c → ¬ CrossesItself (ring_of a b c)
triangle_simple h x =
    x.unjoined (subst MeetAtJoints (sym (triangle_edges h)) (three_meet h) x.i x.j x.e x.f x.earlier x.e_is x.f_is x.p x.on_e x.on_f)

-- ---- a figure with one area that has no holes
only_item :
    {T : Type 0} (items : List T) (item : T) → items ≡ item ∷ [] → (place : ℕ) (x : T) → IsAtPlace items place x → (place ≡ 0) × (item ≡ x)
only_item {T} items item h place x is = go place (subst (λ xs. IsAtPlace xs place x) h is)
  where
    go : (n : ℕ) → IsAtPlace (item ∷ []) n x → (n ≡ 0) × (item ≡ x)
    go zero at = (refl, some_same at)
    go (suc n) at = cc

only_ring :
    (area : Area) → area.holes ≡ [] → (place : ℕ) (ring : List Pt) → IsAtPlace (rings_of area) place ring
    → (place ≡ 0) × (area.shell ≡ ring)
only_ring area bare = only_item (rings_of area) area.shell (ap (λ holes. area.shell ∷ holes) bare)

of_area : (IsSo : Area → Type 0) (f : Figure) (area : Area) → f.areas ≡ area ∷ [] → (place : ℕ) → SomeArea f place IsSo → IsSo area
of_area IsSo f area one place h = subst IsSo (sym (only_item f.areas area one place h.area h.area_is).1) h.is_so

of_shell : (IsSo : List Pt → Type 0) (area : Area) → area.holes ≡ [] → SomeRing IsSo area → IsSo area.shell
of_shell IsSo area bare h = subst IsSo (sym (only_ring area bare h.place h.ring h.ring_is).1) h.is_so

no_ring_later :
    (area : Area) → area.holes ≡ [] → (i j : ℕ) (one other : List Pt) → i < j → IsAtPlace (rings_of area) i one
    → IsAtPlace (rings_of area) j other → ⊥
no_ring_later area bare i j one other before is is' =
    let last = (only_ring area bare j other is').0 in
    omega (arith, before, last)

no_hole : (area : Area) → area.holes ≡ [] → (i : ℕ) (hole : List Pt) → IsAtPlace area.holes i hole → ⊥
no_hole area bare i hole is = let none = subst (λ holes. IsAtPlace holes i hole) bare is in cc

no_cycle : (area : Area) → area.holes ≡ [] → ¬ HasTouchCycle area
no_cycle area bare h =
    let first = h.chain.0 in
    let second = h.chain.1 in
    let IsApart : Touch → Type 0 = λ other. (h.start.place ≢ other.place) × (¬ IsSamePoint h.start.point other.point) in
    (All-head IsApart h.second h.others h.apart.0).0
    ((only_ring area bare h.start.place first.ring first.ring_is).0 ∙ sym (only_ring area bare h.second.place second.ring second.ring_is).0)

no_earlier : (IsSo : Area → Area → Type 0) (f : Figure) (area : Area) → f.areas ≡ area ∷ [] → (place : ℕ) → ¬ SomeEarlier f place IsSo
no_earlier IsSo f area one place h =
    let first = (only_item f.areas area one place h.area h.area_is).0 in
    let before = h.earlier in
    omega (arith, first, before)

pub one_ring_valid :
    (f : Figure) (area : Area) → f.areas ≡ area ∷ [] → area.holes ≡ [] → ¬ HasTooFewPoints area.shell → ¬ CrossesItself area.shell
    → IsValid f
one_ring_valid f area one bare enough simple place too_few_points h =
    enough (of_shell HasTooFewPoints area bare (of_area (SomeRing HasTooFewPoints) f area one place h))
one_ring_valid f area one bare enough simple place ring_cross h =
    simple (of_shell CrossesItself area bare (of_area (SomeRing CrossesItself) f area one place h))
one_ring_valid f area one bare enough simple place rings_share_edge h =
    let s = of_area RingsShareSegment f area one place h in
    no_ring_later area bare s.i s.j s.one s.other s.earlier s.one_is s.other_is
one_ring_valid f area one bare enough simple place hole_outside h =
    let s = of_area HasHoleOutside f area one place h in no_hole area bare s.i s.hole s.hole_is
one_ring_valid f area one bare enough simple place holes_overlap h =
    let s = of_area HasHolesThatOverlap f area one place h in no_hole area bare s.i s.one s.one_is
one_ring_valid f area one bare enough simple place disconnected h = no_cycle area bare (of_area HasTouchCycle f area one place h)
one_ring_valid f area one bare enough simple place elements_share_edge h = no_earlier AreasShareSegment f area one place h
one_ring_valid f area one bare enough simple place elements_overlap h = no_earlier AreasOverlap f area one place h
