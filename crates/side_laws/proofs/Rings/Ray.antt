-- On which hand the inside of a ring lies, from the number of crossings at a point of one edge. A short way from it to the
-- right, or up, the ray to the right crosses the same edges.
use Rattle.std.proofs.Common.{◌≡◌, ◌⊎◌, inl, inr, ℕ, suc, ◌+◌, ◌<◌, ℤ, pos, neg_ℤ, ◌<ℤ◌, ◌≤ℤ◌, Bool, true, false, not, ◌&&◌, List, [], ◌∷◌}
use Rattle.std.proofs.Common.{ap, refl, sym, ◌∙◌, subst, arith}
use Rattle.std.specs.Prelude.{slice_get}
use Rattle.std.specs.Bool.{MatchBool}
use Rattle.std.proofs.lemmas.Bool.{cases_eq}
use Rattle.std.proofs.Math.Bool.{not-not}
use lib.Signed.{<ℤ_irrefl, <ℤ-≤ℤ_trans}
use Rattle.whole_algebra.proofs.Laws.{linear}
use Rattle.whole_algebra.proofs.Polynomials.{var, num, ◌⊕◌, ◌⊖◌, ◌⊗◌, minus, identity}
use Rattle.whole_algebra.proofs.Certificates.{same, same_from, scaled}
use Rattle.whole_algebra.proofs.Signs.{by_sign, <ℤ_weaken, nonneg_factor, nonpos_factor, nonneg-*-nonneg, nonneg-*-nonpos, pos-*-pos}
use Rattle.plane_laws.proofs.Turns.Turns.{point_at, turn_poly, ◌then◌, turn_swap}
use Rattle.plane_laws.proofs.Segments.Mixes.{segment_flip}
use Rattle.plane_laws.specs.Plane.{Point, IsOnSegment, IsStrictlyBetween, turn, rise}
use Rattle.plane_exact.specs.Places.{point_of}
use Rattle.plane_laws.specs.Directions.{Direction}
use Rattle.plane_exact.specs.declared.point.Pt.{Pt}
use Rattle.plane_exact.specs.declared.point.Seg.{Seg}
use Rattle.point_set.specs.Rings.{edges_of, is_low, crosses_from, crosses, differ, is_odd, is_inside}
use Rattle.point_set.specs.Validity.{IsAtPlace, IsOnEdge}
use Rattle.plane_laws.specs.Along.{IsAway, HoldsAlong}
use Rattle.point_set.specs.Sides.{slope}
use Rattle.ring_laws.proofs.Parity.Tests.{same_tests}
use Rattle.ring_laws.proofs.Parity.OneEdge.{heights, level_by, tells_low, rise_p}
use Rattle.ring_laws.proofs.Parity.Flip.{HasSign, crossing_of, crosses_by_sign, crosses_none}
use Rattle.ring_laws.proofs.Parity.Ring.{misses_start}
use Rattle.figure_laws.proofs.Lists.Places.{some_same}
use Rattle.plane_laws.proofs.Near.Parted.{Affine, at_point}
use Rattle.plane_laws.proofs.Near.Near.{positive_near, reach_of}
use Rattle.plane_laws.proofs.Near.Away.{away_rise, away_near, far_for}
use Rattle.side_laws.proofs.Edges.Places.{IsSimple}
use Rattle.side_laws.proofs.Edges.Germ.{IsAlone, between_is_alone, sided_joined, edge_turn, edge_turn_on}
use Rattle.side_laws.proofs.Edges.Beside.{IsBesideAt, by_hand, side_of}
use Rattle.side_laws.proofs.Rings.Joint.{settles_near, one_value, by_hand_one}

-- ---- heights a short way to the right or up
height_of : Point → Affine
height_of v = record { x = pos 0; y = neg_ℤ v.w; w = v.y }

height_is : (v p : Point) → at_point (height_of v) p ≡ rise p v
unfolding height_of rise
height_is v p =
    identity ((num (pos 0) ⊗ var 3 ⊕ minus (var 2) ⊗ var 4) ⊕ var 1 ⊗ var 5) (var 1 ⊗ var 5 ⊖ var 4 ⊗ var 2) (v then p then []) refl

away_level : {p : Point} {d : Direction} {n : ℕ} {q : Point} → pos 0 ≤ℤ d.y → 0 < n → IsAway p d n q → pos 0 ≤ℤ rise p q
away_level {p} {d} {n} {q} h some away =
    nonneg_factor (pos n) (rise p q) (omega (arith, linear, some))
    (subst (λ z. pos 0 ≤ℤ z) (sym (away_rise away)) (nonneg-*-nonneg h (<ℤ_weaken (pos-*-pos p.heavy q.heavy))))

stays_low : (p q v : Point) → pos 0 ≤ℤ rise p q → rise p v ≤ℤ pos 0 → rise q v ≤ℤ pos 0
stays_low p q v level low =
    nonpos_factor p.w (rise q v) p.heavy
    (omega (arith, linear, level_by p q v, nonneg-*-nonneg (<ℤ_weaken v.heavy) level, nonneg-*-nonpos (<ℤ_weaken q.heavy) low))

low_stays_along : (p v : Point) (d : Direction) → pos 0 ≤ℤ d.y → HoldsAlong (λ q. is_low q v ≡ is_low p v) p d
low_stays_along p v d h = go (is_low p v) (tells_low p v)
  where
    go : (b : Bool) → MatchBool b (rise p v ≤ℤ pos 0) (pos 0 <ℤ rise p v) → HoldsAlong (λ q. is_low q v ≡ b) p d
    go true low = record {
      from = 0;
      holds = λ n some q away.
          same_tests (is_low q v) true {S = ⊥} (tells_low q v) (stays_low p q v (away_level h some away) low) (λ k l. l)
          (λ k l. <ℤ_irrefl (<ℤ-≤ℤ_trans k l));
    }
    go false high = record {
      from = far_for d (reach_of (height_of v) p);
      holds = λ n far q away.
          same_tests (is_low q v) false {R = ⊥} (tells_low q v)
          (subst (λ z. pos 0 <ℤ z) (height_is v q)
          (positive_near (height_of v) p q (reach_of (height_of v) p) (subst (λ z. pos 0 <ℤ z) (sym (height_is v p)) high) (omega arith)
          (away_near (reach_of (height_of v) p) far away)))
          (λ k l. <ℤ_irrefl (<ℤ-≤ℤ_trans l k)) (λ k l. l);
    }

-- ---- crossings of an edge that doesn't hold p
-- a point of an edge's line between the heights of its ends is on the edge
on_by_heights : (a b p : Point) → turn a b p ≡ pos 0 → rise p a ≤ℤ pos 0 → pos 0 <ℤ rise p b → IsOnSegment a b p
unfolding turn rise
on_by_heights a b p line low high =
    let pa = point_at 0 in
    let pb = point_at 3 in
    let pp = point_at 6 in
    let vs = a then b then p then [] in
    record {
      s = rise p b;
      t = rise a p;
      mix = record {
        first = <ℤ_weaken high;
        second = omega (arith, linear, low);
        times = rise a b;
        some = (heights a b p p (omega (arith, linear))).rising_ab low high;
        across = same_from (rise_p pa pb ⊗ pp.x) (rise_p pp pb ⊗ pa.x ⊕ rise_p pa pp ⊗ pb.x) vs
            (scaled (minus (num (pos 1))) (same (turn_poly pa pb pp) (num (pos 0)) line)) refl;
        above = identity (rise_p pa pb ⊗ pp.y) (rise_p pp pb ⊗ pa.y ⊕ rise_p pa pp ⊗ pb.y) vs refl;
        mass = identity (rise_p pa pb ⊗ pp.w) (rise_p pp pb ⊗ pa.w ⊕ rise_p pa pp ⊗ pb.w) vs refl;
      };
    }

turned_line : (f : Seg) (p : Point) → edge_turn f p ≡ pos 0 → turn (point_of f.b) (point_of f.a) p ≡ pos 0
unfolding edge_turn
turned_line f p z = omega (arith, linear, turn_swap (point_of f.a) (point_of f.b) p, z)

no_crossing_held : (f : Seg) (p : Point) → (IsOnEdge f p → ⊥) → (l m : Bool)
    → MatchBool l (rise p (point_of f.a) ≤ℤ pos 0) (pos 0 <ℤ rise p (point_of f.a))
    → MatchBool m (rise p (point_of f.b) ≤ℤ pos 0) (pos 0 <ℤ rise p (point_of f.b)) → edge_turn f p ≡ pos 0 → l ≡ m
unfolding edge_turn
no_crossing_held f p off true true h k z = refl
no_crossing_held f p off true false h k z = absurd (off (on_by_heights (point_of f.a) (point_of f.b) p z h k))
no_crossing_held f p off false true h k z = absurd
    (off (segment_flip (on_by_heights (point_of f.b) (point_of f.a) p (turned_line f p z) k h)))
no_crossing_held f p off false false h k z = refl

pub crosses_level : (l m : Bool) (t : ℤ) → l ≡ m → crosses_from l m t ≡ false
crosses_level l m t h = ap (λ z. crosses_from z m t) h ∙ level m
  where
    level : (m : Bool) → crosses_from m m t ≡ false
    level true = refl
    level false = refl

-- both ends' heights and the side stay as they are
crosses_settled : (s : Bool) (f : Seg) (p : Point) (d : Direction) → pos 0 ≤ℤ d.y → HasSign s (edge_turn f p)
    → HoldsAlong (λ q. crosses q f ≡ crosses p f) p d
unfolding edge_turn
crosses_settled s f p d up sign =
    let a = low_stays_along p (point_of f.a) d up in
    let b = low_stays_along p (point_of f.b) d up in
    let t = settles_near s f p d sign in
    record {
      from = (a.from + b.from) + t.from;
      holds = λ n far q away.
          crosses_by_sign (is_low q (point_of f.a)) (is_low q (point_of f.b)) s (edge_turn f q) (t.holds n (omega (arith, far)) q away)
          ∙ (λ i. crossing_of (a.holds n (omega (arith, far)) q away i) (b.holds n (omega (arith, far)) q away i) s)
          ∙ sym (crosses_by_sign (is_low p (point_of f.a)) (is_low p (point_of f.b)) s (edge_turn f p) sign);
    }

-- both ends are at most as high, or both are higher
crosses_nowhere : (f : Seg) (p : Point) (d : Direction) → pos 0 ≤ℤ d.y → is_low p (point_of f.a) ≡ is_low p (point_of f.b)
    → HoldsAlong (λ q. crosses q f ≡ crosses p f) p d
crosses_nowhere f p d up same =
    let a = low_stays_along p (point_of f.a) d up in
    let b = low_stays_along p (point_of f.b) d up in
    record {
      from = a.from + b.from;
      holds = λ n far q away.
          crosses_level (is_low q (point_of f.a)) (is_low q (point_of f.b)) (turn (point_of f.a) (point_of f.b) q)
          (a.holds n (omega (arith, far)) q away ∙ same ∙ sym (b.holds n (omega (arith, far)) q away))
          ∙ sym (crosses_level (is_low p (point_of f.a)) (is_low p (point_of f.b)) (turn (point_of f.a) (point_of f.b) p) same);
    }

crosses_stays : (f : Seg) (p : Point) (d : Direction) → pos 0 ≤ℤ d.y → (IsOnEdge f p → ⊥) → HoldsAlong (λ q. crosses q f ≡ crosses p f) p d
crosses_stays f p d up off = by_sign (edge_turn f p)
    (λ h. crosses_settled false f p d up h)
    (λ z. crosses_nowhere f p d up
    (no_crossing_held f p off (is_low p (point_of f.a)) (is_low p (point_of f.b)) (tells_low p (point_of f.a))
    (tells_low p (point_of f.b)) z))
    (λ h. crosses_settled true f p d up h)

-- ---- the edge that holds p
-- a direction to the right, or up where the edge is level, with the side of the edge on which it is
pub record IsRay (e : Seg) (p : Point) (s : Bool) (d : Direction) : Type 0 where
  pub up : pos 0 ≤ℤ d.y
  pub side : HasSign s (slope e d)
  pub uncrossed : crossing_of (is_low p (point_of e.a)) (is_low p (point_of e.b)) s ≡ false

crosses_own : (e : Seg) (p : Point) (s : Bool) (d : Direction) → IsRay e p s d → IsOnEdge e p
    → HoldsAlong (λ q. crosses q e ≡ crosses p e) p d
unfolding edge_turn
crosses_own e p s d ray on =
    let a = low_stays_along p (point_of e.a) d ray.up in
    let b = low_stays_along p (point_of e.b) d ray.up in
    record {
      from = a.from + b.from;
      holds = λ n far q away.
          crosses_by_sign (is_low q (point_of e.a)) (is_low q (point_of e.b)) s (edge_turn e q)
          (side_of s e (edge_turn_on e on) ray.side (omega (arith, far)) away)
          ∙ (λ i. crossing_of (a.holds n (omega (arith, far)) q away i) (b.holds n (omega (arith, far)) q away i) s)
          ∙ ray.uncrossed
          ∙ sym (crosses_none (is_low p (point_of e.a)) (is_low p (point_of e.b)) (edge_turn e p) (edge_turn_on e on));
    }

-- ---- the count along all edges
odd_stays_along : (p : Point) (d : Direction) (edges : List Seg)
    → ((j : ℕ) (f : Seg) → IsAtPlace edges j f → HoldsAlong (λ q. crosses q f ≡ crosses p f) p d)
    → HoldsAlong (λ q. is_odd q edges ≡ is_odd p edges) p d
odd_stays_along p d [] h = record { from = 0; holds = λ n far q away. refl }
odd_stays_along p d (e ∷ edges) h =
    let first = h 0 e refl in
    let rest = odd_stays_along p d edges (λ j f is. h (suc j) f is) in
    record {
      from = first.from + rest.from;
      holds = λ n far q away. λ i. differ (first.holds n (omega (arith, far)) q away i) (rest.holds n (omega (arith, far)) q away i);
    }

-- the points on the ray's side are inside the ring exactly where the count at p is odd
pub ray_counts : (ring : List Pt) → IsSimple (edges_of ring) → (i : ℕ) (e : Seg) → IsAtPlace (edges_of ring) i e → (p : Point)
    → IsStrictlyBetween (point_of e.a) (point_of e.b) p → (s : Bool) (d : Direction) → IsRay e p s d → (left : Bool)
    → IsBesideAt ring e p left → left ≡ by_hand s (is_odd p (edges_of ring))
ray_counts ring simple i e is p between s d ray left h =
    by_hand_one s left (by_hand s (is_odd p (edges_of ring)))
    (one_value {f = λ q. is_inside q ring} (h.along s d ray.side) counted ∙ sym (twice s (is_odd p (edges_of ring))))
  where
    one : IsAlone (edges_of ring) i e p
    one = between_is_alone simple i e is p between

    by_place : (j : ℕ) (f : Seg) → IsAtPlace (edges_of ring) j f → (i ≡ j) ⊎ (i ≡ j → ⊥) → HoldsAlong (λ q. crosses q f ≡ crosses p f) p d
    by_place j f is_f (inl same) =
        subst (λ g. HoldsAlong (λ q. crosses q g ≡ crosses p g) p d) (some_same (sym is ∙ ap (slice_get (edges_of ring)) same ∙ is_f))
        (crosses_own e p s d ray one.on)
    by_place j f is_f (inr differs) = crosses_stays f p d ray.up (one.alone j f differs is_f)

    odd : HoldsAlong (λ q. is_odd q (edges_of ring) ≡ is_odd p (edges_of ring)) p d
    odd = odd_stays_along p d (edges_of ring) (λ j f is_f. by_place j f is_f (cases_eq i j))

    counted : HoldsAlong (λ q. is_inside q ring ≡ is_odd p (edges_of ring)) p d
    counted =
        let j = sided_joined s one d d ray.side ray.side in
        record {
          from = j.from + odd.from;
          holds = λ n far q away.
              ap (λ z. not z && is_odd q (edges_of ring))
              (misses_start (j.free n n (omega (arith, far)) (omega (arith, far)) q q away away))
              ∙ odd.holds n (omega (arith, far)) q away;
        }

    twice : (s b : Bool) → by_hand s (by_hand s b) ≡ b
    twice true b = refl
    twice false b = not-not b
